-- Lists of numbers, tables of them, and lines that they mark.
use Rattle.std.proofs.Common.{◌≡◌, ◌∙◌, sym, refl, ap, ℕ, zero, suc, ◌+◌, ◌-◌, ◌<◌, ◌≤◌, ◌==◌, Bool, true, false, cond}
use Rattle.std.proofs.Common.{List, [], ◌∷◌, ◌++◌, append-nil, subst, get_or, slice_set, arith, All, map-id}
use Rattle.std.proofs.Common.{length}
use Rattle.std.specs.Prelude.{Vec}
use Rattle.std.specs.List.{flat_map, range_with_len}
use Rattle.std.proofs.lemmas.List.FromFn.{map-range_with_len_more}
use Rattle.std.proofs.lemmas.Bool.{eqb-true, eqb-false}
use Rattle.scip_records.specs.declared.records.Occurrence.{Occurrence}
use Rattle.scip_pages.specs.declared.columns.ColumnUnit.{ColumnUnit}
use Rattle.scip_pages.specs.declared.code.Link.{Link}
use Rattle.scip_pages.specs.CodeText.{beginning, line_by, line_text}
use Rattle.scip_pages.specs.ListedNumbers.{listed_on}

-- one number more
pub range_more : (a n j : ℕ) → a + n ≡ j → range_with_len a (n + 1) ≡ range_with_len a n ++ j ∷ []
range_more a n j e =
    sym (map-id (range_with_len a (n + 1))) ∙ map-range_with_len_more (λ (k : ℕ). k) a n j e
    ∙ ap (λ l. l ++ j ∷ []) (map-id (range_with_len a n))

-- tables of empty lists
pub none_listed : {A : Type 0} (table : List (Vec ℕ A)) → All (λ listed. listed.items ≡ []) table
    → (line : ℕ) → listed_on table line ≡ []
none_listed [] all line = refl
none_listed (listed ∷ table) all zero = all zero listed (omega arith)
none_listed (listed ∷ table) all (suc line) =
    none_listed table (λ k d inside. all (suc k) d (omega (arith, inside))) line

-- a number more on a line
there : {A : Type 0} (table : List (Vec ℕ A)) (line : ℕ) (put d : Vec ℕ A) (number : ℕ)
    → line < length table → put.items ≡ (get_or table line d).items ++ number ∷ []
    → listed_on (slice_set table line put) line ≡ listed_on table line ++ number ∷ []
there [] line put d number inside more = absurd (omega (arith, inside))
there (x ∷ table) zero put d number inside more = more
there (x ∷ table) (suc line) put d number inside more = there table line put d number (omega (arith, inside)) more

elsewhere : {A : Type 0} (table : List (Vec ℕ A)) (line : ℕ) (put : Vec ℕ A) (at : ℕ)
    → (line ≡ at → ⊥) → listed_on (slice_set table line put) at ≡ listed_on table at
elsewhere [] line put at other = refl
elsewhere (x ∷ table) zero put zero other = absurd (other refl)
elsewhere (x ∷ table) zero put (suc at) other = refl
elsewhere (x ∷ table) (suc line) put zero other = refl
elsewhere (x ∷ table) (suc line) put (suc at) other = elsewhere table line put at (λ e. other (ap suc e))

pub added : {A : Type 0} (table : List (Vec ℕ A)) (line : ℕ) (put d : Vec ℕ A) (number : ℕ)
    → line < length table → put.items ≡ (get_or table line d).items ++ number ∷ [] → (at : ℕ)
    → listed_on (slice_set table line put) at ≡ listed_on table at ++ cond (line == at) (number ∷ []) []
added table line put d number inside more at = by (line == at) refl
  where
    by : (b : Bool) → (line == at) ≡ b
        → listed_on (slice_set table line put) at ≡ listed_on table at ++ cond b (number ∷ []) []
    by true e =
        let P : ℕ → Type 0 = λ n. listed_on (slice_set table line put) n ≡ listed_on table n ++ number ∷ [] in
        subst P (eqb-true line at e) (there table line put d number inside more)
    by false e = elsewhere table line put at (eqb-false line at e) ∙ sym (append-nil (listed_on table at))

-- texts of numbers, of each of which they are the same
same_flat : (f g : ℕ → List ℕ) (a n : ℕ) → ((k : ℕ) → a ≤ k → k < a + n → f k ≡ g k)
    → flat_map f (range_with_len a n) ≡ flat_map g (range_with_len a n)
same_flat f g a zero same = refl
same_flat f g a (suc n) same =
    ap (λ l. l ++ flat_map f (range_with_len (a + 1) n)) (same a (omega arith) (omega arith))
    ∙ ap (λ l. g a ++ l)
    (same_flat f g (a + 1) n (λ k least most. same k (omega (arith, least)) (omega (arith, most))))

-- lines that the same occurrences mark
pub same_lines : (unit : ColumnUnit) (occurrences : List Occurrence) (links : List Link) (lines : List (List ℕ))
    (on : ℕ → List ℕ) (count : ℕ)
    → ((line : ℕ) → line < count → on line ≡ beginning occurrences line)
    → flat_map (line_by unit occurrences links lines on) (range_with_len 1 count)
    ≡ flat_map (line_by unit occurrences links lines (beginning occurrences)) (range_with_len 1 count)
same_lines unit occurrences links lines on count same =
    same_flat (line_by unit occurrences links lines on)
    (line_by unit occurrences links lines (beginning occurrences)) 1 count
    (λ k least most. ap (λ (marking : List ℕ). line_text unit occurrences links lines marking k)
    (same (k - 1) (omega (arith, least, most))))
