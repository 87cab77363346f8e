-- Snapshots and what is in them.
use Rattle.std.proofs.Common.{◌≡◌, ◌∙◌, sym, refl, ap, ℕ, zero, suc, ◌+◌, ◌<◌, ◌≤◌, ◌==◌, Bool, true, false, cond}
use Rattle.std.proofs.Common.{List, [], ◌∷◌, ◌++◌, length, drop, map, append_assoc, append-nil, subst, get_or}
use Rattle.std.proofs.Common.{slice_set, arith, All}
use Rattle.std.specs.Prelude.{Option, Vec, Result}
use Rattle.std.specs.Borrow.{Bor}
use Rattle.std.specs.List.{flat_map, position, position_from, enumerate_from}
use Rattle.std.proofs.lemmas.Iterator.Adapters.{position_from-zero}
use Rattle.std.proofs.lemmas.Bool.{eqb-true, eqb-false}
use Rattle.scip_records.specs.Texts.{unless_empty}
use Rattle.scip_records.specs.declared.records.Occurrence.{Occurrence}
use Rattle.scip_records.specs.declared.records.SymbolInformation.{SymbolInformation}
use Rattle.scip_pages.specs.declared.columns.ColumnUnit.{ColumnUnit}
use Rattle.scip_pages.specs.Listed.{listed_on}
use Rattle.scip_pages.specs.declared.snapshot_fault.SnapshotFault.{SnapshotFault}
use Rattle.scip_pages.specs.Snapshot.{line_text, text_of}
use Rattle.scip_pages.specs.SnapshotOutcomes.{Gives}

pub position_is : {X : Type 0} (p : X → Bool) (xs : List X) → position_from p 0 xs ≡ position p xs
position_is p xs = sym (position_from-zero p xs)

-- tables of empty lists
pub none_listed : {A : Type 0} (table : List (Vec (Bor Occurrence) A)) → All (λ listed. listed.items ≡ []) table
    → (number : ℕ) → listed_on table number ≡ []
none_listed [] all number = refl
none_listed (listed ∷ table) all zero = ap (map (λ (o : Bor Occurrence). o.now)) (all zero listed (omega arith))
none_listed (listed ∷ table) all (suc number) =
    none_listed table (λ k d inside. all (suc k) d (omega (arith, inside))) number

-- texts of lines below which the same is listed
same_from : (unit : ColumnUnit) (entries : List ℕ → Option SymbolInformation) (on other : ℕ → List Occurrence)
    (lines : List (List ℕ)) (from : ℕ)
    → ((number : ℕ) → from ≤ number → number < from + length lines → on number ≡ other number)
    → flat_map (λ (x : ℕ × List ℕ). line_text unit entries (on x.0) x.1) (enumerate_from from lines)
    ≡ flat_map (λ (x : ℕ × List ℕ). line_text unit entries (other x.0) x.1) (enumerate_from from lines)
same_from unit entries on other [] from same = refl
same_from unit entries on other (line ∷ lines) from same =
    rw (same from (omega arith) (omega arith))
    (ap (λ l. line_text unit entries (other from) line ++ l)
    (same_from unit entries on other lines (from + 1)
    (λ number least most. same number (omega (arith, least)) (omega (arith, most)))))

pub same_text : (unit : ColumnUnit) (entries : List ℕ → Option SymbolInformation) (on other : ℕ → List Occurrence)
    (lines : List (List ℕ))
    → ((number : ℕ) → number < length lines → on number ≡ other number)
    → text_of unit entries on lines ≡ text_of unit entries other lines
same_text unit entries on other lines same =
    same_from unit entries on other lines 0 (λ number least most. same number (omega (arith, most)))

-- an occurrence more on a line
one_more : (xs : List (Bor Occurrence)) (o : Bor Occurrence)
    → map (λ (x : Bor Occurrence). x.now) (xs ++ o ∷ []) ≡ map (λ (x : Bor Occurrence). x.now) xs ++ o.now ∷ []
one_more [] o = refl
one_more (x ∷ xs) o = ap (λ l. x.now ∷ l) (one_more xs o)

there : {A : Type 0} (table : List (Vec (Bor Occurrence) A)) (line : ℕ) (put d : Vec (Bor Occurrence) A)
    (o : Bor Occurrence)
    → line < length table → put.items ≡ (get_or table line d).items ++ o ∷ []
    → listed_on (slice_set table line put) line ≡ listed_on table line ++ o.now ∷ []
there [] line put d o inside more = absurd (omega (arith, inside))
there (x ∷ table) zero put d o inside more = ap (map (λ (y : Bor Occurrence). y.now)) more ∙ one_more x.items o
there (x ∷ table) (suc line) put d o inside more = there table line put d o (omega (arith, inside)) more

elsewhere : {A : Type 0} (table : List (Vec (Bor Occurrence) A)) (line : ℕ) (put : Vec (Bor Occurrence) A) (number : ℕ)
    → (line ≡ number → ⊥) → listed_on (slice_set table line put) number ≡ listed_on table number
elsewhere [] line put number other = refl
elsewhere (x ∷ table) zero put zero other = absurd (other refl)
elsewhere (x ∷ table) zero put (suc number) other = refl
elsewhere (x ∷ table) (suc line) put zero other = refl
elsewhere (x ∷ table) (suc line) put (suc number) other = elsewhere table line put number (λ e. other (ap suc e))

pub added : {A : Type 0} (table : List (Vec (Bor Occurrence) A)) (line : ℕ) (put d : Vec (Bor Occurrence) A)
    (o : Bor Occurrence)
    → line < length table → put.items ≡ (get_or table line d).items ++ o ∷ [] → (number : ℕ)
    → listed_on (slice_set table line put) number ≡ listed_on table number ++ cond (line == number) (o.now ∷ []) []
added table line put d o inside more number = by (line == number) refl
  where
    by : (b : Bool) → (line == number) ≡ b
        → listed_on (slice_set table line put) number ≡ listed_on table number ++ cond b (o.now ∷ []) []
    by true e =
        let P : ℕ → Type 0 = λ n. listed_on (slice_set table line put) n ≡ listed_on table n ++ o.now ∷ [] in
        subst P (eqb-true line number e) (there table line put d o inside more)
    by false e = elsewhere table line put number (eqb-false line number e)
        ∙ sym (append-nil (listed_on table number))

pub up : (n : ℕ) → suc n + 1 ≡ suc (n + 1)
up n = omega arith

-- the text of a line, and of those behind it
pub lines_next : (unit : ColumnUnit) (entries : List ℕ → Option SymbolInformation) (on : ℕ → List Occurrence)
    (lines : List (Bor (List ℕ))) (from number : ℕ) (d : Bor (List ℕ))
    → number < length lines
    → flat_map (λ (x : ℕ × List ℕ). line_text unit entries (on x.0) x.1)
    (enumerate_from from (map (λ (t : Bor (List ℕ)). t.now) (drop number lines)))
    ≡ line_text unit entries (on from) (get_or lines number d).now
    ++ flat_map (λ (x : ℕ × List ℕ). line_text unit entries (on x.0) x.1)
    (enumerate_from (from + 1) (map (λ (t : Bor (List ℕ)). t.now) (drop (number + 1) lines)))
lines_next unit entries on [] from number d inside = absurd (omega (arith, inside))
lines_next unit entries on (line ∷ lines) from zero d inside = refl
lines_next unit entries on (line ∷ lines) from (suc number) d inside =
    rw (up number) (lines_next unit entries on lines from number d (omega (arith, inside)))

pub gives_same : {X Y : Type 0} (view : X → Y) (r : Result X SnapshotFault) (due other : Result Y SnapshotFault)
    → due ≡ other → Gives view r due → Gives view r other
gives_same view r due other e gives = subst (λ d. Gives view r d) e gives

-- what is appended to a text in four steps
pub in_four : (text a b c d : List ℕ) → text ++ a ++ b ++ c ++ d ≡ text ++ (a ++ (b ++ c) ++ d)
in_four text a b c d =
    ap (λ (l : List ℕ). l ++ c ++ d) (append_assoc text a b)
    ∙ ap (λ (l : List ℕ). l ++ d) (append_assoc text (a ++ b) c ∙ ap (λ (l : List ℕ). text ++ l) (append_assoc a b c))
    ∙ append_assoc text (a ++ (b ++ c)) d

-- a text that isn't empty comes once
pub once : (f : List ℕ → List ℕ) (text : List ℕ) → (length text == 0) ≡ false
    → f text ≡ flat_map f (unless_empty text)
once f [] e = absurd cc
once f (b ∷ text) e = sym (append-nil (f (b ∷ text)))
