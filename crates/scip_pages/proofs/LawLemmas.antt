-- The code of a page shows the source, and uses lead to definitions.
use Rattle.std.proofs.Common.{◌≡◌, ◌∙◌, sym, refl, ap, ℕ, zero, suc, ◌+◌, ◌-◌, ◌<◌, ◌≤◌, Bool, true, false, cond}
use Rattle.std.proofs.Common.{List, [], ◌∷◌, ◌++◌, map, append-nil, length, arith, inl, inr}
use Rattle.std.specs.Prelude.{None, Some}
use Rattle.std.specs.List.{flat_map, find, range_with_len, join_with_byte}
use Rattle.std.specs.Option.{unwrap_or}
use Rattle.std.proofs.lemmas.Bool.{ne_eqb, and_parts}
use Rattle.std.proofs.lemmas.List.{length-map}
use Rattle.std.proofs.lemmas.List.FromFn.{length-range_with_len}
use Rattle.basics.proofs.ListLemmas.{map_twice as maps}
use Rattle.scip_records.specs.declared.records.Occurrence.{Occurrence}
use Rattle.scip_query.specs.BySymbol.{references_in}
use Rattle.scip_query.specs.Tables.{defines_listed}
use Rattle.scip_query.specs.declared.place.Place.{Place}
use Rattle.scip_pages.specs.declared.columns.ColumnUnit.{ColumnUnit}
use Rattle.scip_pages.specs.declared.code.Link.{Link}
use Rattle.scip_pages.specs.declared.runs.Span.{Span}
use Rattle.scip_pages.specs.Plain.{plain}
use Rattle.scip_pages.specs.Runs.{marks_of, number_of, span_at}
use Rattle.scip_pages.specs.Code.{Piece, text_of, line_code, line_codes}
use Rattle.scip_pages.specs.Snapshot.{lines_of}
use Rattle.scip_pages.proofs.CodeLemmas.{code_shows_the_source, pieces_have_the_text}
use Rattle.scip_pages.specs.Site.{has_page}
use Rattle.scip_pages.specs.Targets.{is_shown_definition}
use Rattle.scip_pages.specs.CodeText.{beginning, spans_of, pieces_with, line_at, lead}
use Rattle.scip_pages.specs.PageLaws.{HasTheSource, LeadsToAPage, LeadsIfDefined}
use Rattle.basics.proofs.ElementLemmas.{In, from_contained}
use Rattle.scip_pages.proofs.LawReferenceLemmas.{references_are_listed}

-- ---- lines below one another

lead_is : (number : ℕ) → 2 ≤ number → lead number ≡ 10 ∷ []
lead_is number least =
    ap (λ (b : Bool). cond b [] (10 ∷ [])) (ne_eqb number 1 (λ e. omega (arith, least, e)))

-- a line below the one before it
abbrev led : (ℕ → List Piece) → ℕ → List ℕ
led p k = lead k ++ line_code k (p k)

behind : (p : ℕ → List Piece) (first : List ℕ) (a n : ℕ) → 2 ≤ a
    → first ++ flat_map (led p) (range_with_len a n)
    ≡ join_with_byte 10 (first ∷ line_codes a (map p (range_with_len a n)))
behind p first a zero least = append-nil first
behind p first a (suc n) least =
    ap (λ (l : List ℕ). first ++ ((l ++ line_code a (p a)) ++ flat_map (led p) (range_with_len (a + 1) n)))
    (lead_is a least)
    ∙ ap (λ (l : List ℕ). first ++ (10 ∷ l)) (behind p (line_code a (p a)) (a + 1) n (omega (arith, least)))

joined : (p : ℕ → List Piece) (n : ℕ)
    → flat_map (led p) (range_with_len 1 n) ≡ join_with_byte 10 (line_codes 1 (map p (range_with_len 1 n)))
joined p zero = refl
joined p (suc n) = behind p (line_code 1 (p 1)) 2 n (omega arith)

-- ---- their text

filled : (h : ℕ → List ℕ) (lines : List (List ℕ)) (a : ℕ)
    → ((i : ℕ) → i < length lines → h (a + i) ≡ line_at lines i) → map h (range_with_len a (length lines)) ≡ lines
filled h [] a same = refl
filled h (line ∷ lines) a same =
    let here : a ≡ a + 0 = omega arith in
    ap (λ (l : List ℕ). l ∷ map h (range_with_len (a + 1) (length lines))) (ap h here ∙ same 0 (omega arith))
    ∙ ap (λ (ls : List (List ℕ)). line ∷ ls)
    (filled h lines (a + 1) (λ i inside. ap h (next i) ∙ same (suc i) (omega (arith, inside))))
  where
    next : (i : ℕ) → a + 1 + i ≡ a + suc i
    next i = omega arith

marks_long : (spans : List Span) (len : ℕ) → length (marks_of spans len) ≡ len
marks_long spans len =
    length-map (map (span_at spans) (range_with_len 0 len)) number_of
    ∙ length-map (range_with_len 0 len) (span_at spans) ∙ length-range_with_len 0 len

-- the pieces of a line with a number
abbrev numbered : ColumnUnit → List Occurrence → List Link → List (List ℕ) → ℕ → List Piece
numbered unit occurrences links lines k =
    pieces_with unit occurrences links (line_at lines (k - 1)) (beginning occurrences (k - 1))

pieces_text : (unit : ColumnUnit) (occurrences : List Occurrence) (links : List Link) (line marking : List ℕ)
    → text_of (pieces_with unit occurrences links line marking) ≡ line
pieces_text unit occurrences links line marking =
    pieces_have_the_text links line (marks_of (spans_of unit occurrences line marking) (length line))
    (marks_long (spans_of unit occurrences line marking) (length line))

one_less : (i : ℕ) → 1 + i - 1 ≡ i
one_less i = omega arith

texts : (unit : ColumnUnit) (occurrences : List Occurrence) (links : List Link) (lines : List (List ℕ))
    → map text_of (map (numbered unit occurrences links lines) (range_with_len 1 (length lines))) ≡ lines
texts unit occurrences links lines =
    maps text_of (numbered unit occurrences links lines) (range_with_len 1 (length lines))
    ∙ filled (λ k. text_of (numbered unit occurrences links lines k)) lines 1
    (λ i inside. pieces_text unit occurrences links (line_at lines (1 + i - 1)) (beginning occurrences (1 + i - 1))
    ∙ ap (line_at lines) (one_less i))

pub has_the_source : HasTheSource
has_the_source unit occurrences links source =
    ap plain (joined (numbered unit occurrences links (lines_of source)) (length (lines_of source)))
    ∙ code_shows_the_source source
    (map (numbered unit occurrences links (lines_of source)) (range_with_len 1 (length (lines_of source))))
    (texts unit occurrences links (lines_of source))

-- ---- uses

found_is : {X : Type 0} (test : X → Bool) (xs : List X) (x : X) → find test xs ≡ Some x → test x ≡ true
found_is test [] x e = absurd cc
found_is test (y ∷ ys) x e = by (test y) refl e (λ f. found_is test ys x f)
  where
    by : (b : Bool) → test y ≡ b → cond b (Some y) (find test ys) ≡ Some x → (find test ys ≡ Some x → test x ≡ true)
        → test x ≡ true
    by true t e others = cc
    by false t e others = others e

found_in : {X : Type 0} (test : X → Bool) (xs : List X) (x : X) → find test xs ≡ Some x → In x xs
found_in test [] x e = absurd cc
found_in test (y ∷ ys) x e = by (test y) e (λ f. found_in test ys x f)
  where
    by : (b : Bool) → cond b (Some y) (find test ys) ≡ Some x → (find test ys ≡ Some x → In x ys) → In x (y ∷ ys)
    by true e others = inl (sym (ap (λ o. unwrap_or o y) e))
    by false e others = inr (others e)

none_found : {X : Type 0} (test : X → Bool) (xs : List X) (x : X) → find test xs ≡ None → In x xs → test x ≡ false
none_found test [] x e is = absurd is
none_found test (y ∷ ys) x e is = by (test y) refl e is (λ f there. none_found test ys x f there)
  where
    by : (b : Bool) → test y ≡ b → cond b (Some y) (find test ys) ≡ None → In x (y ∷ ys)
        → (find test ys ≡ None → In x ys → test x ≡ false) → test x ≡ false
    by true t e is others = absurd cc
    by false t e (inl same) others = ap test same ∙ t
    by false t e (inr there) others = others e there

pub leads_to_a_page : LeadsToAPage
leads_to_a_page index sources document symbol place e =
    let places : List Place = references_in index document symbol in
    let shown = and_parts (has_page sources place.document) (defines_listed index.documents place)
    (found_is (is_shown_definition index sources) places place e) in
    let its = references_are_listed index document symbol place
    (found_in (is_shown_definition index sources) places place e) in
    (shown.0, shown.1, its.symbol_is, its.within)

pub leads_if_defined : LeadsIfDefined
leads_if_defined index sources document symbol place e is =
    let places : List Place = references_in index document symbol in
    none_found (is_shown_definition index sources) places place e (from_contained places place is)
