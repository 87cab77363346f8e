-- The orders of tables, and lists of numbers and of tables one longer.
use Rattle.std.proofs.Common.{◌≡◌, ℕ, zero, suc, ◌+◌, ◌<◌, subst, List, [], ◌∷◌, ◌++◌, map, arith, sym, ◌∙◌, ap, map-id}
use Rattle.std.proofs.Common.{length, drop, get_or, append_assoc}
use Rattle.std.specs.Cmp.{IsTotalOrder, IsStrictWeakOrder}
use Rattle.std.specs.Ordering.{is_lt}
use Rattle.std.specs.List.{AllZip}
use Rattle.std.proofs.lemmas.Cmp.{on_total, then_total, nat_cmp_total, nat_list_cmp_total, back_total}
use Rattle.std.specs.Cmp.Lexicographic.{options_total}
use Rattle.std.proofs.lemmas.List.{drop_more}
use Rattle.std.proofs.lemmas.List.FromFn.{map-range_with_len_more}
use Rattle.std.proofs.lemmas.List.Sorted.{ranks_by}
use Rattle.scip_records.specs.declared.records.Occurrence.{Occurrence}
use Rattle.scip_records.specs.declared.records.Document.{Document}
use Rattle.scip_records.specs.declared.records.SymbolInformation.{SymbolInformation}
use Rattle.scip_query.specs.Positions.{position_cmp, start_of, end_of}
use Rattle.scip_query.specs.declared.position.Position.{Position}
use Rattle.scip_query.specs.declared.place.Place.{Place}
use Rattle.scip_query.specs.declared.place.EntryPlace.{EntryPlace}
use Rattle.scip_query.specs.OccurrenceAt.{innermost_cmp}
use Rattle.scip_query.specs.Tables.{numbers, places_in, places_from, path_listed, path_cmp}
use Rattle.scip_query.specs.Tables.Searches.{entry_places_in, entry_places_from, inner_cmp, IsInnermostFirst}
use Rattle.std.specs.List.{slice_get}
use Rattle.std.specs.Prelude.{Some}
use Rattle.std.specs.Option.{unwrap_or}

pub positions_total : IsTotalOrder position_cmp
positions_total = then_total (on_total (λ (p : Position). p.line) nat_cmp_total)
    (on_total (λ (p : Position). p.column) nat_cmp_total)

pub innermost_total : IsTotalOrder innermost_cmp
innermost_total =
    then_total (back_total (on_total (λ (o : Occurrence). start_of o.range) positions_total))
    (then_total (on_total (λ (o : Occurrence). end_of o.range) positions_total)
    (on_total (λ (o : Occurrence). o.symbol) nat_list_cmp_total))

pub paths_rank : (documents : List Document) → IsStrictWeakOrder (λ a b. is_lt (path_cmp documents a b))
paths_rank documents = ranks_by nat_list_cmp_total (path_listed documents)

pub inner_ranks : (occurrences : List Occurrence) → IsStrictWeakOrder (λ a b. is_lt (inner_cmp occurrences a b))
inner_ranks occurrences = ranks_by (options_total innermost_total) (slice_get occurrences)

pub numbers_more : (n : ℕ) → numbers (n + 1) ≡ numbers n ++ n ∷ []
numbers_more n =
    sym (map-id (numbers (n + 1))) ∙ map-range_with_len_more (λ (k : ℕ). k) 0 n n (omega arith)
    ∙ ap (λ l. l ++ n ∷ []) (map-id (numbers n))

pub map_numbers_more : {X : Type 0} (f : ℕ → X) (n : ℕ) → map f (numbers (n + 1)) ≡ map f (numbers n) ++ f n ∷ []
map_numbers_more f n = map-range_with_len_more f 0 n n (omega arith)

-- what is left of a list begins with the next one
pub left_at : {X : Type 0} (xs : List X) (i : ℕ) (x : X) → i < length xs → x ≡ get_or xs i x
    → drop i xs ≡ x ∷ drop (i + 1) xs
left_at xs i x within is = drop_more xs i x within ∙ ap (λ y. y ∷ drop (i + 1) xs) (sym is)

-- the places up to those in one document more
pub places_more : (number : ℕ) (documents : List Document) (document : Document) (before after : List Place)
    → number < length documents → document ≡ get_or documents number document
    → after ≡ before ++ places_in number document
    → before ++ places_from number (drop number documents) ≡ places_from 0 documents
    → after ++ places_from (number + 1) (drop (number + 1) documents) ≡ places_from 0 documents
places_more number documents document before after within is put so_far =
    let rest = places_from (number + 1) (drop (number + 1) documents) in
    ap (λ l. l ++ rest) put ∙ append_assoc before (places_in number document) rest
    ∙ ap (λ l. before ++ places_from number l) (sym (left_at documents number document within is)) ∙ so_far

-- the same of symbol entries
pub entries_more : (list : ℕ) (external : List SymbolInformation) (documents : List Document) (document : Document)
    (entries : List SymbolInformation) (before after : List EntryPlace) → list < length documents
    → document ≡ get_or documents list document → entries ≡ document.symbols
    → after ≡ before ++ entry_places_in list entries
    → before ++ entry_places_from list external (drop list documents) ≡ entry_places_from 0 external documents
    → after ++ entry_places_from (list + 1) external (drop (list + 1) documents)
    ≡ entry_places_from 0 external documents
entries_more list external documents document entries before after within is its put so_far =
    let rest = entry_places_from (list + 1) external (drop (list + 1) documents) in
    ap (λ l. l ++ rest) (put ∙ ap (λ es. before ++ entry_places_in list es) its)
    ∙ append_assoc before (entry_places_in list document.symbols) rest
    ∙ ap (λ l. before ++ entry_places_from list external l) (sym (left_at documents list document within is))
    ∙ so_far

-- a document's own table
pub table_at : (documents : List Document) (tables : List (List ℕ)) (number : ℕ) (d : Document)
    → AllZip IsInnermostFirst documents tables → slice_get documents number ≡ Some d
    → IsInnermostFirst d (unwrap_or (slice_get tables number) [])
table_at [] tables number d all e = absurd cc
table_at (x ∷ documents) [] number d all e = absurd all
table_at (x ∷ documents) (t ∷ tables) zero d all e = let same : x ≡ d = cc in
    subst (λ y. IsInnermostFirst y t) same all.0
table_at (x ∷ documents) (t ∷ tables) (suc number) d all e = table_at documents tables number d all.1 e
