-- Symbol entries and their places.
use Rattle.std.proofs.Common.{◌≡◌, ℕ, zero, suc, ◌+◌, ◌<◌, Bool, true, false, List, [], ◌∷◌, ◌++◌, length, map, cond}
use Rattle.std.proofs.Common.{refl, sym, ◌∙◌, ap, subst, append_assoc, append-nil, arith}
use Rattle.std.specs.Prelude.{Option, Some}
use Rattle.std.specs.List.{filter, find, flat_map, slice_get, AllZip}
use Rattle.std.specs.List.Sorted.{IsNonDecreasingBy}
use Rattle.std.specs.Option.{option_and_then}
use Rattle.std.specs.Ordering.{nat_cmp, is_eq}
use Rattle.std.specs.Cmp.Lexicographic.{slice_cmp}
use Rattle.std.specs.Str.{bytes_eq}
use Rattle.std.proofs.lemmas.Bool.Decides.{nat_tests}
use Rattle.std.proofs.lemmas.List.{length_push}
use Rattle.std.proofs.lemmas.List.Elements.{filter-append}
use Rattle.std.proofs.lemmas.Option.{slice_get_past}
use Rattle.std.proofs.lemmas.Map.Text.{is_eq-slice_cmp}
use Rattle.scip_records.specs.declared.records.Index.{Index}
use Rattle.scip_records.specs.declared.records.Document.{Document}
use Rattle.scip_records.specs.declared.records.SymbolInformation.{SymbolInformation}
use Rattle.scip_query.specs.declared.place.EntryPlace.{EntryPlace}
use Rattle.scip_query.specs.OccurrenceAt.{Subject}
use Rattle.scip_query.specs.References.{is_local}
use Rattle.scip_query.specs.Documentation.{entries_for}
use Rattle.scip_query.specs.Tables.{numbers}
use Rattle.scip_query.specs.Tables.Searches.{entries_or, entries_listed, entry_listed, entry_symbol_or_none}
use Rattle.scip_query.specs.Tables.Searches.{entry_symbol_listed, entry_places_in, entry_places_from}
use Rattle.basics.proofs.RisingLemmas.{IsRising, rising_from_less, rising_same, rising_filtered}
use Rattle.scip_query.proofs.RunLemmas.{find_first, filter_swap}
use Rattle.scip_query.proofs.TableZipLemmas.{slice_get_at, numbers_stand, zip_append, zip_renamed, zip_find}

-- whether the entry at a place has a symbol, and whether a place is in a list
abbrev pub has_symbol : Index → List ℕ → EntryPlace → Bool
has_symbol index symbol place = is_eq (slice_cmp nat_cmp (entry_symbol_listed index place) symbol)

abbrev pub is_in : ℕ → EntryPlace → Bool
is_in list place = is_eq (nat_cmp place.list list)

abbrev entry_place : ℕ → ℕ → EntryPlace
entry_place list k = record { list = list; entry = k }

abbrev stands_for : Index → EntryPlace → SymbolInformation → Type 0
stands_for index place entry = entry_listed index place ≡ Some entry

-- ---- places stand for entries

zip_list : (index : Index) (list : ℕ) (entries : List SymbolInformation) → entries_listed index list ≡ entries
    → AllZip (stands_for index) (entry_places_in list entries) entries
zip_list index list entries are =
    zip_renamed (λ n (x : SymbolInformation). slice_get entries n ≡ Some x) (stands_for index) (entry_place list)
    (λ k x e. ap (λ (l : List SymbolInformation). slice_get l k) are ∙ e)
    (numbers (length entries)) entries (numbers_stand entries)

zip_entries : (index : Index) (front rest : List Document) → index.documents ≡ front ++ rest
    → AllZip (stands_for index) (entry_places_from (length front) index.external_symbols rest)
    (flat_map (λ (d : Document). d.symbols) rest ++ index.external_symbols)
zip_entries index front [] are =
    zip_list index (length front) index.external_symbols
    (ap (λ (l : List Document). entries_or index.external_symbols (slice_get l (length front))) (are ∙ append-nil front)
    ∙ ap (entries_or index.external_symbols) (slice_get_past front (length front) (omega arith)))
zip_entries index front (d ∷ rest) are =
    let external : List SymbolInformation = index.external_symbols in
    let later : List SymbolInformation = flat_map (λ (x : Document). x.symbols) rest in
    let places : ℕ → List EntryPlace = λ n. entry_places_from n external rest in
    subst (AllZip (stands_for index) (entry_places_from (length front) external (d ∷ rest)))
    (sym (append_assoc d.symbols later external))
    (zip_append (stands_for index) (entry_places_in (length front) d.symbols) d.symbols (places (length front + 1))
    (later ++ external)
    (zip_list index (length front) d.symbols
    (ap (λ (l : List Document). entries_or external (slice_get l (length front))) are
    ∙ ap (entries_or external) (slice_get_at front d rest)))
    (subst (λ n. AllZip (stands_for index) (places n) (later ++ external)) (length_push front d)
    (zip_entries index (front ++ d ∷ []) rest (are ∙ sym (append_assoc front (d ∷ []) rest)))))

alike : (index : Index) (symbol : List ℕ) (place : EntryPlace) (entry : SymbolInformation)
    → stands_for index place entry → has_symbol index symbol place ≡ bytes_eq entry.symbol symbol
alike index symbol place entry e =
    ap (λ (o : Option SymbolInformation). is_eq (slice_cmp nat_cmp (entry_symbol_or_none o) symbol)) e
    ∙ is_eq-slice_cmp entry.symbol symbol

-- what the first place with a symbol stands for
found : (index : Index) (symbol : List ℕ) (places : List EntryPlace) (entries : List SymbolInformation)
    → AllZip (stands_for index) places entries
    → option_and_then (entry_listed index) (slice_get (filter (has_symbol index symbol) places) 0)
    ≡ find (λ (entry : SymbolInformation). bytes_eq entry.symbol symbol) entries
found index symbol places entries all =
    ap (option_and_then (entry_listed index)) (sym (find_first (has_symbol index symbol) places))
    ∙ zip_find (entry_listed index) (has_symbol index symbol)
    (λ (entry : SymbolInformation). bytes_eq entry.symbol symbol) (alike index symbol) places entries all

-- ---- the places in a list

kept : (list : ℕ) (ks : List ℕ) → filter (is_in list) (map (entry_place list) ks) ≡ map (entry_place list) ks
kept list [] = refl
kept list (k ∷ ks) =
    let passes : is_eq (nat_cmp list list) ≡ true = grind (arith, nat_tests) in
    ap (λ b. cond b (entry_place list k ∷ filter (is_in list) (map (entry_place list) ks))
    (filter (is_in list) (map (entry_place list) ks))) passes
    ∙ ap (λ l. entry_place list k ∷ l) (kept list ks)

left_out : (number list : ℕ) → is_eq (nat_cmp list number) ≡ false → (ks : List ℕ)
    → filter (is_in number) (map (entry_place list) ks) ≡ []
left_out number list other [] = refl
left_out number list other (k ∷ ks) =
    ap (λ b. cond b (entry_place list k ∷ filter (is_in number) (map (entry_place list) ks))
    (filter (is_in number) (map (entry_place list) ks))) other
    ∙ left_out number list other ks

differ : (a b : ℕ) → a < b → is_eq (nat_cmp b a) ≡ false
differ a b less = grind (arith, nat_tests)

differ_below : (a b : ℕ) → a < b → is_eq (nat_cmp a b) ≡ false
differ_below a b less = grind (arith, nat_tests)

none_behind : (external : List SymbolInformation) (number list : ℕ) (documents : List Document) → number < list
    → filter (is_in number) (entry_places_from list external documents) ≡ []
none_behind external number list [] less = left_out number list (differ number list less) (numbers (length external))
none_behind external number list (d ∷ documents) less =
    filter-append (is_in number) (entry_places_in list d.symbols) (entry_places_from (list + 1) external documents)
    ∙ ap (λ l. l ++ filter (is_in number) (entry_places_from (list + 1) external documents))
    (left_out number list (differ number list less) (numbers (length d.symbols)))
    ∙ none_behind external number (list + 1) documents (omega arith)

only_list : (external : List SymbolInformation) (number list k : ℕ) → number ≡ list + k
    → (documents : List Document) (d : Document) → slice_get documents k ≡ Some d
    → filter (is_in number) (entry_places_from list external documents) ≡ entry_places_in number d.symbols
only_list external number list k is [] d e = absurd cc
only_list external number list zero is (x ∷ documents) d e =
    let same : x ≡ d = cc in
    let here : list ≡ number = omega (arith, is) in
    let places : List EntryPlace = entry_places_from (list + 1) external documents in
    filter-append (is_in number) (entry_places_in list x.symbols) places
    ∙ ap (λ l. filter (is_in number) (entry_places_in list x.symbols) ++ l)
    (none_behind external number (list + 1) documents (omega (arith, is)))
    ∙ append-nil (filter (is_in number) (entry_places_in list x.symbols))
    ∙ ap (λ n. filter (is_in number) (entry_places_in n x.symbols)) here
    ∙ kept number (numbers (length x.symbols)) ∙ ap (λ (y : Document). entry_places_in number y.symbols) same
only_list external number list (suc k) is (x ∷ documents) d e =
    let places : List EntryPlace = entry_places_from (list + 1) external documents in
    filter-append (is_in number) (entry_places_in list x.symbols) places
    ∙ ap (λ l. l ++ filter (is_in number) places)
    (left_out number list (differ_below list number (omega (arith, is))) (numbers (length x.symbols)))
    ∙ only_list external number (list + 1) k (omega (arith, is)) documents d e

-- ---- a subject's entry

abbrev pub all_places : Index → List EntryPlace
all_places index = entry_places_from 0 index.external_symbols index.documents

pub found_globally : (index : Index) (subject : Subject) → is_local subject.symbol ≡ false
    → option_and_then (entry_listed index) (slice_get (filter (has_symbol index subject.symbol) (all_places index)) 0)
    ≡ find (λ (entry : SymbolInformation). bytes_eq entry.symbol subject.symbol) (entries_for index subject)
found_globally index subject global =
    let entries : List SymbolInformation =
    flat_map (λ (d : Document). d.symbols) index.documents ++ index.external_symbols in
    found index subject.symbol (all_places index) entries (zip_entries index [] index.documents refl)
    ∙ ap (λ b. find (λ (entry : SymbolInformation). bytes_eq entry.symbol subject.symbol)
    (cond b subject.asked.document.symbols entries)) (sym global)

pub found_locally : (index : Index) (subject : Subject) → is_local subject.symbol ≡ true
    → slice_get index.documents subject.asked.number ≡ Some subject.asked.document
    → option_and_then (entry_listed index)
    (slice_get (filter (is_in subject.asked.number) (filter (has_symbol index subject.symbol) (all_places index))) 0)
    ≡ find (λ (entry : SymbolInformation). bytes_eq entry.symbol subject.symbol) (entries_for index subject)
found_locally index subject local at =
    let number : ℕ = subject.asked.number in
    let d : Document = subject.asked.document in
    let entries : List SymbolInformation =
    flat_map (λ (x : Document). x.symbols) index.documents ++ index.external_symbols in
    ap (λ (l : List EntryPlace). option_and_then (entry_listed index) (slice_get l 0))
    (filter_swap (is_in number) (has_symbol index subject.symbol) (all_places index)
    ∙ ap (filter (has_symbol index subject.symbol))
    (only_list index.external_symbols number 0 number (omega arith) index.documents d at))
    ∙ found index subject.symbol (entry_places_in number d.symbols) d.symbols
    (zip_list index number d.symbols (ap (entries_or index.external_symbols) at))
    ∙ ap (λ b. find (λ (entry : SymbolInformation). bytes_eq entry.symbol subject.symbol) (cond b d.symbols entries))
    (sym local)

-- ---- places rise by their lists

rising_places : (external : List SymbolInformation) (n : ℕ) (documents : List Document)
    → IsRising (λ (p : EntryPlace). p.list) n (entry_places_from n external documents)
rising_places external n [] =
    subst (IsRising (λ (p : EntryPlace). p.list) n) (append-nil (entry_places_in n external))
    (rising_same (λ (p : EntryPlace). p.list) n (entry_place n) (λ k. refl) (numbers (length external)) [] tt)
rising_places external n (d ∷ documents) =
    rising_same (λ (p : EntryPlace). p.list) n (entry_place n) (λ k. refl) (numbers (length d.symbols))
    (entry_places_from (n + 1) external documents)
    (rising_from_less (λ (p : EntryPlace). p.list) n (n + 1) (entry_places_from (n + 1) external documents)
    (omega arith) (rising_places external (n + 1) documents))

pub passing_rise : (index : Index) (p : EntryPlace → Bool)
    → IsNonDecreasingBy (λ (place : EntryPlace). place.list) (filter p (all_places index))
passing_rise index p = rising_filtered (λ (place : EntryPlace). place.list) p 0 (all_places index)
    (rising_places index.external_symbols 0 index.documents)
