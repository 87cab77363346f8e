-- The records of a document, and of an index, are read back one after another.
use Rattle.std.proofs.Common.{◌≡◌, ◌+◌, ◌<◌, ◌≤◌, ◌∙◌, ℕ, List, [], ◌∷◌, ◌++◌, length, take, get_or, map, ap, sym}
use Rattle.std.proofs.Common.{subst}
use Rattle.std.specs.Prelude.{All, IfSome, Option, None, Some, option_map}
use Rattle.std.specs.List.{flat_map}
use Rattle.std.proofs.lemmas.List.{flat_map_more, take_all, take_more}
use Rattle.std.proofs.lemmas.Option.{same_Some}
use Rattle.scip_query.specs.Sites.{Numbered}
use Rattle.std.proofs.lemmas.List.Elements.{All-append, All-cons, All-head, All-map, All-more, All-nil, All-tail}
use Rattle.scip_records.specs.declared.records.Document.{Document}
use Rattle.scip_records.specs.declared.records.Index.{Index}
use Rattle.scip_survey.specs.Records.{OfDocument, OfExternal, OfOccurrence, OfSymbol, ReadsBack, Record}
use Rattle.scip_survey.specs.Records.{document_records, metadata_records, records_of}

-- one more
pub more_text : {X : Type 0} (f : X → List ℕ) (xs : List X) (at : ℕ) (x : X) (before so_far after : List ℕ)
    → at < length xs → x ≡ get_or xs at x → so_far ≡ before ++ flat_map f (take at xs) → after ≡ so_far ++ f x
    → after ≡ before ++ flat_map f (take (at + 1) xs)
more_text f xs at x before so_far after inside is was added =
    added
    ∙ ap (λ l. l ++ f x) was
    ∙ flat_map_more f before (take at xs) x
    ∙ ap (λ l. before ++ flat_map f l) (ap (λ y. take at xs ++ y ∷ []) is ∙ sym (take_more xs at x inside))

pub more_read : {X : Type 0} (P : X → Type 0) (xs : List X) (at : ℕ) (x : X) → at < length xs → x ≡ get_or xs at x
    → All P (take at xs) → P x → All P (take (at + 1) xs)
more_read P xs at x inside is before one = All-more P xs at x inside before (subst P is one)

-- all
pub all_read : {X : Type 0} (P : X → Type 0) (xs : List X) (at : ℕ) → length xs ≤ at → All P (take at xs) → All P xs
all_read P xs at over told = subst (All P) (take_all at xs over) told

-- the same below the path that a document has
pub at_path : {X : Type 0} (of : List ℕ → X → Record) (path own : List ℕ) (xs ys : List X) → path ≡ own → xs ≡ ys
    → All (λ x. ReadsBack (of path x)) xs → All (λ x. ReadsBack (of own x)) ys
at_path of path own xs ys is are told =
    subst (λ p. All (λ x. ReadsBack (of p x)) ys) is (subst (All (λ x. ReadsBack (of path x))) are told)

pub found_read : (found : Option Numbered) (d : Document) → Some d ≡ option_map (λ (n : Numbered). n.document) found
    → All ReadsBack (document_records d) → IfSome found (λ (n : Numbered). All ReadsBack (document_records n.document))
found_read None d is all = absurd cc
found_read (Some n) d is all =
    subst (λ (e : Document). All ReadsBack (document_records e)) (same_Some d n.document is) all

pub one_read : (r : Record) → ReadsBack r → All ReadsBack (r ∷ [])
one_read r one = All-cons ReadsBack r [] one (All-nil ReadsBack)

pub document_read : (d : Document) → ReadsBack (OfDocument d)
    → All (λ o. ReadsBack (OfOccurrence d.relative_path o)) d.occurrences
    → All (λ entry. ReadsBack (OfSymbol d.relative_path entry)) d.symbols → All ReadsBack (document_records d)
document_read d heading occurring known =
    let occurrences = map (OfOccurrence d.relative_path) d.occurrences in
    let symbols = map (OfSymbol d.relative_path) d.symbols in
    All-cons ReadsBack (OfDocument d) (occurrences ++ symbols) heading
    (All-append ReadsBack occurrences symbols
    (All-map ReadsBack (OfOccurrence d.relative_path) d.occurrences occurring)
    (All-map ReadsBack (OfSymbol d.relative_path) d.symbols known))

documents_read : (documents : List Document) → All (λ d. All ReadsBack (document_records d)) documents
    → All ReadsBack (flat_map document_records documents)
documents_read [] all = All-nil ReadsBack
documents_read (d ∷ documents) all =
    All-append ReadsBack (document_records d) (flat_map document_records documents)
    (All-head (λ d. All ReadsBack (document_records d)) d documents all)
    (documents_read documents (All-tail (λ d. All ReadsBack (document_records d)) d documents all))

pub index_read : (index : Index) → All ReadsBack (metadata_records index.metadata)
    → All (λ d. All ReadsBack (document_records d)) index.documents
    → All (λ entry. ReadsBack (OfExternal entry)) index.external_symbols → All ReadsBack (records_of index)
index_read index own told external =
    let first = metadata_records index.metadata in
    let documents = flat_map document_records index.documents in
    All-append ReadsBack (first ++ documents) (map OfExternal index.external_symbols)
    (All-append ReadsBack first documents own (documents_read index.documents told))
    (All-map ReadsBack OfExternal index.external_symbols external)
