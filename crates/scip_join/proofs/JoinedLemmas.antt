-- The pieces that are kept are those of the join.
use Rattle.std.proofs.Common.{◌≡◌, ◌↔◌, inl, inr, ℕ, Bool, true}
use Rattle.std.proofs.Common.{false, not, ◌||◌, List, [], ◌∷◌, ◌++◌}
use Rattle.std.proofs.Common.{map, reverse, refl, sym, ◌∙◌, ap, subst}
use Rattle.std.specs.declared.cmp.Ordering.{Ordering}
use Rattle.std.specs.declared.cmp.Ordering.TheVariants.{Less}
use Rattle.std.specs.List.{AllByRecursion, Contains, filter, list_any}
use Rattle.std.specs.List.Sorted.{IsStrictlySortedBy}
use Rattle.std.specs.Str.{bytes_eq}
use Rattle.std.proofs.lemmas.List.{map-append, reverse-append}
use Rattle.std.proofs.lemmas.List.Folds.{list_any-append}
use Rattle.std.proofs.lemmas.List.Kept.{IsStrictlySortedBy-filter}
use Rattle.basics.proofs.ElementLemmas.{In, in_map, from_map, in_filter, from_filter, contained, from_contained}
use Rattle.basics.proofs.ListLemmas.{map_twice}
use Rattle.scip_records.specs.declared.records.Index.{Index}
use Rattle.scip_records.specs.declared.records.Document.{Document}
use Rattle.scip_records.specs.declared.records.SymbolInformation.{SymbolInformation}
use Rattle.scip_wire.specs.Spelling.{document_record, joined_pieces, spelling_of}
use Rattle.scip_join.specs.declared.choices.JoinChoices.{JoinChoices}
use Rattle.scip_join.specs.declared.piece.Piece.{Piece}
use Rattle.scip_join.specs.declared.joined.JoinedIndex.{JoinedIndex}
use Rattle.scip_join.specs.Joined.{numbered_documents, latest_with, IsLatest, document_cmp, all_externals}
use Rattle.scip_join.specs.Joined.{has_symbol, define, IsExternal, entry_cmp, metadata_with, IsJoin}
use Rattle.scip_join.specs.Pieces.{ArePiecesOf}
use Rattle.scip_join.specs.Gathered.{Gathered, gathered, piece_of, symbols_in}
use Rattle.scip_join.specs.Tables.{piece_cmp, has_same_path, is_among, all_symbols, records_in}
use Rattle.scip_join.specs.Tables.{IsFirstOfEach}
use Rattle.scip_join.specs.Steps.{AreUndefined, IsSettled, AreKept}
use Rattle.scip_join.proofs.TableLemmas.{heads, stay, strictly, IsFirst}
use Rattle.scip_join.proofs.NameLemmas.{any-map}

abbrev pub Numbered : Type 0
Numbered = ℕ × Document

-- ---- what is made of each item

pub filter_map_of : {X Y : Type 0} (p : Y → Bool) (f : X → Y) (xs : List X)
    → filter p (map f xs) ≡ map f (filter (λ x. p (f x)) xs)
filter_map_of p f [] = refl
filter_map_of p f (x ∷ xs) = by (p (f x)) refl (filter_map_of p f xs) where
  by : (b : Bool) → p (f x) ≡ b → filter p (map f xs) ≡ map f (filter (λ y. p (f y)) xs)
      → filter p (map f (x ∷ xs)) ≡ map f (filter (λ y. p (f y)) (x ∷ xs))
  by true e rest = rw e (ap (λ l. f x ∷ l) rest)
  by false e rest = rw e rest

pub reverse_map : {X Y : Type 0} (f : X → Y) (xs : List X) → reverse (map f xs) ≡ map f (reverse xs)
reverse_map f [] = refl
reverse_map f (x ∷ xs) =
    reverse-append (f x ∷ []) (map f xs) ∙ ap (λ l. l ++ f x ∷ []) (reverse_map f xs)
    ∙ sym (map-append f (reverse xs) (x ∷ [])) ∙ ap (map f) (sym (reverse-append (x ∷ []) xs))

-- two lists in one order, of which one is made of the other
pub sorted_by : {X Y Z : Type 0} (R : Y → Y → Ordering) (S : Z → Z → Ordering) (f : X → Y) (g : X → Z)
    → ((a b : X) → R (f a) (f b) ≡ S (g a) (g b)) → (xs : List X) → IsStrictlySortedBy R (map f xs)
    → IsStrictlySortedBy S (map g xs)
unfolding IsStrictlySortedBy
sorted_by R S f g agree [] sorted = tt
sorted_by R S f g agree (x ∷ xs) sorted =
    (below xs sorted.0, sorted_by R S f g agree xs sorted.1)
  where
    below : (ys : List _) → AllByRecursion (λ y. R (f x) y ≡ Less) (map f ys)
        → AllByRecursion (λ z. S (g x) z ≡ Less) (map g ys)
    below [] all = tt
    below (y ∷ ys) all = (sym (agree x y) ∙ all.0, below ys all.1)

-- ---- the documents of the pieces that stay

abbrev pub latest_pieces : List Index → List Piece
latest_pieces indexes = reverse (map piece_of (numbered_documents indexes))

pub pieces_with : (indexes : List Index) (path : List ℕ)
    → filter (λ (p : Piece). bytes_eq p.path path) (latest_pieces indexes) ≡ map piece_of (latest_with indexes path)
pieces_with indexes path =
    ap (filter (λ (p : Piece). bytes_eq p.path path)) (reverse_map piece_of (numbered_documents indexes))
    ∙ filter_map_of (λ (p : Piece). bytes_eq p.path path) piece_of (reverse (numbered_documents indexes))

abbrev pub path_of : Piece → List ℕ
path_of p = p.path

-- a document that is the latest with its path
abbrev IsLatestAt : List Index → Numbered → Type 0
IsLatestAt indexes n = (earlier : List Numbered) × (latest_with indexes n.1.relative_path ≡ n ∷ earlier)

-- the latest of its path, of a piece that is
found : (indexes : List Index) (p : Piece) → IsFirst path_of (latest_pieces indexes) p
    → (n : Numbered) × (piece_of n ≡ p) × IsLatestAt indexes n
found indexes p first = by (latest_with indexes p.path) refl
  where
    by : (l : List Numbered) → latest_with indexes p.path ≡ l
        → (n : Numbered) × (piece_of n ≡ p) × IsLatestAt indexes n
    by [] e = (let none : [] ≡ p ∷ first.0 =
        ap (map piece_of) (sym e) ∙ sym (pieces_with indexes p.path) ∙ first.1 in absurd cc)
    by (n ∷ earlier) e =
        let is : piece_of n ∷ map piece_of earlier ≡ p ∷ first.0 =
        ap (map piece_of) (sym e) ∙ sym (pieces_with indexes p.path) ∙ first.1 in
        let same : piece_of n ≡ p = (heads (piece_of n) p (map piece_of earlier) first.0 is).0 in
        (n, same, (earlier, ap (λ (q : Piece). latest_with indexes q.path) same ∙ e))

-- they are of pieces that all are
pub picked : (indexes : List Index) (pieces : List Piece)
    → ((p : Piece) → In p pieces → IsFirst path_of (latest_pieces indexes) p)
    → (ns : List Numbered) × (map piece_of ns ≡ pieces) × ((n : Numbered) → In n ns → IsLatestAt indexes n)
picked indexes [] all = ([], refl, λ n is. absurd is)
picked indexes (p ∷ pieces) all =
    let one = found indexes p (all p (inl refl)) in
    let others = picked indexes pieces (λ q is. all q (inr is)) in
    let same : piece_of one.0 ∷ map piece_of others.0 ≡ p ∷ pieces =
    ap (λ q. q ∷ map piece_of others.0) one.1 ∙ ap (λ l. p ∷ l) others.1 in
    (one.0 ∷ others.0, same, each one.0 others.0 one.2 others.2)
  where
    each : (m : Numbered) (ms : List Numbered) → IsLatestAt indexes m
        → ((n : Numbered) → In n ms → IsLatestAt indexes n)
        → (n : Numbered) → In n (m ∷ ms) → IsLatestAt indexes n
    each m ms first rest n (inl e) = subst (IsLatestAt indexes) (sym e) first
    each m ms first rest n (inr is) = rest n is

abbrev document_of : Numbered → Document
document_of n = n.1

module _ (indexes : List Index) (pieces : List Piece)
    (are : IsFirstOfEach piece_cmp has_same_path (latest_pieces indexes) pieces)
    (ns : List Numbered) (made : map piece_of ns ≡ pieces)
    (latest : (n : Numbered) → In n ns → IsLatestAt indexes n) where
  abbrev pub documents : List Document
  documents = map document_of ns

  to_latest : (d : Document) → In d documents → IsLatest indexes d
  to_latest d is =
      let at = from_map document_of d ns is in
      let first = latest at.0 at.1 in
      record {
        index = at.0.0;
        earlier = first.0;
        latest = subst (λ (x : Document). latest_with indexes x.relative_path ≡ (at.0.0, x) ∷ first.0) (sym at.2)
            first.1;
      }

  from_latest : (d : Document) → IsLatest indexes d → In d documents
  from_latest d is =
      let n : Numbered = (is.index, d) in
      let first : IsFirst path_of (latest_pieces indexes) (piece_of n) =
      (map piece_of is.earlier, pieces_with indexes d.relative_path ∙ ap (map piece_of) is.latest) in
      let there : In (piece_of n) pieces =
      from_contained pieces (piece_of n) ((stay path_of (latest_pieces indexes) pieces are (piece_of n)).1 first) in
      let at = from_map piece_of (piece_of n) ns (subst (λ l. In (piece_of n) l) (sym made) there) in
      let one = latest at.0 at.1 in
      let same_path : at.0.1.relative_path ≡ d.relative_path = ap path_of (sym at.2) in
      let both : at.0 ∷ one.0 ≡ n ∷ is.earlier =
      sym one.1 ∙ ap (latest_with indexes) same_path ∙ is.latest in
      let same : at.0 ≡ n = (heads at.0 n one.0 is.earlier both).0 in
      subst (λ x. In x documents) (ap document_of same) (in_map document_of at.0 ns at.1)

  pub documents_are : (d : Document) → Contains documents d ↔ IsLatest indexes d
  documents_are d = (
    λ there. to_latest d (from_contained documents d there),
    λ is. contained documents d (from_latest d is),
  )

  pub documents_rise : IsStrictlySortedBy document_cmp documents
  documents_rise =
      sorted_by piece_cmp document_cmp piece_of document_of (λ a b. refl) ns
      (subst (IsStrictlySortedBy piece_cmp) (sym made) (strictly path_of (latest_pieces indexes) pieces are))

  pub records_are : records_in pieces ≡ map document_record documents
  records_are =
      ap records_in (sym made) ∙ map_twice (λ (p : Piece). p.bytes) piece_of ns
      ∙ sym (map_twice document_record document_of ns)

-- ---- the external entries that stay

-- a document has an entry of a symbol just if its piece has the symbol
among_symbols : (entries : List SymbolInformation) (symbol : List ℕ)
    → is_among (symbols_in entries) symbol ≡ list_any (has_symbol symbol) entries
among_symbols entries symbol =
    any-map (λ (t : List ℕ). bytes_eq t symbol) (λ (e : SymbolInformation). e.symbol) entries

pub defined : (ns : List Numbered) (symbol : List ℕ)
    → is_among (all_symbols (map piece_of ns)) symbol ≡ define (map document_of ns) symbol
defined [] symbol = refl
defined (n ∷ ns) symbol =
    list_any-append (λ (t : List ℕ). bytes_eq t symbol) (symbols_in n.1.symbols) (all_symbols (map piece_of ns))
    ∙ ap (λ b. b || is_among (all_symbols (map piece_of ns)) symbol) (among_symbols n.1.symbols symbol)
    ∙ ap (λ b. list_any (has_symbol symbol) n.1.symbols || b) (defined ns symbol)

abbrev symbol_of : SymbolInformation → List ℕ
symbol_of e = e.symbol

no : (b : Bool) → not b ≡ true → b ≡ false
no true e = absurd cc
no false e = refl

module _ (indexes : List Index) (documents : List Document) (pieces : List Piece) (left : List SymbolInformation)
    (are : AreUndefined pieces (all_externals indexes) left)
    (same : (symbol : List ℕ) → is_among (all_symbols pieces) symbol ≡ define documents symbol) where
  stays : SymbolInformation → Bool
  stays e = not (is_among (all_symbols pieces) e.symbol)

  pub entries_are : (e : SymbolInformation) → Contains left e ↔ IsExternal indexes documents e
  entries_are e = (
    λ there.
        let at = from_filter (λ (x : SymbolInformation). not (is_among (all_symbols pieces) x.symbol)) e are.firsts
        (from_contained (filter (λ (x : SymbolInformation). not (is_among (all_symbols pieces) x.symbol)) are.firsts) e
        (subst (λ l. Contains l e) are.left_are there)) in
        let first = (stay symbol_of (all_externals indexes) are.firsts are.are_first e).0
        (contained are.firsts e at.0) in
        record {
          later = first.0;
          first = first.1;
          undefined = sym (same e.symbol) ∙ no (is_among (all_symbols pieces) e.symbol) at.1;
        },
    λ is.
        let there = from_contained are.firsts e
        ((stay symbol_of (all_externals indexes) are.firsts are.are_first e).1 (is.later, is.first)) in
        let passes : not (is_among (all_symbols pieces) e.symbol) ≡ true =
        ap not (same e.symbol ∙ is.undefined) in
        subst (λ l. Contains l e) (sym are.left_are)
        (contained (filter (λ (x : SymbolInformation). not (is_among (all_symbols pieces) x.symbol)) are.firsts) e
        (in_filter (λ (x : SymbolInformation). not (is_among (all_symbols pieces) x.symbol)) e passes are.firsts
        there)),
  )

  pub entries_rise : IsStrictlySortedBy entry_cmp left
  entries_rise =
      subst (IsStrictlySortedBy entry_cmp) (sym are.left_are)
      (IsStrictlySortedBy-filter entry_cmp (λ (x : SymbolInformation). not (is_among (all_symbols pieces) x.symbol))
      are.firsts (strictly symbol_of (all_externals indexes) are.firsts are.are_first))

-- ---- the join

pub whole_is : (choices : JoinChoices) (indexes : List Index) (new : Gathered) (whole : JoinedIndex)
    → IsSettled (gathered choices indexes) new → AreKept new whole
    → (joined : Index) × IsJoin choices.project_root indexes joined × ArePiecesOf whole joined
whole_is choices indexes new whole settled kept =
    let firsts = settled.pieces in
    let some = picked indexes new.pieces (λ p is.
    (stay path_of (latest_pieces indexes) new.pieces firsts p).0 (contained new.pieces p is)) in
    let ns : List Numbered = some.0 in
    let same : (symbol : List ℕ) → is_among (all_symbols new.pieces) symbol ≡ define (map document_of ns) symbol =
    λ symbol. ap (λ l. is_among (all_symbols l) symbol) (sym some.1) ∙ defined ns symbol in
    let joined : Index = record {
      metadata = whole.metadata;
      documents = map document_of ns;
      external_symbols = new.externals;
    } in (
      joined,
      record {
        metadata = kept.metadata ∙ ap (λ (c : JoinChoices). metadata_with c.project_root new.metadata) settled.choices
            ∙ ap (metadata_with choices.project_root) settled.metadata;
        documents = documents_are indexes new.pieces firsts ns some.1 some.2;
        by_path = documents_rise indexes new.pieces firsts ns some.1 some.2;
        externals = entries_are indexes (map document_of ns) new.pieces new.externals settled.externals same;
        by_symbol = entries_rise indexes (map document_of ns) new.pieces new.externals settled.externals same;
      },
      record {
        metadata = refl;
        documents = kept.documents ∙ records_are indexes new.pieces firsts ns some.1 some.2;
        external_symbols = kept.external_symbols;
      },
    )

-- ---- the bytes

-- an index is spelled by its pieces
abbrev JoinsPieces : Type 0
JoinsPieces = (i : Index)
    → spelling_of i ≡ joined_pieces i.metadata (map document_record i.documents) i.external_symbols

pub pieces_join : JoinsPieces → (whole : JoinedIndex) (index : Index) → ArePiecesOf whole index
    → joined_pieces whole.metadata whole.documents whole.external_symbols ≡ spelling_of index
pieces_join joins whole index are =
    (λ i. joined_pieces (are.metadata i) (are.documents i) (are.external_symbols i)) ∙ sym (joins index)
