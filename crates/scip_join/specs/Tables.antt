-- What the code sorts, searches and leaves out. No clause of a public function names it.
use Rattle.std.specs.Prelude.{◌≡◌, ℕ, Bool, true, false, cond, Option, None, Some, List, [], ◌∷◌, flat_map, filter, map}
use Rattle.std.specs.List.{list_any, dedup}
use Rattle.std.specs.List.Sorted.{IsPermutation, IsSorted, IsSortedBy, IsStable}
use Rattle.std.specs.Str.{bytes_eq}
use Rattle.std.specs.declared.cmp.Ordering.{Ordering}
use Rattle.std.specs.Ordering.{nat_cmp, on, is_lt}
use Rattle.std.specs.Cmp.Lexicographic.{slice_cmp}
use denote.Ref.{Bor}
use Rattle.scip_records.specs.declared.records.SymbolInformation.{SymbolInformation}
use Rattle.scip_join.specs.declared.piece.Piece.{Piece}
use Rattle.scip_join.specs.declared.join_fault.JoinFault.{JoinFault}
use Rattle.scip_join.specs.declared.join_fault.JoinFault.TheVariants.{OtherRoot, OtherEncoding, Twice, Memory}
use Rattle.scip_join.specs.declared.join_fault.TwoDocuments.{TwoDocuments}

-- ---- pieces by path

abbrev pub piece_cmp : Piece → Piece → Ordering
piece_cmp = on (λ (p : Piece). p.path) (slice_cmp nat_cmp)

abbrev pub has_same_path : Piece → Piece → Bool
has_same_path a b = bytes_eq a.path b.path

-- a list in an order, in which the first of equal ones comes first
pub record IsOrdered {X : Type 0} (cmp : X → X → Ordering) (all ordered : List X) : Type 0 where
  pub permutation : IsPermutation all ordered
  pub sorted : IsSorted cmp ordered
  pub stable : IsStable cmp all ordered

-- the first of each that are the same, in an order
pub record IsFirstOfEach {X : Type 0} (cmp : X → X → Ordering) (same : X → X → Bool) (all firsts : List X)
    : Type 0 where
  pub ordered : List X
  pub in_order : IsOrdered cmp all ordered
  pub firsts_are : firsts ≡ dedup same ordered

-- the first two neighbours with one path
abbrev pub first_pair : List Piece → Option (Piece × Piece)
first_pair [] = None
first_pair (a ∷ []) = None
first_pair (a ∷ b ∷ others) = cond (has_same_path a b) (Some (a, b)) (first_pair (b ∷ others))

-- of pieces that are lent
abbrev pub pair_view : Option (Bor Piece × Bor Piece) → Option (Piece × Piece)
pair_view None = None
pair_view (Some pair) = Some (pair.0.now, pair.1.now)

-- none is to be replaced, and the fault names this pair, of which the later piece comes first; or memory ran out
abbrev pub IsRefusedPair : (replace : Bool) → Option (Piece × Piece) → JoinFault → Type 0
IsRefusedPair replace pair OtherRoot = ⊥
IsRefusedPair replace pair OtherEncoding = ⊥
IsRefusedPair replace pair (Twice two) =
    (replace ≡ false) × (later : Piece) × (earlier : Piece) × (pair ≡ Some (later, earlier))
    × (two ≡ record { path = later.path; earlier = earlier.index; later = later.index })
IsRefusedPair replace pair Memory = Unit {0}

-- Pieces in the order of paths have no two neighbours with one path; or they are refused for the first two, unless one
-- is to replace the other.
pub record HaveOwnPaths (pieces : List Piece) : Type 0 where
  pub ordered : List Piece
  pub in_order : IsOrdered piece_cmp pieces ordered
  pub none : first_pair ordered ≡ None

pub record RefusesPair (replace : Bool) (pieces : List Piece) (two : TwoDocuments) : Type 0 where
  pub ordered : List Piece
  pub in_order : IsOrdered piece_cmp pieces ordered
  pub refused : IsRefusedPair replace (first_pair ordered) (Twice two)

abbrev pub RefusesPieces : (replace : Bool) → List Piece → JoinFault → Type 0
RefusesPieces replace pieces OtherRoot = ⊥
RefusesPieces replace pieces OtherEncoding = ⊥
RefusesPieces replace pieces (Twice two) = RefusesPair replace pieces two
RefusesPieces replace pieces Memory = Unit {0}

-- the records of pieces
abbrev pub records_in : List Piece → List (List ℕ)
records_in pieces = map (λ (p : Piece). p.bytes) pieces

-- ---- entries by symbol

abbrev pub has_same_symbol : SymbolInformation → SymbolInformation → Bool
has_same_symbol a b = bytes_eq a.symbol b.symbol

-- texts that are lent
abbrev pub texts : List (Bor (List ℕ)) → List (List ℕ)
texts lent = map (λ (text : Bor (List ℕ)). text.now) lent

-- they are in order
abbrev pub AreInOrder : List (Bor (List ℕ)) → Type 0
AreInOrder lent = IsSortedBy (λ a b. is_lt (slice_cmp nat_cmp a.now b.now)) lent

-- the text is one of these
abbrev pub is_among : List (List ℕ) → List ℕ → Bool
is_among texts text = list_any (λ (t : List ℕ). bytes_eq t text) texts

-- the symbols of the pieces
abbrev pub all_symbols : List Piece → List (List ℕ)
all_symbols pieces = flat_map (λ (p : Piece). p.symbols) pieces

-- of the names, just those that are among the symbols are among these texts
abbrev pub AreDefined : (names symbols texts : List (List ℕ)) → Type 0
AreDefined names symbols defined = (name : List ℕ) → is_among names name ≡ true
    → is_among defined name ≡ is_among symbols name

-- of the symbols of pieces those that are among these names
abbrev pub known_in : (names : List (List ℕ)) → List Piece → List (List ℕ)
known_in names pieces = flat_map (λ (p : Piece). filter (is_among names) p.symbols) pieces
