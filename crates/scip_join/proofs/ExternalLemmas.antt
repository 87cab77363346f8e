-- The symbols of entries in order, and those of them that pieces have.
use Rattle.std.proofs.Common.{◌≡◌, ℕ, ◌+◌, ◌<◌, Bool, true, false, not}
use Rattle.std.proofs.Common.{List, [], ◌∷◌, ◌++◌, length, get_or, take, cond, refl, sym}
use Rattle.std.proofs.Common.{◌∙◌, ap, subst, arith, append_assoc}
use Rattle.std.specs.declared.cmp.Ordering.{Ordering}
use Rattle.std.specs.declared.cmp.Ordering.TheVariants.{Less}
use Rattle.std.specs.Ordering.{nat_cmp, is_lt, ordering_reverse}
use Rattle.std.specs.Cmp.Lexicographic.{slice_cmp}
use Rattle.std.specs.List.{AllByRecursion, filter, flat_map, list_any}
use Rattle.std.specs.List.Sorted.{IsPermutation, IsStrictlySortedBy}
use Rattle.std.specs.Str.{bytes_eq}
use denote.Ref.{Bor}
use Rattle.std.proofs.Math.ListN.{get_or-map}
use Rattle.std.proofs.lemmas.Cmp.{nat_list_cmp_total}
use Rattle.std.proofs.lemmas.List.{length-map, flat_map_more, take_more}
use Rattle.std.proofs.lemmas.List.Elements.{filter-append}
use Rattle.std.proofs.lemmas.List.Sorted.{list_any-IsPermutation, IsPermutation-map}
use Rattle.std.proofs.lemmas.Map.Keys.{Less-from_sorted}
use Rattle.std.proofs.lemmas.Map.Views.{any-filter_same}
use Rattle.scip_records.specs.declared.records.SymbolInformation.{SymbolInformation}
use Rattle.scip_join.specs.Gathered.{symbols_in}
use Rattle.scip_join.specs.Joined.{entry_cmp}
use Rattle.scip_join.specs.declared.piece.Piece.{Piece}
use Rattle.scip_join.specs.Tables.{texts, is_among, all_symbols, known_in, AreInOrder, AreDefined}
use Rattle.scip_join.proofs.TableLemmas.{equal_bytes, bytes_equal}

symbols_rise : (entries : List SymbolInformation) → IsStrictlySortedBy entry_cmp entries
    → IsStrictlySortedBy (slice_cmp nat_cmp) (symbols_in entries)
unfolding IsStrictlySortedBy
symbols_rise [] sorted = tt
symbols_rise (x ∷ xs) sorted = (below xs sorted.0, symbols_rise xs sorted.1)
  where
    below : (ys : List SymbolInformation) → AllByRecursion (λ (y : SymbolInformation). entry_cmp x y ≡ Less) ys
        → AllByRecursion (λ (t : List ℕ). slice_cmp nat_cmp x.symbol t ≡ Less) (symbols_in ys)
    below [] all = tt
    below (y ∷ ys) all = (all.0, below ys all.1)

turned_down : (a b : Ordering) → a ≡ ordering_reverse b → b ≡ Less → is_lt a ≡ false
turned_down a b e less = ap is_lt (e ∙ ap ordering_reverse less)

-- the names of entries that rise are in order
pub names_in_order : (entries : List SymbolInformation) (names : List (Bor (List ℕ)))
    → texts names ≡ symbols_in entries → IsStrictlySortedBy entry_cmp entries → AreInOrder names
names_in_order entries names are sorted k d low within =
    let now = λ (p : Bor (List ℕ)). p.now in
    let rising : IsStrictlySortedBy (slice_cmp nat_cmp) (texts names) =
    subst (IsStrictlySortedBy (slice_cmp nat_cmp)) (sym are) (symbols_rise entries sorted) in
    let size = length-map names now in
    let less = Less-from_sorted (slice_cmp nat_cmp) (texts names) k (k + 1) d.now rising (omega arith)
    (omega (arith, within, size)) in
    let less' : slice_cmp nat_cmp (get_or names k d).now (get_or names (k + 1) d).now ≡ Less =
    subst (λ (a : List ℕ). slice_cmp nat_cmp a (get_or names (k + 1) d).now ≡ Less) (get_or-map now names k d)
    (subst (λ (b : List ℕ). slice_cmp nat_cmp (get_or (texts names) k d.now) b ≡ Less)
    (get_or-map now names (k + 1) d) less) in
    turned_down (slice_cmp nat_cmp (get_or names (k + 1) d).now (get_or names k d).now)
    (slice_cmp nat_cmp (get_or names k d).now (get_or names (k + 1) d).now)
    (nat_list_cmp_total.antisymm (get_or names (k + 1) d).now (get_or names k d).now) less'

-- what is kept of the symbols of each piece is kept of all
known_is : (names : List (List ℕ)) (pieces : List Piece)
    → known_in names pieces ≡ filter (is_among names) (all_symbols pieces)
known_is names [] = refl
known_is names (p ∷ pieces) =
    ap (λ l. filter (is_among names) p.symbols ++ l) (known_is names pieces)
    ∙ sym (filter-append (is_among names) p.symbols (all_symbols pieces))

-- one symbol more
pub known_more : (names symbols : List (List ℕ)) (i : ℕ) (x : List ℕ) (begun old new : List (List ℕ))
    → i < length symbols → x ≡ get_or symbols i x → old ≡ begun ++ filter (is_among names) (take i symbols)
    → new ≡ old ++ cond (is_among names x) (x ∷ []) []
    → new ≡ begun ++ filter (is_among names) (take (i + 1) symbols)
known_more names symbols i x begun old new within is so more =
    let test = is_among names in
    let one : List (List ℕ) = filter test (x ∷ []) in
    more ∙ ap (λ (l : List (List ℕ)). l ++ one) so ∙ append_assoc begun (filter test (take i symbols)) one
    ∙ ap (λ (l : List (List ℕ)). begun ++ l)
    (sym (filter-append test (take i symbols) (x ∷ []))
    ∙ ap (filter test) (ap (λ (y : List ℕ). take i symbols ++ y ∷ []) is ∙ sym (take_more symbols i x within)))

-- one piece more
pub known_in_more : (names : List (List ℕ)) (pieces : List Piece) (i : ℕ) (x : Piece) (old new : List (List ℕ))
    → i < length pieces → x ≡ get_or pieces i x → old ≡ known_in names (take i pieces)
    → new ≡ old ++ filter (is_among names) x.symbols → new ≡ known_in names (take (i + 1) pieces)
known_in_more names pieces i x old new within is so more =
    let known : Piece → List (List ℕ) = λ p. filter (is_among names) p.symbols in
    more ∙ ap (λ (l : List (List ℕ)). l ++ known x) so ∙ flat_map_more known [] (take i pieces) x
    ∙ ap (flat_map known)
    (ap (λ (y : Piece). take i pieces ++ y ∷ []) is ∙ sym (take_more pieces i x within))

-- of the names just those are there that are among the symbols
pub exact : (names : List (List ℕ)) (pieces : List Piece) (known defined : List (Bor (List ℕ)))
    → texts known ≡ known_in names pieces → IsPermutation known defined
    → AreDefined names (all_symbols pieces) (texts defined)
exact names pieces known defined are moved name is =
    sym (list_any-IsPermutation (λ (t : List ℕ). bytes_eq t name) (texts known) (texts defined)
    (IsPermutation-map (λ (b : Bor (List ℕ)). b.now) known defined moved))
    ∙ ap (list_any (λ (t : List ℕ). bytes_eq t name)) (are ∙ known_is names pieces)
    ∙ any-filter_same (λ (t : List ℕ). bytes_eq t name) (is_among names) true
    (λ t passes. ap (is_among names) (equal_bytes t name passes) ∙ is) (all_symbols pieces)

-- a symbol of the entries is among theirs
is_own : (xs : List SymbolInformation) (e : SymbolInformation) (ys : List SymbolInformation)
    → is_among (symbols_in (e ∷ ys)) e.symbol ≡ true
is_own xs e ys = rw (bytes_equal e.symbol e.symbol refl) refl

behind_one : (x : SymbolInformation) (xs : List SymbolInformation) (name : List ℕ)
    → is_among (symbols_in xs) name ≡ true
    → is_among (symbols_in (x ∷ xs)) name ≡ true
behind_one x xs name e = by (bytes_eq x.symbol name) refl
  where
    by : (b : Bool) → bytes_eq x.symbol name ≡ b → is_among (symbols_in (x ∷ xs)) name ≡ true
    by true f = rw f refl
    by false f = rw f e

-- two tests that agree on the symbols of entries keep the same of them
pub filter_alike : (p q : List ℕ → Bool) (all : List SymbolInformation)
    → ((name : List ℕ) → is_among (symbols_in all) name ≡ true → p name ≡ q name)
    → filter (λ (e : SymbolInformation). not (p e.symbol)) all
    ≡ filter (λ (e : SymbolInformation). not (q e.symbol)) all
filter_alike p q [] agree = refl
filter_alike p q (e ∷ all) agree =
    by (p e.symbol) refl (agree e.symbol (is_own [] e all))
    (filter_alike p q all (λ name is. agree name (behind_one e all name is)))
  where
    by : (b : Bool) → p e.symbol ≡ b → p e.symbol ≡ q e.symbol
        → filter (λ (x : SymbolInformation). not (p x.symbol)) all
        ≡ filter (λ (x : SymbolInformation). not (q x.symbol)) all
        → filter (λ (x : SymbolInformation). not (p x.symbol)) (e ∷ all)
        ≡ filter (λ (x : SymbolInformation). not (q x.symbol)) (e ∷ all)
    by true f same rest = let g : q e.symbol ≡ true = sym same ∙ f in rw (f, g) rest
    by false f same rest = let g : q e.symbol ≡ false = sym same ∙ f in rw (f, g) (ap (λ l. e ∷ l) rest)
