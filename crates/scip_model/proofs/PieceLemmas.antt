-- Pieces of an index: which paths are marked, and what a sort by path leaves.
use Rattle.std.proofs.Common.{◌≡◌, ◌≢◌, ◌∙◌, ◌↔◌, inl, inr, ℕ, zero, suc, ◌+◌, ◌<◌, Bool, true, false, not, Some, None}
use Rattle.std.proofs.Common.{Result, Ok, Err, List, [], ◌∷◌, ◌++◌, length, get_or, take, position, sym, ap, refl}
use Rattle.std.proofs.Common.{subst, arith, MatchOption}
use Rattle.std.specs.declared.cmp.Ordering.{Ordering}
use Rattle.std.specs.declared.cmp.Ordering.TheVariants.{Less, Equal, Greater}
use Rattle.std.specs.Ordering.{is_lt, eq_by_cmp, nat_cmp, ordering_reverse}
use Rattle.std.specs.Cmp.{IsTotalOrder, IsStrictWeakOrder, Equal-is}
use Rattle.std.specs.Cmp.Lexicographic.{slice_cmp}
use Rattle.std.specs.List.{slice_get, Contains, IsDistinct}
use Rattle.std.specs.List.Sorted.{IsPermutation, IsSorted, IsBinarySearchResult, IsSearchInRange}
use Rattle.std.specs.Option.{option_map}
use Rattle.std.specs.Result.{result_ok}
use denote.Ref.{Bor}
use Rattle.std.proofs.Math.ListN.{get_or-map}
use Rattle.std.proofs.lemmas.Bool.{cases_Bool, cases_lt, cases_order, false≢true, not-false}
use Rattle.std.proofs.lemmas.Cmp.{on_total, nat_list_cmp_total}
use Rattle.std.proofs.lemmas.List.{length-map, length-set, get_or-set_same, get_or-set_other, map_more, take_all}
use Rattle.std.proofs.lemmas.List.Elements.{Contains-push, Contains-push_cases, Contains-append_left}
use Rattle.std.proofs.lemmas.List.Quantifiers.{position-Some}
use Rattle.std.proofs.lemmas.List.Sorted.{ranks_by, searchable_from_sorted, Contains-permutation, IsPermutation-sym}
use Rattle.std.proofs.lemmas.List.Sorted.{IsPermutation-map}
use Rattle.std.proofs.lemmas.Map.Keys.{Less-from_sorted, IsDistinct-from_apart, IsDistinct-IsPermutation}
use Rattle.std.proofs.lemmas.Map.Lookups.{exact_bytes}
use Rattle.std.proofs.lemmas.Cmp.{eq_by_cmp_equiv}
use Rattle.std.proofs.lemmas.Option.{slice_get-map, slice_get_within, slice_get-get_or, get_or_from_slice_get}
use Rattle.std.proofs.lemmas.Option.{same_Some}
use Rattle.basics.proofs.ListLemmas.{item_at}
use Rattle.basics.proofs.FirstLemmas.{contained, position-none}
use Rattle.scip_records.specs.declared.records.Document.{Document}
use Rattle.scip_model.specs.Indexes.{document_cmp}
use Rattle.scip_model.specs.Pieces.{IsRising, paths_of, AreMerged, IsStranger, IsTwice, AreFine, IsFirstMissing}
use Rattle.scip_model.specs.Pieces.{MayRefuseMerge, texts}
use Rattle.scip_model.specs.Tables.TakenPaths.{IsMarked, IsNotMarked, AreMarked}
use Rattle.scip_model.specs.declared.pieces.MergeFault.{MergeFault}
use Rattle.scip_model.specs.declared.pieces.MergeFault.TheVariants.{Stranger, Twice, Missing, Memory}
use Rattle.scip_model.proofs.IndexSortLemmas.{rises, one-ascending, keys-ascend}

-- ---- a path among rising ones

text-at : (paths : List (Bor (List ℕ))) (i : ℕ) (x : Bor (List ℕ)) → slice_get paths i ≡ Some x
    → slice_get (texts paths) i ≡ Some x.now
text-at paths i x at = slice_get-map (λ (p : Bor (List ℕ)). p.now) paths i
    ∙ ap (option_map (λ (p : Bor (List ℕ)). p.now)) at

turned-down : (a b : Ordering) → a ≡ ordering_reverse b → b ≡ Less → is_lt a ≡ false
turned-down a b e less = ap is_lt (e ∙ ap ordering_reverse less)

sorted-paths : (paths : List (Bor (List ℕ))) → IsRising (texts paths) → (k : ℕ) (d : Bor (List ℕ))
    → k + 1 < length paths → is_lt (slice_cmp nat_cmp (get_or paths (k + 1) d).now (get_or paths k d).now) ≡ false
sorted-paths paths rising k d within =
    let now = λ (p : Bor (List ℕ)). p.now in
    let size = length-map paths now in
    let less = Less-from_sorted (slice_cmp nat_cmp) (texts paths) k (k + 1) d.now rising (omega arith)
    (omega (arith, within, size)) in
    let less' : slice_cmp nat_cmp (get_or paths k d).now (get_or paths (k + 1) d).now ≡ Less =
    subst (λ (a : List ℕ). slice_cmp nat_cmp a (get_or paths (k + 1) d).now ≡ Less) (get_or-map now paths k d)
    (subst (λ (b : List ℕ). slice_cmp nat_cmp (get_or (texts paths) k d.now) b ≡ Less)
    (get_or-map now paths (k + 1) d) less) in
    turned-down (slice_cmp nat_cmp (get_or paths (k + 1) d).now (get_or paths k d).now)
    (slice_cmp nat_cmp (get_or paths k d).now (get_or paths (k + 1) d).now)
    (nat_list_cmp_total.antisymm (get_or paths (k + 1) d).now (get_or paths k d).now) less'

itself : (path : List ℕ) → slice_cmp nat_cmp path path ≡ Equal
itself path = equal (slice_cmp nat_cmp path path) (nat_list_cmp_total.antisymm path path)
  where
    equal : (r : Ordering) → r ≡ ordering_reverse r → r ≡ Equal
    equal Less e = cc
    equal Equal e = refl
    equal Greater e = cc

text-in : (paths : List (Bor (List ℕ))) (path : List ℕ) → Contains (texts paths) path
    → (k : ℕ) × (x : Bor (List ℕ)) × (slice_get paths k ≡ Some x) × (x.now ≡ path)
text-in paths path there =
    let within : there.0 < length paths = omega (arith, there.1, length-map paths (λ (p : Bor (List ℕ)). p.now)) in
    let x = item_at paths there.0 within in
    let one : get_or (texts paths) there.0 path ≡ x.0.now =
    get_or_from_slice_get (texts paths) there.0 x.0.now path (text-at paths there.0 x.0 x.1) in
    (there.0, x.0, x.1, sym one ∙ there.2)

pub found-path : (paths : List (Bor (List ℕ))) (path : List ℕ) (r : Result ℕ ℕ) → IsRising (texts paths)
    → IsSearchInRange r (length paths)
    → IsBinarySearchResult (λ (y : Bor (List ℕ)). slice_cmp nat_cmp y.now path) paths r
    → MatchOption (result_ok r) (Contains (texts paths) path → ⊥) (λ number. slice_get (texts paths) number ≡ Some path)
found-path paths path (Ok i) rising within found =
    let x = item_at paths i within in
    let same : (get_or paths i x.0) ≡ x.0 = get_or_from_slice_get paths i x.0 x.0 x.1 in
    let equal : x.0.now ≡ path =
    exact_bytes x.0.now path (subst (λ (y : Bor (List ℕ)). slice_cmp nat_cmp y.now path ≡ Equal) same (found x.0))
    in
    text-at paths i x.0 x.1 ∙ ap (λ (p : List ℕ). Some p) equal
found-path paths path (Err i) rising within place = λ there.
    let of = text-in paths path there in
    let apart = place (searchable_from_sorted nat_list_cmp_total (λ (y : Bor (List ℕ)). y.now) paths path
    (λ k d low inside. sorted-paths paths rising k d inside)) in
    let same : get_or paths of.0 of.1 ≡ of.1 = get_or_from_slice_get paths of.0 of.1 of.1 of.2 in
    let equal : slice_cmp nat_cmp (get_or paths of.0 of.1).now path ≡ Equal =
    subst (λ (y : Bor (List ℕ)). slice_cmp nat_cmp y.now path ≡ Equal) (sym same)
    (subst (λ (p : List ℕ). slice_cmp nat_cmp p path ≡ Equal) (sym of.3) (itself path)) in
    elim (cases_lt of.0 i) [
      | inl less ↦ (let before = apart.0 of.0 of.1 (omega arith) less in cc)
      | inr more ↦ (let behind = apart.1 of.0 of.1 more (slice_get_within paths of.0 of.1 of.2) in cc)
    ]

-- ---- marks

-- a path has one number
one-number : (paths : List (List ℕ)) (i j : ℕ) (path : List ℕ) → IsRising paths → slice_get paths i ≡ Some path
    → slice_get paths j ≡ Some path → i ≡ j
one-number paths i j path rising at there = elim (cases_order i j) [
  | inl same ↦ same
  | inr other ↦ elim other [
    | inl less ↦ absurd (never i j at there less)
    | inr more ↦ absurd (never j i there at more)
  ]
]
  where
    never : (i j : ℕ) → slice_get paths i ≡ Some path → slice_get paths j ≡ Some path → i < j → ⊥
    never i j at there less =
        let below = Less-from_sorted (slice_cmp nat_cmp) paths i j path rising less
        (slice_get_within paths j path there) in
        let equal : slice_cmp nat_cmp (get_or paths i path) (get_or paths j path) ≡ Equal =
        subst (λ (p : List ℕ). slice_cmp nat_cmp p (get_or paths j path) ≡ Equal)
        (sym (get_or_from_slice_get paths i path path at))
        (subst (λ (p : List ℕ). slice_cmp nat_cmp path p ≡ Equal) (sym (get_or_from_slice_get paths j path path there))
        (itself path)) in
        cc

in-front : (pieces : List Document) (count i : ℕ) (d : Document) → i < count → slice_get pieces i ≡ Some d
    → Contains (paths_of (take count pieces)) d.relative_path
in-front [] count i d less at = cc
in-front (x ∷ xs) zero i d less at = absurd (omega (arith, less))
in-front (x ∷ xs) (suc count) zero d less at =
    subst (λ (y : Document). Contains (paths_of (x ∷ take count xs)) y.relative_path) (same_Some x d at)
    (Contains-append_left (x.relative_path ∷ []) (paths_of (take count xs)) x.relative_path
    (Contains-push [] x.relative_path))
in-front (x ∷ xs) (suc count) (suc i) d less at =
    let rest = in-front xs count i d (omega (arith, less)) at in
    (suc rest.0, omega (arith, rest.1), rest.2)

of-front : (pieces : List Document) (count : ℕ) (path : List ℕ) → Contains (paths_of (take count pieces)) path
    → (i : ℕ) × (d : Document) × (i < count) × (slice_get pieces i ≡ Some d) × (d.relative_path ≡ path)
of-front [] zero path there = absurd (omega (arith, there.1))
of-front [] (suc count) path there = absurd (omega (arith, there.1))
of-front (x ∷ xs) zero path there = absurd (omega (arith, there.1))
of-front (x ∷ xs) (suc count) path (zero, within, is) = (0, x, omega arith, refl, is)
of-front (x ∷ xs) (suc count) path (suc k, within, is) =
    let rest = of-front xs count path (k, omega (arith, within), is) in
    (suc rest.0, rest.1, omega (arith, rest.2), rest.3, rest.4)

pub documents_total : IsTotalOrder document_cmp
documents_total = on_total (λ (d : Document). d.relative_path) nat_list_cmp_total

pub documents_rank : IsStrictWeakOrder (λ x y. is_lt (document_cmp x y))
documents_rank = ranks_by documents_total (λ d. d)

module _ (paths : List (List ℕ)) (rising : IsRising paths) (pieces : List Document) where
  pub fine : (count : ℕ) (marks : List Bool) → AreMarked paths pieces count marks → AreFine paths pieces count
  fine count marks are piece within = (
    λ strange. strange.strange (are.known piece strange.document within strange.numbered),
    λ twice. are.alone twice.earlier piece twice.other twice.document twice.before within twice.stands twice.numbered
        twice.same,
  )

  -- the path of one piece more
  pub marked-more : (count : ℕ) (old new : List Bool) (d : Document) → AreMarked paths pieces count old
      → slice_get pieces count ≡ Some d → IsMarked paths d.relative_path old new
      → AreMarked paths pieces (count + 1) new
  marked-more count old new d are at one =
      let path : List ℕ = d.relative_path in
      let within : count < length pieces = slice_get_within pieces count d at in
      let n = one.number in
      let inside : n < length old = omega (arith, slice_get_within paths n path one.numbered, are.size) in
      let front : paths_of (take (count + 1) pieces) ≡ paths_of (take count pieces) ++ path ∷ [] =
      map_more (λ (x : Document). x.relative_path) pieces count d within
      ∙ ap (λ (x : Document). paths_of (take count pieces) ++ x.relative_path ∷ [])
      (get_or_from_slice_get pieces count d d at) in
      let new-at : get_or new n false ≡ true =
      ap (λ (l : List Bool). get_or l n false) one.marks ∙ get_or-set_same old n true false inside in
      let fresh : Contains (paths_of (take count pieces)) path → ⊥ =
      λ there. false≢true (sym one.was ∙ (are.marked n path one.numbered).1 there) in
      record {
        size = ap length one.marks ∙ (length-set old n true ∙ are.size);
        marked = λ k p numbered. subst (λ (l : List (List ℕ)). (get_or new k false ≡ true) ↔ Contains l p) (sym front)
            (elim (cases_order k n) [
              | inl same ↦ (
                  let equal : p ≡ path = same_Some p path
                  (sym numbered ∙ (ap (slice_get paths) same ∙ one.numbered)) in (
                    λ _. subst (Contains (paths_of (take count pieces) ++ path ∷ [])) (sym equal)
                        (Contains-push (paths_of (take count pieces)) path),
                    λ _. subst (λ i. get_or new i false ≡ true) (sym same) new-at,
                  ))
              | inr unlike ↦ (
                  let other : k ≢ n = λ e. elim unlike
                  [ inl less ↦ omega (arith, less, e) | inr more ↦ omega (arith, more, e) ] in
                  let kept : get_or new k false ≡ get_or old k false =
                  ap (λ (l : List Bool). get_or l k false) one.marks ∙ get_or-set_other old n k true false other in (
                    λ true_is. Contains-append_left (paths_of (take count pieces)) (path ∷ []) p
                        ((are.marked k p numbered).0 (sym kept ∙ true_is)),
                    λ there. kept ∙ (are.marked k p numbered).1
                        (elim (Contains-push_cases (paths_of (take count pieces)) path p there) [
                          | inl before ↦ before
                          | inr same ↦ absurd (other
                              (one-number paths k n p rising numbered
                              (one.numbered ∙ ap (λ (q : List ℕ). Some q) same)))
                        ]),
                  ))
            ]);
        known = λ i x less stands. elim (cases_lt i count) [
          | inl before ↦ are.known i x before stands
          | inr here ↦ (
              let last : i ≡ count = omega (arith, less, here) in
              let one-piece : d ≡ x = same_Some d x (sym at ∙ (ap (slice_get pieces) (sym last) ∙ stands)) in
              subst (λ (y : Document). Contains paths y.relative_path) one-piece (contained paths n path one.numbered))
        ];
        alone = λ i j a b less most first second. elim (cases_lt j count) [
          | inl before ↦ are.alone i j a b less before first second
          | inr here ↦ (
              let last : j ≡ count = omega (arith, most, here) in
              let one-piece : d ≡ b = same_Some d b (sym at ∙ (ap (slice_get pieces) (sym last) ∙ second)) in
              λ same. fresh (subst (Contains (paths_of (take count pieces)))
              (same ∙ ap (λ (y : Document). y.relative_path) (sym one-piece))
              (in-front pieces count i a (omega (arith, less, last)) first)))
        ];
      }

  -- why a piece isn't marked
  pub refused : (count : ℕ) (marks : List Bool) (d : Document) (fault : MergeFault) → AreMarked paths pieces count marks
      → slice_get pieces count ≡ Some d
      → IsNotMarked paths d.relative_path marks count fault → MayRefuseMerge paths pieces fault
  refused count marks d (Stranger piece) are at why =
      subst (λ n. AreFine paths pieces n × IsStranger paths pieces n) (sym why.0)
      (fine count marks are, record { document = d; numbered = at; strange = why.1 })
  refused count marks d (Twice piece) are at why =
      let of = of-front pieces count d.relative_path ((are.marked why.1 d.relative_path why.2).0 why.3) in
      subst (λ n. AreFine paths pieces n × IsTwice pieces n) (sym why.0) (
        fine count marks are,
        record
            { document = d; numbered = at; earlier = of.0; other = of.1; before = of.2; stands = of.3; same = of.4 },
      )
  refused count marks d (Missing number) are at why = absurd why
  refused count marks d Memory are at why = absurd why

  -- ---- all pieces

  module _ (marks : List Bool) (are : AreMarked paths pieces (length pieces) marks) where
    whole : paths_of (take (length pieces) pieces) ≡ paths_of pieces
    whole = ap paths_of (take_all (length pieces) pieces (omega arith))

    pub first-missing : (number : ℕ) → position (λ mark. not mark) marks ≡ Some number
        → AreFine paths pieces (length pieces) × IsFirstMissing paths pieces number
    first-missing number found =
        let clear = position-Some (λ mark. not mark) marks number false found in
        let path = item_at paths number (omega (arith, clear.0, are.size)) in (
          fine (length pieces) marks are,
          record {
            missing = record {
              path = path.0;
              numbered = path.1;
              missing = λ there.
                  let on : get_or marks number false ≡ true =
                  (are.marked number path.0 path.1).1
                  (subst (λ (l : List (List ℕ)). Contains l path.0) (sym whole) there) in
                  let bad : not (get_or marks number false) ≡ false = ap not on in
                  false≢true (sym bad ∙ clear.1);
            };
            least = λ other less missing.
                let off = clear.2 other less in
                let on : get_or marks other false ≡ true = not-false (get_or marks other false) off in
                missing.missing (subst (λ (l : List (List ℕ)). Contains l missing.path) whole
                ((are.marked other missing.path missing.numbered).0 on));
          },
        )

    module _ (all : position (λ mark. not mark) marks ≡ None) where
      all-in : (path : List ℕ) → Contains paths path → Contains (paths_of pieces) path
      all-in path there =
          let at : slice_get paths there.0 ≡ Some path =
          slice_get-get_or paths there.0 path there.1 ∙ ap (λ (p : List ℕ). Some p) there.2 in
          let on = not-false (get_or marks there.0 false)
          (position-none (λ mark. not mark) marks all there.0 false (omega (arith, there.1, are.size))) in
          subst (λ (l : List (List ℕ)). Contains l path) whole ((are.marked there.0 path at).0 on)

      known-in : (path : List ℕ) → Contains (paths_of pieces) path → Contains paths path
      known-in path there =
          let of = of-front pieces (length pieces) path
          (subst (λ (l : List (List ℕ)). Contains l path) (sym whole) there) in
          subst (Contains paths) of.4 (are.known of.0 of.1 of.2 of.3)

      pieces-differ : IsDistinct (eq_by_cmp document_cmp) pieces
      pieces-differ = IsDistinct-from_apart (eq_by_cmp document_cmp) pieces
          (λ i j d less within. elim (cases_Bool (eq_by_cmp document_cmp (get_or pieces i d) (get_or pieces j d))) [
            | inr unlike ↦ unlike
            | inl same ↦ absurd (are.alone i j (get_or pieces i d) (get_or pieces j d) less within
                (slice_get-get_or pieces i d (omega (arith, less, within))) (slice_get-get_or pieces j d within)
                (exact_bytes (get_or pieces i d).relative_path (get_or pieces j d).relative_path
                ((Equal-is (document_cmp (get_or pieces i d) (get_or pieces j d))).0 same)))
          ])

      pub merged : (sorted : List Document) → IsPermutation pieces sorted → IsSorted document_cmp sorted
          → AreMerged paths pieces sorted
      merged sorted moved up =
          let path-of = λ (d : Document). d.relative_path in
          let moved-paths = IsPermutation-map path-of pieces sorted moved in
          let strictly = rises documents_total sorted up
          (IsDistinct-IsPermutation (eq_by_cmp document_cmp)
          (eq_by_cmp_equiv documents_total).symm pieces sorted moved pieces-differ) in
          record {
            same = moved;
            in_order = one-ascending nat_list_cmp_total (paths_of sorted) paths
                (keys-ascend path-of (slice_cmp nat_cmp) sorted strictly) rising
                (λ z there. known-in z (Contains-permutation (paths_of sorted) (paths_of pieces) z
                (IsPermutation-sym (paths_of pieces) (paths_of sorted) moved-paths) there))
                (λ z there. Contains-permutation (paths_of pieces) (paths_of sorted) z moved-paths (all-in z there));
          }
