-- The items of the files of a row, in order of place.
use Rattle.std.proofs.Common.{◌≡◌, ◌↔◌, inl, inr, ℕ, ◌+◌, ◌-◌, ◌<◌, ◌≤◌, zero, List, [], ◌∷◌, ◌++◌, length, get_or, map}
use Rattle.std.proofs.Common.{Some, refl, ap, sym, ◌∙◌, subst, arith}
use Rattle.std.specs.List.{Contains, slice_get}
use Rattle.std.specs.List.Sorted.{IsStrictlyIncreasing}
use Rattle.std.proofs.lemmas.Bool.{cases_lt}
use Rattle.std.proofs.lemmas.Option.{slice_get-get_or, slice_get_within, get_or_from_slice_get, same_Some}
use Rattle.std.proofs.lemmas.List.{length-append, length_push, get_or_push, get_or_default, get_or-append_right}
use Rattle.std.proofs.lemmas.List.Elements.{Contains-append_left, Contains-append_right, Contains-append_cases}
use Rattle.std.proofs.lemmas.List.Elements.{Contains-get_or}
use Rattle.std.proofs.lemmas.Map.Keys.{sorted_from_strictly_increasing, below_from_sorted}
use Rattle.basics.proofs.ListLemmas.{only}
use Rattle.proto_decl.specs.Facts.{Facts}
use Rattle.proto_decl.specs.declared.declaration.Declaration.{Declaration}
use Rattle.proto_visibility.specs.Files.{File, HasFacts}
use Rattle.proto_visibility.specs.Reaches.{IsReachable}
use Rattle.proto_visibility.specs.Clashes.{Item, IsItem, IsItemBy, BeforeBy}
use Rattle.proto_visibility.specs.Clashes.IsItemBy.{declared, packaged}
use Rattle.proto_visibility.specs.Tables.ClashTables.{AreInPlace, AreInPlaceBy}
use Rattle.proto_visibility.specs.Tables.FileItems.{ArePrefixes, declared_item, IsItemOf, IsItemIn, package_name_of}
use Rattle.proto_visibility.proofs.SeeingLemmas.{slice_get_prefix}
use Rattle.proto_visibility.proofs.ItemLemmas.{file_of_item}
use Rattle.basics.proofs.FirstLemmas.{contained}

-- ---- prefixes

-- those of the first files
abbrev pub ArePrefixesUpTo : List File → List (List (List ℕ)) → Type 0
ArePrefixesUpTo files prefixes = (number : ℕ) (file : File) (its : List (List ℕ)) → slice_get files number ≡ Some file
    → slice_get prefixes number ≡ Some its → ArePrefixes (package_name_of file) its

one_List : (a b : List (List ℕ)) → Some a ≡ Some b → a ≡ b
one_List a b e = cc

pub slice_get_last : {X : Type 0} (xs : List X) (x : X) (k : ℕ) → k ≡ length xs → slice_get (xs ++ x ∷ []) k ≡ Some x
slice_get_last xs x k is =
    slice_get-get_or (xs ++ x ∷ []) k x (omega (arith, length_push xs x)) ∙ ap Some (get_or_push xs x x k (sym is))

-- ---- items

-- the items of the first so many files of the row
abbrev pub AreItemsUpTo : List File → (row : List ℕ) → (count : ℕ) → List Item → Type 0
AreItemsUpTo files row count items = (item : Item) → Contains items item
    ↔ ((k : ℕ) × (file : File) × (k < count) × (slice_get files (get_or row k 0) ≡ Some file)
    × IsItemIn (get_or row k 0) file item)

slice_get_behind : {X : Type 0} (xs ys : List X) (k : ℕ) (y : X) → length xs ≤ k → slice_get (xs ++ ys) k ≡ Some y
    → slice_get ys (k - length xs) ≡ Some y
slice_get_behind xs ys k y h stands =
    let within = slice_get_within (xs ++ ys) k y stands in
    let size = length-append xs ys in
    slice_get-get_or ys (k - length xs) y (omega arith)
    ∙ ap Some (sym (get_or-append_right xs ys (length xs) k y refl h)
    ∙ get_or_from_slice_get (xs ++ ys) k y y stands)

-- two lists of which the second is of later files
pub in_place_both : (Earlier : ℕ → ℕ → Type 0) (xs ys : List Item) → AreInPlaceBy Earlier xs → AreInPlaceBy Earlier ys
    → ((a b : Item) → Contains xs a → Contains ys b → BeforeBy Earlier a.place b.place)
    → AreInPlaceBy Earlier (xs ++ ys)
in_place_both Earlier xs ys first second across j k a b less at there = elim (cases_lt k (length xs)) [
  | inl k_front ↦ first j k a b less (sym (slice_get_prefix xs ys j (omega arith)) ∙ at)
      (sym (slice_get_prefix xs ys k k_front) ∙ there)
  | inr k_behind ↦ (
      let b_at = slice_get_behind xs ys k b k_behind there in
      elim (cases_lt j (length xs)) [
        | inl j_front ↦ across a b (contained xs j a (sym (slice_get_prefix xs ys j j_front) ∙ at))
            (contained ys (k - length xs) b b_at)
        | inr j_behind ↦ second (j - length xs) (k - length xs) a b (omega arith)
            (slice_get_behind xs ys j a j_behind at) b_at
      ])
]

file_of : (number : ℕ) (file : File) (item : Item) → IsItemIn number file item → item.place.file ≡ number
file_of number file item is = file_of_item number is.0 item is.2

pub declared_to : (number : ℕ) (d : Declaration) (declarations : List Declaration) → Contains declarations d
    → Contains (map (declared_item number) declarations) (declared_item number d)
declared_to number d [] there = absurd (omega (arith, there.1))
declared_to number d (e ∷ es) there = elim (Contains-append_cases (e ∷ []) es d there) [
  | inl one ↦ subst (λ x. Contains (map (declared_item number) (e ∷ es)) (declared_item number x)) (only e d one)
      (Contains-append_left (declared_item number e ∷ []) (map (declared_item number) es) (declared_item number e)
      (zero, omega arith, refl))
  | inr other ↦ Contains-append_right (declared_item number e ∷ []) (map (declared_item number) es)
      (declared_item number d) (declared_to number d es other)
]

module _ (files : List File) (row : List ℕ) where
  -- the items of one more file of the row
  pub items_more : (count : ℕ) (number : ℕ) (file : File) (items more : List Item) → number ≡ get_or row count 0
      → slice_get files number ≡ Some file
      → ((item : Item) → Contains more item ↔ IsItemIn number file item) → AreItemsUpTo files row count items
      → AreItemsUpTo files row (count + 1) (items ++ more)
  items_more count number file items more is stands its so_far item = (
    λ there. elim (Contains-append_cases items more item there) [
      | inl before ↦ (let at = (so_far item).0 before in (at.0, at.1, omega (arith, at.2), at.3, at.4))
      | inr here ↦ (
        count,
        file,
        omega arith,
        subst (λ n. slice_get files n ≡ Some file) is stands,
        subst (λ n. IsItemIn n file item) is ((its item).0 here),
      )
    ],
    λ at. elim (cases_lt at.0 count) [
      | inl before ↦ Contains-append_left items more item ((so_far item).1 (at.0, at.1, before, at.3, at.4))
      | inr last ↦ (
          let here : at.0 ≡ count = omega (arith, at.2) in
          let same : get_or row at.0 0 ≡ number = ap (λ n. get_or row n 0) here ∙ sym is in
          let one : at.1 ≡ file = same_Some at.1 file (sym at.3 ∙ (ap (slice_get files) same ∙ stands)) in
          Contains-append_right items more item
          ((its item).1 (subst (λ n. IsItemIn n file item) same
          (subst (λ f. IsItemIn (get_or row at.0 0) f item) one at.4))))
    ],
  )

  pub order_more : (count : ℕ) (number : ℕ) (file : File) (items more : List Item) → IsStrictlyIncreasing row
      → count < length row → number ≡ get_or row count 0
      → ((item : Item) → Contains more item ↔ IsItemIn number file item) → AreItemsUpTo files row count items
      → AreInPlace items → AreInPlace more → AreInPlace (items ++ more)
  order_more count number file items more rises within is its so_far first second =
      in_place_both (λ n other. n < other) items more first second (λ a b there here.
      let at = (so_far a).0 there in
      let a_file = file_of (get_or row at.0 0) at.1 a at.4 in
      let b_file = file_of number file b ((its b).0 here) in
      let below = below_from_sorted row at.0 count 0 (sorted_from_strictly_increasing row rises) at.2 within in
      inl (omega arith))

  declared_from : (number : ℕ) (facts : Facts) (item : Item) → Contains row number → HasFacts files number facts
      → (declarations : List Declaration) → ((d : Declaration) → Contains declarations d → Contains facts.declarations d)
      → Contains (map (declared_item number) declarations) item → IsItemBy files (Contains row) item
  declared_from number facts item counts has [] all there = absurd (omega (arith, there.1))
  declared_from number facts item counts has (d ∷ ds) all there =
      elim (Contains-append_cases (declared_item number d ∷ []) (map (declared_item number) ds) item there) [
        | inl one ↦ subst (IsItemBy files (Contains row)) (only (declared_item number d) item one)
            (declared counts has (all d (Contains-append_left (d ∷ []) ds d (zero, omega arith, refl))))
        | inr other ↦ declared_from number facts item counts has ds
            (λ e h. all e (Contains-append_right (d ∷ []) ds e h)) other
      ]

  pub from_file : (number : ℕ) (facts : Facts) (item : Item) → Contains row number → HasFacts files number facts
      → IsItemOf number facts item → IsItemBy files (Contains row) item
  from_file number facts item counts has (inl there) =
      declared_from number facts item counts has facts.declarations (λ d h. h) there
  from_file number facts item counts has (inr its) =
      subst (IsItemBy files (Contains row)) (sym its.4) (packaged its.0 counts has its.3)

  pub to_file : (item : Item) → IsItemBy files (Contains row) item
      → (number : ℕ) × (facts : Facts) × Contains row number × HasFacts files number facts × IsItemOf number facts item
  to_file item (declared {number = number} {facts = facts} {declaration = d} counts has listed) =
      (number, facts, counts, has, inl (declared_to number d facts.declarations listed))
  to_file item (packaged {number = number} {facts = facts} {component = component} index counts has stands) = (
    number,
    facts,
    counts,
    has,
    inr (index, component, slice_get_within facts.package_name index component stands, stands, refl),
  )

  pub items_all : (count : ℕ) (items : List Item) → length row ≤ count → (count ≤ length row)
      → AreItemsUpTo files row count items → (item : Item) → Contains items item ↔ IsItemBy files (Contains row) item
  items_all count items all upto so_far item = (
    λ there.
        let at = (so_far item).0 there in
        from_file (get_or row at.0 0) at.4.0 item (Contains-get_or row at.0 0 (omega (arith, at.2)))
        (record { file = at.1; numbered = at.3; known = at.4.1 }) at.4.2,
    λ is.
        let f = to_file item is in
        let same : get_or row f.2.0 0 ≡ f.0 = get_or_default row f.2.0 0 f.0 f.2.1 ∙ f.2.2 in
        (so_far item).1 (
          f.2.0,
          f.3.file,
          omega (arith, f.2.1),
          ap (slice_get files) same ∙ f.3.numbered,
          (f.1, f.3.known, subst (λ n. IsItemOf n f.1 item) (sym same) f.4),
        ),
  )

-- ---- the same items by another word

pub item_counts : {files : List File} {C D : ℕ → Type 0} (item : Item) → (C item.place.file → D item.place.file)
    → IsItemBy files C item → IsItemBy files D item
item_counts _ counts_too (declared counts has listed) = declared (counts_too counts) has listed
item_counts _ counts_too (packaged index counts has stands) = packaged index (counts_too counts) has stands

pub counts_of : {files : List File} {C : ℕ → Type 0} (item : Item) → IsItemBy files C item → C item.place.file
counts_of _ (declared counts has listed) = counts
counts_of _ (packaged index counts has stands) = counts

pub file_within : {files : List File} {C : ℕ → Type 0} (item : Item) → IsItemBy files C item
    → item.place.file < length files
file_within {files} _ (declared {number = number} counts has listed) =
    slice_get_within files number has.file has.numbered
file_within {files} _ (packaged {number = number} index counts has stands) =
    slice_get_within files number has.file has.numbered

pub same_items : (files : List File) (row : List ℕ)
    → ((number : ℕ) → Contains row number ↔ IsReachable files number)
    → (item : Item) → IsItemBy files (Contains row) item ↔ IsItem files item
same_items files row reachable item =
    (item_counts item (reachable item.place.file).0, item_counts item (reachable item.place.file).1)

-- ---- the items of one file

pub in_file : (number : ℕ) (file : File) (facts : Facts) (items : List Item) → file.facts ≡ Some facts
    → ((item : Item) → Contains items item ↔ IsItemOf number facts item) → (item : Item) → Contains items item
    ↔ IsItemIn number file item
in_file number file facts items known its item = (
  λ there. (facts, known, (its item).0 there),
  λ is. (its item).1 (subst (λ f. IsItemOf number f item) (same_Some is.0 facts (sym is.1 ∙ known)) is.2),
)
