-- The items of one file, in order of place.
use Rattle.std.proofs.Common.{◌≡◌, ◌↔◌, ◌⊎◌, inl, inr, ℕ, ◌+◌, ◌<◌, ◌≤◌, false, suc, List, [], ◌∷◌, ◌++◌, length}
use Rattle.std.proofs.Common.{get_or, take, map, eqb, Some, refl, ap, sym, ◌∙◌, subst, arith}
use Rattle.std.specs.List.{Contains, slice_get, join_with_byte, IsDistinct, AllByRecursion}
use Rattle.std.specs.Option.{option_map}
use Rattle.std.specs.List.Sorted.{IsPermutation, IsNonDecreasingBy}
use Rattle.std.proofs.lemmas.Bool.{cases_lt, ne_eqb, eqb-false}
use Rattle.std.proofs.lemmas.Option.{slice_get-get_or, slice_get_within, slice_get-map, get_or_from_slice_get}
use Rattle.std.proofs.lemmas.List.{append_assoc, take_more, take_all, map-append, length-map, length_push, get_or_push}
use Rattle.std.proofs.lemmas.List.Elements.{Contains-push, Contains-push_cases, Contains-append_left}
use Rattle.std.proofs.lemmas.List.Elements.{Contains-append_cases}
use Rattle.std.proofs.lemmas.List.Sorted.{IsPermutation-append_right, IsPermutation-append_comm, IsPermutation-map}
use Rattle.std.proofs.lemmas.List.Sorted.{IsPermutation-sym, Contains-permutation}
use Rattle.std.proofs.lemmas.Map.Keys.{IsDistinct-cons, IsDistinct-IsPermutation, apart_from_distinct}
use Rattle.std.proofs.lemmas.Option.{same_Some}
use Rattle.basics.proofs.ListLemmas.{only}
use Rattle.proto_lex.specs.declared.span.Span.{Span}
use Rattle.proto_lex.specs.Lexed.{AreInOrder}
use Rattle.proto_decl.specs.Names.{dotted, package_of}
use Rattle.proto_decl.specs.Facts.{Facts, PackageInOrder, component_spans, name_spans}
use Rattle.proto_decl.specs.declared.uses.Component.{Component}
use Rattle.proto_decl.specs.declared.declaration.Declaration.{Declaration}
use Rattle.proto_decl.proofs.CommentTextLemmas.{join_with_byte-push}
use Rattle.proto_visibility.specs.Clashes.{Item}
use Rattle.proto_visibility.specs.Tables.ClashTables.{AreInPlace}
use Rattle.proto_visibility.specs.Tables.FileItems.{declared_item, packaged_item, IsPackaged, IsItemOf, starts_of}
use Rattle.proto_visibility.specs.Tables.FileItems.{AreOfFile, AreWithPackage}
use Rattle.proto_visibility.proofs.RowRisingLemmas.{flips}
use Rattle.proto_visibility.proofs.SeeingLemmas.{slice_get_prefix}

-- ---- prefixes

one_List : (a b : List ℕ) → Some a ≡ Some b → a ≡ b
one_List a b e = cc

-- the prefix of the first component, and of so many others
pub joined_more : (first x : Component) (others : List Component) (i : ℕ) (old new : List ℕ) → i < length others
    → x ≡ get_or others i x
    → old ≡ dotted (map (λ c. c.name) (first ∷ take i others)) → new ≡ (old ++ 46 ∷ []) ++ x.name
    → new ≡ dotted (map (λ c. c.name) (first ∷ take (i + 1) others))
joined_more first x others i old new h at so_far pushed =
    let more : map (λ c. c.name) (take (i + 1) others) ≡ map (λ c. c.name) (take i others) ++ x.name ∷ [] =
    ap (map (λ c. c.name)) (take_more others i x h ∙ ap (λ y. take i others ++ y ∷ []) (sym at))
    ∙ map-append (λ c. c.name) (take i others) (x ∷ []) in
    pushed ∙ (append_assoc old (46 ∷ []) x.name
    ∙ (ap (λ t. t ++ (46 ∷ x.name)) so_far
    ∙ (sym (join_with_byte-push 46 first.name x.name (map (λ c. c.name) (take i others)))
    ∙ ap (λ ts. join_with_byte 46 (first.name ∷ ts)) (sym more))))

pub prefix_first : (first : Component) (others : List Component) (k : ℕ)
    → package_of (first ∷ others) (k + 1) ≡ dotted (map (λ c. c.name) (first ∷ take k others))
prefix_first first others k = let e : k + 1 ≡ suc k = omega arith in ap (package_of (first ∷ others)) e

-- the prefixes of so many components
abbrev pub ArePrefixesOf : List Component → List (List ℕ) → (count : ℕ) → Type 0
ArePrefixesOf components prefixes count =
    (length prefixes ≡ count)
    × ((index : ℕ) (prefix : List ℕ) → slice_get prefixes index ≡ Some prefix
    → prefix ≡ package_of components (index + 1))

pub prefix_more : (components : List Component) (prefixes : List (List ℕ)) (count : ℕ) (prefix : List ℕ)
    → prefix ≡ package_of components (count + 1) → ArePrefixesOf components prefixes count
    → ArePrefixesOf components (prefixes ++ prefix ∷ []) (count + 1)
prefix_more components prefixes count prefix is so_far = (
  length_push prefixes prefix ∙ ap (λ n. n + 1) so_far.0,
  λ index one stands. elim (cases_lt index count) [
    | inl before ↦ so_far.1 index one
        (sym (slice_get_prefix prefixes (prefix ∷ []) index (omega (arith, so_far.0))) ∙ stands)
    | inr last ↦ (
        let within = slice_get_within (prefixes ++ prefix ∷ []) index one stands in
        let here : index ≡ count = omega (arith, length_push prefixes prefix, so_far.0) in
        let at : slice_get (prefixes ++ prefix ∷ []) index ≡ Some prefix =
        slice_get-get_or (prefixes ++ prefix ∷ []) index prefix within
        ∙ ap Some (get_or_push prefixes prefix prefix index (so_far.0 ∙ sym here)) in
        let same : one ≡ prefix = one_List one prefix (sym stands ∙ at) in
        same ∙ (is ∙ ap (λ n. package_of components (n + 1)) (sym here)))
  ],
)

-- ---- the package's components

-- the items, and those of the first so many components behind them
pub record AreWithFirst (number : ℕ) (components : List Component) (old new : List Item) (count : ℕ) : Type 0 where
  pub starts : starts_of new ≡ starts_of old ++ map (λ component. component.span.start) (take count components)
  pub of_file : AreOfFile number old → AreOfFile number new
  pub each : (item : Item) → Contains new item ↔ (Contains old item ⊎ IsPackaged number components count item)

of_file_more : (number : ℕ) (items : List Item) (item : Item) → item.place.file ≡ number → AreOfFile number items
    → AreOfFile number (items ++ item ∷ [])
of_file_more number items item is all index one stands = elim (cases_lt index (length items)) [
  | inl before ↦ all index one (sym (slice_get_prefix items (item ∷ []) index before) ∙ stands)
  | inr last ↦ (
      let within = slice_get_within (items ++ item ∷ []) index one stands in
      let here : index ≡ length items = omega (arith, length_push items item) in
      let at : slice_get (items ++ item ∷ []) index ≡ Some item =
      slice_get-get_or (items ++ item ∷ []) index item within
      ∙ ap Some (get_or_push items item item index (sym here)) in
      ap (λ (x : Item). x.place.file) (same_Some one item (sym stands ∙ at)) ∙ is)
]

pub with_more : (number : ℕ) (components : List Component) (old now : List Item) (count : ℕ) (component : Component)
    (item : Item) → count < length components → component ≡ get_or components count component
    → slice_get components count ≡ Some component
    → item ≡ packaged_item number components count component → AreWithFirst number components old now count
    → AreWithFirst number components old (now ++ item ∷ []) (count + 1)
with_more number components old now count component item within at stands is so_far = record {
  starts = map-append (λ (x : Item). x.place.span.start) now (item ∷ [])
      ∙ (ap (λ xs. xs ++ item.place.span.start ∷ []) so_far.starts
      ∙ (append_assoc (starts_of old) (map (λ c. c.span.start) (take count components)) (item.place.span.start ∷ [])
      ∙ ap (λ xs. starts_of old ++ xs)
      (ap (λ n. map (λ c. c.span.start) (take count components) ++ n ∷ []) (ap (λ (x : Item). x.place.span.start) is)
      ∙ (sym (map-append (λ c. c.span.start) (take count components) (component ∷ []))
      ∙ ap (map (λ c. c.span.start))
      (sym (take_more components count component within ∙ ap (λ y. take count components ++ y ∷ []) (sym at)))))));
  of_file = λ all. of_file_more number now item (ap (λ (x : Item). x.place.file) is) (so_far.of_file all);
  each = λ one. (
    λ there. elim (Contains-push_cases now item one there) [
      | inl before ↦ elim ((so_far.each one).0 before) [
        | inl first ↦ inl first
        | inr packaged ↦ inr
            (packaged.0, packaged.1, omega (arith, packaged.2), packaged.3, packaged.4)
      ]
      | inr last ↦ inr (count, component, omega arith, stands, sym last ∙ is)
    ],
    λ those. elim those [
      | inl first ↦ Contains-append_left now (item ∷ []) one ((so_far.each one).1 (inl first))
      | inr packaged ↦ elim (cases_lt packaged.0 count) [
        | inl before ↦ Contains-append_left now (item ∷ []) one
            ((so_far.each one).1 (inr (packaged.0, packaged.1, before, packaged.3, packaged.4)))
        | inr later ↦ (
            let here : packaged.0 ≡ count = omega (arith, packaged.2) in
            let same : packaged.1 ≡ component =
            same_Some packaged.1 component (sym packaged.3 ∙ (ap (slice_get components) here ∙ stands)) in
            let equal : one ≡ item =
            packaged.4 ∙ (ap (λ n. packaged_item number components n packaged.1) here
            ∙ (ap (packaged_item number components count) same ∙ sym is)) in
            subst (Contains (now ++ item ∷ [])) (sym equal) (Contains-push now item))
      ]
    ],
  );
}

pub with_all : (number : ℕ) (components : List Component) (old new : List Item) (count : ℕ) → count ≡ length components
    → AreWithFirst number components old new count → AreWithPackage number components old new
with_all number components old new count size so_far = record {
  starts = so_far.starts ∙ ap (λ cs. starts_of old ++ map (λ component. component.span.start) cs)
      (take_all count components (omega arith));
  of_file = so_far.of_file;
  each = subst (λ n. (item : Item) → Contains new item ↔ (Contains old item ⊎ IsPackaged number components n item)) size
      so_far.each;
}

-- ---- the items of a file in order

differ : (start place : ℕ) (spans : List Span) → start < place → AreInOrder place spans
    → AllByRecursion (λ other. eqb start other ≡ false) (map (λ span. span.start) spans)
differ start place [] h order = tt
differ start place (span ∷ spans) h order = (
  ne_eqb start span.start (λ e. omega (arith, order.0)),
  differ start span.end spans (omega (arith, order.0, order.1)) order.2,
)

distinct_none : IsDistinct eqb []
unfolding IsDistinct
distinct_none = tt

distinct_starts : (place : ℕ) (spans : List Span) → AreInOrder place spans
    → IsDistinct eqb (map (λ span. span.start) spans)
distinct_starts place [] order = distinct_none
distinct_starts place (span ∷ spans) order =
    IsDistinct-cons eqb span.start (map (λ span. span.start) spans) (differ span.start span.end spans order.1 order.2)
    (distinct_starts span.end spans order.2)

starts_of_declared : (number : ℕ) (declarations : List Declaration)
    → starts_of (map (declared_item number) declarations) ≡ map (λ span. span.start) (name_spans declarations)
starts_of_declared number [] = refl
starts_of_declared number (declaration ∷ declarations) =
    ap (λ xs. declaration.name.start ∷ xs) (starts_of_declared number declarations)

starts_of_components : (components : List Component)
    → map (λ component. component.span.start) components ≡ map (λ span. span.start) (component_spans components)
starts_of_components [] = refl
starts_of_components (component ∷ components) = ap (λ xs. component.span.start ∷ xs) (starts_of_components components)

distinct_of_file : (facts : Facts) → PackageInOrder facts
    → IsDistinct eqb (map (λ span. span.start) (name_spans facts.declarations)
    ++ map (λ span. span.start) (component_spans facts.package_name))
distinct_of_file facts order =
    let f : Span → ℕ = λ span. span.start in
    let a = map f (name_spans order.before) in
    let b = map f (name_spans order.behind) in
    let c = map f (component_spans facts.package_name) in
    let whole : IsDistinct eqb
    (map f (name_spans order.before ++ (component_spans facts.package_name ++ name_spans order.behind))) =
    distinct_starts 0 (name_spans order.before ++ (component_spans facts.package_name ++ name_spans order.behind))
    order.in_order in
    let parts : map f (name_spans order.before ++ (component_spans facts.package_name ++ name_spans order.behind))
    ≡ a ++ (c ++ b) = map-append f (name_spans order.before)
    (component_spans facts.package_name ++ name_spans order.behind)
    ∙ ap (λ xs. a ++ xs) (map-append f (component_spans facts.package_name) (name_spans order.behind)) in
    let moved : IsDistinct eqb (a ++ (b ++ c)) =
    IsDistinct-IsPermutation eqb flips (a ++ (c ++ b)) (a ++ (b ++ c))
    (IsPermutation-append_right a (c ++ b) (b ++ c) (IsPermutation-append_comm c b))
    (subst (IsDistinct eqb) parts whole) in
    let declared : map f (name_spans facts.declarations) ≡ a ++ b =
    ap (λ ds. map f (name_spans ds)) order.split
    ∙ (ap (map f) (map-append (λ declaration. declaration.name) order.before order.behind)
    ∙ map-append f (name_spans order.before) (name_spans order.behind)) in
    subst (IsDistinct eqb) (sym (ap (λ xs. xs ++ c) declared ∙ append_assoc a b c)) moved

pub file_of_item : (number : ℕ) (facts : Facts) (item : Item) → IsItemOf number facts item → item.place.file ≡ number
file_of_item number facts item (inl there) = declared_file facts.declarations there
  where
    declared_file : (declarations : List Declaration) → Contains (map (declared_item number) declarations) item
        → item.place.file ≡ number
    declared_file [] h = absurd (omega (arith, h.1))
    declared_file (d ∷ ds) h =
        elim (Contains-append_cases (declared_item number d ∷ []) (map (declared_item number) ds) item h) [
          | inl one ↦ ap (λ (x : Item). x.place.file) (sym (only (declared_item number d) item one))
          | inr other ↦ declared_file ds other
        ]
file_of_item number facts item (inr packaged) = ap (λ (x : Item). x.place.file) packaged.4

module _ (number : ℕ) (facts : Facts) (declared all sorted : List Item)
    (are : declared ≡ map (declared_item number) facts.declarations)
    (with_package : AreWithPackage number facts.package_name declared all) (moved : IsPermutation all sorted) where
  pub same_items : (item : Item) → Contains sorted item ↔ IsItemOf number facts item
  same_items item = (
    λ there. elim ((with_package.each item).0
        (Contains-permutation sorted all item (IsPermutation-sym all sorted moved) there)) [
          | inl first ↦ inl (subst (λ xs. Contains xs item) are first)
          | inr packaged ↦ inr packaged
        ],
    λ is. Contains-permutation all sorted item moved ((with_package.each item).1 (elim is [
      | inl first ↦ inl (subst (λ xs. Contains xs item) (sym are) first)
      | inr packaged ↦ inr packaged
    ])),
  )

  pub in_place : PackageInOrder facts → IsNonDecreasingBy (λ (item : Item). item.place.span.start) sorted
      → AreInPlace sorted
  in_place order rises j k a b less at there =
      let starts_are : starts_of all
      ≡ map (λ span. span.start) (name_spans facts.declarations)
      ++ map (λ span. span.start) (component_spans facts.package_name) =
      with_package.starts ∙ (ap (λ xs. starts_of xs ++ map (λ component. component.span.start) facts.package_name) are
      ∙ (ap (λ xs. xs ++ map (λ component. component.span.start) facts.package_name)
      (starts_of_declared number facts.declarations)
      ∙ ap (λ xs. map (λ span. span.start) (name_spans facts.declarations) ++ xs)
      (starts_of_components facts.package_name))) in
      let distinct : IsDistinct eqb (starts_of sorted) =
      IsDistinct-IsPermutation eqb flips (starts_of all) (starts_of sorted)
      (IsPermutation-map (λ (item : Item). item.place.span.start) all sorted moved)
      (subst (IsDistinct eqb) (sym starts_are) (distinct_of_file facts order)) in
      let within = slice_get_within sorted k b there in
      let size : length (starts_of sorted) ≡ length sorted =
      length-map sorted (λ (item : Item). item.place.span.start) in
      let apart = apart_from_distinct eqb (starts_of sorted) j k 0 distinct less (omega arith) in
      let a_start : get_or (starts_of sorted) j 0 ≡ a.place.span.start =
      get_or_from_slice_get (starts_of sorted) j a.place.span.start 0
      (slice_get-map (λ (item : Item). item.place.span.start) sorted j
      ∙ ap (option_map (λ (item : Item). item.place.span.start)) at) in
      let b_start : get_or (starts_of sorted) k 0 ≡ b.place.span.start =
      get_or_from_slice_get (starts_of sorted) k b.place.span.start 0
      (slice_get-map (λ (item : Item). item.place.span.start) sorted k
      ∙ ap (option_map (λ (item : Item). item.place.span.start)) there) in
      let not_equal = eqb-false (get_or (starts_of sorted) j 0) (get_or (starts_of sorted) k 0) apart in
      let not_less = rises j k a (omega arith) within in
      let a_is : get_or sorted j a ≡ a = get_or_from_slice_get sorted j a a at in
      let b_is : get_or sorted k a ≡ b = get_or_from_slice_get sorted k b a there in
      let le : a.place.span.start ≤ b.place.span.start =
      subst (λ (x : Item). x.place.span.start ≤ b.place.span.start) a_is
      (subst (λ (y : Item). (get_or sorted j a).place.span.start ≤ y.place.span.start) b_is not_less) in
      let ne : a.place.span.start ≡ b.place.span.start → ⊥ = λ e. not_equal (a_start ∙ (e ∙ sym b_start)) in
      inr (file_at j a at ∙ sym (file_at k b there), omega arith)
    where
      file_at : (i : ℕ) (item : Item) → slice_get sorted i ≡ Some item → item.place.file ≡ number
      file_at i item stands = file_of_item number facts item
          ((same_items item).0 (
            i,
            slice_get_within sorted i item stands,
            get_or_from_slice_get sorted i item item stands,
          ))
