-- Where items and imports stand there is one, and in files without a clash a full name has one declaration.
use Rattle.std.proofs.Common.{◌≡◌, ◌⊎◌, inl, inr, ℕ, ◌+◌, ◌-◌, ◌<◌, ◌≤◌, ◌||◌, true, false, zero, suc, List, [], ◌∷◌}
use Rattle.std.proofs.Common.{◌++◌, Some, refl, ap, sym, ◌∙◌, subst, arith}
use Rattle.std.specs.List.{Contains, slice_get}
use Rattle.std.proofs.lemmas.Bool.{cases_order, or_left}
use Rattle.std.specs.Option.{option_map}
use Rattle.std.proofs.lemmas.Option.{slice_get_within, slice_get_cases, slice_get-map}
use Rattle.std.proofs.lemmas.List.Elements.{Contains-append_left, Contains-append_right}
use Rattle.std.proofs.lemmas.List.Elements.{Contains-append_cases}
use Rattle.std.proofs.Math.Bool.{or-true}
use Rattle.basics.proofs.ListLemmas.{contains_map, only}
use Rattle.proto_lex.specs.declared.span.Span.{Span}
use Rattle.proto_lex.specs.Lexed.{AreInOrder}
use Rattle.proto_decl.specs.Names.{package_of}
use Rattle.proto_decl.specs.Facts.{Facts, AreOfSomeFile, NamesInOrder, PackageInOrder, name_spans, component_spans}
use Rattle.proto_decl.specs.declared.declaration.Declaration.{Declaration}
use Rattle.proto_decl.specs.declared.uses.Component.{Component}
use Rattle.proto_visibility.specs.declared.clash.Duplicates.{Duplicates}
use Rattle.proto_visibility.specs.declared.files.FilePlace.{FilePlace}
use Rattle.proto_visibility.specs.Files.{File, HasFacts, HaveOrigins}
use Rattle.proto_visibility.specs.Clashes.{Before, BeforeBy, Item, IsItem, IsItemBy, NoClash, ShareNames}
use Rattle.proto_visibility.specs.Clashes.IsItemBy.{declared, packaged}
use Rattle.proto_link.specs.Laws.{IsDeclaredAt, HasPackage}
use Rattle.basics.proofs.FirstLemmas.{contained}
use Rattle.proto_visibility.proofs.DuplicateLemmas.{none_to, shared_turned}
use Rattle.proto_visibility.proofs.FileFactLemmas.{one_list_of_facts}

-- ---- spans in order

from_place : (place : ℕ) (spans : List Span) (span : Span) → AreInOrder place spans → Contains spans span
    → place ≤ span.start
from_place place [] span order there = absurd (omega (arith, there.1))
from_place place (first ∷ spans) span order there = elim (Contains-append_cases (first ∷ []) spans span there) [
  | inl one ↦ subst (λ (s : Span). place ≤ s.start) (only first span one) order.0
  | inr other ↦ omega (arith, order.0, order.1, from_place first.end spans span order.2 other)
]

pub one_start : (place : ℕ) (spans : List Span) (a b : Span) → AreInOrder place spans → Contains spans a
    → Contains spans b → a.start ≡ b.start → a ≡ b
one_start place [] a b order there also same = absurd (omega (arith, there.1))
one_start place (first ∷ spans) a b order there also same = elim (Contains-append_cases (first ∷ []) spans a there) [
  | inl one ↦ elim (Contains-append_cases (first ∷ []) spans b also) [
    | inl too ↦ sym (only first a one) ∙ only first b too
    | inr other ↦ absurd (omega (
      arith,
      same,
      ap (λ (s : Span). s.start) (only first a one),
      order.1,
      from_place first.end spans b order.2 other,
    ))
  ]
  | inr other ↦ elim (Contains-append_cases (first ∷ []) spans b also) [
    | inl too ↦ absurd (omega (
      arith,
      same,
      ap (λ (s : Span). s.start) (only first b too),
      order.1,
      from_place first.end spans a order.2 other,
    ))
    | inr its ↦ one_start first.end spans a b order.2 other its same
  ]
]

in_front : (place : ℕ) (xs ys : List Span) (a b : Span) → AreInOrder place (xs ++ ys) → Contains xs a → Contains ys b
    → a.start < b.start
in_front place [] ys a b order there also = absurd (omega (arith, there.1))
in_front place (x ∷ xs) ys a b order there also = elim (Contains-append_cases (x ∷ []) xs a there) [
  | inl one ↦ omega (
    arith,
    ap (λ (s : Span). s.start) (only x a one),
    order.1,
    from_place x.end (xs ++ ys) b order.2 (Contains-append_right xs ys b also),
  )
  | inr other ↦ in_front x.end xs ys a b order.2 other also
]

behind : (place : ℕ) (xs ys : List Span) → AreInOrder place (xs ++ ys) → (later : ℕ) × AreInOrder later ys
behind place [] ys order = (place, order)
behind place (x ∷ xs) ys order = behind x.end xs ys order.2

-- of spans in order one start is at one index
apart : (place : ℕ) (spans : List Span) → AreInOrder place spans → (i j : ℕ) (a b : Span) → i < j
    → slice_get spans i ≡ Some a → slice_get spans j ≡ Some b → a.start < b.start
apart place [] order i j a b less at there = absurd (omega (arith, slice_get_within {A = Span} [] i a at))
apart place (span ∷ spans) order zero zero a b less at there = absurd (omega (arith, less))
apart place (span ∷ spans) order zero (suc j) a b less at there =
    omega (
      arith,
      ap (λ (s : Span). s.start) (one_Span span a at),
      order.1,
      from_place span.end spans b order.2 (contained spans j b there),
    )
  where
    one_Span : (x y : Span) → Some x ≡ Some y → x ≡ y
    one_Span x y e = cc
apart place (span ∷ spans) order (suc i) zero a b less at there = absurd (omega (arith, less))
apart place (span ∷ spans) order (suc i) (suc j) a b less at there =
    apart span.end spans order.2 i j a b (omega (arith, less)) at there

one_index : (place : ℕ) (spans : List Span) (i j : ℕ) (a b : Span) → AreInOrder place spans → slice_get spans i ≡ Some a
    → slice_get spans j ≡ Some b → a.start ≡ b.start → i ≡ j
one_index place spans i j a b order at there same = elim (cases_order i j) [
  | inl equal ↦ equal
  | inr unequal ↦ elim unequal [
    | inl less ↦ absurd (omega (arith, same, apart place spans order i j a b less at there))
    | inr more ↦ absurd (omega (arith, same, apart place spans order j i b a more there at))
  ]
]

-- ---- declarations and components of one file

not_one_place : (facts : Facts) (d : Declaration) (component : Component) → PackageInOrder facts
    → Contains facts.declarations d → Contains facts.package_name component → d.name.start ≡ component.span.start → ⊥
not_one_place facts d component order listed there same =
    let front = name_spans order.before in
    let back = name_spans order.behind in
    let middle = component_spans facts.package_name in
    let at = contains_map (λ (x : Component). x.span) facts.package_name component there in
    elim (Contains-append_cases order.before order.behind d (subst (λ ds. Contains ds d) order.split listed)) [
      | inl before ↦ omega (
        arith,
        same,
        in_front 0 front (middle ++ back) d.name component.span order.in_order
            (contains_map (λ (x : Declaration). x.name) order.before d before)
            (Contains-append_left middle back component.span at),
      )
      | inr later ↦ (
          let rest = behind 0 front (middle ++ back) order.in_order in
          omega (
            arith,
            same,
            in_front rest.0 middle back component.span d.name rest.1 at
                (contains_map (λ (x : Declaration). x.name) order.behind d later),
          ))
    ]

one_component : (facts : Facts) (a b : Component) → PackageInOrder facts → Contains facts.package_name a
    → Contains facts.package_name b → a.span.start ≡ b.span.start → a.span ≡ b.span
one_component facts a b order there also same =
    let back = name_spans order.behind in
    let middle = component_spans facts.package_name in
    let rest = behind 0 (name_spans order.before) (middle ++ back) order.in_order in
    let in_middle : (c : Component) → Contains facts.package_name c → Contains (middle ++ back) c.span =
    λ c h. Contains-append_left middle back c.span (contains_map (λ (x : Component). x.span) facts.package_name c h)
    in
    one_start rest.0 (middle ++ back) a.span b.span rest.1 (in_middle a there) (in_middle b also) same

-- ---- places

abbrev place_at : ℕ → Span → FilePlace
place_at number span = record { file = number; span = span }

pub one_FilePlace : (a b : FilePlace) → a.file ≡ b.file → a.span ≡ b.span → a ≡ b
one_FilePlace a b file span = ap (λ n. place_at n a.span) file ∙ ap (place_at b.file) span

-- of two places neither of which is before the other
pub neither_by : (Earlier : ℕ → ℕ → Type 0) (a b : FilePlace)
    → (a.file ≡ b.file) ⊎ (Earlier a.file b.file ⊎ Earlier b.file a.file)
    → (BeforeBy Earlier a b → ⊥) → (BeforeBy Earlier b a → ⊥) → (a.file ≡ b.file) × (a.span.start ≡ b.span.start)
neither_by Earlier a b files not nor = elim files [
  | inl same ↦ elim (cases_order a.span.start b.span.start) [
    | inl one ↦ (same, one)
    | inr unequal ↦ elim unequal
        [ inl less ↦ absurd (not (inr (same, less))) | inr more ↦ absurd (nor (inr (sym same, more))) ]
  ]
  | inr unequal ↦ elim unequal [ inl less ↦ absurd (not (inl less)) | inr more ↦ absurd (nor (inl more)) ]
]

pub neither : (a b : FilePlace) → (Before a b → ⊥) → (Before b a → ⊥)
    → (a.file ≡ b.file) × (a.span.start ≡ b.span.start)
neither a b not nor = neither_by (λ number other. number < other) a b (cases_order a.file b.file) not nor

-- ---- the files

module _ (files : List File) (origins : HaveOrigins files)
    (names : (facts : Facts) → AreOfSomeFile facts → NamesInOrder facts.declarations)
    (packages : (facts : Facts) → AreOfSomeFile facts → PackageInOrder facts) where
  facts_there : {number other : ℕ} {facts its : Facts} → HasFacts files number facts → HasFacts files other its
      → number ≡ other → facts ≡ its
  facts_there {number} {other} {facts} {its} has also same =
      one_list_of_facts files other facts its (subst (λ n. HasFacts files n facts) same has) also

  declared_place : {number other : ℕ} {facts its : Facts} {d e : Declaration} → HasFacts files number facts
      → HasFacts files other its → Contains facts.declarations d → Contains its.declarations e
      → number ≡ other → d.name.start ≡ e.name.start → d.name ≡ e.name
  declared_place {number} {other} {facts} {its} {d} {e} has also listed there same start =
      one_start 0 (name_spans its.declarations) d.name e.name (names its (origins other its also))
      (contains_map (λ (x : Declaration). x.name) its.declarations d
      (subst (λ (f : Facts). Contains f.declarations d) (facts_there has also same) listed))
      (contains_map (λ (x : Declaration). x.name) its.declarations e there) start

  packaged_place : {number other : ℕ} {facts its : Facts} {c d : Component} → HasFacts files number facts
      → HasFacts files other its → Contains facts.package_name c → Contains its.package_name d
      → number ≡ other → c.span.start ≡ d.span.start → c.span ≡ d.span
  packaged_place {number} {other} {facts} {its} {c} {d} has also listed there same start =
      one_component its c d (packages its (origins other its also))
      (subst (λ (f : Facts). Contains f.package_name c) (facts_there has also same) listed) there start

  mixed_place : {number other : ℕ} {facts its : Facts} {d : Declaration} {c : Component} → HasFacts files number facts
      → HasFacts files other its → Contains facts.declarations d → Contains its.package_name c
      → number ≡ other → d.name.start ≡ c.span.start → ⊥
  mixed_place {number} {other} {facts} {its} {d} {c} has also listed there same start =
      not_one_place its d c (packages its (origins other its also))
      (subst (λ (f : Facts). Contains f.declarations d) (facts_there has also same) listed) there start

  pub one_place : {C D : ℕ → Type 0} {a b : Item} → IsItemBy files C a → IsItemBy files D b
      → a.place.file ≡ b.place.file → a.place.span.start ≡ b.place.span.start → a.place ≡ b.place
  one_place (declared is_reachable has listed) (declared also its there) file start =
      one_FilePlace _ _ file (declared_place has its listed there file start)
  one_place (declared is_reachable has listed)
      (packaged {facts = facts} {component = component} index also its stands) file start =
      absurd (mixed_place has its listed (contained facts.package_name index component stands) file start)
  one_place (packaged {facts = facts} {component = component} index is_reachable has stands)
      (declared also its there) file start =
      absurd (mixed_place its has there (contained facts.package_name index component stands) (sym file) (sym start))
  one_place (packaged {facts = facts} {component = component} index is_reachable has stands)
      (packaged {facts = others} {component = other} place also its there) file start =
      one_FilePlace _ _ file (packaged_place has its (contained facts.package_name index component stands)
      (contained others.package_name place other there) file start)

  same_place : (duplicates : Duplicates) → NoClash duplicates files → (a b : Item)
      → ShareNames duplicates a.place.file b.place.file → IsItem files a → IsItem files b → a.full_name ≡ b.full_name
      → a.is_declaration ≡ true → (a.place.file ≡ b.place.file) × (a.place.span.start ≡ b.place.span.start)
  same_place duplicates clear a b can is also named declares = neither a.place b.place
      (λ before. none_to duplicates files clear a b can (record {
        first_is = is;
        second_is = also;
        ordered = before;
        one_name = named;
        declares = or_left a.is_declaration b.is_declaration declares;
      }))
      (λ before. none_to duplicates files clear b a (shared_turned duplicates a.place.file b.place.file can) (record {
        first_is = also;
        second_is = is;
        ordered = before;
        one_name = sym named;
        declares = ap (λ d. b.is_declaration || d) declares ∙ or-true b.is_declaration;
      }))

  item_of : (number index : ℕ) (d : Declaration) (at : IsDeclaredAt files number index d)
      → IsItem files (record {
        place = record { file = number; span = d.name };
        full_name = d.full_name;
        is_declaration = true;
      })
  item_of number index d at = declared at.is_reachable at.known (contained at.facts.declarations index d at.stands)

  name_at : (ds : List Declaration) (index : ℕ) (d : Declaration) → slice_get ds index ≡ Some d
      → slice_get (name_spans ds) index ≡ Some d.name
  name_at ds index d at = slice_get-map (λ (x : Declaration). x.name) ds index
      ∙ ap (option_map (λ (x : Declaration). x.name)) at

  pub one_declaration : (duplicates : Duplicates) → NoClash duplicates files → (number index other its : ℕ)
      (a b : Declaration) → ShareNames duplicates number other → IsDeclaredAt files number index a → IsDeclaredAt files other its b → a.full_name ≡ b.full_name
      → (number ≡ other) × (index ≡ its)
  one_declaration duplicates clear number index other its a b can at also named =
      let place = same_place duplicates clear _ _ can (item_of number index a at) (item_of other its b also) named refl in
      let facts = facts_there at.known also.known place.0 in (
        place.0,
        one_index 0 (name_spans also.facts.declarations) index its a.name b.name
            (names also.facts (origins other also.facts also.known))
            (name_at also.facts.declarations index a
            (subst (λ (f : Facts). slice_get f.declarations index ≡ Some a) facts at.stands))
            (name_at also.facts.declarations its b also.stands) place.1,
      )

  pub package_not_declared : (duplicates : Duplicates) → NoClash duplicates files → (number index other : ℕ)
      (d : Declaration) → ShareNames duplicates number other → IsDeclaredAt files number index d
      → HasPackage files other d.full_name → ⊥
  package_not_declared duplicates clear number index other d can at its = elim (slice_get_cases its.facts.package_name (its.count - 1)).1 [
    | inl component ↦ (
        let last : its.count - 1 + 1 ≡ its.count = omega (arith, its.some) in
        let item : IsItem files (record {
          place = record { file = other; span = component.0.span };
          full_name = package_of its.facts.package_name (its.count - 1 + 1);
          is_declaration = false;
        }) =
        packaged (its.count - 1) its.is_reachable its.known component.2 in
        let place = same_place duplicates clear _ _ can (item_of number index d at) item
        (its.named ∙ ap (package_of its.facts.package_name) (sym last)) refl in
        mixed_place at.known its.known (contained at.facts.declarations index d at.stands)
        (contained its.facts.package_name (its.count - 1) component.0 component.2) place.0 place.1)
    | inr past ↦ absurd (omega (arith, past.0, its.some, its.few))
  ]
