-- The full names that the first components of a full name make, from the longest to shorter ones.
use Rattle.std.proofs.Common.{◌≡◌, ◌∙◌, ap, refl, sym, subst, ℕ, zero, suc, ◌+◌, ◌-◌, ◌<◌, ◌≤◌, inl, inr, List, [], ◌∷◌}
use Rattle.std.proofs.Common.{◌++◌, length, take, reverse, Some, arith, length-append}
use Rattle.std.specs.List.{All, Contains, slice_get, count_by}
use Rattle.std.proofs.lemmas.Bool.{cases_lt}
use Rattle.std.proofs.lemmas.List.{take-map, length-map, length_push, length-reverse, get_or-reverse, get_or_push}
use Rattle.std.proofs.lemmas.List.Elements.{All-nil, All-cons, All-head, All-tail, All-contains}
use Rattle.std.proofs.lemmas.List.Splits.{slice_split_at, length-slice_split}
use Rattle.std.proofs.lemmas.Option.{same_Some, slice_get_within, slice_get-get_or, get_or_from_slice_get}
use Rattle.basics.proofs.FirstLemmas.{at_contained}
use Rattle.proto_decl.specs.Names.{IsAround, IsSimple, components_of, dotted, prefix_of}
use Rattle.proto_decl.specs.Names.IsAround.{before_dot, root}
use Rattle.proto_decl.specs.Facts.{Facts}
use Rattle.proto_decl.specs.Laws.{IsEntity, PrefixesAreEntities, component_names, names_of, AreHeld}
use Rattle.proto_decl.specs.Laws.IsEntity.{packaged as entity_packaged, declared as entity_declared}
use Rattle.proto_decl.specs.declared.uses.Component.{Component}
use Rattle.proto_decl.specs.declared.declaration.Declaration.{Declaration}
use Rattle.proto_decl.proofs.NameComponentLemmas.{is_dot, is_plain, of_plain, of_behind, prefix_of_scope}
use Rattle.proto_decl.proofs.NameComponentLemmas.{whole_prefix, IsPlain}
use Rattle.proto_visibility.specs.Files.{File, HasFacts}
use Rattle.proto_visibility.specs.Knows.{IsEntityOf, IsPrefix}
use Rattle.proto_visibility.specs.Knows.IsEntityOf.{packaged, declared}
use Rattle.proto_visibility.specs.declared.lookup.Entity.{Entity}
use Rattle.proto_visibility.specs.declared.lookup.Entity.TheVariants.{Package, Declared}
use Rattle.proto_visibility.proofs.FileFactLemmas.{one_list_of_facts}
use Rattle.proto_visibility.proofs.SeeingLemmas.{slice_get_prefix}
use Rattle.option_link.specs.Places.{place_at}
use Rattle.option_link.specs.Tables.{HasName}
use Rattle.option_link.specs.Found.{AreOuterEntities}

-- ---- how many components there are

pub counted_components : (name : List ℕ) (dots : ℕ) → dots ≡ count_by is_dot name
    → dots + 1 ≡ length (components_of name)
counted_components name dots are = omega (arith, are, length-slice_split is_dot name)

-- ---- the first so many components

-- what the first so many components of a full name make, by its own components
pub record IsFront (full front : List ℕ) (left : ℕ) : Type 0 where
  pub size : length (components_of front) ≡ left
  pub same : (count : ℕ) → count ≤ left → prefix_of full count ≡ prefix_of front count

pub whole_front : (full : List ℕ) (left : ℕ) → left ≡ length (components_of full) → IsFront full full left
whole_front full left all = record { size = sym all; same = λ count few. refl }

pub front_is : (full front : List ℕ) (left : ℕ) → IsFront full front left → front ≡ prefix_of full left
front_is full front left is = sym (is.same left (omega arith) ∙ whole_prefix front left (sym is.size))

pub front_some : (full front : List ℕ) (left : ℕ) → IsFront full front left → 1 < left → 0 < length front
front_some full [] left is several = absurd (omega (arith, several, is.size))
front_some full (byte ∷ front) left is several = omega arith

pub next_front : (full front outer : List ℕ) (left : ℕ) → IsFront full front left → 1 < left → IsAround front outer
    → IsFront full outer (left - 1)
next_front full _ outer left is several (before_dot name no_dot) =
    let plain = is_plain name no_dot in
    let size : length (components_of outer) + 1 ≡ left =
    sym (length-append (components_of outer) (name ∷ [])) ∙ (sym (ap length (of_behind outer name plain)) ∙ is.size) in
    record {
      size = omega (arith, size);
      same = λ count few. is.same count (omega (arith, few))
          ∙ prefix_of_scope outer name count plain (omega (arith, few, size));
    }
next_front full _ _ left is several (root {byte} {name} no_dot) =
    absurd (omega (arith, several, is.size, ap length (of_plain (byte ∷ name) (is_plain (byte ∷ name) no_dot))))

-- ---- those of the package

behind : (first next : List ℕ) (others : List (List ℕ)) → IsPlain first
    → components_of (dotted (first ∷ (next ∷ others))) ≡ first ∷ components_of (dotted (next ∷ others))
behind first next others plain = slice_split_at is_dot first 46 (dotted (next ∷ others)) plain refl

taken : (front rest : List (List ℕ)) → All IsSimple front → (count : ℕ) → count ≤ length front
    → take count (components_of (dotted (front ++ rest))) ≡ take count front
taken front rest simple zero few = refl
taken [] rest simple (suc count) few = absurd (omega (arith, few))
taken (name ∷ []) [] simple (suc count) few =
    ap (take (suc count)) (of_plain name (is_plain name (All-head IsSimple name [] simple).no_dot))
taken (name ∷ []) (next ∷ others) simple (suc zero) few =
    ap (take (suc zero)) (behind name next others (is_plain name (All-head IsSimple name [] simple).no_dot))
taken (name ∷ []) (next ∷ others) simple (suc (suc count)) few = absurd (omega (arith, few))
taken (name ∷ (next ∷ front)) rest simple (suc count) few =
    ap (take (suc count)) (behind name next (front ++ rest)
    (is_plain name (All-head IsSimple name (next ∷ front) simple).no_dot))
    ∙ ap (λ (names : List (List ℕ)). name ∷ names)
    (taken (next ∷ front) rest (All-tail IsSimple name (next ∷ front) simple) count (omega (arith, few)))

simple_names : (components : List Component) → All (λ (component : Component). IsSimple component.name) components
    → All IsSimple (component_names components)
simple_names [] all = All-nil IsSimple
simple_names (component ∷ components) all =
    All-cons IsSimple component.name (component_names components)
    (All-head (λ (c : Component). IsSimple c.name) component components all)
    (simple_names components (All-tail (λ (c : Component). IsSimple c.name) component components all))

pub package_front : (facts : Facts) (d : Declaration)
    → All (λ (component : Component). IsSimple component.name) facts.package_name
    → d.full_name ≡ dotted (component_names facts.package_name ++ names_of d.path) → (count : ℕ) → 0 < count
    → count ≤ length facts.package_name → IsPrefix facts.package_name (prefix_of d.full_name count)
package_front facts d simple full count some few =
    let names = component_names facts.package_name in
    let size : length names ≡ length facts.package_name = length-map facts.package_name (λ (c : Component). c.name) in (
      count,
      some,
      few,
      ap (λ (name : List ℕ). prefix_of name count) full
          ∙ (ap dotted (taken names (names_of d.path) (simple_names facts.package_name simple) count
          (omega (arith, few, size)))
          ∙ ap dotted (take-map (λ (c : Component). c.name) count facts.package_name)),
    )

-- ---- what they name

-- what is declared by the front, or else a package
pub front_declared : (files : List File) (file : ℕ) (facts : Facts) (front : List ℕ) (count index : ℕ)
    → HasFacts files file facts → HasName files front (place_at file index)
    → IsEntityOf file facts front count (Declared file index)
front_declared files file facts front count index has is =
    declared (subst (λ (f : Facts). slice_get f.declarations index ≡ Some is.declaration)
    (one_list_of_facts files file is.stands.facts facts is.stands.known has) is.stands.listed) is.named

pub front_packaged : (files : List File) (file : ℕ) (facts : Facts) (front name : List ℕ) (count : ℕ) → name ≡ front
    → HasFacts files file facts → ((index : ℕ) → HasName files front (place_at file index) → ⊥)
    → IsEntity facts name → IsEntityOf file facts front count (Package count)
front_packaged files file facts front name count same has none (entity_packaged {count = few} some within) =
    packaged (few, some, within, sym same)
front_packaged files file facts front name count same has none (entity_declared {declaration = d} there) =
    absurd (none there.0 (record {
      declaration = d;
      stands = record { facts = facts; known = has; listed = at_contained facts.declarations d there };
      named = same;
    }))

-- each front of a declaration's full name
module _ (facts : Facts) (fronts : PrefixesAreEntities facts)
    (simple : All (λ (component : Component). IsSimple component.name) facts.package_name)
    (held : AreHeld facts.package_name facts.declarations) (name : List ℕ)
    (declares : (d : Declaration) × Contains facts.declarations d × (d.full_name ≡ name)) (left : ℕ) (some : 0 < left)
    (front : List ℕ) (is : front ≡ prefix_of name left) where
  pub front_is_entity : left ≤ length (components_of name) → IsEntity facts front
  front_is_entity few =
      let Fronts : Declaration → Type 0 = λ d. (n : ℕ) → 0 < n → n ≤ length (components_of d.full_name)
      → IsEntity facts (prefix_of d.full_name n) in
      let all = All-contains Fronts facts.declarations declares.0 fronts declares.1 in
      subst (IsEntity facts) (sym is) ((subst (λ (whole : List ℕ). (n : ℕ) → 0 < n → n ≤ length (components_of whole)
      → IsEntity facts (prefix_of whole n)) declares.2 all) left some few)

  pub front_is_prefix : left ≤ length facts.package_name → IsPrefix facts.package_name front
  front_is_prefix few =
      let Named : Declaration → Type 0 = λ d.
      d.full_name ≡ dotted (component_names facts.package_name ++ names_of d.path) in
      let full = All-contains Named facts.declarations declares.0 held.full_names declares.1 in
      subst (IsPrefix facts.package_name)
      (ap (λ (whole : List ℕ). prefix_of whole left) declares.2 ∙ sym is)
      (package_front facts declares.0 simple full left some few)

-- ---- one after the other, from the longest front to shorter ones

pub record AreFromInside (file : ℕ) (facts : Facts) (name : List ℕ) (front : List ℕ) (left : ℕ)
    (parts : List Entity) : Type 0 where
  pub is : IsFront name front left
  pub each : left + length parts ≡ length (components_of name)
  pub named : (k : ℕ) (part : Entity) → slice_get parts k ≡ Some part
      → IsEntityOf file facts (prefix_of name (length (components_of name) - 1 - k))
      (length (components_of name) - 1 - k) part

module _ (file : ℕ) (facts : Facts) (name : List ℕ) where
  abbrev Names : ℕ → Entity → Type 0
  Names n part = IsEntityOf file facts (prefix_of name n) n part

  pub from_inside_none : (left : ℕ) (parts : List Entity) → left ≡ length (components_of name) → parts ≡ []
      → AreFromInside file facts name name left parts
  from_inside_none left parts all none = record {
    is = whole_front name left all;
    each = omega (arith, all, ap length none);
    named = λ k part at. absurd (omega (arith, ap length none, slice_get_within parts k part at));
  }

  pub from_inside_more : (front outer : List ℕ) (left next : ℕ) (parts new : List Entity) (its : Entity)
      → AreFromInside file facts name front left parts → 1 < left → next ≡ left - 1 → IsAround front outer
      → IsEntityOf file facts outer next its → new ≡ parts ++ its ∷ []
      → AreFromInside file facts name outer next new
  from_inside_more front outer left next parts new its so_far several less around names made =
      let is : IsFront name outer next =
      subst (IsFront name outer) (sym less) (next_front name front outer left so_far.is several around) in
      let here : Names next its =
      subst (λ (text : List ℕ). IsEntityOf file facts text next its) (front_is name outer next is) names in
      subst (AreFromInside file facts name outer next) (sym made) (record {
        is = is;
        each = omega (arith, so_far.each, less, several, length_push parts its);
        named = λ k part at. elim (cases_lt k (length parts)) [
          | inl before ↦ so_far.named k part (sym (slice_get_prefix parts (its ∷ []) k before) ∙ at)
          | inr last ↦ (
              let within = slice_get_within (parts ++ its ∷ []) k part at in
              let end : length parts ≡ k = omega (arith, last, within, length_push parts its) in
              let same : its ≡ part = same_Some its part (sym (slice_get-get_or (parts ++ its ∷ []) k its
              (omega (arith, within)) ∙ ap Some (get_or_push parts its its k end)) ∙ at) in
              let number : next ≡ length (components_of name) - 1 - k =
              omega (arith, so_far.each, less, several, end) in
              subst (λ (n : ℕ). Names n part) number (subst (Names next) same here))
        ];
      })

  pub outer_from_inside : (front : List ℕ) (left count : ℕ) (parts new : List Entity) → new ≡ reverse parts
      → count ≤ length (components_of name) → length parts + 1 ≡ count
      → AreFromInside file facts name front left parts → AreOuterEntities file facts name count new
  outer_from_inside front left count parts new made few size are =
      subst (AreOuterEntities file facts name count) (sym made) (record {
        one_each = omega (arith, size, length-reverse parts);
        named = λ j part at. (
            let within : j < length parts =
            omega (arith, slice_get_within (reverse parts) j part at, length-reverse parts) in
            let there : slice_get parts (length parts - 1 - j) ≡ Some part =
            slice_get-get_or parts (length parts - 1 - j) part (omega (arith, within))
            ∙ ap Some (sym (get_or-reverse parts j part within)
            ∙ get_or_from_slice_get (reverse parts) j part part at) in
            let number : length (components_of name) - 1 - (length parts - 1 - j)
            ≡ length (components_of name) - count + j + 1 =
            omega (arith, within, size, few) in
            subst (λ (n : ℕ). Names n part) number (are.named (length parts - 1 - j) part there));
      })
