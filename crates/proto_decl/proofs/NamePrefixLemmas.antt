-- The prefixes of a full name are packages or declarations of its file.
use Rattle.std.proofs.Common.{◌≡◌, ◌∙◌, sym, ap, refl, subst, ℕ, zero, suc, ◌<◌, ◌≤◌, ◌⊎◌, inl, inr, List, [], ◌∷◌}
use Rattle.std.proofs.Common.{length, map, take, arith, length-append}
use Rattle.std.specs.List.{All, Contains}
use Rattle.std.proofs.lemmas.List.{take-map, length-map}
use Rattle.std.proofs.lemmas.List.Elements.{All-nil, All-cons, All-head, All-tail, All-contains}
use Rattle.std.proofs.lemmas.List.Splits.{slice_split_at}
use Rattle.proto_decl.specs.Names.{qualified, IsSimple, dotted, components_of, prefix_of}
use Rattle.proto_decl.specs.Facts.{Facts}
use Rattle.proto_decl.specs.Laws.{IsScope, StandsInScope, IsEntity}
use Rattle.proto_decl.specs.Laws.IsScope.{of_package, of_declaration}
use Rattle.proto_decl.specs.Laws.IsEntity.{packaged, declared}
use Rattle.proto_decl.specs.declared.uses.Component.{Component}
use Rattle.proto_decl.specs.declared.declaration.Declaration.{Declaration}
use Rattle.proto_decl.proofs.NameComponentLemmas.{is_dot, is_plain, of_plain, of_behind, whole_prefix, prefix_of_scope}

-- components of several simple names that are joined

of_dotted : (names : List (List ℕ)) → 0 < length names → All IsSimple names → components_of (dotted names) ≡ names
of_dotted [] some simple = absurd (omega (arith, some))
of_dotted (name ∷ []) some simple =
    of_plain name (is_plain name (All-head IsSimple name [] simple).no_dot)
of_dotted (name ∷ (next ∷ others)) some simple =
    slice_split_at is_dot name 46 (dotted (next ∷ others))
    (is_plain name (All-head IsSimple name (next ∷ others) simple).no_dot) refl
    ∙ ap (λ (parts : List (List ℕ)). name ∷ parts)
    (of_dotted (next ∷ others) (omega arith) (All-tail IsSimple name (next ∷ others) simple))

less_or_same : (a b : ℕ) → a ≤ b → (a < b) ⊎ (a ≡ b)
less_or_same a b le = grind arith

simple_names : (components : List Component) → All (λ (component : Component). IsSimple component.name) components
    → All IsSimple (map (λ (component : Component). component.name) components)
simple_names [] all = All-nil IsSimple
simple_names (component ∷ components) all =
    All-cons IsSimple component.name (map (λ (c : Component). c.name) components)
    (All-head (λ (c : Component). IsSimple c.name) component components all)
    (simple_names components (All-tail (λ (c : Component). IsSimple c.name) component components all))

module _ (facts : Facts) (declarations : All (StandsInScope facts) facts.declarations)
    (package_name : All (λ (component : Component). IsSimple component.name) facts.package_name) where
  abbrev names : List (List ℕ)
  names = map (λ (component : Component). component.name) facts.package_name

  -- of the package, where it has a name
  of_components : (parts : List Component) → facts.package_name ≡ parts → 0 < length (dotted names) → (count : ℕ)
      → 0 < count → count ≤ length (components_of (dotted names)) → IsEntity facts (prefix_of (dotted names) count)
  of_components [] e some count one le =
      absurd (omega (arith, some, ap (λ (cs : List Component). length (dotted (map (λ (c : Component). c.name) cs))) e))
  of_components (part ∷ parts) e some count one le =
      let count_names = length-map facts.package_name (λ (component : Component). component.name) in
      let all : components_of (dotted names) ≡ names =
      of_dotted names (omega (arith, count_names, ap length e)) (simple_names facts.package_name package_name) in
      let prefix : prefix_of (dotted names) count
      ≡ dotted (map (λ (component : Component). component.name) (take count facts.package_name)) =
      ap (λ parts. dotted (take count parts)) all
      ∙ ap dotted (take-map (λ (component : Component). component.name) count facts.package_name) in
      subst (λ (name : List ℕ). IsEntity facts name) (sym prefix)
      (packaged one (omega (arith, le, ap length all, count_names)))

  -- of every shorter scope
  abbrev Prefixes : ℕ → Type 0
  Prefixes most = (full : List ℕ) → IsScope facts full → length full < most → 0 < length full → (count : ℕ) → 0 < count
      → count ≤ length (components_of full) → IsEntity facts (prefix_of full count)

  by_scope : (most : ℕ) → Prefixes most → (scope name full : List ℕ) → full ≡ qualified scope name → IsSimple name
      → IsScope facts scope → length full < suc most → (count : ℕ) → 0 < count
      → count < length (components_of full) → IsEntity facts (prefix_of full count)
  by_scope most shorter [] name full e simple stands less count one few =
      absurd (omega (arith, one, few, ap length (ap components_of e ∙ of_plain name (is_plain name simple.no_dot))))
  by_scope most shorter (byte ∷ scope) name full e simple stands less count one few =
      let count_all = ap length (ap components_of e ∙ of_behind (byte ∷ scope) name (is_plain name simple.no_dot)) in
      let le : count ≤ length (components_of (byte ∷ scope)) =
      omega (arith, few, count_all, length-append (components_of (byte ∷ scope)) (name ∷ [])) in
      let prefix : prefix_of full count ≡ prefix_of (byte ∷ scope) count =
      ap (λ whole. prefix_of whole count) e
      ∙ prefix_of_scope (byte ∷ scope) name count (is_plain name simple.no_dot) le in
      subst (λ (whole : List ℕ). IsEntity facts whole) (sym prefix)
      (shorter (byte ∷ scope) stands (omega (arith, less, ap length e, length-append (byte ∷ scope) (46 ∷ name)))
      (omega arith) count one le)

  by_count : (most : ℕ) → Prefixes most → (declaration : Declaration) → Contains facts.declarations declaration
      → length declaration.full_name < suc most → (count : ℕ) → 0 < count
      → (count < length (components_of declaration.full_name)) ⊎ (count ≡ length (components_of declaration.full_name))
      → IsEntity facts (prefix_of declaration.full_name count)
  by_count most shorter declaration listed less count one (inr all) =
      subst (λ (name : List ℕ). IsEntity facts name) (sym (whole_prefix declaration.full_name count all))
      (declared listed)
  by_count most shorter declaration listed less count one (inl few) =
      let stands = All-contains (StandsInScope facts) facts.declarations declaration declarations listed in
      by_scope most shorter stands.scope stands.name declaration.full_name stands.full stands.simple stands.stands less
      count one few

  by_kind : (most : ℕ) → Prefixes most → {full : List ℕ} → IsScope facts full → length full < suc most → 0 < length full
      → (count : ℕ) → 0 < count → count ≤ length (components_of full)
      → IsEntity facts (prefix_of full count)
  by_kind most shorter of_package less some count one le = of_components facts.package_name refl some count one le
  by_kind most shorter (of_declaration {declaration} listed) less some count one le =
      by_count most shorter declaration listed less count one
      (less_or_same count (length (components_of declaration.full_name)) le)

  below : (most : ℕ) → Prefixes most
  below zero full scope less some count one le = absurd (omega (arith, less))
  below (suc most) full scope less some count one le = by_kind most (below most) scope less some count one le

  pub prefixes : (declaration : Declaration) → Contains facts.declarations declaration
      → 0 < length declaration.full_name → (count : ℕ) → 0 < count
      → count ≤ length (components_of declaration.full_name)
      → IsEntity facts (prefix_of declaration.full_name count)
  prefixes declaration listed some count one le =
      below (suc (length declaration.full_name)) declaration.full_name (of_declaration listed)
      (omega arith) some count one le
