-- A file that gives a name in a scope gives the scope's name.
use Rattle.std.proofs.Common.{◌≡◌, ◌∙◌, sym, ap, refl, subst, ℕ, ◌<◌, ◌≤◌, Bool, true, false, cond}
use Rattle.std.proofs.Common.{List, [], ◌∷◌, ◌++◌, length, map, take, arith, length-append}
use Rattle.std.specs.List.{All, onto_first}
use Rattle.std.proofs.lemmas.List.{take-append-le, take_all, take-map, take-take, length-map, length-take-le}
use Rattle.std.proofs.lemmas.List.Elements.{All-nil, All-cons, All-head, All-tail, All-contains, All-take}
use Rattle.std.proofs.lemmas.List.Splits.{length-slice_split, join_with_byte-slice_split}
use Rattle.proto_decl.specs.Names.{qualified, IsSimple, dotted, components_of, prefix_of, package_of}
use Rattle.proto_decl.specs.Facts.{Facts}
use Rattle.proto_decl.specs.Laws.{IsEntity, PrefixesAreEntities}
use Rattle.proto_decl.specs.Laws.IsEntity.{packaged, declared}
use Rattle.proto_decl.specs.declared.uses.Component.{Component}
use Rattle.proto_decl.specs.declared.declaration.Declaration.{Declaration}
use Rattle.proto_decl.proofs.NameComponentLemmas.{is_dot, is_plain, of_plain}
use Rattle.proto_visibility.specs.Knows.{NameKind, DeclaresName}
use Rattle.proto_visibility.specs.Knows.DeclaresName.{declared as declares, packaged as has_package}

-- ---- the components of a name in a scope

onto_more : (byte : ℕ) (parts others : List (List ℕ)) → 0 < length parts
    → onto_first byte (parts ++ others) ≡ onto_first byte parts ++ others
onto_more byte [] others some = absurd (omega (arith, some))
onto_more byte (part ∷ parts) others some = refl

one_more : (t : Bool) (byte : ℕ) (parts others : List (List ℕ)) → 0 < length parts
    → cond t ([] ∷ (parts ++ others)) (onto_first byte (parts ++ others))
    ≡ cond t ([] ∷ parts) (onto_first byte parts) ++ others
one_more true byte parts others some = refl
one_more false byte parts others some = onto_more byte parts others some

components_some : (name : List ℕ) → 0 < length (components_of name)
components_some name = omega (arith, length-slice_split is_dot name)

components_in : (scope name : List ℕ) → components_of (scope ++ 46 ∷ name) ≡ components_of scope ++ components_of name
components_in [] name = refl
components_in (byte ∷ scope) name =
    rw (components_in scope name)
    (one_more (is_dot byte) byte (components_of scope) (components_of name) (components_some scope))

-- its first ones make the scope's name
scope_prefix : (scope name : List ℕ) → prefix_of (scope ++ 46 ∷ name) (length (components_of scope)) ≡ scope
scope_prefix scope name =
    ap (λ parts. dotted (take (length (components_of scope)) parts)) (components_in scope name)
    ∙ (ap dotted (take-append-le (length (components_of scope)) (components_of scope) (components_of name)
    (omega arith) ∙ take_all (length (components_of scope)) (components_of scope) (omega arith))
    ∙ join_with_byte-slice_split 46 scope)

scope_shorter : (scope name : List ℕ) → length (components_of scope) < length (components_of (scope ++ 46 ∷ name))
scope_shorter scope name =
    omega (
      arith,
      ap length (components_in scope name),
      length-append (components_of scope) (components_of name),
      components_some name,
    )

-- ---- the components of a name of simple names

of_dotted : (names : List (List ℕ)) → 0 < length names → All IsSimple names → components_of (dotted names) ≡ names
of_dotted [] some simple = absurd (omega (arith, some))
of_dotted (name ∷ []) some simple = of_plain name (is_plain name (All-head IsSimple name [] simple).no_dot)
of_dotted (name ∷ (next ∷ others)) some simple =
    components_in name (dotted (next ∷ others))
    ∙ (ap (λ (parts : List (List ℕ)). parts ++ components_of (dotted (next ∷ others)))
    (of_plain name (is_plain name (All-head IsSimple name (next ∷ others) simple).no_dot))
    ∙ ap (λ (parts : List (List ℕ)). name ∷ parts)
    (of_dotted (next ∷ others) (omega arith) (All-tail IsSimple name (next ∷ others) simple)))

simple_names : (components : List Component) → All (λ (component : Component). IsSimple component.name) components
    → All IsSimple (map (λ (component : Component). component.name) components)
simple_names [] all = All-nil IsSimple
simple_names (component ∷ components) all =
    All-cons IsSimple component.name (map (λ (c : Component). c.name) components)
    (All-head (λ (c : Component). IsSimple c.name) component components all)
    (simple_names components (All-tail (λ (c : Component). IsSimple c.name) component components all))

-- ---- what a file gives

module _ (facts : Facts) where
  given_entity : {name : List ℕ} → IsEntity facts name → (kind : NameKind) × DeclaresName facts name kind
  given_entity (packaged {count = count} some few) = (_, has_package (count, some, few, refl))
  given_entity (declared listed) = (_, declares listed)

  module _ (simple : All (λ (component : Component). IsSimple component.name) facts.package_name) where
    -- a prefix of a prefix of the package's name
    package_prefix : (count k : ℕ) → 0 < count → count ≤ length facts.package_name → 0 < k
        → k ≤ length (components_of (package_of facts.package_name count))
        → IsEntity facts (prefix_of (package_of facts.package_name count) k)
    package_prefix count k some few one le =
        let taken : List Component = take count facts.package_name in
        let size : length taken ≡ count = length-take-le count facts.package_name few in
        let name_of : Component → List ℕ = λ component. component.name in
        let names = length-map taken name_of in
        let parts : components_of (dotted (map name_of taken)) ≡ map name_of taken =
        of_dotted (map name_of taken) (omega (arith, names, size, some))
        (simple_names taken (All-take (λ (component : Component). IsSimple component.name) count facts.package_name
        simple)) in
        let fewer : k ≤ count = omega (arith, le, ap length parts, names, size) in
        let prefix : prefix_of (dotted (map name_of taken)) k ≡ package_of facts.package_name k =
        ap (λ (ps : List (List ℕ)). dotted (take k ps)) parts
        ∙ ap dotted (take-map name_of k taken)
        ∙ ap (λ (cs : List Component). dotted (map name_of cs)) (take-take k count facts.package_name fewer) in
        subst (λ (name : List ℕ). IsEntity facts name) (sym prefix) (packaged one (omega (arith, fewer, few)))

    module _ (prefixes : PrefixesAreEntities facts) where
      by_name : (scope word name : List ℕ) (kind : NameKind) → 0 < length scope → name ≡ qualified scope word
          → DeclaresName facts name kind → (other : NameKind) × DeclaresName facts scope other
      by_name [] word name kind some is gives = absurd (omega (arith, some))
      by_name (byte ∷ scope) word name kind some is gives =
          given_entity (subst (λ (whole : List ℕ). IsEntity facts whole)
          (ap (λ whole. prefix_of whole count) is ∙ scope_prefix (byte ∷ scope) word) (by name gives refl))
        where
          count : ℕ
          count = length (components_of (byte ∷ scope))

          fits : (whole : List ℕ) → whole ≡ name → count ≤ length (components_of whole)
          fits whole same =
              let shorter = scope_shorter (byte ∷ scope) word in
              omega (arith, shorter, ap (λ (n : List ℕ). length (components_of n)) (same ∙ is))

          by : (whole : List ℕ) {k : NameKind} → DeclaresName facts whole k → whole ≡ name
              → IsEntity facts (prefix_of whole count)
          by _ (declares {declaration} listed) same =
              All-contains (λ (d : Declaration). (n : ℕ) → 0 < n → n ≤ length (components_of d.full_name)
              → IsEntity facts (prefix_of d.full_name n)) facts.declarations declaration prefixes listed count
              (components_some (byte ∷ scope)) (fits declaration.full_name same)
          by whole (has_package prefix) same =
              let n : ℕ = prefix.0 in
              let its : whole ≡ package_of facts.package_name n = prefix.3 in
              subst (λ (w : List ℕ). IsEntity facts (prefix_of w count)) (sym its)
              (package_prefix n count prefix.1 prefix.2 (components_some (byte ∷ scope))
              (fits (package_of facts.package_name n) (sym its ∙ same)))

      -- a name in a scope that isn't the root: the scope's name
      pub gives_scope : (scope word : List ℕ) (kind : NameKind) → 0 < length scope
          → DeclaresName facts (qualified scope word) kind → (other : NameKind) × DeclaresName facts scope other
      gives_scope scope word kind some gives = by_name scope word (qualified scope word) kind some refl gives
