-- A use that names a type has a target, so each component of a use of a source names an entity; and so does each
-- component of a name in an option that names something.
use Rattle.std.proofs.Common.{◌≡◌, ◌+◌, ◌-◌, ◌<◌, ◌≤◌, ℕ, zero, suc, true, List, [], ◌∷◌, ◌++◌, length, take}
use Rattle.std.proofs.Common.{Some, ap, sym, refl, subst, arith}
use Rattle.std.specs.Prelude.{Contains}
use Rattle.std.specs.List.{slice_get}
use Rattle.std.proofs.lemmas.Bool.{false≢true}
use Rattle.std.proofs.lemmas.Option.{same_Some, none-some}
use Rattle.std.proofs.lemmas.List.Elements.{All-contains}
use Rattle.basics.proofs.ListLemmas.{item_at}
use Rattle.proto_decl.specs.Names.{components_of, prefix_of}
use Rattle.proto_lex.specs.declared.span.Span.{Span}
use Rattle.proto_decl.specs.Facts.{Facts, AreOfSomeFile, NamesAreFilled}
use Rattle.proto_decl.specs.Laws.{IsEntity, PrefixesAreEntities}
use Rattle.proto_decl.specs.Laws.IsEntity.{packaged as entity_packaged, declared as entity_declared}
use Rattle.proto_decl.specs.declared.declaration.Declaration.{Declaration}
use Rattle.proto_decl.specs.declared.uses.Component.{Component}
use Rattle.proto_decl.specs.declared.uses.Use.{Use}
use Rattle.proto_visibility.specs.declared.lookup.Entity.{Entity as Part}
use Rattle.proto_visibility.specs.declared.lookup.Entity.TheVariants as link
use Rattle.proto_visibility.specs.Files.{File, HasFacts, HaveOrigins, IsSource}
use Rattle.proto_visibility.specs.Knows.{NameKind, DeclaresName, IsEntityOf as IsNamed, is_type}
use Rattle.proto_visibility.specs.Knows.DeclaresName.{declared as gives_declared, packaged as gives_packaged}
use Rattle.proto_visibility.specs.Knows.IsEntityOf.{packaged as named_package, declared as named_declared}
use Rattle.basics.proofs.FirstLemmas.{at_contained, contained}
use Rattle.proto_link.proofs.TargetLemmas.{gives_type, used_fit}
use Rattle.scip_symbol.specs.Entities.{Entity, OfPackage}
use Rattle.scip_model.specs.Conditions.{IsResolved}
use Rattle.scip_model.specs.Packages.{Packages}
use Rattle.scip_model.specs.Named.{NamesIn, IsNamedAs, declaration_in, home_of_file}
use Rattle.scip_model.specs.Options.{NamesInOption}
use Rattle.option_link.specs.declared.facts.OptionFacts.{OptionFacts}
use Rattle.option_link.specs.declared.target.OptionTarget.{OptionTarget}
use Rattle.option_link.specs.Contexts.{behind_spelled}
use Rattle.option_link.specs.Found.{NamesOuterParts}
use Rattle.option_link.proofs.FitLemmas.{has_parts}
use Rattle.option_link.proofs.PartLemmas.{entity_of_part, parts_by}
use Rattle.protoscip.specs.Headline.{IsComponentInOption}
use Rattle.protoscip.specs.UseLaws.{EachUseHasATarget, EachOptionNameHasParts}

-- ---- a list of what there is for each place

-- one of each place
record AreEach {X : Type 0} (P : ℕ → X → Type 0) (n : ℕ) : Type 0 where
  list : List X
  one_each : length list ≡ n
  each : (j : ℕ) (x : X) → slice_get list j ≡ Some x → P j x

with_first : {X : Type 0} (P : ℕ → X → Type 0) (n : ℕ) (first : X) → P 0 first → AreEach (λ j. P (suc j)) n
    → AreEach P (suc n)
with_first {X} P n first is others =
    record { list = first ∷ others.list; one_each = ap suc others.one_each; each = one }
  where
    one : (j : ℕ) (x : X) → slice_get (first ∷ others.list) j ≡ Some x → P j x
    one zero x there = subst (P 0) (same_Some first x there) is
    one (suc j) x there = others.each j x there

are_each : {X : Type 0} (P : ℕ → X → Type 0) (n : ℕ) → ((j : ℕ) → j < n → (x : X) × P j x) → AreEach P n
are_each P zero at = record { list = []; one_each = refl; each = λ j x there. absurd (none-some x there) }
are_each P (suc n) at =
    let first = at 0 (omega arith) in
    with_first P n first.0 first.1 (are_each (λ j. P (suc j)) n (λ j within. at (suc j) (omega (arith, within))))

-- ---- what the first components of a type's name name

-- in the file that declares it
entity_named : (owner : ℕ) (facts : Facts) (name : List ℕ) (count : ℕ) (front : List ℕ) → IsEntity facts front
    → front ≡ prefix_of name count → (part : Part) × IsNamed owner facts (prefix_of name count) count part
entity_named owner facts name count _ (entity_packaged {count = few} some within) same =
    (link.Package count, named_package (few, some, within, sym same))
entity_named owner facts name count _ (entity_declared {declaration = declared} there) same =
    (link.Declared owner there.0, named_declared (at_contained facts.declarations declared there) same)

module _ (fronts : (facts : Facts) → AreOfSomeFile facts → PrefixesAreEntities facts) where
  front_of : (owner : ℕ) (facts : Facts) → AreOfSomeFile facts → (declared : Declaration)
      → Contains facts.declarations declared → (count : ℕ) → 0 < count
      → count ≤ length (components_of declared.full_name)
      → (part : Part) × IsNamed owner facts (prefix_of declared.full_name count) count part
  front_of owner facts origin declared listed count some few =
      let Fronts : Declaration → Type 0 = λ d. (n : ℕ) → 0 < n → n ≤ length (components_of d.full_name)
      → IsEntity facts (prefix_of d.full_name n) in
      let is = All-contains Fronts facts.declarations declared (fronts facts origin) listed count some few in
      entity_named owner facts declared.full_name count (prefix_of declared.full_name count) is refl

  front_named : (owner : ℕ) (facts : Facts) → AreOfSomeFile facts → (name : List ℕ) (kind : NameKind)
      → DeclaresName facts name kind → is_type kind ≡ true → (count : ℕ) → 0 < count
      → count ≤ length (components_of name)
      → (part : Part) × IsNamed owner facts (prefix_of name count) count part
  front_named owner facts origin _ _ (gives_declared {declaration = declared} listed) admitted count some few =
      front_of owner facts origin declared listed count some few
  front_named owner facts origin _ _ (gives_packaged prefix) admitted count one many = absurd (false≢true admitted)

pub each_use_has_a_target : ((facts : Facts) → AreOfSomeFile facts → PrefixesAreEntities facts) → EachUseHasATarget
each_use_has_a_target fronts files origins file type_use name owner names =
    let few = used_fit files file type_use name names.resolves in
    let skipped = length (components_of name) - length type_use.components in
    let giving = gives_type files type_use.is_extended name owner names.owned.gives.giving in
    let has : HasFacts files owner giving.gives.facts =
    record { file = giving.file; numbered = giving.numbered; known = giving.gives.known } in
    let facts = giving.gives.facts in
    let is = giving.gives.gives in
    let parts = are_each (λ j part. IsNamed owner facts (prefix_of name (skipped + j + 1)) (skipped + j + 1) part)
    (length type_use.components)
    (λ j within. front_named fronts owner facts (origins owner facts has) name is.kind is.gives is.admitted
    (skipped + j + 1) (omega arith) (omega (arith, within, few))) in (
      record { name = name; parts = parts.list },
      record {
        owner = owner;
        facts = facts;
        names = names;
        known = has;
        skipped = skipped;
        split = omega (arith, few);
        one_each = parts.one_each;
        named = parts.each;
      },
    )

-- the last component of a name in an option names what is declared there, and those in front of it are entities
pub each_option_name_has_parts : ((facts : Facts) → AreOfSomeFile facts → PrefixesAreEntities facts)
    → ((facts : Facts) → AreOfSomeFile facts → NamesAreFilled facts.declarations) → EachOptionNameHasParts
each_option_name_has_parts fronts filled files origins known file text option number name at names =
    let has = has_parts files origins filled known file text option number name name.role names.context at
    names.names in
    let d = has.declaration in
    let stands = has.stands in
    let few = has.few in
    let count = length name.name.components in
    let behind = behind_spelled names.names in
    let skipped = length (components_of d.full_name) - (count + behind) in
    let facts = stands.facts in
    let outer = are_each
    (λ j part. IsNamed at.file facts (prefix_of d.full_name (skipped + j + 1)) (skipped + j + 1) part) (count - 1)
    (λ j within. front_of fronts at.file facts (origins at.file facts stands.known) d
    (contained facts.declarations at.index d stands.listed) (skipped + j + 1) (omega arith)
    (omega (arith, within, few))) in
    let before : NamesOuterParts files name at behind outer.list = record {
      declaration = d;
      stands = stands;
      skipped = skipped;
      split = omega (arith, few);
      one_each = omega (arith, outer.one_each, has.some);
      named = outer.each;
    } in
    let all = outer.list ++ link.Declared at.file at.index ∷ [] in
    (all, parts_by files name at outer.list behind before all refl)

-- ---- the components of a source's uses

module _ (files : List File) (ids : Packages) (source : ℕ) where
  -- what is named has a symbol
  named_as : (owner : ℕ) (facts : Facts) → HasFacts files owner facts → (name front : List ℕ) (count : ℕ)
      (part : Part) → IsNamed owner facts front count part → (entity : Entity) × IsNamedAs files ids name part entity
  named_as owner facts has name front count _ (named_package prefix) =
      (OfPackage (take count (components_of name)), refl)
  named_as owner facts has name front count _ (named_declared {declaration = declared} at full) = (
    declaration_in (home_of_file files ids owner) facts declared,
    record { facts = facts; declaration = declared; has = record { has_facts = has; numbered = at }; is = refl },
  )

  pub component_names : EachUseHasATarget → HaveOrigins files
      → (facts : Facts) (type_use : Use) (component : Component) → IsSource files source → HasFacts files source facts
      → Contains facts.uses type_use → Contains type_use.components component → IsResolved files source type_use
      → (part : Part) × (entity : Entity) × NamesIn files ids source component part entity
  component_names targets origins facts type_use component is has listed among type_name =
      let target = targets files origins source type_use type_name.0 type_name.1 type_name.2 in
      let part = item_at target.0.parts among.0 (omega (arith, among.1, target.1.one_each)) in
      let entity = named_as target.1.owner target.1.facts target.1.known target.0.name _ _ part.0
      (target.1.named among.0 part.0 part.1) in (
        part.0,
        entity.0,
        record {
          facts = facts;
          type_use = type_use;
          target = target.0;
          index = among.0;
          has_facts = has;
          listed = listed;
          is_target = target.1;
          component_is = at_contained type_use.components component among;
          part_is = part.1;
          entity_is = entity.1;
        },
      )

  -- so do the components of a name in one of its options that names something
  pub option_component_names : EachOptionNameHasParts → HaveOrigins files → (known : List OptionFacts) (text : List ℕ)
      (span : Span) → IsComponentInOption files known source text span
      → (part : Part) × (entity : Entity) × NamesInOption files known ids source text span part entity
  option_component_names each origins known text span has =
      let parts = each files origins known source text has.option has.number has.name has.at has.names in
      let are = parts.1 in
      let target : OptionTarget = record { name_number = has.number; parts = parts.0 } in
      let among = has.component in
      let part = item_at parts.0 among.0 (omega (arith, among.1, are.one_each)) in
      let entity = named_as has.at.file are.facts are.known are.declaration.full_name _ _ part.0
      (entity_of_part files are among.0 part.0 part.1).2 in (
        part.0,
        entity.0,
        record {
          beside = has.beside;
          its = has.its;
          option = has.option;
          listed = has.listed;
          target = target;
          is_target = record { name = has.name; at = has.at; names = has.names; parts = are };
          index = among.0;
          component_is = at_contained has.name.name.components span among;
          part_is = part.1;
          entity_is = entity.1;
        },
      )
