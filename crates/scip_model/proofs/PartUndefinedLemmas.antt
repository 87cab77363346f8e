-- No document has an entry of the symbol of an external entry.
use Rattle.std.proofs.Common.{◌≡◌, ◌∙◌, ℕ, ◌+◌, true, false, List, Option, Some, None, inl, inr, ap, sym}
use Rattle.std.proofs.Common.{arith}
use Rattle.std.specs.Prelude.{IfSome}
use Rattle.std.specs.List.{Contains, slice_get}
use Rattle.std.proofs.lemmas.Bool.{false≢true}
use Rattle.std.proofs.lemmas.Option.{same_Some, slice_get_within}
use Rattle.basics.proofs.FirstLemmas.{contained}
use Rattle.proto_decl.specs.Facts.{Facts}
use Rattle.proto_visibility.specs.declared.lookup.Entity.TheVariants as link
use Rattle.proto_visibility.specs.Files.{File, IsSource}
use Rattle.proto_visibility.specs.Knows.{IsEntityOf}
use Rattle.proto_visibility.specs.Knows.IsEntityOf.{declared as declared_entity}
use Rattle.proto_visibility.specs.Sees.SeesBy.{itself}
use Rattle.proto_visibility.specs.Reaches.{IsReachable}
use Rattle.proto_visibility.specs.Reaches.Reaches.{sees}
use Rattle.proto_visibility.specs.Reaches.IsReachable.{reached}
use Rattle.option_link.specs.Laws.{TargetsAreReachable}
use Rattle.option_link.specs.declared.facts.OptionFacts.{OptionFacts}
use Rattle.option_link.proofs.PartLemmas.{entity_of_part}
use Rattle.scip_symbol.specs.Entities.{Entity, OfFile, IsEntity}
use Rattle.scip_records.specs.declared.records.SymbolInformation.{SymbolInformation}
use Rattle.scip_model.specs.Chosen.{Chosen}
use Rattle.scip_model.specs.Conditions.{HaveGoodPaths}
use Rattle.scip_model.specs.Packages.{ArePackages, Packages}
use Rattle.scip_model.specs.Repeated.{declaration_in, home_of_file}
use Rattle.scip_model.specs.Named.{package_at, text_of}
use Rattle.scip_model.specs.Entries.{HasEntry, HasExternal, IsKeptEntry}
use Rattle.scip_model.specs.Entries as entries
use Rattle.scip_model.specs.Options.{AllLinkOptions, HasExternalOfOption, HasExternalWith}
use Rattle.scip_model.specs.Tables.KnownFacts.{AreApart}
use Rattle.scip_model.proofs.NamedApartLemmas.{AreReachable, in-first, one-declared, one-text}
use Rattle.scip_model.proofs.NamedEntityLemmas.{declaration-is, package-is}
use Rattle.scip_model.proofs.PackageLemmas.{file_good}

-- it is in the file that has its name
in_file : {owner : ℕ} {facts : Facts} {name : List ℕ} {count number index : ℕ} (P : ℕ → Type 0)
    → IsEntityOf owner facts name count (link.Declared number index) → P owner → P number
in_file P (declared_entity stands full) is = is

module _ (files : List File) (ids : Packages) (chosen : Chosen) (apart : AreApart files ids) (good : ArePackages ids)
    (paths : HaveGoodPaths files) where
  -- ---- of an entry of an included file that is reachable

  module _ (number index : ℕ) (is_reachable : IsReachable files number) (file : File)
      (numbered : slice_get files number ≡ Some file) (included : file.is_included ≡ true) (entry : SymbolInformation)
      (kept : IsKeptEntry files chosen ids number index entry) (source : ℕ) (is : IsSource files source) where
    abbrev there : AreReachable files number kept.facts
    there = record { is_reachable = is_reachable; known = kept.has.has_facts }

    abbrev entity : Entity
    entity = declaration_in (home_of_file files ids number) kept.facts kept.declaration

    listed : Contains kept.facts.declarations kept.declaration
    listed = contained kept.facts.declarations index kept.declaration kept.has.numbered

    is_entity : IsEntity entity
    is_entity = declaration-is (home_of_file files ids number) kept.facts kept.declaration
        (apart.spelled.named kept.facts (apart.origins number kept.facts there.known))
        (apart.spelled.paths kept.facts (apart.origins number kept.facts there.known)) listed

    text_is : entry.symbol ≡ text_of (home_of_file files ids number).id entity
    text_is = ap (λ (e : SymbolInformation). e.symbol) kept.is

    source_reached : IsReachable files source
    source_reached =
        reached is (sees itself) (record { file = is.file; numbered = is.numbered; present = is.present })

    pub apart_from : (other : SymbolInformation) → HasEntry files chosen ids source other
        → other.symbol ≡ entry.symbol → ⊥
    apart_from _ (entries.of_file {file = own} stands) same =
        let one : OfFile own.path ≡ entity =
        one-text files ids apart number number kept.facts kept.facts there there
        (home_of_file files ids source).id (home_of_file files ids number).id (file_good files ids source good)
        (file_good files ids number good) (OfFile own.path) entity (paths source own stands) is_entity tt
        (in-first files ids apart number number kept.facts kept.facts there there kept.declaration listed)
        (same ∙ text_is) in
        absurd (cc)
    apart_from _ (entries.of_package {facts = facts} at has stands) same =
        let few = slice_get_within facts.package_name at _ stands in
        let is_package = package-is facts (at + 1) (apart.spelled.named facts (apart.origins source facts has))
        (omega arith) (omega (arith, few)) in
        let one : package_at facts (at + 1) ≡ entity =
        one-text files ids apart number number kept.facts kept.facts there there ids.run
        (home_of_file files ids number).id good.run (file_good files ids number good) (package_at facts (at + 1)) entity
        is_package is_entity tt
        (in-first files ids apart number number kept.facts kept.facts there there kept.declaration listed)
        (same ∙ text_is) in
        absurd (cc)
    apart_from other (entries.of_declaration at its) same =
        let here : AreReachable files source its.facts =
        record { is_reachable = source_reached; known = its.has.has_facts } in
        let one = one-declared files ids apart source number its.facts kept.facts here there
        (home_of_file files ids source).id (home_of_file files ids number).id (file_good files ids source good)
        (file_good files ids number good) at index its.declaration kept.declaration its.has.numbered kept.has.numbered
        (sym (ap (λ (e : SymbolInformation). e.symbol) its.is) ∙ (same ∙ text_is)) in
        let one_file : is.file ≡ file =
        same_Some is.file file (sym is.numbered ∙ (ap (slice_get files) one.0 ∙ numbered)) in
        absurd (false≢true (sym is.source ∙ (ap (λ (f : File). f.is_included) one_file ∙ included)))

  -- ---- of an external entry

  of_use : (entry : SymbolInformation) (is : HasExternal files chosen ids entry) → IsReachable files is.number
  of_use entry is =
      let target = is.names.is_target in
      in_file (IsReachable files)
      (target.named is.names.index (link.Declared is.number is.index) is.names.part_is)
      (reached is.is_source (sees target.names.owned.gives.sees) target.names.owned.present)

  of_option : TargetsAreReachable → (known : List OptionFacts) → AllLinkOptions files → (texts : List (List ℕ))
      (entry : SymbolInformation) (is : HasExternalOfOption files known texts chosen ids entry)
      → IsReachable files is.number
  of_option targets known links texts entry is =
      let names = is.names in
      in_file (IsReachable files)
      (entity_of_part files names.is_target.parts names.index (link.Declared is.number is.index) names.part_is).2
      (targets files known is.source is.is_source (links is.source is.is_source) is.text names.option names.target
      names.is_target)

  pub undefined : TargetsAreReachable → (asked : Option (List OptionFacts))
      → IfSome asked (λ known. AllLinkOptions files)
      → (texts : List (List ℕ)) (entry : SymbolInformation) → HasExternalWith asked files texts chosen ids entry
      → (source : ℕ) → IsSource files source → (other : SymbolInformation) → HasEntry files chosen ids source other
      → other.symbol ≡ entry.symbol → ⊥
  undefined targets None links texts entry is source is_source =
      apart_from is.number is.index (of_use entry is) is.file is.numbered is.included entry is.kept source is_source
  undefined targets (Some known) links texts entry (inl is) source is_source =
      apart_from is.number is.index (of_use entry is) is.file is.numbered is.included entry is.kept source is_source
  undefined targets (Some known) links texts entry (inr is) source is_source =
      apart_from is.number is.index (of_option targets known links texts entry is) is.file is.numbered is.included entry
      is.kept source is_source
