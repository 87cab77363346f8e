-- What names in options name, by their parts: the last one is what the name names.
use Rattle.std.proofs.Common.{◌≡◌, ◌∙◌, ◌↔◌, sym, ap, subst, ℕ, ◌+◌, ◌-◌, Option, Some, List, length, get_or, arith}
use Rattle.std.specs.List.{All, Contains, slice_get}
use Rattle.std.proofs.lemmas.Option.{same_Some, slice_get-get_or, slice_get_within}
use Rattle.basics.proofs.FirstLemmas.{contained}
use Rattle.proto_decl.specs.Facts.{Facts}
use Rattle.proto_decl.specs.declared.declaration.Declaration.{Declaration}
use Rattle.proto_lex.specs.Lexed.{IsPart}
use Rattle.proto_options.specs.declared.names.OptionName.{OptionName}
use Rattle.proto_options.specs.declared.names.OptionRole.{OptionRole}
use Rattle.proto_options.specs.declared.options.FileOption.{FileOption}
use Rattle.proto_visibility.specs.Files.{File, HaveOrigins}
use Rattle.proto_visibility.specs.declared.lookup.Entity.{Entity}
use Rattle.proto_visibility.specs.declared.lookup.Entity.TheVariants as link
use Rattle.option_link.specs.declared.facts.OptionFacts.{OptionFacts}
use Rattle.option_link.specs.declared.place.DeclaredPlace.{DeclaredPlace}
use Rattle.option_link.specs.declared.target.OptionTarget.{OptionTarget}
use Rattle.option_link.specs.declared.target.UncertainName.{UncertainName}
use Rattle.option_link.specs.Contexts.{NamesAs}
use Rattle.option_link.specs.Contexts.NamesAs.{field, group, extension, item, packed, value}
use Rattle.option_link.specs.OptionNames.{IsOptionTarget, NamesParts}
use Rattle.option_link.specs.Places.{Stands}
use Rattle.option_link.proofs.PartLemmas.{entity_of_part}
use Rattle.option_link.proofs.PlaceLemmas.{one_DeclaredPlace, same_declaration}
use Rattle.scip_model.specs.Chosen.{Chosen, HaveChoices}
use Rattle.scip_model.specs.Named.{HasDeclaration}
use Rattle.scip_model.specs.Tables.ExternalLists.{IsKnownPart}
use Rattle.scip_model.specs.Tables.KnownFacts.{AreIdentifiers}
use Rattle.scip_model.specs.Tables.Listing.{IsNameable}
use Rattle.scip_model.specs.Tables.OptionListing.{IsLastPart, TellsGap, TellsUncertain}
use Rattle.scip_model.proofs.ExternalSymbolLemmas.{known-part}
use Rattle.scip_model.proofs.ListingNameableLemmas.{declared_all, part_nameable}

abbrev file-of : Entity → ℕ
file-of (link.Package count) = 0
file-of (link.Declared file index) = file

abbrev index-of : Entity → ℕ
index-of (link.Package count) = 0
index-of (link.Declared file index) = index

-- where a declaration is
pub one-place : (a b : DeclaredPlace) → Some (link.Declared a.file a.index) ≡ Some (link.Declared b.file b.index)
    → a ≡ b
one-place a b same =
    let entity : link.Declared a.file a.index ≡ link.Declared b.file b.index = same_Some _ _ same in
    one_DeclaredPlace a b (ap file-of entity) (ap index-of entity)

pub one-last : (parts : List Entity) (a b : DeclaredPlace) → IsLastPart parts a → IsLastPart parts b → a ≡ b
one-last parts a b x y =
    let index : x.index ≡ y.index = omega (arith, x.last, y.last) in
    one-place a b (sym x.is ∙ (ap (slice_get parts) index ∙ y.is))

-- what is said of options of the same files, with the text that was read
module _ (linked files : List File) (same : linked ≡ files) (known : List OptionFacts) (file : ℕ) (read text : List ℕ)
    (is_read : read ≡ text) (option : FileOption) where
  pub its-targets : (targets : List OptionTarget)
      → ((target : OptionTarget) → Contains targets target ↔ IsOptionTarget linked known file read option target)
      → (target : OptionTarget) → Contains targets target ↔ IsOptionTarget files known file text option target
  its-targets targets exact target =
      subst (λ (its : List ℕ). Contains targets target ↔ IsOptionTarget files known file its option target) is_read
      (subst (λ (list : List File). Contains targets target ↔ IsOptionTarget list known file read option target) same
      (exact target))

  pub its-gap : (gap : Option ℕ) → TellsGap linked known file read option gap → TellsGap files known file text option gap
  its-gap gap tells =
      subst (λ (its : List ℕ). TellsGap files known file its option gap) is_read
      (subst (λ (list : List File). TellsGap list known file read option gap) same tells)

  pub its-uncertain : (uncertain : Option UncertainName) → TellsUncertain linked known file read option uncertain
      → TellsUncertain files known file text option uncertain
  its-uncertain uncertain tells =
      subst (λ (its : List ℕ). TellsUncertain files known file its option uncertain) is_read
      (subst (λ (list : List File). TellsUncertain list known file read option uncertain) same tells)

module _ (files : List File) {name : OptionName} {at : DeclaredPlace} {behind : ℕ} {parts : List Entity}
    (named : NamesParts files name at behind parts) where
  -- a name with a part has a last one
  pub last-part : (index : ℕ) (part : Entity) → slice_get parts index ≡ Some part → IsLastPart parts at
  last-part index part there =
      let within = slice_get_within parts index part there in
      let last : length parts - 1 + 1 ≡ length parts = omega (arith, within) in
      record { index = length parts - 1; last = last; is = named.last (length parts - 1) last }

  pub declared-there : HasDeclaration files at.file at.index named.stands.facts named.declaration
  declared-there = record { has_facts = named.stands.known; numbered = named.stands.listed }

  -- the place of its last part
  pub place-is : (place : DeclaredPlace) → IsLastPart parts place → place ≡ at
  place-is place last =
      one-last parts place at last (last-part last.index (link.Declared place.file place.index) last.is)

  pub declared-at : (place : DeclaredPlace) → IsLastPart parts place
      → HasDeclaration files place.file place.index named.stands.facts named.declaration
  declared-at place last =
      subst (λ (p : DeclaredPlace). HasDeclaration files p.file p.index named.stands.facts named.declaration)
      (sym (place-is place last)) declared-there

  -- all its parts are known, and have symbols
  pub all-known : (chosen : Chosen) → HaveChoices files chosen → All (IsKnownPart files chosen) parts
  all-known chosen choices = λ k d within.
      known-part files chosen named.known choices
      (entity_of_part files named k (get_or parts k d) (slice_get-get_or parts k d within)).2

  pub all-nameable : AreIdentifiers → HaveOrigins files → (facts : Facts) (declared : Declaration)
      → HasDeclaration files at.file at.index facts declared → (index : ℕ) (part : Entity)
      → slice_get parts index ≡ Some part → IsNameable files declared.full_name part
  all-nameable spelled origins facts declared has index part there =
      let its = entity_of_part files named index part there in
      part_nameable files at.file named.facts declared.full_name _ _ part named.known
      (declared_all facts spelled (origins at.file facts has.has_facts) declared
      (contained facts.declarations at.index declared has.numbered)) its.1 its.2

  pub nameable-at : AreIdentifiers → HaveOrigins files → (place : DeclaredPlace) → IsLastPart parts place
      → (facts : Facts) (declared : Declaration) → HasDeclaration files place.file place.index facts declared
      → (index : ℕ) (part : Entity) → slice_get parts index ≡ Some part → IsNameable files declared.full_name part
  nameable-at spelled origins place last facts declared has index part there =
      all-nameable spelled origins facts declared
      (subst (λ (p : DeclaredPlace). HasDeclaration files p.file p.index facts declared) (place-is place last) has)
      index part there

module _ (files : List File) (known : List OptionFacts) (file : ℕ) (text : List ℕ) (option : FileOption) where
  -- the components of a name that names something are parts of the text
  pub stand-as : {number : ℕ} {name : OptionName} {role : OptionRole} {context : _} {at : DeclaredPlace}
      → NamesAs files known file text option number name role context at → All (IsPart text) name.name.components
  stand-as (field words holder own no_group) = words.parts
  stand-as (group words holder braces own) = words.parts
  stand-as (extension words extended from looks owner stands named of) = words.parts
  stand-as (item words braces says from looks unknown owner stands named first) = words.parts
  stand-as (packed words stands any owner inner named) = words.parts
  stand-as (value words type around stands same named beside) = words.parts

  -- of one target there is one name, one place and one declaration
  module _ (target : OptionTarget) (one other : IsOptionTarget files known file text option target) where
    pub same-name : one.name ≡ other.name
    same-name = same_Some one.name other.name (sym one.names.numbered ∙ other.names.numbered)

    module _ (index : ℕ) (part : Entity) (there : slice_get target.parts index ≡ Some part) where
      pub same-place : one.at ≡ other.at
      same-place = one-last target.parts one.at other.at (last-part files one.parts index part there)
          (last-part files other.parts index part there)

      pub same-target : one.parts.declaration ≡ other.parts.declaration
      same-target = same_declaration files other.at one.parts.declaration other.parts.declaration
          (subst (λ (at : DeclaredPlace). Stands files at one.parts.declaration) same-place one.parts.stands)
          other.parts.stands
