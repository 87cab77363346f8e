-- What a use names that starts somewhere: from what the linker resolves it to.
use Rattle.std.proofs.Common.{◌≡◌, ◌⊎◌, inl, inr, ℕ, Bool, true, false, List, Option, Some, None, Result, Ok, Err}
use Rattle.std.proofs.Common.{IfOk, IfErr}
use Rattle.std.proofs.Common.{refl, ap, sym, ◌∙◌, subst}
use Rattle.std.proofs.lemmas.Option.{same_Some}
use Rattle.std.specs.List.{Contains}
use Rattle.std.proofs.lemmas.Bool.{false≢true}
use Rattle.proto_decl.specs.Facts.{Facts, AreOfSomeFile, UsesAreFilled, UsesInOrder}
use Rattle.proto_decl.specs.declared.declaration.Declaration.{Declaration}
use Rattle.proto_decl.specs.declared.declaration.DeclarationKind.{DeclarationKind}
use Rattle.proto_decl.specs.declared.declaration.DeclarationKind.TheVariants.{Message, Enum, Service, Field, Oneof}
use Rattle.proto_decl.specs.declared.declaration.DeclarationKind.TheVariants.{Value, Method}
use Rattle.proto_decl.specs.declared.uses.Use.{Use}
use Rattle.proto_link.specs.Resolves.{wanted}
use Rattle.proto_link.specs.Targets.{Names, IsAmbiguous, IsTarget, IsUnresolved, MayRefuseUse}
use Rattle.proto_visibility.specs.declared.fault.LinkFault.{LinkFault}
use Rattle.proto_visibility.specs.declared.fault.LinkFault.TheVariants.{Broken, Duplicate, MissingImport, Unresolved}
use Rattle.proto_visibility.specs.declared.fault.LinkFault.TheVariants.{Ambiguous, Memory}
use Rattle.proto_link.specs.declared.target.Target.{Target}
use Rattle.proto_link.proofs.LawLemmas.{one_name_a_use}
use Rattle.proto_visibility.specs.Files.{File, HaveOrigins}
use Rattle.proto_visibility.specs.Knows.{NameKind, IsOwner, SeesGiving}
use Rattle.proto_visibility.specs.Knows.NameKind.{OfPackage, OfDeclaration}
use Rattle.proto_visibility.proofs.FileFactLemmas.{one_list_of_facts}
use Rattle.option_link.specs.declared.place.DeclaredPlace.{DeclaredPlace}
use Rattle.option_link.specs.Places.{Stands}
use Rattle.option_link.specs.Fields.{TypeAt}
use Rattle.option_link.specs.Typed.{AnswersAlike, IsTypeNamed}
use Rattle.option_link.specs.Tables.{HasName, IsOwned, IsSought, IsUseAt}
use Rattle.option_link.proofs.KnownLemmas.{sought_giving}
use Rattle.option_link.proofs.OnlyLemmas.{owned_kind, stands_only}
use Rattle.option_link.proofs.PlaceLemmas.{one_DeclaredPlace, same_declaration}
use Rattle.option_link.proofs.UseLemmas.{one_use}

pub no_package : (is_extended : Bool) → wanted is_extended OfPackage ≡ false
no_package true = refl
no_package false = refl

wanted_kinds : (is_extended : Bool) (kind : DeclarationKind) → wanted is_extended (OfDeclaration kind) ≡ true
    → (kind ≡ Message) ⊎ (kind ≡ Enum)
wanted_kinds is_extended Message is = inl refl
wanted_kinds is_extended Enum is = inr refl
wanted_kinds true Service is = absurd (false≢true is)
wanted_kinds false Service is = absurd (false≢true is)
wanted_kinds true Field is = absurd (false≢true is)
wanted_kinds false Field is = absurd (false≢true is)
wanted_kinds true Oneof is = absurd (false≢true is)
wanted_kinds false Oneof is = absurd (false≢true is)
wanted_kinds true Value is = absurd (false≢true is)
wanted_kinds false Value is = absurd (false≢true is)
wanted_kinds true Method is = absurd (false≢true is)
wanted_kinds false Method is = absurd (false≢true is)

-- ---- what the linker answers

pub answered : (files : List File) (file : ℕ) (used : Use) (answer : Result Target LinkFault) (found : Option Target)
    (target : Target) → AnswersAlike answer found → found ≡ Some target
    → IfOk answer (IsTarget files file used) → IsTarget files file used target
answered files file used (Ok one) found target alike is told =
    subst (IsTarget files file used) (same_Some one target (sym alike ∙ is)) told
answered files file used (Err fault) found target alike is told = absurd (none_some target (sym alike.0 ∙ is))
  where
    none_some : (t : Target) → None ≡ Some t → ⊥
    none_some t e = cc

refused : (files : List File) (file : ℕ) (used : Use) (fault : LinkFault) → (fault ≡ Memory → ⊥)
    → MayRefuseUse files file used fault → IsUnresolved files file used
refused files file used (Unresolved place) not may = may.0
refused files file used (Ambiguous place) not may = two_owners may.0
  where
    two_owners : IsAmbiguous files file used → IsUnresolved files file used
    two_owners is name owner names =
        let same = one_name_a_use files file used name is.name names.resolves is.resolves in
        let alone = λ (other : ℕ) (gives : SeesGiving files file (wanted used.is_extended) is.name other).
        names.owned.alone other (subst (λ (n : List ℕ). SeesGiving files file (wanted used.is_extended) n other)
        (sym same) gives) in
        is.twice.apart (alone is.twice.first is.twice.first_gives ∙ sym (alone is.twice.second is.twice.second_gives))
refused files file used (Broken number) not may = absurd may
refused files file used (Duplicate first second) not may = absurd may
refused files file used (MissingImport place) not may = absurd may
refused files file used Memory not may = absurd (not refl)

pub unanswered : (files : List File) (file : ℕ) (used : Use) (answer : Result Target LinkFault) (found : Option Target)
    → AnswersAlike answer found → found ≡ None → IfErr answer (MayRefuseUse files file used)
    → IsUnresolved files file used
unanswered files file used (Ok one) found alike is may = absurd (some_none one (sym alike ∙ is))
  where
    some_none : (t : Target) → Some t ≡ None → ⊥
    some_none t e = cc
unanswered files file used (Err fault) found alike is may = refused files file used fault alike.1 may

-- ---- the type by who owns its name

module _ (files : List File) (file : ℕ) (used : Use) (target : Target) (is : IsTarget files file used target)
    (role : NameKind → Bool) (is_role : role ≡ wanted used.is_extended) where
  pub type_owned : role OfPackage ≡ false → (name : List ℕ) → name ≡ target.name → (type : DeclaredPlace)
      → IsOwned files file role name type → IsTypeNamed files file used type
  type_owned typed name same type owned =
      let its = owned_kind files file role typed name type owned in
      record {
        kind = its.0.kind;
        name = target.name;
        names = record {
          resolves = is.names.resolves;
          owned = subst (λ (n : List ℕ). IsOwner files file (wanted used.is_extended) n type.file) same
              (subst (λ (r : NameKind → Bool). IsOwner files file r name type.file) is_role owned.owner);
        };
        declaration = its.0;
        stands = its.1;
        named = its.3 ∙ same;
      }

  pub type_unowned : (name : List ℕ) → name ≡ target.name → (type : DeclaredPlace) → IsTypeNamed files file used type
      → IsOwned files file role name type
  type_unowned name same type x =
      let one : x.name ≡ name =
      one_name_a_use files file used x.name target.name x.names.resolves is.names.resolves ∙ sym same in
      record {
        owner = subst (λ (n : List ℕ). IsOwner files file role n type.file) one
            (subst (λ (r : NameKind → Bool). IsOwner files file r x.name type.file) (sym is_role) x.names.owned);
        only = stands_only files x.kind name type x.declaration x.stands (x.named ∙ one);
      }

-- ---- the type by the use that starts there

pub type_from : (files : List File) (file start : ℕ) (used : Use) (type : DeclaredPlace)
    → IsUseAt files file start used → (named : IsTypeNamed files file used type)
    → TypeAt files file start named.kind type
type_from files file start used type at named = record {
  facts = at.facts;
  known = at.known;
  type_use = used;
  listed = at.listed;
  starts = at.starts;
  name = named.name;
  names = named.names;
  declaration = named.declaration;
  stands = named.stands;
  named = named.named;
}

pub type_used : (files : List File) (file start : ℕ) (kind : DeclarationKind) (type : DeclaredPlace)
    → (x : TypeAt files file start kind type) → IsUseAt files file start x.type_use
type_used files file start kind type x = record {
  facts = x.facts;
  known = x.known;
  listed = x.listed;
  starts = x.starts;
}

module _ (files : List File) (origins : HaveOrigins files)
    (uses : (facts : Facts) → AreOfSomeFile facts → UsesInOrder facts.uses)
    (filled : (facts : Facts) → AreOfSomeFile facts → UsesAreFilled facts.uses) where
  same_use : (file start : ℕ) (kind : DeclarationKind) (type : DeclaredPlace) (used : Use)
      → (x : TypeAt files file start kind type) → IsUseAt files file start used → x.type_use ≡ used
  same_use file start kind type used x at =
      let facts = one_list_of_facts files file x.facts at.facts x.known at.known in
      let listed = subst (λ (f : Facts). Contains f.uses x.type_use) facts x.listed in
      let origin = origins file at.facts at.known in
      one_use at.facts.uses (uses at.facts origin) (filled at.facts origin) x.type_use used listed at.listed
      (x.starts ∙ sym at.starts)

  pub type_to : (file start : ℕ) (kind : DeclarationKind) (type : DeclaredPlace) (used : Use)
      → TypeAt files file start kind type → IsUseAt files file start used → IsTypeNamed files file used type
  type_to file start kind type used x at = record {
    kind = kind;
    name = x.name;
    names = subst (λ (u : Use). Names files file u x.name type.file) (same_use file start kind type used x at) x.names;
    declaration = x.declaration;
    stands = x.stands;
    named = x.named;
  }

-- A type is a message or an enum.
pub type_kind : (files : List File) (file start : ℕ) (kind : DeclarationKind) (type : DeclaredPlace)
    → TypeAt files file start kind type → (kind ≡ Message) ⊎ (kind ≡ Enum)
type_kind files file start kind type x =
    let admits = wanted x.type_use.is_extended in
    let found = sought_giving files file admits (no_package x.type_use.is_extended) x.name type.file
    x.names.owned.gives in
    let sought : IsSought files file admits x.name found.0 = found.1 in
    let only = stands_only files kind x.name type x.declaration x.stands x.named in
    let index = only.alone found.0.index (subst (HasName files x.name)
    (one_DeclaredPlace found.0 (record { file = type.file; index = found.0.index }) found.2 refl)
    (record { declaration = sought.at.declaration; stands = sought.at.stands; named = sought.named })) in
    let same = one_DeclaredPlace found.0 type found.2 index in
    let there = subst (λ (p : DeclaredPlace). Stands files p sought.at.declaration) same sought.at.stands in
    let declaration = same_declaration files type sought.at.declaration x.declaration there x.stands.stands in
    wanted_kinds x.type_use.is_extended kind
    (subst (λ (k : DeclarationKind). admits (OfDeclaration k) ≡ true)
    (ap (λ (d : Declaration). d.kind) declaration ∙ x.stands.is) sought.at.admitted)
