-- Declarations, fields and their types, in a part of files and in the whole, by their places.
use Rattle.std.proofs.Common.{◌≡◌, ◌∙◌, ℕ, ◌+◌, Bool, List, Some, ap, sym, refl, subst}
use Rattle.std.specs.List.{Contains, slice_get}
use Rattle.std.proofs.lemmas.Option.{same_Some, slice_get_within}
use Rattle.proto_decl.specs.declared.declaration.Declaration.{Declaration}
use Rattle.proto_decl.specs.declared.declaration.DeclarationKind.{DeclarationKind}
use Rattle.proto_decl.specs.declared.declaration.DeclarationKind.TheVariants.{Message, Field}
use Rattle.proto_options.specs.declared.fields.FieldFact.{FieldFact}
use Rattle.proto_options.specs.declared.messages.MessageClause.{MessageClause}
use Rattle.proto_visibility.specs.Files.{File, HaveOwnPaths}
use Rattle.proto_visibility.specs.Knows.{NameKind, IsOwner}
use Rattle.proto_visibility.specs.Parts.{IsOfPart, IsPart, renumbered}
use Rattle.proto_visibility.proofs.PartLemmas.{facts_back, facts_to, shares}
use Rattle.proto_visibility.proofs.PartReachLemmas.{HasAllLed, all_of_led, led_to, seen_of_led, sees_are}
use Rattle.proto_link.proofs.PartLemmas.{names_in_part, names_in_whole, one_number}
use Rattle.option_link.specs.declared.facts.OptionFacts.{OptionFacts}
use Rattle.option_link.specs.declared.place.DeclaredPlace.{DeclaredPlace}
use Rattle.option_link.specs.Places.{Stands, StandsAs, place_at}
use Rattle.option_link.specs.Fields.{Extends, IsField, IsFieldOf, IsMember, IsOwnField, IsOwnGroup, TypeAt, behind}
use Rattle.option_link.specs.Fields.IsFieldOf.{own as own_field, extending}
use Rattle.option_link.specs.Said.{Says, saying}
use Rattle.option_link.specs.Parts.{AreKnownAlike}

module _ (part whole : List File) (at : ℕ → ℕ) (own_paths : HaveOwnPaths part) (are : IsPart part whole at)
    (known theirs : List OptionFacts) (alike : AreKnownAlike part at known theirs) where
  -- a place in the part, in the whole
  abbrev pub moved : DeclaredPlace → DeclaredPlace
  moved place = place_at (at place.file) place.index

  -- it is in a file of the part, which has all that its imports lead to
  pub record IsDeep (number : ℕ) : Type 0 where
    pub file : File
    pub stands : slice_get part number ≡ Some file
    pub all : HasAllLed part whole at number

  -- ---- declarations

  pub stands_to : (place : DeclaredPlace) (declaration : Declaration) → Stands part place declaration
      → Stands whole (moved place) declaration
  stands_to place declaration is =
      let its = facts_to part whole at (shares part whole at are) place.file is.facts is.known in
      record { facts = renumbered its.0 is.facts; known = its.1; listed = is.listed }

  pub stands_back : (place : DeclaredPlace) (file : File) → slice_get part place.file ≡ Some file
      → (declaration : Declaration) → Stands whole (moved place) declaration → Stands part place declaration
  stands_back place file stands declaration is =
      let its = facts_back part whole at (shares part whole at are) place.file is.facts
      (slice_get_within part place.file file stands) is.known in
      record { facts = renumbered its.0 is.facts; known = its.1; listed = is.listed }

  pub file_there : {place : DeclaredPlace} {declaration : Declaration} → Stands part place declaration
      → (file : File) × (slice_get part place.file ≡ Some file)
  file_there is = (is.known.file, is.known.numbered)

  pub as_to : {kind : DeclarationKind} {declaration : Declaration} (place : DeclaredPlace)
      → StandsAs part kind place declaration → StandsAs whole kind (moved place) declaration
  as_to {declaration = declaration} place is =
      let there = file_there is.stands in
      record {
        stands = stands_to place declaration is.stands;
        is = is.is;
        alone = λ other its stands same.
            is.alone other its (stands_back (place_at place.file other) there.0 there.1 its stands) same;
      }

  pub as_back : {kind : DeclarationKind} {declaration : Declaration} (place : DeclaredPlace) (file : File)
      → slice_get part place.file ≡ Some file → StandsAs whole kind (moved place) declaration
      → StandsAs part kind place declaration
  as_back {declaration = declaration} place file there is = record {
    stands = stands_back place file there declaration is.stands;
    is = is.is;
    alone = λ other its stands same. is.alone other its (stands_to (place_at place.file other) its stands) same;
  }

  -- ---- fields

  pub field_to : (place : DeclaredPlace) (fact : FieldFact) → IsField part known place fact
      → IsField whole theirs (moved place) fact
  field_to place fact is =
      let there = file_there is.stands in
      let its = alike place.file there.0 there.1 in
      let one : is.beside ≡ its.own = same_Some is.beside its.own (sym is.of_file ∙ its.of_own) in
      record {
        declaration = is.declaration;
        stands = stands_to place is.declaration is.stands;
        is = is.is;
        beside = its.other;
        of_file = its.of_other;
        listed = subst (λ fields. Contains fields fact) (ap (λ (f : OptionFacts). f.fields) one ∙ its.fields) is.listed;
        same = is.same;
      }

  pub field_back : (place : DeclaredPlace) (file : File) → slice_get part place.file ≡ Some file → (fact : FieldFact)
      → IsField whole theirs (moved place) fact → IsField part known place fact
  field_back place file stands fact is =
      let its = alike place.file file stands in
      let one : is.beside ≡ its.other = same_Some is.beside its.other (sym is.of_file ∙ its.of_other) in
      record {
        declaration = is.declaration;
        stands = stands_back place file stands is.declaration is.stands;
        is = is.is;
        beside = its.own;
        of_file = its.of_own;
        listed = subst (λ fields. Contains fields fact) (ap (λ (f : OptionFacts). f.fields) one ∙ sym its.fields)
            is.listed;
        same = is.same;
      }

  -- ---- what messages say

  pub says_to : (message : DeclaredPlace) (clause : MessageClause) → Says part known message clause
      → Says whole theirs (moved message) clause
  says_to message clause is =
      let there = file_there is.stands in
      let its = alike message.file there.0 there.1 in
      let one : is.said.beside ≡ its.own = same_Some is.said.beside its.own (sym is.said.of_file ∙ its.of_own) in
      record {
        declaration = is.declaration;
        stands = stands_to message is.declaration is.stands;
        said = record {
          beside = its.other;
          of_file = its.of_other;
          listed = subst (λ facts. Contains facts (saying is.declaration.name clause))
              (ap (λ (f : OptionFacts). f.messages) one ∙ its.messages) is.said.listed;
        };
      }

  pub says_back : (message : DeclaredPlace) (file : File) → slice_get part message.file ≡ Some file
      → (clause : MessageClause) → Says whole theirs (moved message) clause → Says part known message clause
  says_back message file stands clause is =
      let its = alike message.file file stands in
      let one : is.said.beside ≡ its.other = same_Some is.said.beside its.other (sym is.said.of_file ∙ its.of_other) in
      record {
        declaration = is.declaration;
        stands = stands_back message file stands is.declaration is.stands;
        said = record {
          beside = its.own;
          of_file = its.of_own;
          listed = subst (λ facts. Contains facts (saying is.declaration.name clause))
              (ap (λ (f : OptionFacts). f.messages) one ∙ sym its.messages) is.said.listed;
        };
      }

  -- ---- types

  -- a place of the whole that is one of the part
  pub record IsPlaced (Holds : DeclaredPlace → Type 0) (there : DeclaredPlace) : Type 0 where
    pub own : DeclaredPlace
    pub same : moved own ≡ there
    pub deep : IsDeep own.file
    pub holds : Holds own

  -- a place whose file is one of the part
  pub placed_in : {n : ℕ} (own : IsOfPart part at n) (there : DeclaredPlace) → there.file ≡ n
      → moved (place_at own.number there.index) ≡ there
  placed_in own there is = λ i. record { file = (own.same ∙ sym is) i; index = there.index }

  pub owner_deep : {admits : NameKind → Bool} {name : List ℕ} (k j : ℕ) → IsDeep k → IsOwner part k admits name j
      → IsDeep j
  owner_deep k j deep owned = record {
    file = owned.present.file;
    stands = owned.present.numbered;
    all = all_of_led part whole at are k j deep.all (led_to part whole at are (sees_are owned.gives.sees));
  }

  pub type_to : (k start : ℕ) → IsDeep k → (kind : DeclarationKind) (type : DeclaredPlace)
      → TypeAt part k start kind type → TypeAt whole (at k) start kind (moved type)
  type_to k start deep kind type is =
      let its = facts_to part whole at (shares part whole at are) k is.facts is.known in
      record {
        facts = renumbered its.0 is.facts;
        known = its.1;
        type_use = is.type_use;
        listed = is.listed;
        starts = is.starts;
        name = is.name;
        names = names_in_whole part whole at own_paths are k deep.file deep.stands
            (seen_of_led part whole at are k deep.all) is.type_use is.name type.file is.names;
        declaration = is.declaration;
        stands = as_to type is.stands;
        named = is.named;
      }

  pub type_deep : (k start : ℕ) → IsDeep k → {kind : DeclarationKind} {type : DeclaredPlace}
      → TypeAt part k start kind type → IsDeep type.file
  type_deep k start deep {type = type} is = owner_deep k type.file deep is.names.owned

  pub type_back : (k start : ℕ) → IsDeep k → (kind : DeclarationKind) (type : DeclaredPlace)
      → TypeAt whole (at k) start kind type → IsPlaced (TypeAt part k start kind) type
  type_back k start deep kind type is =
      let its = facts_back part whole at (shares part whole at are) k is.facts
      (slice_get_within part k deep.file deep.stands) is.known in
      let names = names_in_part part whole at own_paths are k deep.file deep.stands
      (seen_of_led part whole at are k deep.all) is.type_use is.name type.file is.names in
      let own = place_at names.0.number type.index in
      let same = placed_in names.0 type refl in
      let there : TypeAt part k start kind own = record {
        facts = renumbered its.0 is.facts;
        known = its.1;
        type_use = is.type_use;
        listed = is.listed;
        starts = is.starts;
        name = is.name;
        names = names.1;
        declaration = is.declaration;
        stands = as_back own names.0.file names.0.numbered
            (subst (λ place. StandsAs whole kind place is.declaration) (sym same) is.stands);
        named = is.named;
      } in
      record { own = own; same = same; deep = type_deep k start deep there; holds = there }

  -- ---- members of messages

  pub member_to : (message : DeclaredPlace) (kind : DeclarationKind) (name : List ℕ) (member : DeclaredPlace)
      → IsMember part message kind name member → IsMember whole (moved message) kind name (moved member)
  member_to message kind name member is = record {
    outer = is.outer;
    of_message = as_to message is.of_message;
    inner = is.inner;
    stands = as_to member is.stands;
    same_file = ap at is.same_file;
    named = is.named;
  }

  -- of a message and a member in one file of the part
  pub member_back : (file index its : ℕ) (own : File) → slice_get part file ≡ Some own → (kind : DeclarationKind)
      (name : List ℕ) → IsMember whole (moved (place_at file index)) kind name (moved (place_at file its))
      → IsMember part (place_at file index) kind name (place_at file its)
  member_back file index its own there kind name is = record {
    outer = is.outer;
    of_message = as_back (place_at file index) own there is.of_message;
    inner = is.inner;
    stands = as_back (place_at file its) own there is.stands;
    same_file = refl;
    named = is.named;
  }

  -- what is in the file of a place of the part
  pub beside_is : (own there : DeclaredPlace) → there.file ≡ at own.file → moved (place_at own.file there.index) ≡ there
  beside_is own there is = λ i. record { file = sym is i; index = there.index }

  pub own_field_to : (message : DeclaredPlace) (name : List ℕ) (field : DeclaredPlace) (fact : FieldFact)
      → IsOwnField part known message name field fact → IsOwnField whole theirs (moved message) name (moved field) fact
  own_field_to message name field fact is = record {
    member = member_to message Field name field is.member;
    is = field_to field fact is.is;
    own = is.own;
  }

  own_field_in : (file index its : ℕ) (own : File) → slice_get part file ≡ Some own → (name : List ℕ)
      (fact : FieldFact)
      → IsOwnField whole theirs (moved (place_at file index)) name (moved (place_at file its)) fact
      → IsOwnField part known (place_at file index) name (place_at file its) fact
  own_field_in file index its own there name fact is = record {
    member = member_back file index its own there Field name is.member;
    is = field_back (place_at file its) own there fact is.is;
    own = is.own;
  }

  pub own_field_back : (message : DeclaredPlace) → IsDeep message.file → (name : List ℕ) (field : DeclaredPlace)
      (fact : FieldFact) → IsOwnField whole theirs (moved message) name field fact
      → IsPlaced (λ own. IsOwnField part known message name own fact) field
  own_field_back message deep name field fact is =
      let same = beside_is message field is.member.same_file in
      record {
        own = place_at message.file field.index;
        same = same;
        deep = deep;
        holds = own_field_in message.file message.index field.index deep.file deep.stands name fact
            (subst (λ place. IsOwnField whole theirs (moved message) name place fact) (sym same) is);
      }

  pub own_group_to : (message : DeclaredPlace) (name : List ℕ) (field : DeclaredPlace)
      → IsOwnGroup part known message name field → IsOwnGroup whole theirs (moved message) name (moved field)
  own_group_to message name field is = record {
    member = member_to message Message name (behind field) is.member;
    fact = is.fact;
    is = field_to field is.fact is.is;
    own = is.own;
    group = is.group;
  }

  pub own_group_back : (message : DeclaredPlace) → IsDeep message.file → (name : List ℕ) (field : DeclaredPlace)
      → IsOwnGroup whole theirs (moved message) name field
      → IsPlaced (IsOwnGroup part known message name) field
  own_group_back message deep name field is =
      let same = beside_is message field is.member.same_file in
      let there = subst (IsOwnGroup whole theirs (moved message) name) (sym same) is in
      record {
        own = place_at message.file field.index;
        same = same;
        deep = deep;
        holds = record {
          member = member_back message.file message.index (field.index + 1) deep.file deep.stands Message name
              there.member;
          fact = there.fact;
          is = field_back (place_at message.file field.index) deep.file deep.stands there.fact there.is;
          own = there.own;
          group = there.group;
        };
      }

  -- two places of the part that are one place of the whole are one
  pub one_place : (one other : DeclaredPlace) (a b : File) → slice_get part one.file ≡ Some a
      → slice_get part other.file ≡ Some b → moved one ≡ moved other → one ≡ other
  one_place one other a b here there same =
      let file : one.file ≡ other.file =
      one_number part whole at own_paths are one.file other.file (slice_get_within part one.file a here)
      (slice_get_within part other.file b there) (ap (λ (p : DeclaredPlace). p.file) same) in
      let index : one.index ≡ other.index = ap (λ (p : DeclaredPlace). p.index) same in
      λ i. record { file = file i; index = index i }

  -- ---- of which message a field is

  pub extends_to : (message field : DeclaredPlace) → IsDeep field.file → Extends part known message field
      → Extends whole theirs (moved message) (moved field)
  extends_to message field deep is = record {
    fact = is.fact;
    is = field_to field is.fact is.is;
    start = is.start;
    extended = is.extended;
    named = type_to field.file is.start deep Message message is.named;
  }

  pub extends_back : (message field : DeclaredPlace) → IsDeep field.file → Extends whole theirs message (moved field)
      → IsPlaced (λ own. Extends part known own field) message
  extends_back message field deep is =
      let type = type_back field.file is.start deep Message message is.named in
      record {
        own = type.own;
        same = type.same;
        deep = type.deep;
        holds = record {
          fact = is.fact;
          is = field_back field deep.file deep.stands is.fact is.is;
          start = is.start;
          extended = is.extended;
          named = type.holds;
        };
      }

  pub field_of_to : (message field : DeclaredPlace) → IsDeep field.file → IsFieldOf part known message field
      → IsFieldOf whole theirs (moved message) (moved field)
  field_of_to message field deep (own_field {name = name} {fact = fact} plain is) =
      own_field plain (own_field_to message name field fact is)
  field_of_to message field deep (extending is) = extending (extends_to message field deep is)

  pub field_of_back : (message field : DeclaredPlace) → IsDeep field.file → IsFieldOf whole theirs message (moved field)
      → IsPlaced (λ own. IsFieldOf part known own field) message
  field_of_back message field deep (own_field {name = name} {fact = fact} plain is) =
      let same = beside_is field message (sym is.member.same_file) in
      record {
        own = place_at field.file message.index;
        same = same;
        deep = deep;
        holds = own_field plain (own_field_in field.file message.index field.index deep.file deep.stands name fact
            (subst (λ place. IsOwnField whole theirs place name (moved field) fact) (sym same) is));
      }
  field_of_back message field deep (extending is) =
      let its = extends_back message field deep is in
      record { own = its.own; same = its.same; deep = its.deep; holds = extending its.holds }
