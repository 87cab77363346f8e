-- What is known of files with facts is known among mended files.
use Rattle.std.proofs.Common.{◌≡◌, ◌∙◌, sym, subst, ℕ}
use Rattle.std.proofs.Common.{List, Some}
use Rattle.std.specs.List.{slice_get}
use Rattle.proto_decl.specs.Facts.{Facts}
use Rattle.proto_decl.specs.declared.declaration.Declaration.{Declaration}
use Rattle.proto_decl.specs.declared.declaration.DeclarationKind.{DeclarationKind}
use Rattle.proto_decl.specs.declared.declaration.DeclarationKind.TheVariants.{Message, Enum, Field}
use Rattle.proto_options.specs.declared.fields.FieldFact.{FieldFact}
use Rattle.proto_options.specs.declared.fields.FieldKind.{FieldKind}
use Rattle.proto_options.specs.declared.messages.MessageClause.{MessageClause}
use Rattle.proto_options.specs.declared.names.OptionRole.{OptionRole}
use Rattle.proto_options.specs.declared.options.FileOption.{FileOption}
use Rattle.proto_visibility.specs.Files.{File, HasFacts}
use Rattle.proto_visibility.proofs.FileFactLemmas.{one_list_of_facts}
use Rattle.proto_link.specs.Mended.{AreMended}
use Rattle.proto_link.proofs.MendedLemmas.{facts_stay, present_stays}
use Rattle.option_link.specs.declared.contexts.Context.{Context}
use Rattle.option_link.specs.declared.contexts.Context.TheVariants as inside
use Rattle.option_link.specs.declared.facts.OptionFacts.{OptionFacts}
use Rattle.option_link.specs.declared.place.DeclaredPlace.{DeclaredPlace}
use Rattle.option_link.specs.Places.{Stands, StandsAs, place_at}
use Rattle.option_link.specs.Fields.{Extends, FieldGives, IsField, IsFieldOf, IsFirstItem, IsItem, IsMember}
use Rattle.option_link.specs.Fields.{IsOwnField, IsOwnGroup, KindGives}
use Rattle.option_link.specs.Fields.{MapGives, TypeGives, ValueGives, behind}
use Rattle.option_link.specs.Fields.IsFieldOf.{own as own_field, extending}
use Rattle.option_link.specs.Fields.KindGives.{scalar as kind_scalar, named as kind_named, group as kind_group}
use Rattle.option_link.specs.Fields.KindGives.{entries as kind_entries}
use Rattle.option_link.specs.Fields.MapGives.{scalar as map_scalar, named as map_named}
use Rattle.option_link.specs.Fields.TypeGives.{message as type_message, enum as type_enum}
use Rattle.option_link.specs.Contexts.{HasFieldsOf, IsMessageNamed, IsOptionsFile}
use Rattle.option_link.specs.Contexts.{options_message}
use Rattle.option_link.specs.Contexts.{LookedUpFrom, MayBeExtended, PlaceGives}
use Rattle.option_link.specs.Contexts.HasFieldsOf.{options as fields_options, message as fields_message}
use Rattle.option_link.specs.Contexts.MayBeExtended.{options as extended_options, message as extended_message}
use Rattle.option_link.specs.Contexts.LookedUpFrom.{part, in_braces}
use Rattle.option_link.specs.Contexts.PlaceGives.{field as gives_field, extension as gives_extension}
use Rattle.option_link.specs.Contexts.PlaceGives.{message as gives_message}
use Rattle.option_link.specs.Said.{Says}
use Rattle.option_link.specs.Certain.{HasOptionsAlike, ItemsStay, StaysKnown, TypesStay}

module _ (files mended : List File) (are : AreMended files mended) (known mended_known : List OptionFacts)
    (stays : StaysKnown files known mended_known) where
  -- ---- declarations

  pub stand_stays : (at : DeclaredPlace) (declaration : Declaration) → Stands files at declaration
      → Stands mended at declaration
  stand_stays at declaration is = record {
    facts = is.facts;
    known = facts_stay files mended are at.file is.facts is.known;
    listed = is.listed;
  }

  -- in a file with facts nothing else stands
  stood : (at : DeclaredPlace) (facts : Facts) → HasFacts files at.file facts → (declaration : Declaration)
      → Stands mended at declaration → Stands files at declaration
  stood at facts has declaration is =
      let same = one_list_of_facts mended at.file is.facts facts is.known
      (facts_stay files mended are at.file facts has) in
      record {
        facts = facts;
        known = has;
        listed = subst (λ (f : Facts). slice_get f.declarations at.index ≡ Some declaration) same is.listed;
      }

  pub stands_stays : {kind : DeclarationKind} {at : DeclaredPlace} {declaration : Declaration}
      → StandsAs files kind at declaration → StandsAs mended kind at declaration
  stands_stays {at = at} {declaration = declaration} is = record {
    stands = stand_stays at declaration is.stands;
    is = is.is;
    alone = λ other its stands same.
        is.alone other its (stood (place_at at.file other) is.stands.facts is.stands.known its stands) same;
  }

  named_stays : (name : List ℕ) (message : DeclaredPlace) → IsMessageNamed files name message
      → IsMessageNamed mended name message
  named_stays name message is =
      record { declaration = is.declaration; stands = stands_stays is.stands; named = is.named }

  -- ---- fields

  pub field_stays : (at : DeclaredPlace) (fact : FieldFact) → IsField files known at fact
      → IsField mended mended_known at fact
  field_stays at fact is = record {
    declaration = is.declaration;
    stands = stand_stays at is.declaration is.stands;
    is = is.is;
    beside = is.beside;
    of_file = stays at.file is.stands.facts is.beside is.stands.known is.of_file;
    listed = is.listed;
    same = is.same;
  }

  member_stays : (message : DeclaredPlace) (kind : DeclarationKind) (name : List ℕ) (member : DeclaredPlace)
      → IsMember files message kind name member → IsMember mended message kind name member
  member_stays message kind name member is = record {
    outer = is.outer;
    of_message = stands_stays is.of_message;
    inner = is.inner;
    stands = stands_stays is.stands;
    same_file = is.same_file;
    named = is.named;
  }

  pub own_stays : (message : DeclaredPlace) (name : List ℕ) (field : DeclaredPlace) (fact : FieldFact)
      → IsOwnField files known message name field fact → IsOwnField mended mended_known message name field fact
  own_stays message name field fact is = record {
    member = member_stays message Field name field is.member;
    is = field_stays field fact is.is;
    own = is.own;
  }

  pub group_stays : (message : DeclaredPlace) (name : List ℕ) (field : DeclaredPlace)
      → IsOwnGroup files known message name field → IsOwnGroup mended mended_known message name field
  group_stays message name field is = record {
    member = member_stays message Message name (behind field) is.member;
    fact = is.fact;
    is = field_stays field is.fact is.is;
    own = is.own;
    group = is.group;
  }

  pub says_stays : (message : DeclaredPlace) (clause : MessageClause) → Says files known message clause
      → Says mended mended_known message clause
  says_stays message clause is = record {
    declaration = is.declaration;
    stands = stand_stays message is.declaration is.stands;
    said = record {
      beside = is.said.beside;
      of_file = stays message.file is.stands.facts is.said.beside is.stands.known is.said.of_file;
      listed = is.said.listed;
    };
  }

  module _ (field : DeclaredPlace) (types : TypesStay files mended field.file) where
    extends_stays : (message : DeclaredPlace) → Extends files known message field
        → Extends mended mended_known message field
    extends_stays message is = record {
      fact = is.fact;
      is = field_stays field is.fact is.is;
      start = is.start;
      extended = is.extended;
      named = types is.start Message message is.named;
    }

    pub of_stays : (message : DeclaredPlace) → IsFieldOf files known message field
        → IsFieldOf mended mended_known message field
    of_stays message (own_field {name = name} {fact = fact} plain is) =
        own_field plain (own_stays message name field fact is)
    of_stays message (extending is) = extending (extends_stays message is)

    type_gives : (start : ℕ) (context : Context) → TypeGives files field.file start context
        → TypeGives mended field.file start context
    type_gives start _ (type_message {type = type} is) = type_message (types start Message type is)
    type_gives start _ (type_enum {type = type} is) = type_enum (types start Enum type is)

    kind_gives : (kind : FieldKind) (context : Context) → KindGives files field kind context
        → KindGives mended field kind context
    kind_gives _ _ (kind_scalar) = kind_scalar
    kind_gives _ _ (kind_named {start = start} {context = context} is) = kind_named (type_gives start context is)
    kind_gives _ _ (kind_group is) = kind_group (stands_stays is)
    kind_gives _ _ (kind_entries) = kind_entries

    pub field_gives : (context : Context) → FieldGives files known field context
        → FieldGives mended mended_known field context
    field_gives context is = record {
      fact = is.fact;
      is = field_stays field is.fact is.is;
      gives = kind_gives is.fact.kind context is.gives;
    }

    item_stays : (set type : DeclaredPlace) → IsItem files known set type field
        → IsItem mended mended_known set type field
    item_stays set type is = record {
      name = is.name;
      plain = is.plain;
      member = member_stays type Field is.name field is.member;
      extends = extends_stays set is.extends;
      of_type = field_gives (inside.Message type) is.of_type;
    }

    pub first_item_stays : ItemsStay files mended known mended_known field.file → (set type : DeclaredPlace)
        → IsFirstItem files known set type field → IsFirstItem mended mended_known set type field
    first_item_stays items set type is = record {
      is = item_stays set type is.is;
      first = λ other its. is.first other
          (items set type other (its.member.same_file ∙ sym is.is.member.same_file) its);
    }

    map_gives : (kind : FieldKind) (context : Context) → MapGives files field kind context
        → MapGives mended field kind context
    map_gives _ _ (map_scalar) = map_scalar
    map_gives _ _ (map_named {start = start} {context = context} is) = map_named (type_gives start context is)

    pub value_gives : (context : Context) → ValueGives files known field context
        → ValueGives mended mended_known field context
    value_gives context is = record {
      fact = is.fact;
      is = field_stays field is.fact is.is;
      gives = map_gives is.fact.kind context is.gives;
    }

    pub place_gives : (role : OptionRole) (context : Context) → PlaceGives files known role field context
        → PlaceGives mended mended_known role field context
    place_gives _ context (gives_field is) = gives_field (field_gives context is)
    place_gives _ context (gives_extension is) = gives_extension (field_gives context is)
    place_gives _ _ (gives_message) = gives_message

  pub extended_stays : (option : FileOption) (context : Context) (message : DeclaredPlace)
      → MayBeExtended files option context message → MayBeExtended mended option context message
  extended_stays option _ message (extended_options is present) =
      extended_options (named_stays (options_message option.element) message is)
      (present_stays files mended are message.file present)
  extended_stays option _ message (extended_message) = extended_message

  pub looked_stays : (option : FileOption) (number : ℕ) (message : DeclaredPlace) (from : List ℕ)
      → LookedUpFrom files option number message from → LookedUpFrom mended option number message from
  looked_stays option number message _ (part less) = part less
  looked_stays option number message _ (in_braces least stands is) = in_braces least (stands_stays stands) is

  -- ---- the messages of a file's options

  module _ (file : ℕ) (alike : HasOptionsAlike files mended file) where
    options_file : (number : ℕ) → IsOptionsFile files file number → IsOptionsFile mended file number
    options_file number is = record {
      has = (alike number).0 is.has;
      only = λ other has. is.only other ((alike other).1 has);
      present = present_stays files mended are number is.present;
    }

    pub fields_stay : (option : FileOption) (context : Context) (message : DeclaredPlace)
        → HasFieldsOf files file option context message → HasFieldsOf mended file option context message
    fields_stay option _ message (fields_options is) = fields_options (record {
      named = named_stays (options_message option.element) message is.named;
      of_source = options_file message.file is.of_source;
    })
    fields_stay option _ message (fields_message) = fields_message
