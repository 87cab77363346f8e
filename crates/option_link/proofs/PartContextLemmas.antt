-- In what names in options of a source of a part are looked up, and what gives that, as in the whole.
use Rattle.std.proofs.Common.{◌≡◌, ◌∙◌, ℕ, List, Some, ap, sym, refl, subst}
use Rattle.std.specs.List.{slice_get}
use Rattle.std.proofs.lemmas.Option.{slice_get_within}
use Rattle.proto_decl.specs.declared.declaration.DeclarationKind.TheVariants.{Message, Enum}
use Rattle.proto_options.specs.declared.fields.FieldKind.{FieldKind}
use Rattle.proto_options.specs.declared.names.OptionRole.{OptionRole}
use Rattle.proto_options.specs.declared.options.FileOption.{FileOption}
use Rattle.proto_visibility.specs.Files.{File, HaveOwnPaths, IsPresent}
use Rattle.proto_visibility.specs.Reaches.{HasOptionsIn, ImportsLeadTo}
use Rattle.proto_visibility.specs.Reaches.HasOptionsIn.{imported, built_in}
use Rattle.proto_visibility.specs.Reaches.ImportsLeadTo.{at_once}
use Rattle.proto_visibility.specs.Parts.{IsOfPart, IsPart}
use Rattle.proto_visibility.proofs.PartReachLemmas.{options_in_back, options_in_to}
use Rattle.proto_visibility.proofs.PartLinkedLemmas.{present_back, present_to}
use Rattle.proto_link.proofs.PartLemmas.{one_number}
use Rattle.option_link.specs.declared.contexts.Context.{Context}
use Rattle.option_link.specs.declared.contexts.Context.TheVariants as inside
use Rattle.option_link.specs.declared.facts.OptionFacts.{OptionFacts}
use Rattle.option_link.specs.declared.place.DeclaredPlace.{DeclaredPlace}
use Rattle.option_link.specs.Places.{place_at}
use Rattle.option_link.specs.Fields.{FieldGives, KindGives, MapGives, TypeGives, ValueGives, behind}
use Rattle.option_link.specs.Fields.KindGives.{scalar as kind_scalar, named as kind_named, group as kind_group}
use Rattle.option_link.specs.Fields.KindGives.{entries as kind_entries}
use Rattle.option_link.specs.Fields.MapGives.{scalar as map_scalar, named as map_named}
use Rattle.option_link.specs.Fields.TypeGives.{message as type_message, enum as type_enum}
use Rattle.option_link.specs.Contexts.{HasFieldsOf, IsMessageNamed, IsOptionsFile, IsOptionsMessage, LacksMessage}
use Rattle.option_link.specs.Contexts.{MayBeExtended, PlaceGives, options_message}
use Rattle.option_link.specs.Contexts.HasFieldsOf.{options as fields_options, message as fields_message}
use Rattle.option_link.specs.Contexts.LacksMessage.{nowhere, not_there}
use Rattle.option_link.specs.Contexts.MayBeExtended.{options as extended_options, message as extended_message}
use Rattle.option_link.specs.Contexts.PlaceGives.{field as gives_field, extension as gives_extension}
use Rattle.option_link.specs.Contexts.PlaceGives.{message as gives_message}
use Rattle.option_link.specs.Parts.{AreKnownAlike}
use Rattle.option_link.proofs.PartPlaceLemmas.{IsDeep, IsPlaced, as_back, as_to, field_back, field_to, one_place}
use Rattle.option_link.proofs.PartPlaceLemmas.{placed_in}
use Rattle.option_link.proofs.PartPlaceLemmas.{type_back, type_deep, type_to}

module _ (part whole : List File) (at : ℕ → ℕ) (own_paths : HaveOwnPaths part) (are : IsPart part whole at)
    (known theirs : List OptionFacts) (alike : AreKnownAlike part at known theirs) where
  abbrev pub to : DeclaredPlace → DeclaredPlace
  to place = place_at (at place.file) place.index

  abbrev pub Deep : ℕ → Type 0
  Deep = IsDeep part whole at own_paths are known theirs alike

  abbrev pub Placed : (DeclaredPlace → Type 0) → DeclaredPlace → Type 0
  Placed = IsPlaced part whole at own_paths are known theirs alike

  -- ---- what names are looked up in

  abbrev pub context_at : Context → Context
  context_at inside.Options = inside.Options
  context_at (inside.Message place) = inside.Message (to place)
  context_at (inside.Entries place) = inside.Entries (to place)
  context_at (inside.Enum place) = inside.Enum (to place)
  context_at inside.Scalar = inside.Scalar
  context_at inside.Untold = inside.Untold
  context_at inside.Skipped = inside.Skipped

  -- its place is in a file of the part, which has all that its imports lead to
  abbrev pub IsDeepIn : Context → Type 0
  IsDeepIn inside.Options = Unit {0}
  IsDeepIn (inside.Message place) = Deep place.file
  IsDeepIn (inside.Entries place) = Deep place.file
  IsDeepIn (inside.Enum place) = Deep place.file
  IsDeepIn inside.Scalar = Unit {0}
  IsDeepIn inside.Untold = Unit {0}
  IsDeepIn inside.Skipped = Unit {0}

  pub record ContextIn (Holds : Context → Type 0) (there : Context) : Type 0 where
    pub own : Context
    pub same : context_at own ≡ there
    pub deep : IsDeepIn own
    pub holds : Holds own

  -- from what it is in the whole
  pub record From (make : DeclaredPlace → Context) (own : Context) (there : DeclaredPlace) : Type 0 where
    pub place : DeclaredPlace
    pub is : own ≡ make place
    pub same : to place ≡ there
    pub deep : Deep place.file

  pub from_message : (own : Context) (place : DeclaredPlace) → IsDeepIn own → context_at own ≡ inside.Message place
      → From inside.Message own place
  from_message inside.Options place deep same = absurd (cc)
  from_message (inside.Message own) place deep same = record { place = own; is = refl; same = cc; deep = deep }
  from_message (inside.Entries own) place deep same = absurd (cc)
  from_message (inside.Enum own) place deep same = absurd (cc)
  from_message inside.Scalar place deep same = absurd (cc)
  from_message inside.Untold place deep same = absurd (cc)
  from_message inside.Skipped place deep same = absurd (cc)

  pub from_enum : (own : Context) (place : DeclaredPlace) → IsDeepIn own → context_at own ≡ inside.Enum place
      → From inside.Enum own place
  from_enum inside.Options place deep same = absurd (cc)
  from_enum (inside.Message own) place deep same = absurd (cc)
  from_enum (inside.Entries own) place deep same = absurd (cc)
  from_enum (inside.Enum own) place deep same = record { place = own; is = refl; same = cc; deep = deep }
  from_enum inside.Scalar place deep same = absurd (cc)
  from_enum inside.Untold place deep same = absurd (cc)
  from_enum inside.Skipped place deep same = absurd (cc)

  pub from_entries : (own : Context) (place : DeclaredPlace) → IsDeepIn own → context_at own ≡ inside.Entries place
      → From inside.Entries own place
  from_entries inside.Options place deep same = absurd (cc)
  from_entries (inside.Message own) place deep same = absurd (cc)
  from_entries (inside.Entries own) place deep same = record { place = own; is = refl; same = cc; deep = deep }
  from_entries (inside.Enum own) place deep same = absurd (cc)
  from_entries inside.Scalar place deep same = absurd (cc)
  from_entries inside.Untold place deep same = absurd (cc)
  from_entries inside.Skipped place deep same = absurd (cc)

  pub from_options : (own : Context) → context_at own ≡ inside.Options → own ≡ inside.Options
  from_options inside.Options same = refl
  from_options (inside.Message own) same = absurd (cc)
  from_options (inside.Entries own) same = absurd (cc)
  from_options (inside.Enum own) same = absurd (cc)
  from_options inside.Scalar same = absurd (cc)
  from_options inside.Untold same = absurd (cc)
  from_options inside.Skipped same = absurd (cc)

  pub from_untold : (own : Context) → context_at own ≡ inside.Untold → own ≡ inside.Untold
  from_untold inside.Options same = absurd (cc)
  from_untold (inside.Message own) same = absurd (cc)
  from_untold (inside.Entries own) same = absurd (cc)
  from_untold (inside.Enum own) same = absurd (cc)
  from_untold inside.Scalar same = absurd (cc)
  from_untold inside.Untold same = refl
  from_untold inside.Skipped same = absurd (cc)

  pub from_skipped : (own : Context) → context_at own ≡ inside.Skipped → own ≡ inside.Skipped
  from_skipped inside.Options same = absurd (cc)
  from_skipped (inside.Message own) same = absurd (cc)
  from_skipped (inside.Entries own) same = absurd (cc)
  from_skipped (inside.Enum own) same = absurd (cc)
  from_skipped inside.Scalar same = absurd (cc)
  from_skipped inside.Untold same = absurd (cc)
  from_skipped inside.Skipped same = refl

  pub from_scalar : (own : Context) → context_at own ≡ inside.Scalar → own ≡ inside.Scalar
  from_scalar inside.Options same = absurd (cc)
  from_scalar (inside.Message own) same = absurd (cc)
  from_scalar (inside.Entries own) same = absurd (cc)
  from_scalar (inside.Enum own) same = absurd (cc)
  from_scalar inside.Scalar same = refl
  from_scalar inside.Untold same = absurd (cc)
  from_scalar inside.Skipped same = absurd (cc)

  -- ---- what types and fields give

  type_gives_to : (k start : ℕ) → Deep k → (context : Context) → TypeGives part k start context
      → TypeGives whole (at k) start (context_at context) × IsDeepIn context
  type_gives_to k start deep _ (type_message {type = place} is) = (
    type_message (type_to part whole at own_paths are known theirs alike k start deep Message place is),
    type_deep part whole at own_paths are known theirs alike k start deep is,
  )
  type_gives_to k start deep _ (type_enum {type = place} is) = (
    type_enum (type_to part whole at own_paths are known theirs alike k start deep Enum place is),
    type_deep part whole at own_paths are known theirs alike k start deep is,
  )

  type_gives_back : (k start : ℕ) → Deep k → (context : Context) → TypeGives whole (at k) start context
      → ContextIn (TypeGives part k start) context
  type_gives_back k start deep _ (type_message {type = place} is) =
      let its = type_back part whole at own_paths are known theirs alike k start deep Message place is in
      record {
        own = inside.Message its.own;
        same =
            ap inside.Message its.same;
        deep = its.deep;
        holds = type_message its.holds;
      }
  type_gives_back k start deep _ (type_enum {type = place} is) =
      let its = type_back part whole at own_paths are known theirs alike k start deep Enum place is in
      record { own = inside.Enum its.own; same = ap inside.Enum its.same; deep = its.deep; holds = type_enum its.holds }

  kind_gives_to : (field : DeclaredPlace) → Deep field.file → (of : FieldKind) (context : Context)
      → KindGives part field of context → KindGives whole (to field) of (context_at context) × IsDeepIn context
  kind_gives_to field deep _ _ (kind_scalar) = (kind_scalar, tt)
  kind_gives_to field deep _ _ (kind_named {start = start} {context = context} is) =
      let its = type_gives_to field.file start deep context is in (kind_named its.0, its.1)
  kind_gives_to field deep _ _ (kind_group is) =
      (kind_group (as_to part whole at own_paths are known theirs alike (behind field) is), deep)
  kind_gives_to field deep _ _ (kind_entries) = (kind_entries, deep)

  kind_gives_back : (field : DeclaredPlace) → Deep field.file → (of : FieldKind) (context : Context)
      → KindGives whole (to field) of context → ContextIn (KindGives part field of) context
  kind_gives_back field deep _ _ (kind_scalar) =
      record { own = inside.Scalar; same = refl; deep = tt; holds = kind_scalar }
  kind_gives_back field deep _ _ (kind_named {start = start} {context = context} is) =
      let its = type_gives_back field.file start deep context is in
      record { own = its.own; same = its.same; deep = its.deep; holds = kind_named its.holds }
  kind_gives_back field deep _ _ (kind_group is) = record {
    own = inside.Message (behind field);
    same = refl;
    deep = deep;
    holds = kind_group (as_back part whole at own_paths are known theirs alike (behind field) deep.file deep.stands is);
  }
  kind_gives_back field deep _ _ (kind_entries) =
      record { own = inside.Entries field; same = refl; deep = deep; holds = kind_entries }

  pub field_gives_to : (field : DeclaredPlace) → Deep field.file → (context : Context)
      → FieldGives part known field context
      → FieldGives whole theirs (to field) (context_at context) × IsDeepIn context
  field_gives_to field deep context is =
      let its = kind_gives_to field deep is.fact.kind context is.gives in (
        record {
          fact = is.fact;
          is = field_to part whole at own_paths are known theirs alike field is.fact is.is;
          gives = its.0;
        },
        its.1,
      )

  pub field_gives_back : (field : DeclaredPlace) → Deep field.file → (context : Context)
      → FieldGives whole theirs (to field) context → ContextIn (FieldGives part known field) context
  field_gives_back field deep context is =
      let its = kind_gives_back field deep is.fact.kind context is.gives in
      record {
        own = its.own;
        same = its.same;
        deep = its.deep;
        holds = record {
          fact = is.fact;
          is = field_back part whole at own_paths are known theirs alike field deep.file deep.stands is.fact is.is;
          gives = its.holds;
        };
      }

  map_gives_to : (field : DeclaredPlace) → Deep field.file → (of : FieldKind) (context : Context)
      → MapGives part field of context → MapGives whole (to field) of (context_at context) × IsDeepIn context
  map_gives_to field deep _ _ (map_scalar) = (map_scalar, tt)
  map_gives_to field deep _ _ (map_named {start = start} {context = context} is) =
      let its = type_gives_to field.file start deep context is in (map_named its.0, its.1)

  map_gives_back : (field : DeclaredPlace) → Deep field.file → (of : FieldKind) (context : Context)
      → MapGives whole (to field) of context → ContextIn (MapGives part field of) context
  map_gives_back field deep _ _ (map_scalar) =
      record { own = inside.Scalar; same = refl; deep = tt; holds = map_scalar }
  map_gives_back field deep _ _ (map_named {start = start} {context = context} is) =
      let its = type_gives_back field.file start deep context is in
      record { own = its.own; same = its.same; deep = its.deep; holds = map_named its.holds }

  pub value_gives_to : (field : DeclaredPlace) → Deep field.file → (context : Context)
      → ValueGives part known field context
      → ValueGives whole theirs (to field) (context_at context) × IsDeepIn context
  value_gives_to field deep context is =
      let its = map_gives_to field deep is.fact.kind context is.gives in (
        record {
          fact = is.fact;
          is = field_to part whole at own_paths are known theirs alike field is.fact is.is;
          gives = its.0;
        },
        its.1,
      )

  pub value_gives_back : (field : DeclaredPlace) → Deep field.file → (context : Context)
      → ValueGives whole theirs (to field) context → ContextIn (ValueGives part known field) context
  value_gives_back field deep context is =
      let its = map_gives_back field deep is.fact.kind context is.gives in
      record {
        own = its.own;
        same = its.same;
        deep = its.deep;
        holds = record {
          fact = is.fact;
          is = field_back part whole at own_paths are known theirs alike field deep.file deep.stands is.fact is.is;
          gives = its.holds;
        };
      }

  pub place_gives_to : (role : OptionRole) (place : DeclaredPlace) → Deep place.file → (context : Context)
      → PlaceGives part known role place context
      → PlaceGives whole theirs role (to place) (context_at context) × IsDeepIn context
  place_gives_to _ place deep context (gives_field is) =
      let its = field_gives_to place deep context is in (gives_field its.0, its.1)
  place_gives_to _ place deep context (gives_extension is) =
      let its = field_gives_to place deep context is in (gives_extension its.0, its.1)
  place_gives_to _ place deep _ (gives_message) = (gives_message, deep)

  pub place_gives_back : (role : OptionRole) (place : DeclaredPlace) → Deep place.file → (context : Context)
      → PlaceGives whole theirs role (to place) context → ContextIn (PlaceGives part known role place) context
  place_gives_back _ place deep context (gives_field is) =
      let its = field_gives_back place deep context is in
      record { own = its.own; same = its.same; deep = its.deep; holds = gives_field its.holds }
  place_gives_back _ place deep context (gives_extension is) =
      let its = field_gives_back place deep context is in
      record { own = its.own; same = its.same; deep = its.deep; holds = gives_extension its.holds }
  place_gives_back _ place deep _ (gives_message) =
      record { own = inside.Message place; same = refl; deep = deep; holds = gives_message }

  -- ---- the messages of a source's options

  named_to : (name : List ℕ) (message : DeclaredPlace) → IsMessageNamed part name message
      → IsMessageNamed whole name (to message)
  named_to name message is = record {
    declaration = is.declaration;
    stands = as_to part whole at own_paths are known theirs alike message is.stands;
    named = is.named;
  }

  named_back : (name : List ℕ) (message : DeclaredPlace) (file : File) → slice_get part message.file ≡ Some file
      → IsMessageNamed whole name (to message) → IsMessageNamed part name message
  named_back name message file stands is = record {
    declaration = is.declaration;
    stands = as_back part whole at own_paths are known theirs alike message file stands is.stands;
    named = is.named;
  }

  module _ (k : ℕ) (deep : Deep k) (described : (n m : ℕ) → HasOptionsIn whole (at k) n → ImportsLeadTo whole n m
      → IsOfPart part at m) where
    has_to : (file : ℕ) → HasOptionsIn part k file → HasOptionsIn whole (at k) (at file)
    has_to = options_in_to part whole at are k deep.file deep.stands deep.all

    record HasBack (n : ℕ) : Type 0 where
      own : IsOfPart part at n
      has : HasOptionsIn part k own.number

    has_back : (n : ℕ) → HasOptionsIn whole (at k) n → HasBack n
    has_back n is =
        let its = options_in_back part whole at are k deep.file deep.stands deep.all n (described n n is at_once) is in
        record { own = its.own; has = its.has }

    has_file : (number : ℕ) → HasOptionsIn part k number → (file : File) × (slice_get part number ≡ Some file)
    has_file number (imported way is) = (is.known.file, is.known.numbered)
    has_file number (built_in none has) = (has.0, has.1)

    has_deep : (number : ℕ) (file : File) → slice_get part number ≡ Some file → HasOptionsIn part k number → Deep number
    has_deep number file stands has = record {
      file = file;
      stands = stands;
      all = λ led way. described (at number) led (has_to number has) way;
    }

    file_to : (file : ℕ) → IsOptionsFile part k file → IsOptionsFile whole (at k) (at file)
    file_to file is = record {
      has = has_to file is.has;
      only = λ other has.
          let its = has_back other has in sym its.own.same ∙ ap at (is.only its.own.number its.has);
      present = present_to part whole at are file is.present;
    }

    record FileBack (n : ℕ) : Type 0 where
      own : IsOfPart part at n
      is : IsOptionsFile part k own.number

    file_back : (n : ℕ) → IsOptionsFile whole (at k) n → FileBack n
    file_back n is =
        let its = has_back n is.has in
        record {
          own = its.own;
          is = record {
            has = its.has;
            only = λ other has.
                let there = has_file other has in
                one_number part whole at own_paths are other its.own.number
                (slice_get_within part other there.0 there.1)
                (slice_get_within part its.own.number its.own.file its.own.numbered)
                (is.only (at other) (has_to other has) ∙ sym its.own.same);
            present = present_back part whole at are its.own.number its.own.file its.own.numbered
                (subst (IsPresent whole) (sym its.own.same) is.present);
          };
        }

    pub options_message_to : (name : List ℕ) (message : DeclaredPlace) → IsOptionsMessage part k name message
        → IsOptionsMessage whole (at k) name (to message) × Deep message.file
    options_message_to name message is = (
      record { named = named_to name message is.named; of_source = file_to message.file is.of_source },
      has_deep message.file is.of_source.present.file is.of_source.present.numbered is.of_source.has,
    )

    pub options_message_back : (name : List ℕ) (message : DeclaredPlace) → IsOptionsMessage whole (at k) name message
        → Placed (IsOptionsMessage part k name) message
    options_message_back name message is =
        let its = file_back message.file is.of_source in
        let own = place_at its.own.number message.index in
        let same = placed_in part whole at own_paths are known theirs alike its.own message refl in
        record {
          own = own;
          same = same;
          deep = has_deep its.own.number its.own.file its.own.numbered its.is.has;
          holds = record {
            named = named_back name own its.own.file its.own.numbered
                (subst (IsMessageNamed whole name) (sym same) is.named);
            of_source = its.is;
          };
        }

    pub lacks_to : (name : List ℕ) → LacksMessage part k name → LacksMessage whole (at k) name
    lacks_to name (nowhere none) = nowhere (λ n has. let its = has_back n has in none its.own.number its.has)
    lacks_to name (not_there {file = file} is none) =
        not_there (file_to file is) (λ message named in_file.
        let own = place_at file message.index in
        let same : to own ≡ message = λ i. record { file = sym in_file i; index = message.index } in
        none own (named_back name own is.present.file is.present.numbered
        (subst (IsMessageNamed whole name) (sym same) named)) refl)

    pub lacks_back : (name : List ℕ) → LacksMessage whole (at k) name → LacksMessage part k name
    lacks_back name (nowhere none) = nowhere (λ n has. none (at n) (has_to n has))
    lacks_back name (not_there {file = n} is none) =
        let its = file_back n is in
        not_there its.is (λ message named in_file.
        none (to message) (named_to name message named) (ap at in_file ∙ its.own.same))

    -- ---- the message whose fields plain names are, and those that may be extended

    pub fields_to : (option : FileOption) (context : Context) (message : DeclaredPlace) → IsDeepIn context
        → HasFieldsOf part k option context message
        → HasFieldsOf whole (at k) option (context_at context) (to message) × Deep message.file
    fields_to option _ message within (fields_options is) =
        let its = options_message_to (options_message option.element) message is in (fields_options its.0, its.1)
    fields_to option _ message within (fields_message) = (fields_message, within)

    pub fields_back : (option : FileOption) (own : Context) → IsDeepIn own → {context : Context}
        {message : DeclaredPlace} → HasFieldsOf whole (at k) option context message → context_at own ≡ context
        → Placed (HasFieldsOf part k option own) message
    fields_back option own within (fields_options {message = message} is) same =
        let its = options_message_back (options_message option.element) message is in
        record {
          own = its.own;
          same = its.same;
          deep = its.deep;
          holds = subst (λ c. HasFieldsOf part k option c its.own) (sym (from_options own same))
              (fields_options its.holds);
        }
    fields_back option own within (fields_message {message = message}) same =
        let its = from_message own message within same in
        record {
          own = its.place;
          same = its.same;
          deep = its.deep;
          holds = subst (λ c. HasFieldsOf part k option c its.place) (sym its.is) fields_message;
        }

  pub extended_to : (option : FileOption) (context : Context) (message : DeclaredPlace)
      → MayBeExtended part option context message → MayBeExtended whole option (context_at context) (to message)
  extended_to option _ message (extended_options is present) =
      extended_options (named_to (options_message option.element) message is)
      (present_to part whole at are message.file present)
  extended_to option _ message (extended_message) = extended_message

  pub extended_back : (option : FileOption) (own : Context) → IsDeepIn own → (message : DeclaredPlace)
      → Deep message.file → {context : Context} {there : DeclaredPlace} → MayBeExtended whole option context there
      → context_at own ≡ context → to message ≡ there → MayBeExtended part option own message
  extended_back option own within message deep (extended_options {message = there} is present) same is_there =
      subst (λ c. MayBeExtended part option c message) (sym (from_options own same))
      (extended_options (named_back (options_message option.element) message deep.file deep.stands
      (subst (IsMessageNamed whole (options_message option.element)) (sym is_there) is))
      (present_back part whole at are message.file deep.file deep.stands
      (subst (λ p. IsPresent whole p.file) (sym is_there) present)))
  extended_back option own within message deep (extended_message {message = there}) same is_there =
      let its = from_message own there within same in
      let one : its.place ≡ message =
      one_place part whole at own_paths are known theirs alike its.place message its.deep.file deep.file
      its.deep.stands deep.stands (its.same ∙ sym is_there) in
      subst (λ p. MayBeExtended part option own p) one
      (subst (λ c. MayBeExtended part option c its.place) (sym its.is) extended_message)
