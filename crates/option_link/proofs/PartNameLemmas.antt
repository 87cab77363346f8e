-- Names in options of a source of a part name what they name in the whole.
use Rattle.std.proofs.Common.{◌≡◌, ◌∙◌, ◌↔◌, ℕ, Bool, List, ap, sym, refl}
use Rattle.std.proofs.Common.{subst}
use Rattle.proto_decl.specs.Names.{dotted}
use Rattle.proto_decl.specs.declared.declaration.DeclarationKind.TheVariants.{Message, Enum, Value as EnumValue, Field}
use Rattle.proto_options.specs.declared.messages.MessageClause.TheVariants as clauses
use Rattle.proto_options.specs.declared.names.OptionName.{OptionName}
use Rattle.proto_options.specs.declared.names.OptionRole.{OptionRole}
use Rattle.proto_options.specs.declared.names.OptionRole.TheVariants as role
use Rattle.proto_options.specs.declared.options.FileOption.{FileOption}
use Rattle.proto_visibility.specs.Files.{File, HaveOwnPaths}
use Rattle.proto_visibility.specs.Knows.{NameKind, KnowsAs, is_message}
use Rattle.proto_visibility.specs.Reaches.{HasOptionsIn, ImportsLeadTo}
use Rattle.proto_visibility.specs.Parts.{HasAllSeen, IsOfPart, IsPart}
use Rattle.proto_visibility.proofs.PartReachLemmas.{seen_of_led}
use Rattle.proto_link.proofs.PartLemmas.{innermost, known_in_whole, owner_in_part, owner_in_whole}
use Rattle.option_link.specs.declared.contexts.Context.{Context}
use Rattle.option_link.specs.declared.contexts.Context.TheVariants as inside
use Rattle.option_link.specs.declared.facts.OptionFacts.{OptionFacts}
use Rattle.option_link.specs.declared.place.DeclaredPlace.{DeclaredPlace}
use Rattle.option_link.specs.Places.{StandsAs, place_at}
use Rattle.option_link.specs.Fields.{FieldGives, IsField, IsFieldOf, IsFirstItem, IsOwnField, IsOwnGroup, ValueGives}
use Rattle.option_link.specs.Lookups.{LooksUp, is_field}
use Rattle.option_link.specs.Lookups.LooksUp.{absolute, single, compound}
use Rattle.option_link.specs.Contexts.{IsReserved, Leads, LookedUpFrom, NamesAs, NamesIn, PlaceGives, Root, StandsIn}
use Rattle.option_link.specs.Contexts.{behind_spelled, options_message}
use Rattle.option_link.specs.Contexts.LookedUpFrom.{part as looked_part, in_braces as looked_in_braces}
use Rattle.option_link.specs.Contexts.NamesAs.{field as names_field, group as names_group}
use Rattle.option_link.specs.Contexts.NamesAs.{extension as names_extension, item as names_item}
use Rattle.option_link.specs.Contexts.NamesAs.{packed as names_packed, value as names_value}
use Rattle.option_link.specs.Contexts.Root.{taken, options}
use Rattle.option_link.specs.Contexts.Leads.{named, key, map_value, default, untold, without_message}
use Rattle.option_link.specs.Contexts.Leads.{reserved, skipped}
use Rattle.option_link.specs.Contexts.StandsIn.{first, further}
use Rattle.option_link.specs.Parts.{AreKnownAlike}
use Rattle.option_link.specs.Said.{Says}
use Rattle.option_link.proofs.NameLemmas.{behind_in}
use Rattle.option_link.proofs.PartPlaceLemmas.{as_back, as_to, beside_is, field_back, field_of_back, field_of_to}
use Rattle.option_link.proofs.PartPlaceLemmas.{field_to}
use Rattle.option_link.proofs.PartPlaceLemmas.{own_field_back, own_field_to, own_group_back, own_group_to}
use Rattle.option_link.proofs.PartPlaceLemmas.{owner_deep, placed_in, says_back, says_to}
use Rattle.option_link.proofs.PartContextLemmas.{ContextIn, Deep, IsDeepIn, Placed, context_at, extended_back}
use Rattle.option_link.proofs.PartContextLemmas.{extended_to}
use Rattle.option_link.proofs.PartContextLemmas.{field_gives_back, field_gives_to, fields_back, fields_to, from_entries}
use Rattle.option_link.proofs.PartContextLemmas.{from_enum, from_message, from_options, from_skipped, from_untold}
use Rattle.option_link.proofs.PartContextLemmas.{lacks_back, lacks_to, place_gives_back, place_gives_to}
use Rattle.option_link.proofs.PartContextLemmas.{value_gives_back, value_gives_to}
use Rattle.option_link.proofs.PartItemLemmas.{first_item_back, first_item_to, looks_for}

-- what is known alike is looked up alike
looks_up : (files others : List File) (number other : ℕ)
    → ((admits : NameKind → Bool) (name : List ℕ) → KnowsAs files number admits name ↔ KnowsAs others other admits name)
    → {has_dot : Bool} {words : List (List ℕ)} {from name : List ℕ} → LooksUp files number has_dot words from name
    → LooksUp others other has_dot words from name
looks_up files others number other alike (absolute known) = absolute ((alike is_field _).0 known)
looks_up files others number other alike (single inner known) =
    single (innermost files others number other alike inner) ((alike is_field _).0 known)
looks_up files others number other alike (compound inner known) =
    compound (innermost files others number other alike inner) ((alike is_field _).0 known)

module _ (part whole : List File) (at : ℕ → ℕ) (own_paths : HaveOwnPaths part) (are : IsPart part whole at)
    (known theirs : List OptionFacts) (alike : AreKnownAlike part at known theirs) where
  abbrev there : DeclaredPlace → DeclaredPlace
  there place = place_at (at place.file) place.index

  abbrev IsIn : (DeclaredPlace → Type 0) → DeclaredPlace → Type 0
  IsIn = Placed part whole at own_paths are known theirs alike

  abbrev IsWithin : Context → Type 0
  IsWithin = IsDeepIn part whole at own_paths are known theirs alike

  abbrev IsWithinFile : ℕ → Type 0
  IsWithinFile = Deep part whole at own_paths are known theirs alike

  abbrev context_there : Context → Context
  context_there = context_at part whole at own_paths are known theirs alike

  abbrev InContext : (Context → Type 0) → Context → Type 0
  InContext = ContextIn part whole at own_paths are known theirs alike

  looked_to : (option : FileOption) (number : ℕ) (message : DeclaredPlace) (from : List ℕ)
      → LookedUpFrom part option number message from → LookedUpFrom whole option number (there message) from
  looked_to option number message _ (looked_part less) = looked_part less
  looked_to option number message _ (looked_in_braces behind is around) =
      looked_in_braces behind (as_to part whole at own_paths are known theirs alike message is) around

  looked_back : (option : FileOption) (number : ℕ) (message : DeclaredPlace) → IsWithinFile message.file
      → (from : List ℕ) → LookedUpFrom whole option number (there message) from
      → LookedUpFrom part option number message from
  looked_back option number message deep _ (looked_part less) = looked_part less
  looked_back option number message deep _ (looked_in_braces behind is around) =
      looked_in_braces behind
      (as_back part whole at own_paths are known theirs alike message deep.file deep.stands is) around

  module _ (k : ℕ) (deep : IsWithinFile k) (described : (n m : ℕ) → HasOptionsIn whole (at k) n
      → ImportsLeadTo whole n m → IsOfPart part at m) (text : List ℕ) (option : FileOption) where
    abbrev all_seen : HasAllSeen part whole at k
    all_seen = seen_of_led part whole at are k deep.all

    -- ---- what a name names

    module _ (number : ℕ) (name : OptionName) where
      pub names_to : (role : OptionRole) (context : Context) (place : DeclaredPlace) → IsWithin context
          → NamesAs part known k text option number name role context place
          → NamesAs whole theirs (at k) text option number name role (context_there context) (there place)
          × IsWithinFile place.file
      names_to _ context _ within (names_field {message = message}
          {field = field} {word = word} {fact = fact} words has is braces) =
          let of = fields_to part whole at own_paths are known theirs alike k deep described option context message
          within has in (
            names_field words of.0
                (own_field_to part whole at own_paths are known theirs alike message word field fact is) braces,
            subst IsWithinFile (sym is.member.same_file) of.1,
          )
      names_to _ context _ within (names_group {message = message} {field = field} {word = word} words has braces is) =
          let of = fields_to part whole at own_paths are known theirs alike k deep described option context message
          within has in (
            names_group words of.0 braces
                (own_group_to part whole at own_paths are known theirs alike message word field is),
            subst IsWithinFile (sym is.member.same_file) of.1,
          )
      names_to _ context _ within (names_extension {message = message}
          {field = field} {from = from} {full_name = full_name} words may looked looks owned stands full is) =
          let in_file = owner_deep part whole at own_paths are known theirs alike k field.file deep owned in (
            names_extension words (extended_to part whole at own_paths are known theirs alike option context message
                may)
                (looked_to option number message from looked)
                (looks_up part whole k (at k) (known_in_whole part whole at own_paths are k deep.file deep.stands
                all_seen)
                looks)
                (owner_in_whole part whole at own_paths are k deep.file deep.stands all_seen is_field full_name
                field.file
                owned)
                (as_to part whole at own_paths are known theirs alike field stands) full
                (field_of_to part whole at own_paths are known theirs alike message field in_file is),
            in_file,
          )
      names_to _ _ _ within (names_item {set = set} {type = type}
          {field = field} {from = from} {full_name = full_name} words braces says looked looks unknown owned stands full
          least) =
          let in_file = owner_deep part whole at own_paths are known theirs alike k type.file deep owned in (
            names_item words braces
                (says_to part whole at own_paths are known theirs alike set clauses.IsMessageSet says)
                (looked_to option number set from looked)
                (looks_for part whole k (at k) (known_in_whole part whole at own_paths are k deep.file deep.stands
                all_seen) looks)
                (λ knows. unknown ((known_in_whole part whole at own_paths are k deep.file deep.stands all_seen is_field
                full_name).1 knows))
                (owner_in_whole part whole at own_paths are k deep.file deep.stands all_seen is_message full_name
                type.file owned)
                (as_to part whole at own_paths are known theirs alike type stands) full
                (first_item_to part whole at own_paths are known theirs alike set type within in_file field least),
            subst IsWithinFile (sym least.is.member.same_file) in_file,
          )
      names_to _ _ _ within (names_packed {any = any}
          {message = message} {words = parts} words is_any any_full owned stands full) = (
            names_packed words (as_to part whole at own_paths are known theirs alike any is_any) any_full
                (owner_in_whole part whole at own_paths are k deep.file deep.stands all_seen is_message (dotted parts)
                message.file owned)
                (as_to part whole at own_paths are known theirs alike message stands) full,
            owner_deep part whole at own_paths are known theirs alike k message.file deep owned,
          )
      names_to _ _ _ within (names_value {type = type} {value = value} words is_enum around stands one_file full step)
          = (
            names_value words (as_to part whole at own_paths are known theirs alike type is_enum) around
                (as_to part whole at own_paths are known theirs alike value stands) (ap at one_file) full step,
            subst IsWithinFile (sym one_file) within,
          )

      pub names_back : (own : Context) → IsWithin own → {role : OptionRole} {context : Context} {place : DeclaredPlace}
          → NamesAs whole theirs (at k) text option number name role context place → context_there own ≡ context
          → IsIn (NamesAs part known k text option number name role own) place
      names_back own within (names_field {message = message}
          {field = field} {word = word} {fact = fact} words has is braces) same =
          let of = fields_back part whole at own_paths are known theirs alike k deep described option own within has
          same in
          let its = own_field_back part whole at own_paths are known theirs alike of.own of.deep word field fact
          (subst (λ m. IsOwnField whole theirs m word field fact) (sym of.same) is) in
          record {
            own = its.own;
            same = its.same;
            deep =
                its.deep;
            holds = names_field words of.holds its.holds braces;
          }
      names_back own within (names_group {message = message} {field = field} {word = word} words has braces is) same =
          let of = fields_back part whole at own_paths are known theirs alike k deep described option own within has
          same in
          let its = own_group_back part whole at own_paths are known theirs alike of.own of.deep word field
          (subst (λ m. IsOwnGroup whole theirs m word field) (sym of.same) is) in
          record {
            own = its.own;
            same = its.same;
            deep =
                its.deep;
            holds = names_group words of.holds braces its.holds;
          }
      names_back own within (names_extension {message = message}
          {field = field} {from = from} {full_name = full_name} {declaration = declaration} words may looked
          looks owned stands full is) same =
          let owner = owner_in_part part whole at own_paths are k deep.file deep.stands all_seen is_field full_name
          field.file owned in
          let its = place_at owner.0.number field.index in
          let is_there = placed_in part whole at own_paths are known theirs alike owner.0 field refl in
          let in_file = owner_deep part whole at own_paths are known theirs alike k owner.0.number deep owner.1 in
          let of = field_of_back part whole at own_paths are known theirs alike message its in_file
          (subst (IsFieldOf whole theirs message) (sym is_there) is) in
          record {
            own = its;
            same = is_there;
            deep = in_file;
            holds = names_extension words
                (extended_back part whole at own_paths are known theirs alike option own within of.own of.deep may same
                of.same)
                (looked_back option number of.own of.deep from
                (subst (λ m. LookedUpFrom whole option number m from) (sym of.same) looked))
                (looks_up whole part (at k) k (λ admits word.
                let both = known_in_whole part whole at own_paths are k deep.file deep.stands all_seen admits word in
                (both.1, both.0)) looks)
                owner.1
                (as_back part whole at own_paths are known theirs alike its in_file.file in_file.stands
                (subst (λ p. StandsAs whole Field p declaration) (sym is_there) stands))
                full of.holds;
          }
      names_back own within (names_item {set = set} {type = type}
          {field = field} {from = start} {full_name = full_name} {declaration = declaration} words braces says looked
          looks unknown owned stands full least) same =
          let from = from_message part whole at own_paths are known theirs alike own set within same in
          let owner = owner_in_part part whole at own_paths are k deep.file deep.stands all_seen is_message full_name
          type.file owned in
          let its = place_at owner.0.number type.index in
          let type_is = placed_in part whole at own_paths are known theirs alike owner.0 type refl in
          let in_file = owner_deep part whole at own_paths are known theirs alike k owner.0.number deep owner.1 in
          let moved = subst (λ s. IsFirstItem whole theirs s (there its) field) (sym from.same)
          (subst (λ t. IsFirstItem whole theirs set t field) (sym type_is) least) in
          let both = λ (admits : NameKind → Bool) (word : List ℕ).
          known_in_whole part whole at own_paths are k deep.file deep.stands all_seen admits word in
          let item = place_at owner.0.number field.index in
          record {
            own = item;
            same = beside_is part whole at own_paths are known theirs alike its field moved.is.member.same_file;
            deep = in_file;
            holds = subst (λ c. NamesAs part known k text option number name role.Extension c item) (sym from.is)
                (names_item words braces
                (says_back part whole at own_paths are known theirs alike from.place from.deep.file from.deep.stands
                clauses.IsMessageSet (subst (λ m. Says whole theirs m clauses.IsMessageSet) (sym from.same) says))
                (looked_back option number from.place from.deep start
                (subst (λ m. LookedUpFrom whole option number m start) (sym from.same) looked))
                (looks_for whole part (at k) k (λ admits word. ((both admits word).1, (both admits word).0)) looks)
                (λ knows. unknown ((both is_field full_name).0 knows)) owner.1
                (as_back part whole at own_paths are known theirs alike its in_file.file in_file.stands
                (subst (λ p. StandsAs whole Message p declaration) (sym type_is) stands)) full
                (first_item_back part whole at own_paths are known theirs alike from.place its from.deep in_file field
                moved));
          }
      names_back own within (names_packed {any = any}
          {message = message} {words = parts} {outer = outer} {inner = inner} words is_any any_full owned stands
          full) same =
          let from = from_message part whole at own_paths are known theirs alike own any within same in
          let owner = owner_in_part part whole at own_paths are k deep.file deep.stands all_seen is_message
          (dotted parts)
          message.file owned in
          let its = place_at owner.0.number message.index in
          let is_there = placed_in part whole at own_paths are known theirs alike owner.0 message refl in
          let in_file = owner_deep part whole at own_paths are known theirs alike k owner.0.number deep owner.1 in
          record {
            own = its;
            same = is_there;
            deep = in_file;
            holds = subst (λ c. NamesAs part known k text option number name role.Message c its) (sym from.is)
                (names_packed words
                (as_back part whole at own_paths are known theirs alike from.place from.deep.file from.deep.stands
                (subst (λ p. StandsAs whole Message p outer) (sym from.same) is_any)) any_full owner.1
                (as_back part whole at own_paths are known theirs alike its in_file.file in_file.stands
                (subst (λ p. StandsAs whole Message p inner) (sym is_there) stands)) full);
          }
      names_back own within (names_value {type = type}
          {value = value} {outer = outer} {inner = inner} words is_enum around stands one_file full step) same =
          let from = from_enum part whole at own_paths are known theirs alike own type within same in
          let its = place_at from.place.file value.index in
          let is_there = beside_is part whole at own_paths are known theirs alike from.place value
          (one_file ∙ ap (λ (p : DeclaredPlace). p.file) (sym from.same)) in
          record {
            own = its;
            same = is_there;
            deep = from.deep;
            holds = subst (λ c. NamesAs part known k text option number name role.Value c its) (sym from.is)
                (names_value words
                (as_back part whole at own_paths are known theirs alike from.place from.deep.file from.deep.stands
                (subst (λ p. StandsAs whole Enum p outer) (sym from.same) is_enum)) around
                (as_back part whole at own_paths are known theirs alike its from.deep.file from.deep.stands
                (subst (λ p. StandsAs whole EnumValue p inner) (sym is_there) stands)) refl full step);
          }

      -- ---- how much of a full name comes behind what is spelled

      pub behind_to : (role : OptionRole) (context : Context) (place : DeclaredPlace) (within : IsWithin context)
          (names : NamesAs part known k text option number name role context place)
          → behind_spelled (names_to role context place within names).0 ≡ behind_spelled names
      unfolding names_to
      behind_to _ context _ within (names_field words has is braces) = refl
      behind_to _ context _ within (names_group words has braces is) = refl
      behind_to _ context _ within (names_extension words may looked looks owned stands full is) = refl
      behind_to _ _ _ within (names_item words braces says looked looks unknown owned stands full least) = refl
      behind_to _ _ _ within (names_packed words is_any any_full owned stands full) = refl
      behind_to _ _ _ within (names_value words is_enum around stands one_file full step) = refl

      pub behind_back : (own : Context) (within : IsWithin own) {role : OptionRole} {context : Context}
          {place : DeclaredPlace} (names : NamesAs whole theirs (at k) text option number name role context place)
          (same : context_there own ≡ context)
          → behind_spelled (names_back own within names same).holds ≡ behind_spelled names
      behind_back own within {role = role} {context = context} {place = place} names same =
          let its = names_back own within names same in
          sym (behind_to role own its.own within its.holds)
          ∙ behind_in whole theirs (at k) text option number name role (context_there own) context same
          (there its.own) place (names_to role own its.own within its.holds).0 names

      -- ---- names that the message reserves

      pub reserved_to : (message : DeclaredPlace) → IsReserved part known text option number name message
          → IsReserved whole theirs text option number name (there message)
      reserved_to message is = record {
        plain = is.plain;
        braces = is.braces;
        word = is.word;
        is = is.is;
        reserves = says_to part whole at own_paths are known theirs alike message (clauses.Reserves is.word)
            is.reserves;
      }

      pub reserved_back : (message : DeclaredPlace) → IsWithinFile message.file
          → IsReserved whole theirs text option number name (there message)
          → IsReserved part known text option number name message
      reserved_back message deep is = record {
        plain = is.plain;
        braces = is.braces;
        word = is.word;
        is = is.is;
        reserves = says_back part whole at own_paths are known theirs alike message deep.file deep.stands
            (clauses.Reserves is.word) is.reserves;
      }

      -- ---- what belongs to a name

      leads_to : (outer inner : Context) → IsWithin outer
          → Leads part known k text option number name outer inner
          → Leads whole theirs (at k) text option number name (context_there outer) (context_there inner)
          × IsWithin inner
      leads_to outer inner within (named {at = place} names gives) =
          let its = names_to name.role outer place within names in
          let more = place_gives_to part whole at own_paths are known theirs alike name.role place its.1 inner gives in
          (named its.0 more.0, more.1)
      leads_to _ _ within (key of_field words) = (key of_field words, tt)
      leads_to _ inner within (map_value {holder = holder} of_field words gives) =
          let more = value_gives_to part whole at own_paths are known theirs alike holder within inner gives in
          (map_value of_field words more.0, more.1)
      leads_to _ inner within (default {field = field} {fact = fact} is no_extension in_file is_field_is name_is gives)
          =
          let own = subst IsWithinFile (sym in_file) deep in
          let more = field_gives_to part whole at own_paths are known theirs alike field own inner gives in (
            default is no_extension (ap at in_file)
                (field_to part whole at own_paths are known theirs alike field fact is_field_is) name_is more.0,
            more.1,
          )
      leads_to _ _ within (untold never no_extension) = (untold never no_extension, tt)
      leads_to _ _ within (without_message of_field lacks) = (
        without_message of_field
            (lacks_to part whole at own_paths are known theirs alike k deep described (options_message option.element)
            lacks),
        tt,
      )
      leads_to _ _ within (reserved {message = message} is never) = (
        reserved (reserved_to message is) (λ place names.
            let its = names_back (inside.Message message) within names refl in never its.own its.holds),
        tt,
      )
      leads_to _ _ within (skipped) = (skipped, tt)

      leads_back : (own : Context) → IsWithin own → {outer inner : Context}
          → Leads whole theirs (at k) text option number name outer inner → context_there own ≡ outer
          → InContext (Leads part known k text option number name own) inner
      leads_back own within {inner = inner} (named {at = place} names gives) same =
          let its = names_back own within names same in
          let more = place_gives_back part whole at own_paths are known theirs alike name.role its.own its.deep inner
          (subst (λ p. PlaceGives whole theirs name.role p inner) (sym its.same) gives) in
          record { own = more.own; same = more.same; deep = more.deep; holds = named its.holds more.holds }
      leads_back own within (key {holder = holder} of_field words) same =
          let from = from_entries part whole at own_paths are known theirs alike own holder within same in
          record {
            own = inside.Scalar;
            same = refl;
            deep = tt;
            holds = subst (λ c. Leads part known k text option number name c inside.Scalar) (sym from.is)
                (key of_field words);
          }
      leads_back own within {inner = inner} (map_value {holder = holder} of_field words gives) same =
          let from = from_entries part whole at own_paths are known theirs alike own holder within same in
          let more = value_gives_back part whole at own_paths are known theirs alike from.place from.deep inner
          (subst (λ p. ValueGives whole theirs p inner) (sym from.same) gives) in
          record {
            own = more.own;
            same = more.same;
            deep = more.deep;
            holds = subst (λ c. Leads part known k text option number name c more.own) (sym from.is)
                (map_value of_field words more.holds);
          }
      leads_back own within {inner = inner}
          (default {field = field} {fact = fact} is no_extension in_file is_field_is name_is gives) same =
          let its = place_at k field.index in
          let is_there : there its ≡ field = λ i. record { file = sym in_file i; index = field.index } in
          let more = field_gives_back part whole at own_paths are known theirs alike its deep inner
          (subst (λ p. FieldGives whole theirs p inner) (sym is_there) gives) in
          record {
            own = more.own;
            same = more.same;
            deep = more.deep;
            holds = subst (λ c. Leads part known k text option number name c more.own)
                (sym (from_untold part whole at own_paths are known theirs alike own same))
                (default is no_extension refl
                (field_back part whole at own_paths are known theirs alike its deep.file deep.stands fact
                (subst (λ p. IsField whole theirs p fact) (sym is_there) is_field_is)) name_is more.holds);
          }
      leads_back own within (untold never no_extension) same = record {
        own = inside.Untold;
        same = refl;
        deep = tt;
        holds = subst (λ c. Leads part known k text option number name c inside.Untold)
            (sym (from_untold part whole at own_paths are known theirs alike own same)) (untold never no_extension);
      }
      leads_back own within (without_message of_field lacks) same = record {
        own = inside.Untold;
        same = refl;
        deep = tt;
        holds = subst (λ c. Leads part known k text option number name c inside.Untold)
            (sym (from_options part whole at own_paths are known theirs alike own same))
            (without_message of_field
            (lacks_back part whole at own_paths are known theirs alike k deep described (options_message option.element)
            lacks));
      }
      leads_back own within (reserved {message = message} is never) same =
          let from = from_message part whole at own_paths are known theirs alike own message within same in
          record {
            own = inside.Skipped;
            same = refl;
            deep = tt;
            holds = subst (λ c. Leads part known k text option number name c inside.Skipped) (sym from.is)
                (reserved (reserved_back from.place from.deep
                (subst (IsReserved whole theirs text option number name) (sym from.same) is))
                (λ place names. never (there place)
                (subst (λ m. NamesIn whole theirs (at k) text option number name (inside.Message m) (there place))
                from.same (names_to name.role (inside.Message from.place) place from.deep names).0)));
          }
      leads_back own within (skipped) same = record {
        own = inside.Skipped;
        same = refl;
        deep = tt;
        holds = subst (λ c. Leads part known k text option number name c inside.Skipped)
            (sym (from_skipped part whole at own_paths are known theirs alike own same)) skipped;
      }

    root_to : (context : Context) → Root text option context → Root text option (context_there context) × IsWithin
        context
    root_to _ (taken is) = (taken is, tt)
    root_to _ (options never) = (options never, tt)

    root_back : (context : Context) → Root text option context → InContext (Root text option) context
    root_back _ (taken is) = record { own = inside.Untold; same = refl; deep = tt; holds = taken is }
    root_back _ (options never) = record { own = inside.Options; same = refl; deep = tt; holds = options never }

    pub stands_in_to : (number : ℕ) (context : Context) → StandsIn part known k text option number context
        → StandsIn whole theirs (at k) text option number (context_there context) × IsWithin context
    stands_in_to number context (first is none root) =
        let its = root_to context root in (first is none its.0, its.1)
    stands_in_to number context (further {before = before}
        {outer_name = outer_name} {outer = outer} is around less outer_is stands leads) =
        let its = stands_in_to before outer stands in
        let more = leads_to before outer_name outer context its.1 leads in
        (further is around less outer_is its.0 more.0, more.1)

    pub stands_in_back : (number : ℕ) (context : Context) → StandsIn whole theirs (at k) text option number context
        → InContext (StandsIn part known k text option number) context
    stands_in_back number context (first is none root) =
        let its = root_back context root in
        record { own = its.own; same = its.same; deep = its.deep; holds = first is none its.holds }
    stands_in_back number context (further {before = before}
        {outer_name = outer_name} {outer = outer} is around less outer_is stands leads) =
        let its = stands_in_back before outer stands in
        let more = leads_back before outer_name its.own its.deep leads its.same in
        record {
          own = more.own;
          same = more.same;
          deep = more.deep;
          holds = further is around less outer_is its.holds more.holds;
        }
