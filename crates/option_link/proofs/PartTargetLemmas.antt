-- What options of a source of a part name, and their gaps, as in the whole.
use Rattle.std.proofs.Common.{◌≡◌, ◌∙◌, ◌↔◌, inl, inr, ℕ, ◌+◌, ◌<◌, List, get_or, length, map, Some, ap, sym, refl}
use Rattle.std.proofs.Common.{subst, arith}
use Rattle.std.specs.Option.{option_map}
use Rattle.std.proofs.lemmas.List.{length-map}
use Rattle.std.proofs.lemmas.Bool.{cases_lt}
use Rattle.std.proofs.lemmas.Option.{same_Some, slice_get-get_or, slice_get-map, slice_get_within}
use Rattle.proto_decl.specs.Names.{prefix_of}
use Rattle.proto_decl.specs.Facts.{Facts}
use Rattle.proto_options.specs.declared.names.OptionName.{OptionName}
use Rattle.proto_options.specs.declared.options.FileOption.{FileOption}
use Rattle.proto_visibility.specs.declared.lookup.Entity.{Entity}
use Rattle.proto_visibility.specs.declared.lookup.Entity.TheVariants.{Declared}
use Rattle.proto_visibility.specs.Files.{File, HasFacts, HaveOwnPaths, IsSource}
use Rattle.proto_visibility.specs.Knows.{IsEntityOf}
use Rattle.proto_visibility.specs.Reaches.{HasOptionsIn, ImportsLeadTo, LinksOptions}
use Rattle.proto_visibility.specs.Reaches as reaches
use Rattle.proto_visibility.specs.Parts.{HasAllReached, IsOfPart, IsPart, entity_at, renumbered}
use Rattle.proto_visibility.proofs.KeptAmongLemmas.{from_mapped}
use Rattle.proto_visibility.proofs.PartLemmas.{entity_back, entity_to, facts_back, facts_to, shares}
use Rattle.proto_visibility.proofs.PartReachLemmas.{all_led, links_to}
use Rattle.proto_link.proofs.PartLemmas.{parts_of}
use Rattle.option_link.specs.declared.contexts.Context.{Context}
use Rattle.option_link.specs.declared.contexts.Context.TheVariants as inside
use Rattle.option_link.specs.declared.facts.OptionFacts.{OptionFacts}
use Rattle.option_link.specs.declared.place.DeclaredPlace.{DeclaredPlace}
use Rattle.option_link.specs.declared.target.OptionTarget.{OptionTarget}
use Rattle.option_link.specs.Places.{Stands, place_at}
use Rattle.option_link.specs.Contexts.{IsReserved, StandsIn}
use Rattle.option_link.specs.Contexts.{behind_spelled, options_message}
use Rattle.option_link.specs.Contexts.Leads.{named}
use Rattle.option_link.specs.Contexts.StandsIn.{first}
use Rattle.option_link.specs.OptionNames.{IsGap, IsOptionTarget, LacksTarget, NamesParts, NamesPlace, NeedsNoTarget}
use Rattle.option_link.specs.OptionNames.NeedsNoTarget.{word as need_word, entry as need_entry, untold as need_untold}
use Rattle.option_link.specs.OptionNames.NeedsNoTarget.{without_message as need_message, reserved as need_reserved}
use Rattle.option_link.specs.OptionNames.NeedsNoTarget.{skipped as need_skipped}
use Rattle.option_link.specs.Parts.{AreKnownAlike, NamesHere, NamesThere, PartsNameAlike}
use Rattle.option_link.proofs.PartPlaceLemmas.{stands_back, stands_to}
use Rattle.option_link.proofs.PartContextLemmas.{ContextIn, Deep, IsDeepIn, Placed, context_at}
use Rattle.option_link.proofs.PartContextLemmas.{from_entries, from_message}
use Rattle.option_link.proofs.PartContextLemmas.{from_options, from_scalar, from_skipped, from_untold}
use Rattle.option_link.proofs.PartContextLemmas.{lacks_back, lacks_to}
use Rattle.option_link.proofs.PartNameLemmas.{behind_back, behind_to, names_back, names_to, reserved_back, reserved_to}
use Rattle.option_link.proofs.PartNameLemmas.{stands_in_back, stands_in_to}

module _ (part whole : List File) (at : ℕ → ℕ) (own_paths : HaveOwnPaths part) (are : IsPart part whole at)
    (known theirs : List OptionFacts) (alike : AreKnownAlike part at known theirs) where
  abbrev there : DeclaredPlace → DeclaredPlace
  there place = place_at (at place.file) place.index

  abbrev IsIn : (DeclaredPlace → Type 0) → DeclaredPlace → Type 0
  IsIn = Placed part whole at own_paths are known theirs alike

  abbrev IsWithin : Context → Type 0
  IsWithin = IsDeepIn part whole at own_paths are known theirs alike

  abbrev IsWithinFile : ℕ → Type 0
  IsWithinFile = Deep part whole at own_paths are known theirs alike

  abbrev context_there : Context → Context
  context_there = context_at part whole at own_paths are known theirs alike

  abbrev InContext : (Context → Type 0) → Context → Type 0
  InContext = ContextIn part whole at own_paths are known theirs alike

  -- ---- what the components of a name name

  abbrev parts_to : (name : OptionName) (place : DeclaredPlace) (behind other : ℕ) → other ≡ behind
      → (parts : List Entity) → NamesParts part name place behind parts
      → NamesParts whole name (there place) other (map (entity_at at) parts)
  parts_to name place behind other alike_behind parts is =
      let its = facts_to part whole at (shares part whole at are) place.file is.facts is.known in
      record {
        declaration = is.declaration;
        stands = stands_to part whole at own_paths are known theirs alike place is.declaration is.stands;
        facts = renumbered its.0 is.facts;
        known = its.1;
        skipped = is.skipped;
        split = omega (arith, is.split, alike_behind);
        one_each = length-map parts (entity_at at) ∙ is.one_each;
        named = λ j one stands more.
            let own = from_mapped (entity_at at) parts j one stands in
            subst (IsEntityOf (at place.file) (renumbered its.0 is.facts)
            (prefix_of is.declaration.full_name (is.skipped + j + 1)) (is.skipped + j + 1)) own.2
            (entity_to at place.file its.0 own.0
            (is.named j own.0 own.1 (omega (arith, more, length-map parts (entity_at at)))));
        last = λ j ends. slice_get-map (entity_at at) parts j
            ∙ ap (option_map (entity_at at)) (is.last j (ends ∙ length-map parts (entity_at at)));
      }

  record PartsBack (name : OptionName) (own there_is : DeclaredPlace) (behind other : ℕ) (parts : List Entity)
      (is : NamesParts whole name there_is other parts) : Type 0 where
    owns : List Entity
    same : map (entity_at at) owns ≡ parts
    are_parts : NamesParts part name own behind owns
    one : are_parts.declaration ≡ is.declaration

  -- a part of the name in the part: an entity, or at the end what is declared
  record IsPartBack (own : DeclaredPlace) (facts : Facts) (name : List ℕ) (skipped size j : ℕ) (one : Entity)
      : Type 0 where
    outer : j + 1 < size → IsEntityOf own.file facts (prefix_of name (skipped + j + 1)) (skipped + j + 1) one
    ends : j + 1 ≡ size → one ≡ Declared own.file own.index

  parts_back : (name : OptionName) (own there_is : DeclaredPlace) → IsWithinFile own.file → there own ≡ there_is
      → (behind other : ℕ) → behind ≡ other → (parts : List Entity) (is : NamesParts whole name there_is other parts)
      → PartsBack name own there_is behind other parts is
  parts_back name own there_is deep same behind other alike_behind parts is =
      let number : at own.file ≡ there_is.file = ap (λ (p : DeclaredPlace). p.file) same in
      let its = facts_back part whole at (shares part whole at are) own.file is.facts
      (slice_get_within part own.file deep.file deep.stands)
      (subst (λ n. HasFacts whole n is.facts) (sym number) is.known) in
      let owns = parts_of at (IsPartBack own (renumbered its.0 is.facts) is.declaration.full_name is.skipped
      (length parts)) parts (λ j one stands. elim (cases_lt (j + 1) (length parts)) [
        | inl less ↦ (
            let back = entity_back at own.file its.0 one
            (subst (λ n. IsEntityOf n is.facts (prefix_of is.declaration.full_name (is.skipped + j + 1))
            (is.skipped + j + 1) one) (sym number) (is.named j one stands less)) in
            (back.0, back.1, record { outer = λ before. back.2; ends = λ end. absurd (omega (arith, less, end)) }))
        | inr least ↦ (
            let end : j + 1 ≡ length parts = omega (arith, least, slice_get_within parts j one stands) in (
              Declared own.file own.index,
              ap (λ (p : DeclaredPlace). Declared p.file p.index) same
                  ∙ same_Some (Declared there_is.file there_is.index) one (sym (is.last j end) ∙ stands),
              record { outer = λ before. absurd (omega (arith, before, end)); ends = λ last. refl },
            ))
      ]) in
      let lengths : length owns.0 ≡ length parts = sym (length-map owns.0 (entity_at at)) ∙ ap length owns.1 in
      record {
        owns = owns.0;
        same = owns.1;
        are_parts = record {
          declaration = is.declaration;
          stands = stands_back part whole at own_paths are known theirs alike own deep.file deep.stands is.declaration
              (subst (λ p. Stands whole p is.declaration) (sym same) is.stands);
          facts = renumbered its.0 is.facts;
          known = its.1;
          skipped = is.skipped;
          split = omega (arith, is.split, alike_behind);
          one_each = lengths ∙ is.one_each;
          named = λ j one stands more. (owns.2 j one stands).outer (omega (arith, more, lengths));
          last = λ j end.
              let its_own = Declared own.file own.index in
              let read = slice_get-get_or owns.0 j its_own (omega (arith, end)) in
              read ∙ ap Some ((owns.2 j (get_or owns.0 j its_own) read).ends (end ∙ lengths));
        };
        one = refl;
      }

  module _ (k : ℕ) (deep : IsWithinFile k) (described : (n m : ℕ) → HasOptionsIn whole (at k) n
      → ImportsLeadTo whole n m → IsOfPart part at m) (text : List ℕ) (option : FileOption) where
    place_to : (number : ℕ) (name : OptionName) (place : DeclaredPlace)
        → NamesPlace part known k text option number name place
        → NamesPlace whole theirs (at k) text option number name (there place) × IsWithinFile place.file
    place_to number name place is =
        let context = stands_in_to part whole at own_paths are known theirs alike k deep described text option number
        is.context is.stands in
        let names = names_to part whole at own_paths are known theirs alike k deep described text option number name
        name.role is.context place context.1 is.names in (
          record { numbered = is.numbered; context = context_there is.context; stands = context.0; names = names.0 },
          names.1,
        )

    place_behind : (number : ℕ) (name : OptionName) (place : DeclaredPlace)
        (is : NamesPlace part known k text option number name place)
        → behind_spelled (place_to number name place is).0.names ≡ behind_spelled is.names
    unfolding place_to
    place_behind number name place is =
        behind_to part whole at own_paths are known theirs alike k deep described text option number name name.role
        is.context place (stands_in_to part whole at own_paths are known theirs alike k deep described text option
        number is.context is.stands).1 is.names

    place_back : (number : ℕ) (name : OptionName) (place : DeclaredPlace)
        → NamesPlace whole theirs (at k) text option number name place
        → IsIn (NamesPlace part known k text option number name) place
    place_back number name place is =
        let context = stands_in_back part whole at own_paths are known theirs alike k deep described text option number
        is.context is.stands in
        let names = names_back part whole at own_paths are known theirs alike k deep described text option number name
        context.own context.deep is.names context.same in
        record {
          own = names.own;
          same = names.same;
          deep = names.deep;
          holds = record {
            numbered = is.numbered;
            context = context.own;
            stands = context.holds;
            names = names.holds;
          };
        }

    behind_there : (number : ℕ) (name : OptionName) (place : DeclaredPlace)
        (is : NamesPlace whole theirs (at k) text option number name place)
        → behind_spelled (place_back number name place is).holds.names ≡ behind_spelled is.names
    unfolding place_back
    behind_there number name place is =
        let context = stands_in_back part whole at own_paths are known theirs alike k deep described text option number
        is.context is.stands in
        behind_back part whole at own_paths are known theirs alike k deep described text option number name context.own
        context.deep is.names context.same

    pub target_to : (target : OptionTarget) (is : IsOptionTarget part known k text option target)
        → NamesThere part whole known theirs at k text option target is
    target_to target is = record {
      its = record {
        name = is.name;
        at = there is.at;
        names = (place_to target.name_number is.name is.at is.names).0;
        parts = parts_to is.name is.at (behind_spelled is.names.names)
            (behind_spelled (place_to target.name_number is.name is.at is.names).0.names)
            (place_behind target.name_number is.name is.at is.names) target.parts is.parts;
      };
      one = record { name = refl; declaration = refl };
    }

    pub target_back : (target : OptionTarget) (is : IsOptionTarget whole theirs (at k) text option target)
        → NamesHere part whole known theirs at k text option target is
    target_back target is =
        let place = place_back target.name_number is.name is.at is.names in
        let parts = parts_back is.name place.own is.at place.deep place.same (behind_spelled place.holds.names)
        (behind_spelled is.names.names) (behind_there target.name_number is.name is.at is.names) target.parts is.parts
        in
        record {
          own = record { name_number = target.name_number; parts = parts.owns };
          same = λ i. record { name_number = target.name_number; parts = parts.same i };
          its = record { name = is.name; at = place.own; names = place.holds; parts = parts.are_parts };
          one = record { name = refl; declaration = parts.one };
        }

    -- ---- gaps

    in_whole : (number : ℕ) (context : Context) → StandsIn part known k text option number context
        → StandsIn whole theirs (at k) text option number (context_there context)
    in_whole number context stands =
        (stands_in_to part whole at own_paths are known theirs alike k deep described text option number context
        stands).0

    in_part : (number : ℕ) (context : Context) → StandsIn whole theirs (at k) text option number context
        → InContext (StandsIn part known k text option number) context
    in_part = stands_in_back part whole at own_paths are known theirs alike k deep described text option

    needs_to : (number : ℕ) (name : OptionName) → NeedsNoTarget part known k text option number name
        → NeedsNoTarget whole theirs (at k) text option number name
    needs_to number name (need_word is stands) = need_word is (in_whole number inside.Scalar stands)
    needs_to number name (need_entry {holder = holder} is words either stands) =
        need_entry is words either (in_whole number (inside.Entries holder) stands)
    needs_to number name (need_untold is stands) = need_untold is (in_whole number inside.Untold stands)
    needs_to number name (need_message is lacks stands) =
        need_message is
        (lacks_to part whole at own_paths are known theirs alike k deep described (options_message option.element)
        lacks)
        (in_whole number inside.Options stands)
    needs_to number name (need_reserved {message = message} is stands) =
        need_reserved
        (reserved_to part whole at own_paths are known theirs alike k deep described text option number name message is)
        (in_whole number (inside.Message message) stands)
    needs_to number name (need_skipped stands) = need_skipped (in_whole number inside.Skipped stands)

    needs_back : (number : ℕ) (name : OptionName) → NeedsNoTarget whole theirs (at k) text option number name
        → NeedsNoTarget part known k text option number name
    needs_back number name (need_word is stands) =
        let its = in_part number inside.Scalar stands in
        need_word is (subst (StandsIn part known k text option number)
        (from_scalar part whole at own_paths are known theirs alike its.own its.same) its.holds)
    needs_back number name (need_entry {holder = holder} is words either stands) =
        let its = in_part number (inside.Entries holder) stands in
        let from = from_entries part whole at own_paths are known theirs alike its.own holder its.deep its.same in
        need_entry is words either (subst (StandsIn part known k text option number) from.is its.holds)
    needs_back number name (need_untold is stands) =
        let its = in_part number inside.Untold stands in
        need_untold is (subst (StandsIn part known k text option number)
        (from_untold part whole at own_paths are known theirs alike its.own its.same) its.holds)
    needs_back number name (need_message is lacks stands) =
        let its = in_part number inside.Options stands in
        need_message is
        (lacks_back part whole at own_paths are known theirs alike k deep described (options_message option.element)
        lacks)
        (subst (StandsIn part known k text option number)
        (from_options part whole at own_paths are known theirs alike its.own its.same) its.holds)
    needs_back number name (need_reserved {message = message} is stands) =
        let its = in_part number (inside.Message message) stands in
        let from = from_message part whole at own_paths are known theirs alike its.own message its.deep its.same in
        need_reserved
        (reserved_back part whole at own_paths are known theirs alike k deep described text option number name
        from.place from.deep (subst (IsReserved whole theirs text option number name) (sym from.same) is))
        (subst (StandsIn part known k text option number) from.is its.holds)
    needs_back number name (need_skipped stands) =
        let its = in_part number inside.Skipped stands in
        need_skipped (subst (StandsIn part known k text option number)
        (from_skipped part whole at own_paths are known theirs alike its.own its.same) its.holds)

    without_to : (number : ℕ) (name : OptionName) → LacksTarget part known k text option number name
        → LacksTarget whole theirs (at k) text option number name
    without_to number name is = record {
      numbered = is.numbered;
      nothing = λ place names. let its = place_back number name place names in is.nothing its.own its.holds;
      needed = λ needs. is.needed (needs_back number name needs);
    }

    without_back : (number : ℕ) (name : OptionName) → LacksTarget whole theirs (at k) text option number name
        → LacksTarget part known k text option number name
    without_back number name is = record {
      numbered = is.numbered;
      nothing = λ place names. is.nothing (there place) (place_to number name place names).0;
      needed = λ needs. is.needed (needs_to number name needs);
    }

    pub gap_alike : (number : ℕ) (name : OptionName)
        → IsGap part known k text option number name ↔ IsGap whole theirs (at k) text option number name
    gap_alike number name = (
      λ is. record {
        lacks = without_to number name is.lacks;
        first = λ before other less lacks. is.first before other less (without_back before other lacks);
      },
      λ is. record {
        lacks = without_back number name is.lacks;
        first = λ before other less lacks. is.first before other less (without_to before other lacks);
      },
    )

-- ---- of a source that links its options, in a part that has what it reaches

module _ (part whole : List File) (at : ℕ → ℕ) (known theirs : List OptionFacts) (own_paths : HaveOwnPaths part)
    (are : IsPart part whole at) (all : HasAllReached part whole at) (alike : AreKnownAlike part at known theirs)
    (source : ℕ) (is : IsSource part source) (links : LinksOptions part source) where
  abbrev source_deep : Deep part whole at own_paths are known theirs alike source
  source_deep = record {
    file = is.file;
    stands = is.numbered;
    all = all_led part whole at are all source is links;
  }

  described_there : (n m : ℕ) → HasOptionsIn whole (at source) n → ImportsLeadTo whole n m → IsOfPart part at m
  described_there n m has way = all source m is (reaches.built_in (links_to part whole at are source links) has way)

pub parts_name_alike : PartsNameAlike
parts_name_alike = record {
  never_invented = λ part whole at known theirs own are all alike source is links text option target names.
      target_to part whole at own are known theirs alike source
      (source_deep part whole at known theirs own are all alike source is links)
      (described_there part whole at known theirs own are all alike source is links) text option target names;
  never_lost = λ part whole at known theirs own are all alike source is links text option target names.
      target_back part whole at own are known theirs alike source
      (source_deep part whole at known theirs own are all alike source is links)
      (described_there part whole at known theirs own are all alike source is links) text option target names;
  gaps = λ part whole at known theirs own are all alike source is links text option.
      gap_alike part whole at own are known theirs alike source
      (source_deep part whole at known theirs own are all alike source is links)
      (described_there part whole at known theirs own are all alike source is links) text option;
}
