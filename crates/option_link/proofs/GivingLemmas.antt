-- What names give that name nothing, and which need name nothing.
use Rattle.std.proofs.Common.{◌≡◌, ℕ, List, [], ◌∷◌, Option, Some, None, MatchOption}
use Rattle.std.proofs.Common.{refl, ap, sym, ◌∙◌, subst}
use Rattle.std.specs.Prelude.{codes}
use Rattle.std.specs.List.{slice_get}
use Rattle.std.specs.Option.{option_map}
use Rattle.proto_lex.specs.declared.span.Span.{Span}
use Rattle.proto_decl.specs.Facts.{Facts}
use Rattle.proto_decl.specs.declared.declaration.Declaration.{Declaration}
use Rattle.proto_options.specs.declared.elements.Element.TheVariants as of_a
use Rattle.proto_options.specs.declared.names.OptionName.{OptionName}
use Rattle.proto_options.specs.declared.names.OptionRole.{OptionRole}
use Rattle.proto_options.specs.declared.names.OptionRole.TheVariants as role
use Rattle.proto_options.specs.declared.options.FileOption.{FileOption}
use Rattle.proto_visibility.specs.Files.{File, HasFacts}
use Rattle.proto_visibility.proofs.FileFactLemmas.{one_list_of_facts}
use Rattle.option_link.specs.declared.contexts.Context.{Context}
use Rattle.option_link.specs.declared.contexts.Context.TheVariants as inside
use Rattle.option_link.specs.declared.facts.OptionFacts.{OptionFacts}
use Rattle.option_link.specs.declared.place.DeclaredPlace.{DeclaredPlace}
use Rattle.option_link.specs.Places.{Stands, place_at}
use Rattle.option_link.specs.Fields.{ValueGives}
use Rattle.option_link.specs.Tables.{IsClear}
use Rattle.option_link.specs.Contexts.{HasWords, IsReserved, IsTaken, Leads, NamesAs, PlaceGives, StandsIn}
use Rattle.option_link.specs.Contexts.NamesAs.{packed as names-packed}
use Rattle.option_link.specs.Contexts.PlaceGives.{field as gives-field, extension as gives-extension}
use Rattle.option_link.specs.Contexts.PlaceGives.{message as gives-message}
use Rattle.option_link.specs.Contexts.Leads.{named as leads-named, key as leads-key, map_value as leads-map_value}
use Rattle.option_link.specs.Contexts.Leads.{default as leads-default, untold as leads-untold}
use Rattle.option_link.specs.Contexts.Leads.{without_message as leads-without_message, reserved as leads-reserved}
use Rattle.option_link.specs.Contexts.Leads.{skipped as leads-skipped}
use Rattle.option_link.specs.OptionNames.{NeedsNoTarget}
use Rattle.option_link.specs.OptionNames.NeedsNoTarget.{word as needs-word, entry as needs-entry}
use Rattle.option_link.specs.OptionNames.NeedsNoTarget.{untold as needs-untold, without_message as needs-without}
use Rattle.option_link.specs.OptionNames.NeedsNoTarget.{reserved as needs-reserved, skipped as needs-skipped}
use Rattle.option_link.specs.Found.{IsDeclaredAt, IsDefaultGiven, IsWithoutMessage, LeadsUnnamed}
use Rattle.option_link.specs.Found.{NeedsNoneIn}
use Rattle.option_link.specs.Found.LeadsUnnamed.{key as un-key, map_value as un-map_value, default as un-default}
use Rattle.option_link.specs.Found.LeadsUnnamed.{untold as un-untold, without_message as un-without}
use Rattle.option_link.specs.Found.LeadsUnnamed.{reserved as un-reserved, skipped as un-skipped}
use Rattle.option_link.specs.Found.NeedsNoneIn.{word as none-word, entry as none-entry, untold as none-untold}
use Rattle.option_link.specs.Found.NeedsNoneIn.{without_message as none-without, reserved as none-reserved}
use Rattle.option_link.specs.Found.NeedsNoneIn.{skipped as none-skipped}
use Rattle.option_link.proofs.FieldLemmas.{field_clear, value_clear}
use Rattle.option_link.proofs.NameLemmas.{none_in_entries, none_skipped, none_untold, none_without_message}
use Rattle.option_link.proofs.NameLemmas.{one_named}

-- ---- which need name nothing

module _ (files : List File) (known : List OptionFacts) (file : ℕ) (text : List ℕ) (option : FileOption) (number : ℕ)
    (name : OptionName) where
  pub needs_from : (context : Context) → StandsIn files known file text option number context
      → NeedsNoneIn files known file text option number name context → NeedsNoTarget files known file text option number
      name
  needs_from _ stands (none-word acting) = needs-word acting stands
  needs_from _ stands (none-entry is) = needs-entry is.plain is.is is.which stands
  needs_from _ stands (none-untold acting) = needs-untold acting stands
  needs_from _ stands (none-without is) = needs-without is.plain is.lacks stands
  needs_from _ stands (none-reserved is) = needs-reserved is stands
  needs_from _ stands none-skipped = needs-skipped stands

  pub needs_to : (context : Context)
      → ((other : Context) → StandsIn files known file text option number other → other ≡ context)
      → NeedsNoTarget files known file text option number name → NeedsNoneIn files known file text option number name
      context
  needs_to context one (needs-word acting stands) =
      subst (NeedsNoneIn files known file text option number name) (one inside.Scalar stands) (none-word acting)
  needs_to context one (needs-entry {holder = h} {word = w} plain has which stands) =
      subst (NeedsNoneIn files known file text option number name) (one (inside.Entries h) stands)
      (none-entry (record { plain = plain; word = w; is = has; which = which }))
  needs_to context one (needs-untold acting stands) =
      subst (NeedsNoneIn files known file text option number name) (one inside.Untold stands) (none-untold acting)
  needs_to context one (needs-without plain none stands) =
      subst (NeedsNoneIn files known file text option number name) (one inside.Options stands)
      (none-without (record { plain = plain; lacks = none }))
  needs_to context one (needs-reserved {message = m} is stands) =
      subst (NeedsNoneIn files known file text option number name) (one (inside.Message m) stands) (none-reserved is)
  needs_to context one (needs-skipped stands) =
      subst (NeedsNoneIn files known file text option number name) (one inside.Skipped stands) none-skipped

  pub needs_nowhere : ((context : Context) → StandsIn files known file text option number context → ⊥)
      → NeedsNoTarget files known file text option number name → ⊥
  needs_nowhere none (needs-word acting stands) = none inside.Scalar stands
  needs_nowhere none (needs-entry {holder = h} plain has which stands) = none (inside.Entries h) stands
  needs_nowhere none (needs-untold acting stands) = none inside.Untold stands
  needs_nowhere none (needs-without plain none_of stands) = none inside.Options stands
  needs_nowhere none (needs-reserved {message = m} is stands) = none (inside.Message m) stands
  needs_nowhere none (needs-skipped stands) = none inside.Skipped stands

  -- ---- what they give

  pub unnamed_leads : (outer inner : Context)
      → ((at : DeclaredPlace) → NamesAs files known file text option number name name.role outer at → ⊥)
      → LeadsUnnamed files known file text option number name outer inner
      → Leads files known file text option number name outer inner
  unnamed_leads _ _ none (un-key plain has) = leads-key plain has
  unnamed_leads _ inner none (un-map_value plain has gives) = leads-map_value plain has gives
  unnamed_leads _ inner none (un-default taken acting given) =
      leads-default taken acting given.in_file given.is given.at given.gives
  unnamed_leads _ _ none (un-untold not acting) = leads-untold not acting
  unnamed_leads _ _ none (un-without is) = leads-without_message is.plain is.lacks
  unnamed_leads _ _ none (un-reserved is) = leads-reserved is none
  unnamed_leads _ _ none un-skipped = leads-skipped

  pub leads_unnamed : (outer inner : Context)
      → ((at : DeclaredPlace) → NamesAs files known file text option number name name.role outer at → ⊥)
      → Leads files known file text option number name outer inner
      → LeadsUnnamed files known file text option number name outer inner
  leads_unnamed outer inner none (leads-named {at = at} names gives) = absurd (none at names)
  leads_unnamed _ _ none (leads-key plain has) = un-key plain has
  leads_unnamed _ inner none (leads-map_value plain has gives) = un-map_value plain has gives
  leads_unnamed _ inner none (leads-default {field = f} {place = p} {fact = u} taken acting in_file is at
      gives) =
      un-default taken acting (record { field = f; in_file = in_file; fact = u; is = is; at = at; gives = gives })
  leads_unnamed _ _ none (leads-untold not acting) = un-untold not acting
  leads_unnamed _ _ none (leads-without_message plain none_of) =
      un-without (record { plain = plain; lacks = none_of })
  leads_unnamed _ _ none (leads-reserved is nothing) = un-reserved is
  leads_unnamed _ _ none leads-skipped = un-skipped

  -- a name that names something gives what that gives

  pub leads_named_to : (outer inner : Context) (at : DeclaredPlace)
      → NamesAs files known file text option number name name.role outer at
      → Leads files known file text option number name outer inner → PlaceGives files known name.role at inner
  leads_named_to outer inner at names (leads-named {at = other} its gives) =
      subst (λ (p : DeclaredPlace). PlaceGives files known name.role p inner)
      (one_named files known file text option number name name.role outer other at its names) gives
  leads_named_to _ _ at names (leads-key {holder = h} plain has) =
      absurd (none_in_entries files known file text option number name name.role h at names)
  leads_named_to _ inner at names (leads-map_value {holder = h} plain has gives) =
      absurd (none_in_entries files known file text option number name name.role h at names)
  leads_named_to _ inner at names (leads-default taken acting in_file is there gives) =
      absurd (none_untold files known file text option number name name.role at names)
  leads_named_to _ _ at names (leads-untold not acting) =
      absurd (none_untold files known file text option number name name.role at names)
  leads_named_to _ _ at names (leads-without_message plain none_of) =
      absurd (none_without_message files known file text option number name name.role at plain none_of names)
  leads_named_to _ _ at names (leads-reserved is nothing) = absurd (nothing at names)
  leads_named_to _ _ at names leads-skipped =
      absurd (none_skipped files known file text option number name name.role at names)

  -- what is given is clear

  place_clear : (acting : OptionRole) (outer inner : Context) (at : DeclaredPlace)
      → NamesAs files known file text option number name acting outer at → PlaceGives files known acting at inner
      → IsClear files inner
  place_clear _ outer inner at names (gives-field gives) = field_clear files known at inner gives
  place_clear _ outer inner at names (gives-extension gives) = field_clear files known at inner gives
  place_clear _ _ _ at (names-packed {inner = d} has any called owns stands is) gives-message = (d, stands)

  pub leads_clear : (outer inner : Context)
      → Leads files known file text option number name outer inner → IsClear files inner
  leads_clear outer inner (leads-named {at = at} names gives) =
      place_clear name.role outer inner at names gives
  leads_clear _ _ (leads-key plain has) = tt
  leads_clear _ inner (leads-map_value {holder = h} plain has gives) = value_clear files known h inner gives
  leads_clear _ inner (leads-default {field = f} taken acting in_file is at gives) =
      field_clear files known f inner gives
  leads_clear _ _ (leads-untold not acting) = tt
  leads_clear _ _ (leads-without_message plain none) = tt
  leads_clear _ _ (leads-reserved is nothing) = tt
  leads_clear _ _ leads-skipped = tt

  -- ---- by what they are looked up in

  pub message_leads : (message : DeclaredPlace) (inner : Context)
      → LeadsUnnamed files known file text option number name (inside.Message message) inner
      → IsReserved files known text option number name message
  message_leads message _ (un-reserved is) = is

  pub enum_leads_none : (type : DeclaredPlace) (inner : Context)
      → LeadsUnnamed files known file text option number name (inside.Enum type) inner → ⊥
  enum_leads_none type inner x = elim x [ ]

  pub scalar_leads_none : (inner : Context) → LeadsUnnamed files known file text option number name inside.Scalar inner
      → ⊥
  scalar_leads_none inner x = elim x [ ]

  pub options_lead : (inner : Context) → LeadsUnnamed files known file text option number name inside.Options inner
      → IsWithoutMessage files file option name
  options_lead _ (un-without is) = is

  -- entries of a map

  module _ (holder : DeclaredPlace) where
    pub entry_plain : (inner : Context) → LeadsUnnamed files known file text option number name (inside.Entries holder)
        inner
        → name.role ≡ role.Field
    entry_plain _ (un-key plain has) = plain
    entry_plain inner (un-map_value plain has gives) = plain

    pub entry_word : (HasWords text name (codes "key" ∷ []) → ⊥) → (HasWords text name (codes "value" ∷ []) → ⊥)
        → (inner : Context) → LeadsUnnamed files known file text option number name (inside.Entries holder) inner → ⊥
    entry_word not nor _ (un-key plain has) = not has
    entry_word not nor inner (un-map_value plain has gives) = nor has

    pub entry_value : (HasWords text name (codes "key" ∷ []) → ⊥) → (inner : Context)
        → LeadsUnnamed files known file text option number name (inside.Entries holder) inner
        → ValueGives files known holder inner
    entry_value not _ (un-key plain has) = absurd (not has)
    entry_value not inner (un-map_value plain has gives) = gives

  -- options that nobody tells of

  pub untold_acting : (inner : Context) → LeadsUnnamed files known file text option number name inside.Untold inner
      → name.role ≡ role.Extension → ⊥
  untold_acting inner (un-default taken acting given) = acting
  untold_acting _ (un-untold not acting) = acting

  pub untold_given : (place : Span) → option.element ≡ of_a.Field place
      → ((field : Span) × IsTaken text (codes "default") option field) → (inner : Context)
      → LeadsUnnamed files known file text option number name inside.Untold inner
      → IsDefaultGiven files known file place inner
  untold_given place element taken inner (un-default {place = p} is acting given) =
      subst (λ (s : Span). IsDefaultGiven files known file s inner) (same_field p place
      (sym is.of_field ∙ element)) given
    where
      same_field : (p q : Span) → of_a.Field p ≡ of_a.Field q → p ≡ q
      same_field p q e = cc
  untold_given place element taken _ (un-untold not acting) = absurd (not taken.0 taken.1)

same_field : (p q : Span) → of_a.Field p ≡ of_a.Field q → p ≡ q
same_field p q e = cc

pub taken_there : (text : List ℕ) (option : FileOption) (place : Span)
    → ((field : Span) × IsTaken text (codes "default") option field) → option.element ≡ of_a.Field place
    → IsTaken text (codes "default") option place
taken_there text option place taken element =
    subst (λ (s : Span). IsTaken text (codes "default") option s)
    (same_field taken.0 place (sym taken.1.of_field ∙ element)) taken.1

pub declared_in : (files : List File) (file : ℕ) (facts : Facts) (declarations : List Declaration) (name : Span)
    (found : Option ℕ) → HasFacts files file facts → declarations ≡ facts.declarations
    → MatchOption found ((index : ℕ) (d : Declaration) → slice_get declarations index ≡ Some d → d.name ≡ name → ⊥)
    (λ index. (d : Declaration) × (slice_get declarations index ≡ Some d) × (d.name ≡ name))
    → (given : Option DeclaredPlace) → given ≡ option_map (place_at file) found
    → MatchOption given ((at : DeclaredPlace) → IsDeclaredAt files file name at → ⊥) (IsDeclaredAt files file name)
declared_in files file facts declarations name None has are none given is =
    subst (λ (o : Option DeclaredPlace). MatchOption o ((at : DeclaredPlace) → IsDeclaredAt files file name at → ⊥)
    (IsDeclaredAt files file name)) (sym is) (λ at x. (
    let stands = subst (λ (n : ℕ). Stands files (place_at n at.index) x.declaration) x.in_file x.stands in
    let same = one_list_of_facts files file stands.facts facts stands.known has in
    none at.index x.declaration
    (ap (λ (ds : List Declaration). slice_get ds at.index) are
    ∙ (sym (ap (λ (f : Facts). slice_get f.declarations at.index) same) ∙ stands.listed)) x.named))
declared_in files file facts declarations name (Some index) has are some given is =
    subst (λ (o : Option DeclaredPlace). MatchOption o ((at : DeclaredPlace) → IsDeclaredAt files file name at → ⊥)
    (IsDeclaredAt files file name)) (sym is) (record {
      in_file = refl;
      declaration = some.0;
      stands = record {
        facts = facts;
        known = has;
        listed = sym (ap (λ (ds : List Declaration). slice_get ds index) are) ∙ some.1;
      };
      named = some.2;
    })

pub declared_nowhere : (files : List File) (file : ℕ) (name : Span)
    → ((facts : Facts) → HasFacts files file facts → ⊥) → (at : DeclaredPlace) → IsDeclaredAt files file name at → ⊥
declared_nowhere files file name none at x =
    let stands = subst (λ (n : ℕ). Stands files (place_at n at.index) x.declaration) x.in_file x.stands in
    none stands.facts stands.known
