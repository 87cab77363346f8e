-- What names in a source's options name is in files that the source reaches, and that aren't left out.
use Rattle.std.proofs.Common.{ℕ, List, sym, subst}
use Rattle.proto_decl.specs.declared.declaration.DeclarationKind.{DeclarationKind}
use Rattle.proto_options.specs.declared.fields.FieldKind.{FieldKind}
use Rattle.proto_options.specs.declared.names.OptionName.{OptionName}
use Rattle.proto_options.specs.declared.names.OptionRole.{OptionRole}
use Rattle.proto_options.specs.declared.options.FileOption.{FileOption}
use Rattle.proto_visibility.specs.Files.{File, IsPresent, IsSource}
use Rattle.proto_visibility.specs.Sees.SeesBy.{itself}
use Rattle.proto_visibility.specs.Reaches.{ImportsLeadTo, LinksOptions, Reaches}
use Rattle.proto_visibility.specs.Reaches.ImportsLeadTo.{at_once}
use Rattle.proto_visibility.specs.Reaches.IsReachable.{reached}
use Rattle.proto_visibility.specs.Reaches.Reaches.{sees as reaches_seen, imports as reaches_imports}
use Rattle.proto_visibility.specs.Reaches.Reaches.{built_in as reaches_built_in}
use Rattle.proto_visibility.proofs.ReachingLemmas.{imports_on, sees_imported}
use Rattle.option_link.specs.declared.contexts.Context.{Context}
use Rattle.option_link.specs.declared.contexts.Context.TheVariants as inside
use Rattle.option_link.specs.declared.facts.OptionFacts.{OptionFacts}
use Rattle.option_link.specs.declared.place.DeclaredPlace.{DeclaredPlace}
use Rattle.option_link.specs.Fields.{KindGives, MapGives, TypeAt, TypeGives}
use Rattle.option_link.specs.Fields.KindGives.{scalar as kind-scalar, named as kind-named, group as kind-group}
use Rattle.option_link.specs.Fields.KindGives.{entries as kind-entries}
use Rattle.option_link.specs.Fields.MapGives.{scalar as map-scalar, named as map-named}
use Rattle.option_link.specs.Fields.TypeGives.{message as type-message, enum as type-enum}
use Rattle.option_link.specs.Contexts.{HasFieldsOf, Leads, NamesAs, PlaceGives, Root, StandsIn}
use Rattle.option_link.specs.Contexts.HasFieldsOf.{options as fields-options, message as fields-message}
use Rattle.option_link.specs.Contexts.Leads.{named as leads-named, key as leads-key, map_value as leads-map_value}
use Rattle.option_link.specs.Contexts.Leads.{default as leads-default, untold as leads-untold}
use Rattle.option_link.specs.Contexts.Leads.{without_message as leads-without_message, reserved as leads-reserved}
use Rattle.option_link.specs.Contexts.Leads.{skipped as leads-skipped}
use Rattle.option_link.specs.Contexts.NamesAs.{field as names-field, group as names-group, extension as names-extension}
use Rattle.option_link.specs.Contexts.NamesAs.{item as names-item, packed as names-packed, value as names-value}
use Rattle.option_link.specs.Contexts.PlaceGives.{field as gives-field, extension as gives-extension}
use Rattle.option_link.specs.Contexts.PlaceGives.{message as gives-message}
use Rattle.option_link.specs.Contexts.Root.{taken as root-taken, options as root-options}
use Rattle.option_link.specs.Contexts.StandsIn.{first as stands-first, further as stands-further}
use Rattle.option_link.specs.Laws.{TargetsAreReachable}

module _ (files : List File) (source : ℕ) (is : IsSource files source) (links : LinksOptions files source) where
  reaches_on : (file last : ℕ) → Reaches files source file → ImportsLeadTo files file last
      → Reaches files source last
  reaches_on file last (reaches_seen seen) more =
      reaches_imports links (imports_on (sees_imported seen) more)
  reaches_on file last (reaches_imports its some) more = reaches_imports its (imports_on some more)
  reaches_on file last (reaches_built_in its has some) more = reaches_built_in its has (imports_on some more)

  -- the source reaches the file, which isn't left out; and the file of what names are looked up in
  abbrev In : ℕ → Type 0
  In file = Reaches files source file × IsPresent files file

  own : In source
  own = (reaches_seen itself, record { file = is.file; numbered = is.numbered; present = is.present })

  abbrev ContextIn : Context → Type 0
  ContextIn (inside.Message message) = In message.file
  ContextIn (inside.Enum type) = In type.file
  ContextIn (inside.Entries holder) = In holder.file
  ContextIn inside.Options = Unit {0}
  ContextIn inside.Scalar = Unit {0}
  ContextIn inside.Untold = Unit {0}
  ContextIn inside.Skipped = Unit {0}

  -- ---- what fields give

  type_in : (file start : ℕ) (kind : DeclarationKind) (type : DeclaredPlace) → In file
      → TypeAt files file start kind type → In type.file
  type_in file start kind type there x = (
    reaches_on file type.file there.0 (sees_imported x.names.owned.gives.sees),
    x.names.owned.present,
  )

  type_gives_in : (file start : ℕ) (context : Context) → In file → TypeGives files file start context
      → ContextIn context
  type_gives_in file start _ there (type-message {type = type} x) = type_in file start _ type there x
  type_gives_in file start _ there (type-enum {type = type} x) = type_in file start _ type there x

  kind_in : (field : DeclaredPlace) (kind : FieldKind) (context : Context) → In field.file
      → KindGives files field kind context → ContextIn context
  kind_in field _ _ there kind-scalar = tt
  kind_in field _ context there (kind-named {start = start} x) = type_gives_in field.file start context there x
  kind_in field _ _ there (kind-group stands) = there
  kind_in field _ _ there kind-entries = there

  value_in : (field : DeclaredPlace) (kind : FieldKind) (context : Context) → In field.file
      → MapGives files field kind context → ContextIn context
  value_in field _ _ there map-scalar = tt
  value_in field _ context there (map-named {start = start} x) = type_gives_in field.file start context there x

  -- ---- what names name, and lead to

  module _ (known : List OptionFacts) (text : List ℕ) (option : FileOption) where
    fields_in : (context : Context) (message : DeclaredPlace) → ContextIn context
        → HasFieldsOf files source option context message → In message.file
    fields_in _ message there (fields-options x) =
        (reaches_built_in links x.of_source.has at_once, x.of_source.present)
    fields_in _ message there fields-message = there

    module _ (number : ℕ) (name : OptionName) where
      names_in : (acting : OptionRole) (context : Context) (at : DeclaredPlace) → ContextIn context
          → NamesAs files known source text option number name acting context at → In at.file
      names_in _ context at there (names-field {message = m} has fields x not) =
          subst In (sym x.member.same_file) (fields_in context m there fields)
      names_in _ context at there (names-group {message = m} has fields least x) =
          subst In (sym x.member.same_file) (fields_in context m there fields)
      names_in _ context at there (names-extension has may from up owner stands named of_it) =
          (reaches_seen owner.gives.sees, owner.present)
      names_in _ _ at there (names-item has braces says from up unknown owner stands named first) =
          subst In (sym first.is.member.same_file) (reaches_seen owner.gives.sees, owner.present)
      names_in _ _ at there (names-packed has any called owner stands named) =
          (reaches_seen owner.gives.sees, owner.present)
      names_in _ _ at there (names-value has of_enum around stands in_file named path) = subst In (sym in_file) there

      place_in : (acting : OptionRole) (outer inner : Context) (at : DeclaredPlace) → ContextIn outer
          → NamesAs files known source text option number name acting outer at
          → PlaceGives files known acting at inner → ContextIn inner
      place_in _ outer inner at there names (gives-field x) =
          kind_in at x.fact.kind inner (names_in _ outer at there names) x.gives
      place_in _ outer inner at there names (gives-extension x) =
          kind_in at x.fact.kind inner (names_in _ outer at there names) x.gives
      place_in _ outer _ at there names gives-message = names_in _ outer at there names

      leads_in : (outer inner : Context) → ContextIn outer
          → Leads files known source text option number name outer inner → ContextIn inner
      leads_in outer inner there (leads-named {at = at} names gives) =
          place_in name.role outer inner at there names gives
      leads_in _ _ there (leads-key acting has) = tt
      leads_in _ inner there (leads-map_value {holder = holder} acting has x) =
          value_in holder x.fact.kind inner there x.gives
      leads_in _ inner there (leads-default {field = field} taken acting in_file x at gives) =
          kind_in field gives.fact.kind inner (subst In (sym in_file) own) gives.gives
      leads_in _ _ there (leads-untold not acting) = tt
      leads_in _ _ there (leads-without_message acting lacks) = tt
      leads_in _ _ there (leads-reserved x nothing) = tt
      leads_in _ _ there leads-skipped = tt

    root_in : (context : Context) → Root text option context → ContextIn context
    root_in _ (root-taken x) = tt
    root_in _ (root-options x) = tt

    stands_in : (number : ℕ) (context : Context) → StandsIn files known source text option number context
        → ContextIn context
    stands_in number context (stands-first numbered first root) = root_in context root
    stands_in number context
        (stands-further {before = before} {outer_name = name} {outer = outer} numbered around less at stands leads) =
        leads_in before name outer context (stands_in before outer stands) leads

pub targets_reachable : TargetsAreReachable
targets_reachable files known source is links text option target x =
    let at = names_in files source is links known text option target.name_number x.name x.name.role x.names.context x.at
    (stands_in files source is links known text option target.name_number x.names.context x.names.stands)
    x.names.names in
    reached is at.0 at.1
