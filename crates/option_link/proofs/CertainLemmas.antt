-- Names in options that aren't in doubt name what they named, however files are mended.
use Rattle.std.proofs.Common.{◌≡◌, ◌⊎◌, inl, inr, sym, refl, subst, ℕ, ◌≤◌, Bool, true, false}
use Rattle.std.proofs.Common.{List, [], ◌∷◌, Some, None, arith}
use Rattle.std.specs.Option.{is_some}
use Rattle.std.specs.List.{All, slice_get}
use Rattle.std.proofs.lemmas.Bool.{false≢true}
use Rattle.proto_decl.specs.Names.{IsSimple, dotted}
use Rattle.proto_decl.specs.Facts.{Facts, AreOfSomeFile, NamesAreFilled}
use Rattle.proto_decl.specs.Laws.{IsScope, PrefixesAreEntities, StandsInScope}
use Rattle.proto_decl.specs.declared.uses.Component.{Component}
use Rattle.proto_options.specs.declared.fields.FieldKind.{FieldKind}
use Rattle.proto_options.specs.declared.messages.MessageClause.TheVariants as clauses
use Rattle.proto_options.specs.declared.names.OptionName.{OptionName}
use Rattle.proto_options.specs.declared.names.OptionRole.{OptionRole}
use Rattle.proto_options.specs.declared.names.OptionRole.TheVariants as role
use Rattle.proto_options.specs.declared.options.FileOption.{FileOption}
use Rattle.proto_visibility.specs.Files.{File, HasFacts, HaveOrigins}
use Rattle.proto_visibility.specs.Knows.{NameKind, IsOwner, Knows, KnowsAs, SeesGiving, is_message}
use Rattle.proto_visibility.specs.Knows.NameKind.{OfDeclaration, OfPackage}
use Rattle.proto_visibility.specs.Knows.Knows.{declared as known_declared, packaged as known_packaged}
use Rattle.proto_visibility.specs.Knows.DeclaresName.{declared as gives_declared}
use Rattle.proto_visibility.proofs.FileFactLemmas.{one_list_of_facts}
use Rattle.proto_link.specs.Certain.{is_any}
use Rattle.proto_link.specs.Mended.{AreMended}
use Rattle.proto_link.specs.Resolves.{Innermost}
use Rattle.proto_link.specs.Resolves.Innermost.{here, farther}
use Rattle.proto_link.specs.Uncertain.{IsFartherOut, IsFirstUnread, package_name}
use Rattle.proto_link.proofs.CertainLemmas.{found_around, innermost, outside}
use Rattle.proto_link.proofs.MendedLemmas.{facts_stay, gives_stays, known_stays, present_stays}
use Rattle.proto_link.proofs.UseScopeLemmas.{in_package}
use Rattle.option_link.specs.declared.contexts.Context.{Context}
use Rattle.option_link.specs.declared.contexts.Context.TheVariants as inside
use Rattle.option_link.specs.declared.facts.OptionFacts.{OptionFacts}
use Rattle.option_link.specs.declared.place.DeclaredPlace.{DeclaredPlace}
use Rattle.option_link.specs.declared.target.OptionTarget.{OptionTarget}
use Rattle.option_link.specs.Fields.{KindGives}
use Rattle.option_link.specs.Fields.{MapGives, TypeGives}
use Rattle.option_link.specs.Fields.KindGives.{scalar as kind_scalar, named as kind_named, group as kind_group}
use Rattle.option_link.specs.Fields.KindGives.{entries as kind_entries}
use Rattle.option_link.specs.Fields.MapGives.{scalar as map_scalar, named as map_named}
use Rattle.option_link.specs.Fields.TypeGives.{message as type_message, enum as type_enum}
use Rattle.option_link.specs.Lookups.{LooksFor, LooksUp, is_field}
use Rattle.option_link.specs.Lookups.LooksFor.{absolute as for_absolute, single as for_single, compound as for_compound}
use Rattle.option_link.specs.Lookups.LooksUp.{absolute, single, compound}
use Rattle.option_link.specs.Contexts.{HasWords, IsTakenOption}
use Rattle.option_link.specs.Contexts.{Leads, LookedUpFrom, MayBeExtended, NamesAs, PlaceGives, StandsIn}
use Rattle.option_link.specs.Contexts.{behind_spelled}
use Rattle.option_link.specs.Contexts.IsTakenOption.{default as taken_default}
use Rattle.option_link.specs.Contexts.HasFieldsOf.{options as fields_options, message as fields_message}
use Rattle.option_link.specs.Contexts.MayBeExtended.{options as extended_options, message as extended_message}
use Rattle.option_link.specs.Contexts.LookedUpFrom.{part, in_braces}
use Rattle.option_link.specs.Contexts.NamesAs.{field as names_field, group as names_group}
use Rattle.option_link.specs.Contexts.NamesAs.{extension as names_extension, item as names_item}
use Rattle.option_link.specs.Contexts.NamesAs.{packed as names_packed, value as names_value}
use Rattle.option_link.specs.Contexts.PlaceGives.{field as gives_field, extension as gives_extension}
use Rattle.option_link.specs.Contexts.PlaceGives.{message as gives_message}
use Rattle.option_link.specs.Contexts.Leads.{named as leads_named, key as leads_key, map_value as leads_value}
use Rattle.option_link.specs.Contexts.Leads.{default as leads_default, untold as leads_untold}
use Rattle.option_link.specs.Contexts.Leads.{without_message as leads_without, reserved as leads_reserved}
use Rattle.option_link.specs.Contexts.Leads.{skipped as leads_skipped}
use Rattle.option_link.specs.Contexts.Root.{taken as root_taken, options as root_options}
use Rattle.option_link.specs.Contexts.StandsIn.{first, further}
use Rattle.option_link.specs.OptionNames.{IsOptionTarget, NamesParts, NamesPlace}
use Rattle.option_link.specs.Uncertain.{IsInDoubt, IsShared, first_sought}
use Rattle.option_link.specs.Uncertain.IsShared.{part as shared_part, in_braces as shared_braces}
use Rattle.option_link.specs.Certain.{AreCertainUpTo, HasOptionsAlike, IsOnTheWay, ItemsStay, NoneClashes, StaysKnown}
use Rattle.option_link.specs.Certain.{TypesStay}
use Rattle.option_link.specs.Certain.IsOnTheWay.{itself, of_name}
use Rattle.option_link.proofs.DoubtLemmas.{no_dot}
use Rattle.option_link.proofs.CertainMendedLemmas.{stand_stays, stands_stays, field_stays, own_stays, group_stays}
use Rattle.option_link.proofs.CertainMendedLemmas.{of_stays, field_gives, value_gives, place_gives, extended_stays}
use Rattle.option_link.proofs.CertainMendedLemmas.{first_item_stays, looked_stays, fields_stay, says_stays}

-- In this nothing is named: it is in options that nobody tells of, or in what is read past.
data IsIdle (text : List ℕ) (option : FileOption) : Context → Type 0 where
  idle_untold : (IsTakenOption text option → ⊥) → IsIdle text option inside.Untold
  idle_skipped : IsIdle text option inside.Skipped

-- what is given as something is given as anything
as_any : (files : List File) (file : ℕ) (admits : NameKind → Bool) (name : List ℕ) (seen : ℕ)
    → SeesGiving files file admits name seen → SeesGiving files file is_any name seen
as_any files file admits name seen is =
    let g = is.giving in
    record {
      sees = is.sees;
      giving = record {
        file = g.file;
        numbered = g.numbered;
        gives = record {
          facts = g.gives.facts;
          known = g.gives.known;
          gives = record { kind = g.gives.gives.kind; gives = g.gives.gives.gives; admitted = refl };
        };
      };
    }

-- ---- an option of a file

module _ (files mended : List File) (are : AreMended files mended) (origins : HaveOrigins mended)
    (filled : (facts : Facts) → AreOfSomeFile facts → NamesAreFilled facts.declarations)
    (prefixes : (facts : Facts) → AreOfSomeFile facts → PrefixesAreEntities facts)
    (simple : (facts : Facts) → AreOfSomeFile facts
    → All (λ (component : Component). IsSimple component.name) facts.package_name)
    (stand : (facts : Facts) → AreOfSomeFile facts → All (StandsInScope facts) facts.declarations)
    (known mended_known : List OptionFacts) (stays : StaysKnown files known mended_known) (file : ℕ) (facts : Facts)
    (has : HasFacts files file facts) (text : List ℕ) (option : FileOption) (scope : IsScope facts option.scope)
    (alike : HasOptionsAlike files mended file) (nothing : NoneClashes files mended file)
    (types : (other : ℕ) → IsOnTheWay files known file text option other → TypesStay files mended other)
    (items : (other : ℕ) → IsOnTheWay files known file text option other
    → ItemsStay files mended known mended_known other) where
  -- ---- where the first word is found

  found_alike : (number : ℕ) {admits : NameKind → Bool} {word from shared start : List ℕ} {message : DeclaredPlace}
      → LookedUpFrom files option number message from → IsShared files file option number from shared
      → Innermost files file admits word from start
      → (IsFartherOut shared start → (behind : ℕ) → IsFirstUnread files file behind → ⊥)
      → Innermost mended file admits word from start
  found_alike number {start = start} (part less) (shared_part {facts = its} also knows) found certain =
      innermost files mended are origins filled prefixes simple file facts has
      (λ declaration among. nothing.own facts declaration (facts_stay files mended are file facts has) among)
      (in_package facts (stand facts (origins file facts (facts_stay files mended are file facts has))) option.scope
      scope) found
      (subst (λ (f : Facts). IsFartherOut (package_name f) start → (behind : ℕ) → IsFirstUnread files file behind → ⊥)
      (one_list_of_facts files file its facts knows has) certain)
  found_alike number (in_braces least stands is) (shared_part less knows) found certain =
      absurd (omega (arith, least, less))
  found_alike number looked (shared_braces least) (here knows) certain = here (known_stays files mended are knows)
  found_alike number looked (shared_braces least) (farther {outer = next} absent is rest) certain =
      outside files mended are file (certain (next, is, found_around rest)) (farther absent is rest)

  -- ---- by the names of what is declared in one file alone

  owner_stays : (admits : NameKind → Bool) → admits OfPackage ≡ false → (full : List ℕ) (owner : ℕ)
      → IsOwner files file admits full owner → IsOwner mended file admits full owner
  owner_stays admits typed full owner is = record {
    gives = gives_stays files mended are file admits full owner is.gives;
    present = present_stays files mended are owner is.present;
    alone = λ other gives. nothing.given admits typed full owner is other (as_any mended file admits full other gives);
  }

  -- where a message alone has the name, no field gets it
  unknown_stays : (full : List ℕ) (owner : ℕ) → IsOwner files file is_message full owner
      → (KnowsAs files file is_field full → ⊥) → KnowsAs mended file is_field full → ⊥
  unknown_stays full owner is unknown k = by k.known k.admitted is unknown
    where
      by : {name : List ℕ} {kind : NameKind} → Knows mended file name kind → is_field kind ≡ true
          → IsOwner files file is_message name owner → (KnowsAs files file is_field name → ⊥) → ⊥
      by (known_declared {seen = seen} {facts = its} {declaration = d} sees knows listed) admitted owned none =
          let same : seen ≡ owner = nothing.given is_message refl d.full_name owner owned seen (record {
            sees = sees;
            giving = record {
              file = knows.file;
              numbered = knows.numbered;
              gives = record {
                facts = its;
                known = knows.known;
                gives = record { kind = OfDeclaration d.kind; gives = gives_declared listed; admitted = refl };
              };
            };
          }) in
          let g = owned.gives.giving in
          let was : HasFacts files owner g.gives.facts =
          record { file = g.file; numbered = g.numbered; known = g.gives.known } in
          let one : its ≡ g.gives.facts = one_list_of_facts mended owner its g.gives.facts
          (subst (λ (n : ℕ). HasFacts mended n its) same knows)
          (facts_stay files mended are owner g.gives.facts was) in
          none (record {
            kind = OfDeclaration d.kind;
            known = known_declared owned.gives.sees (subst (HasFacts files owner) (sym one) was) listed;
            admitted = admitted;
          })
      by (known_packaged sees knows some few) admitted owned none = false≢true admitted

  -- ---- what a name names

  module _ (number : ℕ) (name : OptionName) (numbered : slice_get option.setting.names number ≡ Some name)
      (certain : (behind : ℕ) → IsInDoubt files known file text option number behind → ⊥) where
    shared_of : (message : DeclaredPlace) (from : List ℕ) → LookedUpFrom files option number message from
        → (shared : List ℕ) × IsShared files file option number from shared
    shared_of message _ (part less) = (package_name facts, shared_part less has)
    shared_of message from (in_braces least stands is) = (from, shared_braces least)

    module _ (at : DeclaredPlace) (place : NamesPlace files known file text option number name at)
        (extension : name.role ≡ role.Extension) (plain : name.name.leading_dot ≡ None) (word : List ℕ)
        (others : List (List ℕ)) (words : HasWords text name (word ∷ others)) (message : DeclaredPlace)
        (extended : MayBeExtended files option place.context message) (from : List ℕ)
        (looked : LookedUpFrom files option number message from) where
      first_word : {admits : NameKind → Bool} {start : List ℕ} → first_sought others ≡ admits
          → Innermost files file admits word from start → Innermost mended file admits word from start
      first_word {start = start} sought found =
          let shared = shared_of message from looked in
          found_alike number looked shared.1 found (λ passed behind unread. certain behind (record {
            name = name;
            at = at;
            names = place;
            farther = record {
              extension = extension;
              plain = plain;
              word = word;
              others = others;
              words = words;
              message = message;
              extended = extended;
              from = from;
              looked_from = looked;
              shared = shared.0;
              is_shared = shared.1;
              farther = record {
                start = start;
                innermost = subst (λ (a : NameKind → Bool). Innermost files file a word from start) (sym sought) found;
                passed = passed;
              };
            };
            first = unread;
          }))

    looks_alike : (at : DeclaredPlace) (place : NamesPlace files known file text option number name at)
        → name.role ≡ role.Extension → {has_dot : Bool} {words : List (List ℕ)} {from full : List ℕ}
        → is_some name.name.leading_dot ≡ has_dot → HasWords text name words → (message : DeclaredPlace)
        → MayBeExtended files option place.context message → LookedUpFrom files option number message from
        → LooksUp files file has_dot words from full → LooksUp mended file has_dot words from full
    looks_alike at place extension dot words message extended looked (absolute knows) =
        absolute (known_stays files mended are knows)
    looks_alike at place extension dot words message extended looked (single {word = word} {from = from} found knows) =
        single (first_word at place extension (no_dot name.name.leading_dot dot) word [] words message extended from
        looked refl found) (known_stays files mended are knows)
    looks_alike at place extension dot words message extended looked
        (compound {first = word} {second = second} {from = from} {others = others} found knows) =
        compound (first_word at place extension (no_dot name.name.leading_dot dot) word (second ∷ others) words message
        extended from looked refl found) (known_stays files mended are knows)

    looks_for_alike : (at : DeclaredPlace) (place : NamesPlace files known file text option number name at)
        → name.role ≡ role.Extension → {has_dot : Bool} {words : List (List ℕ)} {from full : List ℕ}
        → is_some name.name.leading_dot ≡ has_dot → HasWords text name words → (message : DeclaredPlace)
        → MayBeExtended files option place.context message → LookedUpFrom files option number message from
        → LooksFor files file has_dot words from full → LooksFor mended file has_dot words from full
    looks_for_alike at place extension dot words message extended looked (for_absolute) = for_absolute
    looks_for_alike at place extension dot words message extended looked (for_single {word = word} {from = from} found) =
        for_single (first_word at place extension (no_dot name.name.leading_dot dot) word [] words message extended from
        looked refl found)
    looks_for_alike at place extension dot words message extended looked
        (for_compound {first = word} {second = second} {from = from} {others = others} found) =
        for_compound (first_word at place extension (no_dot name.name.leading_dot dot) word (second ∷ others) words
        message extended from looked refl found)

    names_alike : {acts : OptionRole} {context : Context} {at : DeclaredPlace}
        → (place : NamesPlace files known file text option number name at) → place.context ≡ context
        → name.role ≡ acts → NamesAs files known file text option number name acts context at
        → NamesAs mended mended_known file text option number name acts context at
    names_alike place same is (names_field {context = c} {message = m} {field = f} {word = w} {fact = fact} words fields
        own kind) =
        names_field words (fields_stay files mended are known mended_known stays file alike option c m fields)
        (own_stays files mended are known mended_known stays m w f fact own) kind
    names_alike place same is (names_group {context = c} {message = m} {field = f} {word = w} words fields least own) =
        names_group words (fields_stay files mended are known mended_known stays file alike option c m fields) least
        (group_stays files mended are known mended_known stays m w f own)
    names_alike place same is (names_extension {context = c} {message = m} {field = f} {from = from} {full_name = full}
        words extended looked up owned there named of) =
        names_extension words (extended_stays files mended are known mended_known stays option c m extended)
        (looked_stays files mended are known mended_known stays option number m from looked)
        (looks_alike f place is refl words m (subst (λ d. MayBeExtended files option d m) (sym same) extended) looked
        up)
        (owner_stays is_field refl full f.file owned) (stands_stays files mended are known mended_known stays there) named
        (of_stays files mended are known mended_known stays f (types f.file (of_name place)) m of)
    names_alike place same is (names_item {set = set} {type = type} {field = f} {from = from} {full_name = full} words
        braces says looked found unknown owned there named foremost) =
        names_item words braces
        (says_stays files mended are known mended_known stays set clauses.IsMessageSet says)
        (looked_stays files mended are known mended_known stays option number set from looked)
        (looks_for_alike f place is refl words set
        (subst (λ d. MayBeExtended files option d set) (sym same) extended_message) looked found)
        (unknown_stays full type.file owned unknown) (owner_stays is_message refl full type.file owned)
        (stands_stays files mended are known mended_known stays there) named
        (first_item_stays files mended are known mended_known stays f (types f.file (of_name place))
        (items f.file (of_name place)) set type foremost)
    names_alike place same is (names_packed {message = m} {words = ws} words any called owned there named) =
        names_packed words (stands_stays files mended are known mended_known stays any) called
        (owner_stays is_message refl (dotted ws) m.file owned)
        (stands_stays files mended are known mended_known stays there) named
    names_alike place same is (names_value words of_enum around there in_file named step) =
        names_value words (stands_stays files mended are known mended_known stays of_enum) around
        (stands_stays files mended are known mended_known stays there) in_file named step

    -- as many components come behind those that are spelled
    behind_alike : {acts : OptionRole} {context : Context} {at : DeclaredPlace}
        (place : NamesPlace files known file text option number name at) (same : place.context ≡ context)
        (is : name.role ≡ acts) (names : NamesAs files known file text option number name acts context at)
        → behind_spelled (names_alike place same is names) ≡ behind_spelled names
    unfolding names_alike
    behind_alike place same is (names_field words fields own kind) = refl
    behind_alike place same is (names_group words fields least own) = refl
    behind_alike place same is (names_extension words extended looked up owned there named of) = refl
    behind_alike place same is
        (names_item words braces says looked found unknown owned there named foremost) = refl
    behind_alike place same is (names_packed words any called owned there named) = refl
    behind_alike place same is (names_value words of_enum around there in_file named step) = refl

  -- ---- in what names are looked up

  -- where options are what is looked in, the option isn't taken by the parser
  not_taken : {number : ℕ} {context : Context} → StandsIn files known file text option number context
      → context ≡ inside.Options → IsTakenOption text option → ⊥
  not_taken (first at none (root_taken taken)) is = absurd (cc)
  not_taken (first at none (root_options free)) is = free
  not_taken (further at around before outer stands leads) is = λ taken. never leads is
    where
      never_type : {home start : ℕ} {context : Context} → TypeGives files home start context → context ≡ inside.Options
          → ⊥
      never_type (type_message there) is = cc
      never_type (type_enum there) is = cc

      never_kind : {at : DeclaredPlace} {kind : FieldKind} {context : Context} → KindGives files at kind context
          → context ≡ inside.Options → ⊥
      never_kind (kind_scalar) is = cc
      never_kind (kind_named gives) is = never_type gives is
      never_kind (kind_group there) is = cc
      never_kind (kind_entries) is = cc

      never_map : {at : DeclaredPlace} {kind : FieldKind} {context : Context} → MapGives files at kind context
          → context ≡ inside.Options → ⊥
      never_map (map_scalar) is = cc
      never_map (map_named gives) is = never_type gives is

      never_place : {acts : OptionRole} {at : DeclaredPlace} {context : Context}
          → PlaceGives files known acts at context → context ≡ inside.Options → ⊥
      never_place (gives_field gives) is = never_kind gives.gives is
      never_place (gives_extension gives) is = never_kind gives.gives is
      never_place (gives_message) is = cc

      never : {n : ℕ} {outer_name : OptionName} {outer inner : Context}
          → Leads files known file text option n outer_name outer inner → inner ≡ inside.Options → ⊥
      never (leads_named names gives) is = never_place gives is
      never (leads_key plain words) is = cc
      never (leads_value plain words gives) is = never_map gives.gives is
      never (leads_default taken apart there field called gives) is = never_kind gives.gives is
      never (leads_untold free apart) is = cc
      never (leads_without plain lacks) is = cc
      never (leads_reserved reserved none) is = cc
      never (leads_skipped) is = cc

  -- where the entries of a map are looked in, the map is a field on the way
  map_on_way : {number : ℕ} {context : Context} {holder : DeclaredPlace}
      → StandsIn files known file text option number context → context ≡ inside.Entries holder
      → IsOnTheWay files known file text option holder.file
  map_on_way (first at none (root_taken taken)) is = absurd (cc)
  map_on_way (first at none (root_options free)) is = absurd (cc)
  map_on_way {holder = holder} (further {before = before} {outer_name = outer_name} at around less before_at stands
      leads) is = by stands leads is
    where
      of_type : {home start : ℕ} {context : Context} → TypeGives files home start context
          → context ≡ inside.Entries holder → ⊥
      of_type (type_message there) is = cc
      of_type (type_enum there) is = cc

      of_kind : {place : DeclaredPlace} {kind : FieldKind} {context : Context} → KindGives files place kind context
          → context ≡ inside.Entries holder → place ≡ holder
      of_kind (kind_scalar) is = absurd (cc)
      of_kind (kind_named gives) is = absurd (of_type gives is)
      of_kind (kind_group there) is = absurd (cc)
      of_kind (kind_entries) is = cc

      of_map : {place : DeclaredPlace} {kind : FieldKind} {context : Context} → MapGives files place kind context
          → context ≡ inside.Entries holder → ⊥
      of_map (map_scalar) is = cc
      of_map (map_named gives) is = of_type gives is

      of_place : {acts : OptionRole} {place : DeclaredPlace} {context : Context}
          → PlaceGives files known acts place context → context ≡ inside.Entries holder → place ≡ holder
      of_place (gives_field gives) is = of_kind gives.gives is
      of_place (gives_extension gives) is = of_kind gives.gives is
      of_place (gives_message) is = absurd (cc)

      by : {from inner : Context} → StandsIn files known file text option before from
          → Leads files known file text option before outer_name from inner → inner ≡ inside.Entries holder
          → IsOnTheWay files known file text option holder.file
      by {from = from} stands (leads_named {at = place} names gives) is =
          subst (λ (p : DeclaredPlace). IsOnTheWay files known file text option p.file) (of_place gives is)
          (of_name (record { numbered = before_at; context = from; stands = stands; names = names }))
      by stands (leads_key plain words) is = absurd (cc)
      by stands (leads_value plain words gives) is = absurd (of_map gives.gives is)
      by stands (leads_default {field = place} taken apart there field called gives) is =
          subst (λ (p : DeclaredPlace). IsOnTheWay files known file text option p.file) (of_kind gives.gives is)
          (subst (IsOnTheWay files known file text option) (sym there) itself)
      by stands (leads_untold free apart) is = absurd (cc)
      by stands (leads_without plain lacks) is = absurd (cc)
      by stands (leads_reserved reserved none) is = absurd (cc)
      by stands (leads_skipped) is = absurd (cc)

  never_in : {number : ℕ} {name : OptionName} {acts : OptionRole} {c : Context} {place : DeclaredPlace}
      → NamesAs files known file text option number name acts c place → IsIdle text option c → ⊥
  never_in (names_field words (fields_options m) own kind) idle = elim idle [ ]
  never_in (names_field words (fields_message) own kind) idle = elim idle [ ]
  never_in (names_group words (fields_options m) least own) idle = elim idle [ ]
  never_in (names_group words (fields_message) least own) idle = elim idle [ ]
  never_in (names_extension words (extended_options m present) looked up owned there named of) idle = elim idle [ ]
  never_in (names_extension words (extended_message) looked up owned there named of) idle = elim idle [ ]
  never_in (names_item words braces says looked found unknown owned there named foremost) idle = elim idle [ ]
  never_in (names_packed words any called owned there named) idle = elim idle [ ]
  never_in (names_value words of_enum around there in_file named step) idle = elim idle [ ]

  -- a name is looked up in what it was, or in what names nothing
  abbrev Stays : (number : ℕ) → Context → Type 0
  Stays number context =
      StandsIn mended mended_known file text option number context ⊎ IsIdle text option context

  told : {number : ℕ} {c : Context} → Stays number c → (IsIdle text option c → ⊥)
      → StandsIn mended mended_known file text option number c
  told (inl is) busy = is
  told (inr idle) busy = absurd (busy idle)

  module _ (most : ℕ) (certain : AreCertainUpTo files known file text option most) where
    stands_alike : {number : ℕ} {context : Context} → number ≤ most
        → StandsIn files known file text option number context → Stays number context
    stands_alike few (first at none root) = inl (first at none root)
    stands_alike few (further {number = number} {before = before} {outer_name = outer_name} at around less before_at
        stands leads) = by (stands_alike (omega (arith, few, less)) stands) stands leads
      where
        on : {from inner : Context} → StandsIn mended mended_known file text option before from
            → Leads mended mended_known file text option before outer_name from inner → Stays number inner
        on outside leads = inl (further at around less before_at outside leads)

        by : {from inner : Context} → Stays before from → StandsIn files known file text option before from
            → Leads files known file text option before outer_name from inner → Stays number inner
        by {from = from} so_far stands (leads_named {inner = d} {at = place} names gives) =
            let it : NamesPlace files known file text option before outer_name place =
            record { numbered = before_at; context = from; stands = stands; names = names } in
            on (told so_far (never_in names))
            (leads_named (names_alike before outer_name before_at (λ behind. certain before behind
            (omega (arith, few, less))) it refl refl names)
            (place_gives files mended are known mended_known stays place (types place.file (of_name it))
            outer_name.role d gives))
        by so_far stands (leads_key plain words) = on (told so_far (λ idle. elim idle [ ])) (leads_key plain words)
        by so_far stands (leads_value {holder = holder} {inner = d} plain words gives) =
            on (told so_far (λ idle. elim idle [ ])) (leads_value plain words
            (value_gives files mended are known mended_known stays holder (types holder.file (map_on_way stands refl)) d
            gives))
        by (inl so_far) stands (leads_default {field = place} {fact = fact} {inner = d} taken apart there field called
            gives) =
            on so_far (leads_default taken apart there (field_stays files mended are known mended_known stays place fact
            field) called (field_gives files mended are known mended_known stays place
            (subst (TypesStay files mended) (sym there) (types file itself)) d gives))
        by (inr (idle_untold free)) stands (leads_default taken apart there field called gives) =
            absurd (free (taken_default taken))
        by (inl so_far) stands (leads_untold free apart) = on so_far (leads_untold free apart)
        by (inr (idle_untold free)) stands (leads_untold never apart) = inr (idle_untold free)
        by so_far stands (leads_without plain lacks) = inr (idle_untold (not_taken stands refl))
        by so_far stands (leads_reserved reserved none) = inr idle_skipped
        by so_far stands (leads_skipped) = inr idle_skipped

  -- ---- what the option names

  pub certain_alike : (target : OptionTarget) → IsOptionTarget files known file text option target
      → AreCertainUpTo files known file text option target.name_number
      → IsOptionTarget mended mended_known file text option target
  certain_alike target is certain =
      let names = is.names in
      let parts = is.parts in
      let sure : (behind : ℕ) → IsInDoubt files known file text option target.name_number behind → ⊥ =
      λ behind. certain target.name_number behind (omega arith) in
      record {
        name = is.name;
        at = is.at;
        names = record {
          numbered = names.numbered;
          context = names.context;
          stands = told (stands_alike target.name_number certain (omega arith) names.stands) (never_in names.names);
          names = names_alike target.name_number is.name names.numbered sure names refl refl names.names;
        };
        parts = subst (λ (n : ℕ). NamesParts mended is.name is.at n target.parts)
            (sym (behind_alike target.name_number is.name names.numbered sure names refl refl names.names)) (record {
              declaration = parts.declaration;
              stands = stand_stays files mended are known mended_known stays is.at parts.declaration parts.stands;
              facts = parts.facts;
              known = facts_stay files mended are is.at.file parts.facts parts.known;
              skipped = parts.skipped;
              split = parts.split;
              one_each = parts.one_each;
              named = parts.named;
              last = parts.last;
            });
      }
