-- A name that is looked up in something names one place at most.
use Rattle.std.proofs.Common.{◌≡◌, ℕ, Bool, List, [], ◌∷◌, refl, ap, sym, ◌∙◌, subst, arith}
use Rattle.std.specs.Option.{is_some}
use Rattle.proto_decl.specs.Names.{qualified, dotted, IsAround}
use Rattle.proto_decl.specs.declared.declaration.Declaration.{Declaration}
use Rattle.proto_decl.specs.declared.declaration.DeclarationKind.{DeclarationKind}
use Rattle.proto_decl.specs.declared.declaration.DeclarationKind.TheVariants.{Message, Field, Value as EnumValue}
use Rattle.proto_decl.proofs.ScopeLemmas.{one_around}
use Rattle.proto_options.specs.declared.names.OptionName.{OptionName}
use Rattle.proto_options.specs.declared.names.OptionRole.{OptionRole}
use Rattle.proto_options.specs.declared.names.OptionRole.TheVariants as role
use Rattle.proto_options.specs.declared.options.FileOption.{FileOption}
use Rattle.proto_visibility.specs.Files.{File}
use Rattle.proto_visibility.specs.Knows.{NameKind, KnowsAs, IsOwner, SeesGiving, is_message}
use Rattle.proto_link.proofs.LawLemmas.{one_scope}
use Rattle.option_link.specs.declared.contexts.Context.{Context}
use Rattle.option_link.specs.declared.contexts.Context.TheVariants as inside
use Rattle.option_link.specs.declared.facts.OptionFacts.{OptionFacts}
use Rattle.option_link.specs.declared.place.DeclaredPlace.{DeclaredPlace}
use Rattle.option_link.specs.Places.{Stands}
use Rattle.option_link.specs.Fields.{IsFirstItem, IsMember, behind}
use Rattle.option_link.specs.Lookups.{LooksUp, is_field}
use Rattle.option_link.specs.Lookups.LooksUp.{absolute as up-absolute, single as up-single, compound as up-compound}
use Rattle.option_link.specs.Lookups.{LooksFor}
use Rattle.option_link.specs.Lookups.LooksFor.{absolute, single, compound}
use Rattle.option_link.specs.Contexts.{HasWords, IsOptionsMessage, HasFieldsOf, MayBeExtended, LookedUpFrom}
use Rattle.option_link.specs.Contexts.{LacksMessage, NamesAs, behind_spelled, options_message}
use Rattle.option_link.specs.Contexts.LacksMessage.{nowhere, not_there}
use Rattle.option_link.specs.Contexts.HasFieldsOf.{options as fields-options, message as fields-message}
use Rattle.option_link.specs.Contexts.MayBeExtended.{options as extended-options, message as extended-message}
use Rattle.option_link.specs.Contexts.LookedUpFrom.{part, in_braces}
use Rattle.option_link.specs.Contexts.NamesAs.{field as names-field, group as names-group, extension as names-extension}
use Rattle.option_link.specs.Contexts.NamesAs.{item as names-item, packed as names-packed, value as names-value}
use Rattle.option_link.proofs.PlaceLemmas.{one_DeclaredPlace, one_place, same_declaration, same_kind}

-- ---- words, and what they name

pub same_words : (text : List ℕ) (name : OptionName) (xs ys : List (List ℕ)) → HasWords text name xs
    → HasWords text name ys → xs ≡ ys
same_words text name xs ys x y = sym x.are ∙ y.are

pub same_word : (x y : List ℕ) → x ∷ [] ≡ y ∷ [] → x ≡ y
same_word x y e = cc

pub one_word : (text : List ℕ) (name : OptionName) (x y : List ℕ) → HasWords text name (x ∷ [])
    → HasWords text name (y ∷ []) → x ≡ y
one_word text name x y p q = same_word x y (same_words text name (x ∷ []) (y ∷ []) p q)

-- what is looked up is what is looked for, and known as a field

pub looked_for : {files : List File} {file : ℕ} {has_dot : Bool} {words : List (List ℕ)} {from name : List ℕ}
    → LooksUp files file has_dot words from name → LooksFor files file has_dot words from name
looked_for (up-absolute known) = absolute
looked_for (up-single innermost known) = single innermost
looked_for (up-compound innermost known) = compound innermost

pub known_up : {files : List File} {file : ℕ} {has_dot : Bool} {words : List (List ℕ)} {from name : List ℕ}
    → LooksUp files file has_dot words from name → KnowsAs files file is_field name
known_up (up-absolute known) = known
known_up (up-single innermost known) = known
known_up (up-compound innermost known) = known

pub looks_up : {files : List File} {file : ℕ} {has_dot : Bool} {words : List (List ℕ)} {from name : List ℕ}
    → LooksFor files file has_dot words from name → KnowsAs files file is_field name
    → LooksUp files file has_dot words from name
looks_up absolute known = up-absolute known
looks_up (single innermost) known = up-single innermost known
looks_up (compound innermost) known = up-compound innermost known

pub one_looked_for : {files : List File} {file : ℕ} {has_dot : Bool} {words : List (List ℕ)} {from a b : List ℕ}
    → LooksFor files file has_dot words from a → LooksFor files file has_dot words from b → a ≡ b
one_looked_for absolute absolute = refl
one_looked_for (single {word = word} m) (single n) = ap (λ scope. qualified scope word) (one_scope m n)
one_looked_for (compound {first = first} {second = second} {others = others} m) (compound n) =
    ap (λ scope. qualified scope (dotted (first ∷ (second ∷ others)))) (one_scope m n)

-- the same words are looked for as one full name
pub one_full_name : {files : List File} {file : ℕ} {has_dot : Bool} {v w : List (List ℕ)} {f h g k : List ℕ} → v ≡ w
    → f ≡ h → LooksFor files file has_dot v f g → LooksFor files file has_dot w h k → g ≡ k
one_full_name {files = files} {file = file} {has_dot = dot} {w = w} {f = f} {g = g} words start up found =
    one_looked_for (subst (λ (scope : List ℕ). LooksFor files file dot w scope g) start
    (subst (λ (ws : List (List ℕ)). LooksFor files file dot ws f g) words up)) found

field_or_message : Field ≡ Message → ⊥
field_or_message e = cc

extension_or_field : role.Extension ≡ role.Field → ⊥
extension_or_field e = cc

-- who owns a name that is one
pub same_owner : (files : List File) (file : ℕ) (admits : NameKind → Bool) (name other : List ℕ) (a b : ℕ)
    → name ≡ other → IsOwner files file admits name a → IsOwner files file admits other b → a ≡ b
same_owner files file admits name other a b same x y =
    y.alone a (subst (λ (n : List ℕ). SeesGiving files file admits n a) same x.gives)

module _ (files : List File) where
  -- ---- messages

  pub one_options_message : (source : ℕ) (name : List ℕ) (a b : DeclaredPlace) → IsOptionsMessage files source name a
      → IsOptionsMessage files source name b → a ≡ b
  one_options_message source name a b x y =
      one_place files Message Message a b x.named.declaration y.named.declaration x.named.stands y.named.stands
      (y.of_source.only a.file x.of_source.has) (x.named.named ∙ sym y.named.named)

  pub lacks_none : (source : ℕ) (name : List ℕ) → LacksMessage files source name → (message : DeclaredPlace)
      → IsOptionsMessage files source name message → ⊥
  lacks_none source name (nowhere none) message is = none message.file is.of_source.has
  lacks_none source name (not_there of_source none) message is =
      none message is.named (of_source.only message.file is.of_source.has)

  pub with_fields : (source : ℕ) (option : FileOption) (context : Context) (a b : DeclaredPlace)
      → HasFieldsOf files source option context a → HasFieldsOf files source option context b → a ≡ b
  with_fields source option _ a b (fields-options x) (fields-options y) =
      one_options_message source (options_message option.element) a b x y
  with_fields source option _ a b fields-message fields-message = refl

  named_alike : (option : FileOption) (context : Context) (a b : DeclaredPlace) (x y : Declaration)
      → MayBeExtended files option context a → MayBeExtended files option context b
      → Stands files a x → Stands files b y → x.full_name ≡ y.full_name
  named_alike option _ a b x y (extended-options m present) (extended-options n also) p q =
      ap (λ (d : Declaration). d.full_name) (same_declaration files a x m.declaration p m.stands.stands)
      ∙ (m.named ∙ (sym n.named
      ∙ ap (λ (d : Declaration). d.full_name) (same_declaration files b n.declaration y n.stands.stands q)))
  named_alike option _ a b x y extended-message extended-message p q =
      ap (λ (d : Declaration). d.full_name) (same_declaration files a x y p q)

  pub one_from : (option : FileOption) (number : ℕ) (context : Context) (a b : DeclaredPlace) (f g : List ℕ)
      → MayBeExtended files option context a → MayBeExtended files option context b
      → LookedUpFrom files option number a f → LookedUpFrom files option number b g → f ≡ g
  one_from option number context a b _ _ m n (part less) (part also) = refl
  one_from option number context a b _ _ m n (part less) (in_braces least stands is) =
      absurd (omega (arith, less, least))
  one_from option number context a b _ _ m n (in_braces least stands is) (part less) =
      absurd (omega (arith, less, least))
  one_from option number context a b _ _ m n (in_braces {declaration = x} {outer = f} least stands is)
      (in_braces {declaration = y} {outer = g} again there also) =
      let named = named_alike option context a b x y m n stands.stands there.stands in
      one_around (subst (λ (name : List ℕ). IsAround name f) named is) also

  -- ---- members

  pub one_member : (kind other : DeclarationKind) (m n : DeclaredPlace) (v w : List ℕ) (a b : DeclaredPlace) → m ≡ n
      → v ≡ w → IsMember files m kind v a → IsMember files n other w b → a ≡ b
  one_member kind other m n v w a b same named x y =
      let there = subst (λ (at : DeclaredPlace). Stands files at x.outer) same x.of_message.stands in
      let outer = same_declaration files n x.outer y.outer there y.of_message.stands in
      one_place files kind other a b x.inner y.inner x.stands y.stands
      (x.same_file ∙ (ap (λ (at : DeclaredPlace). at.file) same ∙ sym y.same_file))
      (x.named ∙ (ap (λ (d : Declaration). qualified d.full_name v) outer
      ∙ (ap (qualified y.outer.full_name) named ∙ sym y.named)))

  pub no_field_and_group : (m n : DeclaredPlace) (v w : List ℕ) (a b : DeclaredPlace) → m ≡ n → v ≡ w
      → IsMember files m Field v a → IsMember files n Message w b → ⊥
  no_field_and_group m n v w a b same named x y =
      field_or_message (same_kind files Field Message a b x.inner y.inner x.stands y.stands
      (one_member Field Message m n v w a b same named x y))

  -- a message declares one extension for itself
  pub one_first_item : (known : List OptionFacts) (set s t a b : DeclaredPlace) → s ≡ t
      → IsFirstItem files known set s a → IsFirstItem files known set t b → a ≡ b
  one_first_item known set s t a b same x y =
      let moved = subst (λ (m : DeclaredPlace). IsFirstItem files known set m a) same x in
      one_DeclaredPlace a b (moved.is.member.same_file ∙ sym y.is.member.same_file)
      (omega (arith, moved.first b y.is, y.first a moved.is))

  module _ (known : List OptionFacts) (file : ℕ) (text : List ℕ) (option : FileOption) (number : ℕ)
      (name : OptionName) where
    -- no field is known by the name of an item's message
    no_extension_and_item : (set m : DeclaredPlace) (v w : List (List ℕ)) (f g h k : List ℕ) → HasWords text name v
        → MayBeExtended files option (inside.Message set) m → LookedUpFrom files option number m f
        → LooksUp files file (is_some name.name.leading_dot) v f g → HasWords text name w
        → LookedUpFrom files option number set h → LooksFor files file (is_some name.name.leading_dot) w h k
        → (KnowsAs files file is_field k → ⊥) → ⊥
    no_extension_and_item set m v w f g h k x may from up y its found unknown =
        unknown (subst (KnowsAs files file is_field) (one_full_name (same_words text name v w x y)
        (one_from option number (inside.Message set) m set f h may extended-message from its) (looked_for up) found)
        (known_up up))

    pub one_named : (acting : OptionRole) (context : Context) (a b : DeclaredPlace)
        → NamesAs files known file text option number name acting context a
        → NamesAs files known file text option number name acting context b → a ≡ b
    one_named _ context a b (names-field {message = m} {word = v} x has own not)
        (names-field {message = n} {word = w} y its other nor) =
        one_member Field Field m n v w a b (with_fields file option context m n has its) (one_word text name v w x y)
        own.member other.member
    one_named _ context a b (names-field {message = m} {word = v} x has own not)
        (names-group {message = n} {word = w} y its least other) =
        absurd (no_field_and_group m n v w a (behind b) (with_fields file option context m n has its)
        (one_word text name v w x y) own.member other.member)
    one_named _ context a b (names-group {message = m} {word = v} x has least own)
        (names-field {message = n} {word = w} y its other nor) =
        absurd (no_field_and_group n m w v b (behind a) (with_fields file option context n m its has)
        (one_word text name w v y x) other.member own.member)
    one_named _ context a b (names-group {message = m} {word = v} x has least own)
        (names-group {message = n} {word = w} y its again other) =
        let same = one_member Message Message m n v w (behind a) (behind b)
        (with_fields file option context m n has its)
        (one_word text name v w x y) own.member other.member in
        one_DeclaredPlace a b (ap (λ (at : DeclaredPlace). at.file) same)
        (omega (arith, ap (λ (at : DeclaredPlace). at.index) same))
    one_named _ context a b
        (names-extension {message = m} {words = v} {from = f} {full_name = g} {declaration = d} x may from up owns
        stands is of_it)
        (names-extension {message = n} {words = w} {from = h} {full_name = k} {declaration = e} y can its found also
        there named other) =
        let dot = is_some name.name.leading_dot in
        let words = same_words text name v w x y in
        let start = one_from option number context m n f h may can from its in
        let moved = subst (λ (scope : List ℕ). LooksUp files file dot w scope g) start
        (subst (λ (ws : List (List ℕ)). LooksUp files file dot ws f g) words up) in
        let full = one_looked_for (looked_for moved) (looked_for found) in
        one_place files Field Field a b d e stands there
        (same_owner files file is_field g k a.file b.file full owns also) (is ∙ (full ∙ sym named))
    one_named _ _ a b
        (names-item {set = set} {type = s} {words = v} {from = f} {full_name = g} {declaration = d} x braces says from up
        unknown owns stands is first)
        (names-item {type = t} {words = w} {from = h} {full_name = k} {declaration = e} y least sets its found nor also
        there named other) =
        let full = one_full_name (same_words text name v w x y)
        (one_from option number (inside.Message set) set set f h extended-message extended-message from its) up found in
        let type = one_place files Message Message s t d e stands there
        (same_owner files file is_message g k s.file t.file full owns also) (is ∙ (full ∙ sym named)) in
        one_first_item known set s t a b type first other
    one_named _ _ a b
        (names-extension {message = m} {words = v} {from = f} {full_name = g} x may from up owns stands is of_it)
        (names-item {set = set} {words = w} {from = h} {full_name = k} y least sets its found unknown also there named
        other) =
        absurd (no_extension_and_item set m v w f g h k x may from up y its found unknown)
    one_named _ _ a b
        (names-item {set = set} {words = w} {from = h} {full_name = k} y least sets its found unknown also there named
        other)
        (names-extension {message = m} {words = v} {from = f} {full_name = g} x may from up owns stands is of_it) =
        absurd (no_extension_and_item set m v w f g h k x may from up y its found unknown)
    one_named _ _ a b
        (names-packed {words = v} {inner = d} x any called owns stands is)
        (names-packed {words = w} {inner = e} y its other also there named) =
        let full = ap dotted (same_words text name v w x y) in
        one_place files Message Message a b d e stands there
        (same_owner files file is_message (dotted v) (dotted w) a.file b.file full owns also)
        (is ∙ (full ∙ sym named))
    one_named _ _ a b
        (names-value {type = t} {outer = d} {inner = i} {scope = s} {word = v} x of_enum around stands in_file is path)
        (names-value {outer = e} {inner = j} {scope = r} {word = w} y its also there by_file named way) =
        let enum = same_declaration files t d e of_enum.stands its.stands in
        let scope = one_around (subst (λ (o : Declaration). IsAround o.full_name s) enum around) also in
        one_place files EnumValue EnumValue a b i j stands there (in_file ∙ sym by_file)
        (is ∙ (ap (λ (o : List ℕ). qualified o v) scope
        ∙ (ap (qualified r) (one_word text name v w x y) ∙ sym named)))

    -- and nothing names anything in the entries of a map, where options are told by nobody, or in what is read past
    pub none_in_entries : (acting : OptionRole) (holder at : DeclaredPlace)
        → NamesAs files known file text option number name acting (inside.Entries holder) at → ⊥
    none_in_entries _ holder at (names-field x has own not) = elim has [ ]
    none_in_entries _ holder at (names-group x has least own) = elim has [ ]
    none_in_entries _ holder at (names-extension x may from up owns stands is of_it) = elim may [ ]

    pub none_untold : (acting : OptionRole) (at : DeclaredPlace)
        → NamesAs files known file text option number name acting inside.Untold at → ⊥
    none_untold _ at (names-field x has own not) = elim has [ ]
    none_untold _ at (names-group x has least own) = elim has [ ]
    none_untold _ at (names-extension x may from up owns stands is of_it) = elim may [ ]

    pub none_skipped : (acting : OptionRole) (at : DeclaredPlace)
        → NamesAs files known file text option number name acting inside.Skipped at → ⊥
    none_skipped _ at (names-field x has own not) = elim has [ ]
    none_skipped _ at (names-group x has least own) = elim has [ ]
    none_skipped _ at (names-extension x may from up owns stands is of_it) = elim may [ ]

    -- nor a plain name where there is no message of the options
    pub none_without_message : (acting : OptionRole) (at : DeclaredPlace) → acting ≡ role.Field
        → LacksMessage files file (options_message option.element)
        → NamesAs files known file text option number name acting inside.Options at → ⊥
    none_without_message _ at plain lacks (names-field x (fields-options {message = m} is) own not) =
        lacks_none file (options_message option.element) lacks m is
    none_without_message _ at plain lacks (names-group x (fields-options {message = m} is) least own) =
        lacks_none file (options_message option.element) lacks m is
    none_without_message _ at plain lacks (names-extension x may from up owns stands is of_it) =
        extension_or_field plain

    -- two names that name one thing spell as much of its full name
    pub one_behind : (acting : OptionRole) (context : Context) (a b : DeclaredPlace)
        (x : NamesAs files known file text option number name acting context a)
        (y : NamesAs files known file text option number name acting context b) → behind_spelled x ≡ behind_spelled y
    one_behind _ context a b (names-field x has own not) (names-field y its other nor) = refl
    one_behind _ context a b (names-field x has own not) (names-group y its least other) = refl
    one_behind _ context a b (names-group x has least own) (names-field y its other nor) = refl
    one_behind _ context a b (names-group x has least own) (names-group y its again other) = refl
    one_behind _ context a b (names-extension x may from up owns stands is of_it)
        (names-extension y can its found also there named other) = refl
    one_behind _ _ a b
        (names-extension {message = m} {words = v} {from = f} {full_name = g} x may from up owns stands is of_it)
        (names-item {set = set} {words = w} {from = h} {full_name = k} y least sets its found unknown also there named
        other) =
        absurd (no_extension_and_item set m v w f g h k x may from up y its found unknown)
    one_behind _ _ a b
        (names-item {set = set} {words = w} {from = h} {full_name = k} y least sets its found unknown also there named
        other)
        (names-extension {message = m} {words = v} {from = f} {full_name = g} x may from up owns stands is of_it) =
        absurd (no_extension_and_item set m v w f g h k x may from up y its found unknown)
    one_behind _ _ a b (names-item x braces says from up unknown owns stands is first)
        (names-item y least sets its found nor also there named other) = refl
    one_behind _ _ a b (names-packed x any called owns stands is) (names-packed y its other also there named) = refl
    one_behind _ _ a b (names-value x of_enum around stands in_file is path)
        (names-value y its also there by_file named way) = refl

    pub behind_in : (acting : OptionRole) (context other : Context) → context ≡ other → (a b : DeclaredPlace)
        (x : NamesAs files known file text option number name acting context a)
        (y : NamesAs files known file text option number name acting other b) → behind_spelled x ≡ behind_spelled y
    behind_in acting context other same =
        subst (λ (c : Context). (a b : DeclaredPlace)
        (x : NamesAs files known file text option number name acting context a)
        (y : NamesAs files known file text option number name acting c b) → behind_spelled x ≡ behind_spelled y) same
        (one_behind acting context)
