-- What a name in parentheses or in brackets names: from what is found step by step.
use Rattle.std.proofs.Common.{◌≡◌, inl, inr, ℕ, ◌<◌, Bool, true, false, List, length}
use Rattle.std.proofs.Common.{refl, ap, sym, ◌∙◌, subst, arith}
use Rattle.std.specs.Option.{is_some}
use Rattle.std.proofs.lemmas.Bool.{leb-true, leb-false}
use Rattle.proto_decl.specs.Names.{IsAround}
use Rattle.proto_decl.specs.declared.declaration.Declaration.{Declaration}
use Rattle.proto_decl.specs.declared.declaration.DeclarationKind.{DeclarationKind}
use Rattle.proto_decl.specs.declared.declaration.DeclarationKind.TheVariants.{Message, Enum, Service, Field, Oneof}
use Rattle.proto_decl.specs.declared.declaration.DeclarationKind.TheVariants.{Value, Method}
use Rattle.proto_decl.proofs.ScopeLemmas.{one_around}
use Rattle.proto_options.specs.declared.elements.Element.{Element}
use Rattle.proto_options.specs.declared.elements.Element.TheVariants as of_a
use Rattle.proto_options.specs.declared.names.OptionName.{OptionName}
use Rattle.proto_options.specs.declared.names.OptionRole.TheVariants as role
use Rattle.proto_options.specs.declared.options.FileOption.{FileOption}
use Rattle.proto_visibility.specs.Files.{File, IsPresent}
use Rattle.proto_visibility.specs.Knows.{KnowsAs, is_message}
use Rattle.proto_visibility.specs.Knows.NameKind.{OfDeclaration}
use Rattle.std.proofs.lemmas.Bool.{false≢true}
use Rattle.option_link.specs.declared.contexts.Context.{Context}
use Rattle.option_link.specs.declared.contexts.Context.TheVariants as inside
use Rattle.option_link.specs.declared.facts.OptionFacts.{OptionFacts}
use Rattle.option_link.specs.declared.place.DeclaredPlace.{DeclaredPlace}
use Rattle.option_link.specs.Places.{Stands, StandsAs}
use Rattle.option_link.specs.Fields.{IsFieldOf}
use Rattle.option_link.specs.Lookups.{LooksFor, is_field}
use Rattle.option_link.specs.Contexts.{HasWords, IsMessageNamed, MayBeExtended, LookedUpFrom, NamesAs, options_message}
use Rattle.option_link.specs.Contexts.LookedUpFrom.{part, in_braces as from_braces}
use Rattle.option_link.specs.Contexts.MayBeExtended.{options as extended-options, message as extended-message}
use Rattle.option_link.specs.Contexts.NamesAs.{extension as names-extension, item as names-item}
use Rattle.option_link.specs.Tables.{IsClear, IsOnly, IsOwned}
use Rattle.option_link.specs.Found.{IsBehind, IsExtendedName, IsExtensionNamed, IsItemNamed, IsNamedBy, IsScope}
use Rattle.option_link.specs.Found.{IsSetIn, IsSoughtName, LacksSoughtName, in_braces}
use Rattle.option_link.specs.Found.IsNamedBy.{extension as by-extension, item as by-item}
use Rattle.option_link.proofs.NameLemmas.{known_up, looked_for, looks_up, one_from, one_full_name, same_words}
use Rattle.option_link.proofs.OnlyLemmas.{one_only, owned_kind, owned_known, stands_only}
use Rattle.option_link.proofs.PlaceLemmas.{same_declaration}

field_kind : (kind : DeclarationKind) → is_field (OfDeclaration kind) ≡ true → kind ≡ Field
field_kind Message is = absurd (false≢true is)
field_kind Enum is = absurd (false≢true is)
field_kind Service is = absurd (false≢true is)
field_kind Field is = refl
field_kind Oneof is = absurd (false≢true is)
field_kind Value is = absurd (false≢true is)
field_kind Method is = absurd (false≢true is)

-- what is owned as a field is one
pub owned_field : (files : List File) (file : ℕ) (name : List ℕ) (field : DeclaredPlace)
    → IsOwned files file is_field name field
    → (d : Declaration) × StandsAs files Field field d × (d.full_name ≡ name)
owned_field files file name field owned =
    let its = owned_kind files file is_field refl name field owned in
    let kind = field_kind its.0.kind its.2 in
    (its.0, subst (λ (k : DeclarationKind). StandsAs files k field its.0) kind its.1, its.3)

message_kind : (kind : DeclarationKind) → is_message (OfDeclaration kind) ≡ true → kind ≡ Message
message_kind Message is = refl
message_kind Enum is = absurd (false≢true is)
message_kind Service is = absurd (false≢true is)
message_kind Field is = absurd (false≢true is)
message_kind Oneof is = absurd (false≢true is)
message_kind Value is = absurd (false≢true is)
message_kind Method is = absurd (false≢true is)

-- and as a message
pub owned_message : (files : List File) (file : ℕ) (name : List ℕ) (message : DeclaredPlace)
    → IsOwned files file is_message name message
    → (d : Declaration) × StandsAs files Message message d × (d.full_name ≡ name)
owned_message files file name message owned =
    let its = owned_kind files file is_message refl name message owned in
    let kind = message_kind its.0.kind its.2 in
    (its.0, subst (λ (k : DeclarationKind). StandsAs files k message its.0) kind its.1, its.3)

pub same_message : (a b : DeclaredPlace) → inside.Message a ≡ inside.Message b → a ≡ b
same_message a b e = cc

-- ---- names of what may be extended

pub no_message_there : (files : List File) (option : FileOption) (message other : DeclaredPlace)
    → MayBeExtended files option (inside.Message message) other → other ≡ message
no_message_there files option message _ extended-message = refl

pub options_called : (files : List File) (option : FileOption) (name : List ℕ) → name ≡ options_message option.element
    → IsExtendedName files option inside.Options name
options_called files option name is message d (extended-options m present) stands =
    ap (λ (x : Declaration). x.full_name) (same_declaration files message d m.declaration stands m.stands.stands)
    ∙ (m.named ∙ sym is)

pub message_called : (files : List File) (option : FileOption) (place : DeclaredPlace) (e : Declaration)
    (name : List ℕ) → Stands files place e → e.full_name ≡ name → IsExtendedName files option
    (inside.Message place) name
message_called files option place e name there is message d extended-message stands =
    ap (λ (x : Declaration). x.full_name) (same_declaration files place d e stands there) ∙ is

pub same_extended : (files : List File) (option : FileOption) (message other : DeclaredPlace) → other ≡ message
    → MayBeExtended files option (inside.Message message) other
same_extended files option message other same =
    subst (MayBeExtended files option (inside.Message message)) (sym same) extended-message

pub options_some : (element : Element) → 0 < length (options_message element)
options_some of_a.File = omega arith
options_some of_a.Message = omega arith
options_some (of_a.Field name) = omega arith
options_some of_a.Oneof = omega arith
options_some of_a.Enum = omega arith
options_some of_a.EnumValue = omega arith
options_some of_a.Service = omega arith
options_some of_a.Method = omega arith
options_some of_a.ExtensionRange = omega arith

pub entries_extend_none : (files : List File) (option : FileOption) (holder message : DeclaredPlace)
    → MayBeExtended files option (inside.Entries holder) message → ⊥
entries_extend_none files option holder message may = elim may [ ]

pub enum_extends_none : (files : List File) (option : FileOption) (type message : DeclaredPlace)
    → MayBeExtended files option (inside.Enum type) message → ⊥
enum_extends_none files option type message may = elim may [ ]

pub scalar_extends_none : (files : List File) (option : FileOption) (message : DeclaredPlace)
    → MayBeExtended files option inside.Scalar message → ⊥
scalar_extends_none files option message may = elim may [ ]

pub untold_extends_none : (files : List File) (option : FileOption) (message : DeclaredPlace)
    → MayBeExtended files option inside.Untold message → ⊥
untold_extends_none files option message may = elim may [ ]

pub skipped_extends_none : (files : List File) (option : FileOption) (message : DeclaredPlace)
    → MayBeExtended files option inside.Skipped message → ⊥
skipped_extends_none files option message may = elim may [ ]

pub options_extended : (files : List File) (option : FileOption) (message : DeclaredPlace)
    → MayBeExtended files option inside.Options message
    → IsMessageNamed files (options_message option.element) message × IsPresent files message.file
options_extended files option message (extended-options is present) = (is, present)

-- ---- scopes

pub outside_braces : (option : FileOption) (number : ℕ) (extended scope : List ℕ) → in_braces option number ≡ false
    → scope ≡ option.scope → IsScope option number extended scope
outside_braces option number extended scope not is = inl (leb-false option.setting.parts number not, is)

pub inside_braces : (option : FileOption) (number : ℕ) (extended scope : List ℕ) → in_braces option number ≡ true
    → IsAround extended scope → IsScope option number extended scope
inside_braces option number extended scope is around = inr (leb-true option.setting.parts number is, around)

-- the scope from which a name is looked up is that one
module _ (files : List File) (option : FileOption) (number : ℕ) (context : Context) (extended scope : List ℕ)
    (called : IsExtendedName files option context extended) (is_scope : IsScope option number extended scope) where
  pub same_scope : (message : DeclaredPlace) (from : List ℕ) → MayBeExtended files option context message
      → LookedUpFrom files option number message from → from ≡ scope
  same_scope message _ may (part less) = elim is_scope [
    | inl one ↦ sym one.1
    | inr other ↦ absurd (omega (arith, less, other.0))
  ]
  same_scope message _ may (from_braces {declaration = d} {outer = f} least stands is) = elim is_scope [
    | inl one ↦ absurd (omega (arith, least, one.0))
    | inr other ↦ one_around
        (subst (λ (n : List ℕ). IsAround n f) (called message d may stands.stands) is) other.1
  ]

-- ---- the only full name by its words

module _ (files : List File) (file : ℕ) (option : FileOption) (number : ℕ) (context : Context) where
  module _ (clear : IsClear files context) (extended scope : List ℕ)
      (called : IsExtendedName files option context extended) (is_scope : IsScope option number extended scope) where
    extended_clear : (outer : Context) (message : DeclaredPlace) → IsClear files outer
        → MayBeExtended files option outer message → (d : Declaration) × StandsAs files Message message d
    extended_clear _ message known_clear (extended-options m present) = (m.declaration, m.stands)
    extended_clear _ message known_clear extended-message = known_clear

    looked_from : (message : DeclaredPlace) → MayBeExtended files option context message
        → LookedUpFrom files option number message scope
    looked_from message may = elim is_scope [
      | inl one ↦ subst (LookedUpFrom files option number message) (sym one.1) (part one.0)
      | inr other ↦ (
          let its = extended_clear context message clear may in
          from_braces other.0 its.1 (subst (λ (n : List ℕ). IsAround n scope)
          (sym (called message its.0 may its.1.stands)) other.1))
    ]

    module _ (has_dot : Bool) (words : List (List ℕ)) where
      pub sought_by : (name : List ℕ) → LooksFor files file has_dot words scope name
          → IsSoughtName files file option number context has_dot words name
      sought_by name found = record { from = scope; looked = looked_from; found = found }

      pub none_sought : ((name : List ℕ) → LooksFor files file has_dot words scope name → ⊥)
          → LacksSoughtName files file option number context has_dot words
      none_sought none = λ message from name may looked found.
          none name (subst (λ (s : List ℕ). LooksFor files file has_dot words s name)
          (same_scope files option number context extended scope called is_scope message from may looked) found)

  pub lacks_sought : (has_dot : Bool) (words : List (List ℕ))
      → ((message : DeclaredPlace) → MayBeExtended files option context message → ⊥)
      → LacksSoughtName files file option number context has_dot words
  lacks_sought has_dot words none = λ message from name may looked found. none message may

-- ---- what it names

module _ (files : List File) (known : List OptionFacts) (file : ℕ) (text : List ℕ) (option : FileOption) (number : ℕ)
    (name : OptionName) (words : List (List ℕ)) (has_words : HasWords text name words) where
  abbrev pub Names : Context → DeclaredPlace → Type 0
  Names context at = NamesAs files known file text option number name role.Extension context at

  abbrev pub NamedBy : (full : List ℕ) → Context → DeclaredPlace → Type 0
  NamedBy full context at = IsNamedBy files known file option number context full at

  abbrev pub Sought : (full : List ℕ) → Context → Type 0
  Sought full context = IsSoughtName files file option number context (is_some name.name.leading_dot) words full

  pub to_named : (full : List ℕ) (context : Context) → Sought full context → (at : DeclaredPlace) → Names context at
      → NamedBy full context at
  to_named full context sought at
      (names-extension {message = m} {words = ws} {from = f} {full_name = g} {declaration = d} its may from up owner
      stands named of_message) =
      let same = one_full_name (same_words text name ws words its has_words)
      (one_from files option number context m m f sought.from may may from (sought.looked m may)) (looked_for up)
      sought.found in
      subst (λ (n : List ℕ). NamedBy n context at) same (by-extension (record {
        owned = record { owner = owner; only = stands_only files Field g at d stands named };
        message = m;
        may = may;
        is = of_message;
      }))
  to_named full _ sought at
      (names-item {set = set} {type = t} {words = ws} {from = f} {full_name = g} {declaration = d} its braces says from
      found unknown owner stands named first) =
      let same = one_full_name (same_words text name ws words its has_words)
      (one_from files option number (inside.Message set) set set f sought.from extended-message extended-message from
      (sought.looked set extended-message)) found sought.found in
      subst (λ (n : List ℕ). NamedBy n (inside.Message set) at) same
      (by-item {set = set} (record { is = refl; braces = braces; says = says }) unknown (record {
        type = t;
        owned = record { owner = owner; only = stands_only files Message g t d stands named };
        is = first;
      }))

  pub from_named : (full : List ℕ) (context : Context) → Sought full context → (at : DeclaredPlace)
      → NamedBy full context at → Names context at
  from_named full context sought at (by-extension x) =
      let field = owned_field files file full at x.owned in
      names-extension has_words x.may (sought.looked x.message x.may)
      (looks_up sought.found (owned_known files file is_field refl full at x.owned)) x.owned.owner field.1 field.2 x.is
  from_named full context sought at (by-item {set = set} s unknown x) =
      let message = owned_message files file full x.type x.owned in
      let may = subst (λ (c : Context). MayBeExtended files option c set) (sym s.is) extended-message in
      subst (λ (c : Context). Names c at) (sym s.is)
      (names-item has_words s.braces s.says (sought.looked set may) sought.found unknown x.owned.owner message.1
      message.2 x.is)

  pub lacks_named : (context : Context)
      → LacksSoughtName files file option number context (is_some name.name.leading_dot) words → (at : DeclaredPlace)
      → Names context at → ⊥
  lacks_named context none at
      (names-extension {message = m} {words = ws} {from = f} {full_name = g} its may from up owner stands named
      of_message) =
      none m f g may from (subst (λ (w : List (List ℕ)). LooksFor files file (is_some name.name.leading_dot) w f g)
      (same_words text name ws words its has_words) (looked_for up))
  lacks_named _ none at
      (names-item {set = set} {words = ws} {from = f} {full_name = g} its braces says from found unknown owner stands
      named first) =
      none set f g extended-message from
      (subst (λ (w : List (List ℕ)). LooksFor files file (is_some name.name.leading_dot) w f g)
      (same_words text name ws words its has_words) found)

  -- how much of its full name comes behind what is spelled

  pub behind_known : (full : List ℕ) (context : Context) → Sought full context → KnowsAs files file is_field full
      → IsBehind files known file text option number name role.Extension context 0
  behind_known full context sought is at (names-extension its may from up owner stands named of_message) = refl
  behind_known full _ sought is at
      (names-item {set = set} {words = ws} {from = f} its braces says from found unknown owner stands named first) =
      absurd (unknown (subst (KnowsAs files file is_field) (sym (one_full_name
      (same_words text name ws words its has_words)
      (one_from files option number (inside.Message set) set set f sought.from extended-message extended-message from
      (sought.looked set extended-message)) found sought.found)) is))

  pub behind_unknown : (full : List ℕ) (context : Context) → Sought full context
      → (KnowsAs files file is_field full → ⊥)
      → IsBehind files known file text option number name role.Extension context 1
  behind_unknown full context sought not at
      (names-extension {message = m} {words = ws} {from = f} its may from up owner stands named of_message) =
      absurd (not (subst (KnowsAs files file is_field) (one_full_name (same_words text name ws words its has_words)
      (one_from files option number context m m f sought.from may may from (sought.looked m may)) (looked_for up)
      sought.found) (known_up up)))
  behind_unknown full _ sought not at
      (names-item its braces says from found unknown owner stands named first) = refl

-- ---- in a message set, or not

module _ (files : List File) (known : List OptionFacts) (file : ℕ) (option : FileOption) (number : ℕ)
    (context : Context) (full : List ℕ) (field : DeclaredPlace) where
  pub without_set : ((set : DeclaredPlace) → IsSetIn files known option number context set → ⊥)
      → IsNamedBy files known file option number context full field
      → IsExtensionNamed files known file option context full field
  without_set none (by-extension x) = x
  without_set none (by-item {set = set} s unknown x) = absurd (none set s)

  pub with_field : KnowsAs files file is_field full → IsNamedBy files known file option number context full field
      → IsExtensionNamed files known file option context full field
  with_field is (by-extension x) = x
  with_field is (by-item s unknown x) = absurd (unknown is)

  pub with_item : (set : DeclaredPlace) → IsSetIn files known option number context set
      → (KnowsAs files file is_field full → ⊥) → IsNamedBy files known file option number context full field
      → IsItemNamed files known file set full field
  with_item set is unknown (by-extension x) =
      absurd (unknown (owned_known files file is_field refl full field x.owned))
  with_item set is unknown (by-item {set = other} s also x) =
      subst (λ (m : DeclaredPlace). IsItemNamed files known file m full field)
      (same_message other set (sym s.is ∙ is.is)) x

-- ---- by the field with its full name

module _ (files : List File) (known : List OptionFacts) (file : ℕ) (option : FileOption) (context : Context)
    (full : List ℕ) (field : DeclaredPlace) (owned : IsOwned files file is_field full field) where
  pub extends_by : (message : DeclaredPlace) → MayBeExtended files option context message
      → IsFieldOf files known message field → IsExtensionNamed files known file option context full field
  extends_by message may is = record { owned = owned; message = message; may = may; is = is }

  pub extends_not : ((message : DeclaredPlace) → MayBeExtended files option context message
      → IsFieldOf files known message field → ⊥) → (other : DeclaredPlace)
      → IsExtensionNamed files known file option context full other → ⊥
  extends_not none other x =
      let file_same : other.file ≡ field.file =
      owned.owner.alone other.file x.owned.owner.gives in
      let same = one_only files field.file full other field
      (subst (λ (n : ℕ). IsOnly files n full other) file_same x.owned.only) owned.only in
      none x.message x.may (subst (IsFieldOf files known x.message) same x.is)
