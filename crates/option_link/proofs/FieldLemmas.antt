-- What is known of the field at a place, and what it gives.
use Rattle.std.proofs.Common.{◌≡◌, inl, inr, ℕ, List, Option, Some, None, MatchOption, ap, sym, ◌∙◌, subst}
use Rattle.std.specs.List.{Contains, slice_get}
use Rattle.std.proofs.lemmas.Option.{same_Some}
use Rattle.proto_lex.specs.declared.span.Span.{Span}
use Rattle.proto_decl.specs.declared.declaration.Declaration.{Declaration}
use Rattle.proto_decl.specs.declared.declaration.DeclarationKind.{DeclarationKind}
use Rattle.proto_decl.specs.declared.declaration.DeclarationKind.TheVariants.{Message, Enum, Field}
use Rattle.proto_options.specs.declared.fields.FieldFact.{FieldFact}
use Rattle.proto_options.specs.declared.fields.FieldKind.{FieldKind}
use Rattle.proto_options.specs.declared.fields.FieldKind.TheVariants as kinds
use Rattle.proto_visibility.specs.Files.{File}
use Rattle.option_link.specs.declared.contexts.Context.{Context}
use Rattle.option_link.specs.declared.contexts.Context.TheVariants as inside
use Rattle.option_link.specs.declared.facts.OptionFacts.{OptionFacts}
use Rattle.option_link.specs.declared.place.DeclaredPlace.{DeclaredPlace}
use Rattle.option_link.specs.Places.{Stands, StandsAs}
use Rattle.option_link.specs.Fields.{AreInOrder, IsField, TypeAt, TypeGives, KindGives, FieldGives, MapGives}
use Rattle.option_link.specs.Fields.{ValueGives}
use Rattle.option_link.specs.Fields.{behind}
use Rattle.option_link.specs.Fields.TypeGives.{message as type_message, enum as type_enum}
use Rattle.option_link.specs.Tables.{IsClear, IsOnly}
use Rattle.option_link.proofs.OnlyLemmas.{one_only, only_stands, stands_only}
use Rattle.option_link.specs.Fields.KindGives.{scalar as kind_scalar, named as kind_named, group as kind_group}
use Rattle.option_link.specs.Fields.KindGives.{entries as kind_entries}
use Rattle.option_link.specs.Fields.MapGives.{scalar as map_scalar, named as map_named}
use Rattle.option_link.specs.Typed.{IsFactNamed, GivesAt}
use Rattle.option_link.specs.Typed.GivesAt.{message as at_message, enum as at_enum}
use Rattle.option_link.proofs.PlaceLemmas.{one_fact, same_declaration}
use Rattle.option_link.proofs.TypeAtLemmas.{type_kind}

module _ (files : List File) (known : List OptionFacts) (place : DeclaredPlace) (d : Declaration)
    (stands : Stands files place d) where
  pub kind_at : (kind : DeclarationKind) (other : Declaration) → Stands files place other → other.kind ≡ kind
      → d.kind ≡ kind
  kind_at kind other there is = ap (λ (x : Declaration). x.kind) (same_declaration files place d other stands there)
      ∙ is

  pub field_from : (name : Span) → name ≡ d.name → d.kind ≡ Field → (fact : FieldFact)
      → IsFactNamed known place.file name fact → IsField files known place fact
  field_from name is kind fact named = record {
    declaration = d;
    stands = stands;
    is = kind;
    beside = named.beside;
    of_file = named.of_file;
    listed = named.listed;
    same = named.same ∙ is;
  }

  pub field_to : (name : Span) → name ≡ d.name → (fact : FieldFact) → IsField files known place fact
      → IsFactNamed known place.file name fact
  field_to name is fact field = record {
    beside = field.beside;
    of_file = field.of_file;
    listed = field.listed;
    same = field.same ∙ (ap (λ (x : Declaration). x.name)
        (same_declaration files place field.declaration d field.stands stands) ∙ sym is);
  }

pub named_to : (known : List OptionFacts) (file : ℕ) (name : Span) (beside : OptionFacts) (fields : List FieldFact)
    → slice_get known file ≡ Some beside → fields ≡ beside.fields → (fact : FieldFact)
    → IsFactNamed known file name fact → Contains fields fact
named_to known file name beside fields at are fact named =
    let same = same_Some named.beside beside (sym named.of_file ∙ at) in
    subst (λ (fs : List FieldFact). Contains fs fact) (sym are)
    (subst (λ (b : OptionFacts). Contains b.fields fact) same named.listed)

pub none_beside : (known : List OptionFacts) (file : ℕ) (name : Span) → slice_get known file ≡ None
    → (fact : FieldFact) → IsFactNamed known file name fact → ⊥
none_beside known file name none fact named = by (sym none ∙ named.of_file)
  where
    by : None ≡ Some named.beside → ⊥
    by e = cc

-- ---- what is given by a type

module _ (files : List File) where
  of_kind : (file start : ℕ) (kind other : DeclarationKind) (type : DeclaredPlace) (d : Declaration)
      → TypeAt files file start kind type → Stands files type d → d.kind ≡ other → TypeAt files file start other type
  of_kind file start kind other type d x stands is =
      subst (λ (k : DeclarationKind). TypeAt files file start k type) (sym x.stands.is
      ∙ (ap (λ (e : Declaration). e.kind) (same_declaration files type x.declaration d x.stands.stands stands) ∙ is)) x

  -- a message or an enum gives itself
  pub type_gives_from : (file start : ℕ) (kind : DeclarationKind) (type : DeclaredPlace)
      → TypeAt files file start kind type → (context : Context) → GivesAt files type context
      → TypeGives files file start context
  type_gives_from file start kind type x _ (at_message {declaration = d} stands is) =
      type_message (of_kind file start kind Message type d x stands is)
  type_gives_from file start kind type x _ (at_enum {declaration = d} stands is) =
      type_enum (of_kind file start kind Enum type d x stands is)

  -- a type gives something
  pub type_gives_some : (file start : ℕ) (kind : DeclarationKind) (type : DeclaredPlace)
      → TypeAt files file start kind type → ((context : Context) → GivesAt files type context → ⊥) → ⊥
  type_gives_some file start kind type x none = elim (type_kind files file start kind type x) [
    | inl message ↦ none (inside.Message type) (at_message x.stands.stands (x.stands.is ∙ message))
    | inr enum ↦ none (inside.Enum type) (at_enum x.stands.stands (x.stands.is ∙ enum))
  ]

  pub type_gives_none : (file start : ℕ) → ((kind : DeclarationKind) (type : DeclaredPlace)
      → TypeAt files file start kind type → ⊥) → (context : Context) → TypeGives files file start context → ⊥
  type_gives_none file start none _ (type_message {type = t} x) = none Message t x
  type_gives_none file start none _ (type_enum {type = t} x) = none Enum t x

  -- what is given is clear

  type_clear : (file start : ℕ) (context : Context) → TypeGives files file start context → IsClear files context
  type_clear file start _ (type_message x) = (x.declaration, x.stands)
  type_clear file start _ (type_enum x) = (x.declaration, x.stands)

  kind_clear : (field : DeclaredPlace) (kind : FieldKind) (context : Context) → KindGives files field kind context
      → IsClear files context
  kind_clear field _ _ kind_scalar = tt
  kind_clear field _ _ (kind_named {start = start} {context = c} x) = type_clear field.file start c x
  kind_clear field _ _ (kind_group {declaration = d} x) = (d, x)
  kind_clear field _ _ kind_entries = tt

  map_clear : (field : DeclaredPlace) (kind : FieldKind) (context : Context) → MapGives files field kind context
      → IsClear files context
  map_clear field _ _ map_scalar = tt
  map_clear field _ _ (map_named {start = start} {context = c} x) = type_clear field.file start c x

  module _ (known : List OptionFacts) where
    pub field_clear : (field : DeclaredPlace) (context : Context) → FieldGives files known field context
        → IsClear files context
    field_clear field context x = kind_clear field x.fact.kind context x.gives

    pub value_clear : (field : DeclaredPlace) (context : Context) → ValueGives files known field context
        → IsClear files context
    value_clear field context x = map_clear field x.fact.kind context x.gives

    -- ---- by the field

    module _ (order : AreInOrder known) (field : DeclaredPlace) (fact : FieldFact) (is : IsField files known field fact)
      where
        pub field_gives_to : (context : Context) → FieldGives files known field context
            → KindGives files field fact.kind context
        field_gives_to context x =
            subst (λ (f : FieldFact). KindGives files field f.kind context)
            (one_fact files known order field x.fact fact x.is is) x.gives

        pub value_gives_to : (context : Context) → ValueGives files known field context
            → MapGives files field fact.kind context
        value_gives_to context x =
            subst (λ (f : FieldFact). MapGives files field f.kind context)
            (one_fact files known order field x.fact fact x.is is) x.gives

-- ---- by the kind of the field

module _ (files : List File) (field : DeclaredPlace) where
  pub named_gives_to : (start : ℕ) (context : Context) → KindGives files field (kinds.Named start) context
      → TypeGives files field.file start context
  named_gives_to start context (kind_named x) = x

  pub group_gives_none : ((d : Declaration) → StandsAs files Message (behind field) d → ⊥) → (context : Context)
      → KindGives files field kinds.Group context → ⊥
  group_gives_none none _ (kind_group {declaration = d} x) = none d x

  pub mapped_gives_to : (start : ℕ) (context : Context) → MapGives files field (kinds.Map (Some start)) context
      → TypeGives files field.file start context
  mapped_gives_to start context (map_named x) = x

  -- only a map has values

  pub scalar_maps_none : (context : Context) → MapGives files field kinds.Scalar context → ⊥
  scalar_maps_none context x = elim x [ ]

  pub named_maps_none : (start : ℕ) (context : Context) → MapGives files field (kinds.Named start) context → ⊥
  named_maps_none start context x = elim x [ ]

  pub group_maps_none : (context : Context) → MapGives files field kinds.Group context → ⊥
  group_maps_none context x = elim x [ ]

-- ---- by what stands there

pub gives_nothing : (files : List File) (place : DeclaredPlace) (d : Declaration) → Stands files place d
    → (d.kind ≡ Message → ⊥) → (d.kind ≡ Enum → ⊥) → (context : Context) → GivesAt files place context → ⊥
gives_nothing files place d stands not nor _ (at_message {declaration = e} there is) =
    not (ap (λ (x : Declaration). x.kind) (same_declaration files place d e stands there) ∙ is)
gives_nothing files place d stands not nor _ (at_enum {declaration = e} there is) =
    nor (ap (λ (x : Declaration). x.kind) (same_declaration files place d e stands there) ∙ is)

pub gives_nowhere : (files : List File) (place : DeclaredPlace) → ((d : Declaration) → Stands files place d → ⊥)
    → (context : Context) → GivesAt files place context → ⊥
gives_nowhere files place none _ (at_message {declaration = e} there is) = none e there
gives_nowhere files place none _ (at_enum {declaration = e} there is) = none e there

-- ---- alone by its name

module _ (files : List File) (place : DeclaredPlace) (d : Declaration) (stands : Stands files place d)
    (kind : DeclarationKind) where
  pub alone_by : d.kind ≡ kind → IsOnly files place.file d.full_name place
      → (e : Declaration) × StandsAs files kind place e
  alone_by is only = (
    only.has.declaration,
    only_stands files kind d.full_name place only (ap (λ (x : Declaration). x.kind)
        (same_declaration files place only.has.declaration d only.has.stands stands) ∙ is),
  )

  pub not_alone_by : (found : Option DeclaredPlace)
      → MatchOption found ((p : DeclaredPlace) → IsOnly files place.file d.full_name p → ⊥)
      (IsOnly files place.file d.full_name) → (found ≡ Some place → ⊥) → (e : Declaration)
      → StandsAs files kind place e → ⊥
  not_alone_by None none other e alone = none place (stands_only files kind d.full_name place e alone
      (ap (λ (x : Declaration). x.full_name) (same_declaration files place e d alone.stands stands)))
  not_alone_by (Some one) only other e alone = other (ap Some (one_only files place.file d.full_name one place only
      (stands_only files kind d.full_name place e alone
      (ap (λ (x : Declaration). x.full_name) (same_declaration files place e d alone.stands stands)))))
