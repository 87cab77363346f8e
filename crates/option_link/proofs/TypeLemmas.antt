-- What fields give, by their types, is one thing.
use Rattle.std.proofs.Common.{◌≡◌, ℕ, List, refl, ap, sym, ◌∙◌, subst}
use Rattle.std.specs.List.{Contains}
use Rattle.proto_decl.specs.Facts.{Facts, AreOfSomeFile, UsesAreFilled, UsesInOrder}
use Rattle.proto_decl.specs.declared.declaration.DeclarationKind.{DeclarationKind}
use Rattle.proto_decl.specs.declared.declaration.DeclarationKind.TheVariants.{Message, Enum}
use Rattle.proto_decl.specs.declared.uses.Use.{Use}
use Rattle.proto_options.specs.declared.fields.FieldFact.{FieldFact}
use Rattle.proto_options.specs.declared.fields.FieldKind.{FieldKind}
use Rattle.proto_visibility.specs.Files.{File, HaveOrigins}
use Rattle.proto_visibility.specs.Knows.{SeesGiving}
use Rattle.proto_visibility.proofs.FileFactLemmas.{one_list_of_facts}
use Rattle.proto_link.specs.Resolves.{wanted}
use Rattle.proto_link.specs.Targets.{Names}
use Rattle.proto_link.proofs.LawLemmas.{one_name_a_use}
use Rattle.option_link.specs.declared.contexts.Context.{Context}
use Rattle.option_link.specs.declared.contexts.Context.TheVariants as inside
use Rattle.option_link.specs.declared.facts.OptionFacts.{OptionFacts}
use Rattle.option_link.specs.declared.place.DeclaredPlace.{DeclaredPlace}
use Rattle.option_link.specs.Fields.{AreInOrder, TypeAt, TypeGives, KindGives, FieldGives, MapGives, ValueGives}
use Rattle.option_link.specs.Fields.TypeGives.{message as type_message, enum as type_enum}
use Rattle.option_link.specs.Fields.KindGives.{scalar as kind_scalar, named as kind_named, group as kind_group}
use Rattle.option_link.specs.Fields.KindGives.{entries as kind_entries}
use Rattle.option_link.specs.Fields.MapGives.{scalar as map_scalar, named as map_named}
use Rattle.option_link.proofs.PlaceLemmas.{one_fact, one_place, same_kind}
use Rattle.option_link.proofs.UseLemmas.{one_use}

never_both : Message ≡ Enum → ⊥
never_both e = cc

module _ (files : List File) (origins : HaveOrigins files) (known : List OptionFacts) (order : AreInOrder known)
    (uses : (facts : Facts) → AreOfSomeFile facts → UsesInOrder facts.uses)
    (filled : (facts : Facts) → AreOfSomeFile facts → UsesAreFilled facts.uses) where
  pub one_type : (file start : ℕ) (kind other : DeclarationKind) (a b : DeclaredPlace)
      → TypeAt files file start kind a → TypeAt files file start other b → a ≡ b
  one_type file start kind other a b x y =
      let facts = one_list_of_facts files file x.facts y.facts x.known y.known in
      let listed = subst (λ (f : Facts). Contains f.uses x.type_use) facts x.listed in
      let origin = origins file y.facts y.known in
      let used : x.type_use ≡ y.type_use =
      one_use y.facts.uses (uses y.facts origin) (filled y.facts origin) x.type_use y.type_use listed y.listed
      (x.starts ∙ sym y.starts) in
      let names : Names files file y.type_use x.name a.file =
      subst (λ (u : Use). Names files file u x.name a.file) used x.names in
      let name : x.name ≡ y.name =
      one_name_a_use files file y.type_use x.name y.name names.resolves y.names.resolves in
      let owner : a.file ≡ b.file = y.names.owned.alone a.file
      (subst (λ (n : List ℕ). SeesGiving files file (wanted y.type_use.is_extended) n a.file) name names.owned.gives) in
      one_place files kind other a b x.declaration y.declaration x.stands y.stands owner
      (x.named ∙ (name ∙ sym y.named))

  one_kind : (file start : ℕ) (kind other : DeclarationKind) (a b : DeclaredPlace) → TypeAt files file start kind a
      → TypeAt files file start other b → kind ≡ other
  one_kind file start kind other a b x y =
      same_kind files kind other a b x.declaration y.declaration x.stands y.stands
      (one_type file start kind other a b x y)

  pub one_type_gives : (file start : ℕ) (a b : Context) → TypeGives files file start a → TypeGives files file start b
      → a ≡ b
  one_type_gives file start _ _ (type_message {type = s} x) (type_message {type = t} y) =
      ap inside.Message (one_type file start Message Message s t x y)
  one_type_gives file start _ _ (type_message {type = s} x) (type_enum {type = t} y) =
      absurd (never_both (one_kind file start Message Enum s t x y))
  one_type_gives file start _ _ (type_enum {type = s} x) (type_message {type = t} y) =
      absurd (never_both (one_kind file start Message Enum t s y x))
  one_type_gives file start _ _ (type_enum {type = s} x) (type_enum {type = t} y) =
      ap inside.Enum (one_type file start Enum Enum s t x y)

  one_kind_gives : (field : DeclaredPlace) (kind : FieldKind) (a b : Context) → KindGives files field kind a
      → KindGives files field kind b → a ≡ b
  one_kind_gives field _ _ _ kind_scalar kind_scalar = refl
  one_kind_gives field _ _ _ (kind_named {start = start} {context = a} x) (kind_named {context = b} y) =
      one_type_gives field.file start a b x y
  one_kind_gives field _ _ _ (kind_group x) (kind_group y) = refl
  one_kind_gives field _ _ _ kind_entries kind_entries = refl

  one_map_gives : (field : DeclaredPlace) (kind : FieldKind) (a b : Context) → MapGives files field kind a
      → MapGives files field kind b → a ≡ b
  one_map_gives field _ _ _ map_scalar map_scalar = refl
  one_map_gives field _ _ _ (map_named {start = start} {context = a} x) (map_named {context = b} y) =
      one_type_gives field.file start a b x y

  -- what a field gives, and the values of a map

  pub one_field_gives : (field : DeclaredPlace) (a b : Context) → FieldGives files known field a
      → FieldGives files known field b → a ≡ b
  one_field_gives field a b x y =
      let fact = one_fact files known order field x.fact y.fact x.is y.is in
      one_kind_gives field y.fact.kind a b
      (subst (λ (f : FieldFact). KindGives files field f.kind a) fact x.gives) y.gives

  pub one_value_gives : (field : DeclaredPlace) (a b : Context) → ValueGives files known field a
      → ValueGives files known field b → a ≡ b
  one_value_gives field a b x y =
      let fact = one_fact files known order field x.fact y.fact x.is y.is in
      one_map_gives field y.fact.kind a b
      (subst (λ (f : FieldFact). MapGives files field f.kind a) fact x.gives) y.gives
