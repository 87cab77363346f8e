-- What a name names by its role, from what is found.
use Rattle.std.proofs.Common.{◌≡◌, ℕ, ◌≤◌, true, leb, List, [], ◌∷◌, ◌++◌, ap}
use Rattle.std.proofs.Common.{◌∙◌, subst, arith}
use Rattle.std.proofs.lemmas.Bool.{leb-true}
use Rattle.std.proofs.lemmas.Bool.Decides.{nat_tests}
use Rattle.proto_decl.specs.Names.{dotted, qualified, IsAround}
use Rattle.proto_decl.specs.declared.declaration.Declaration.{Declaration}
use Rattle.proto_decl.specs.declared.declaration.DeclarationKind.TheVariants.{Message, Enum}
use Rattle.proto_decl.specs.declared.declaration.DeclarationKind.TheVariants.{Value}
use Rattle.proto_options.specs.declared.names.OptionName.{OptionName}
use Rattle.proto_options.specs.declared.names.OptionRole.{OptionRole}
use Rattle.proto_options.specs.declared.names.OptionRole.TheVariants as role
use Rattle.proto_options.specs.declared.options.FileOption.{FileOption}
use Rattle.proto_visibility.specs.Files.{File}
use Rattle.option_link.specs.declared.contexts.Context.{Context}
use Rattle.option_link.specs.declared.contexts.Context.TheVariants as inside
use Rattle.option_link.specs.declared.facts.OptionFacts.{OptionFacts}
use Rattle.option_link.specs.declared.place.DeclaredPlace.{DeclaredPlace}
use Rattle.option_link.specs.Places.{StandsAs}
use Rattle.option_link.specs.Contexts.{HasWords, NamesAs}
use Rattle.option_link.specs.Contexts.NamesAs.{field as names-field, group as names-group, extension as names-extension}
use Rattle.option_link.specs.Contexts.NamesAs.{item as names-item, packed as names-packed, value as names-value}
use Rattle.option_link.specs.Tables.{IsOnly}
use Rattle.option_link.specs.Found.{IsFieldIn, IsMemberOf, IsPackedIn, IsValueOf, in_braces}
use Rattle.option_link.specs.Found.IsMemberOf.{plain as member-plain, group as member-group}
use Rattle.option_link.proofs.NameLemmas.{one_word, same_words}
use Rattle.option_link.proofs.ExtensionLemmas.{owned_message}
use Rattle.option_link.proofs.OnlyLemmas.{stands_in, stands_only}
use Rattle.option_link.proofs.PlaceLemmas.{same_declaration}

pub braces_by : (option : FileOption) (number : ℕ) → option.setting.parts ≤ number → in_braces option number ≡ true
braces_by option number least = leb_by option.setting.parts number least
  where
    leb_by : (a b : ℕ) → a ≤ b → leb a b ≡ true
    leb_by a b h = grind (arith, nat_tests)

module _ (files : List File) (known : List OptionFacts) (file : ℕ) (text : List ℕ) (option : FileOption) (number : ℕ)
    (name : OptionName) where
  abbrev Names : OptionRole → Context → DeclaredPlace → Type 0
  Names acting context at = NamesAs files known file text option number name acting context at

  -- what names something has words
  pub none_wordless : (acting : OptionRole) (context : Context)
      → ((words : List (List ℕ)) → HasWords text name words → ⊥) → (at : DeclaredPlace) → Names acting context at → ⊥
  none_wordless _ context none at (names-field {word = w} has fields own not) = none (w ∷ []) has
  none_wordless _ context none at (names-group {word = w} has fields least own) = none (w ∷ []) has
  none_wordless _ context none at (names-extension {words = w} has may from up owns stands is of_it) = none w has
  none_wordless _ _ none at (names-item {words = w} has braces says from up unknown owns stands is first) = none w has
  none_wordless _ _ none at (names-packed {words = w} has any called owns stands is) = none w has
  none_wordless _ _ none at (names-value {word = w} has of_enum around stands in_file is path) = none (w ∷ []) has

  -- ---- plain names

  module _ (context : Context) where
    pub plain_one : (words : List (List ℕ)) → HasWords text name words
        → ((word : List ℕ) → words ≡ word ∷ [] → ⊥) → (at : DeclaredPlace) → Names role.Field context at → ⊥
    plain_one words has none at (names-field {word = w} its fields own not) =
        none w (same_words text name words (w ∷ []) has its)
    plain_one words has none at (names-group {word = w} its fields least own) =
        none w (same_words text name words (w ∷ []) has its)

    module _ (word : List ℕ) (has : HasWords text name (word ∷ [])) where
      pub plain_from : (field : DeclaredPlace) → IsFieldIn files known file option number word context field
          → Names role.Field context field
      plain_from field x = by x.is
        where
          by : IsMemberOf files known x.message word (in_braces option number) field → Names role.Field context field
          by (member-plain own not) = names-field has x.has own (λ least. not (braces_by option number least))
          by (member-group braces own) =
              names-group has x.has (leb-true option.setting.parts number braces) own

      pub plain_to : (field : DeclaredPlace) → Names role.Field context field
          → IsFieldIn files known file option number word context field
      plain_to field (names-field {message = m} {word = w} {fact = f} its fields own not) =
          let same = one_word text name w word its has in
          subst (λ (v : List ℕ). IsFieldIn files known file option number v context field) same (record {
            message = m;
            has = fields;
            is = member-plain own (λ braces. not (leb-true option.setting.parts number braces));
          })
      plain_to field (names-group {message = m} {word = w} its fields least own) =
          let same = one_word text name w word its has in
          subst (λ (v : List ℕ). IsFieldIn files known file option number v context field) same (record {
            message = m;
            has = fields;
            is = member-group (braces_by option number least) own;
          })

  -- ---- messages that are packed

  module _ (words : List (List ℕ)) (has : HasWords text name words) where
    pub packed_from : (any : DeclaredPlace) → (d : Declaration) × StandsAs files Message any d
        → (message : DeclaredPlace) → IsPackedIn files file any words message
        → Names role.Message (inside.Message any) message
    packed_from any clear message x =
        let its = owned_message files file (dotted words) message x.owned in
        let called = ap (λ (d : Declaration). d.full_name)
        (same_declaration files any clear.0 x.outer clear.1.stands x.stands) ∙ x.called in
        names-packed has clear.1 called x.owned.owner its.1 its.2

    pub packed_to : (any message : DeclaredPlace) → Names role.Message (inside.Message any) message
        → IsPackedIn files file any words message
    packed_to any message (names-packed {words = w} {outer = d} {inner = e} its stands called owns there is) =
        let same = same_words text name w words its has in
        subst (λ (v : List (List ℕ)). IsPackedIn files file any v message) same (record {
          outer = d;
          stands = stands.stands;
          called = called;
          owned = record { owner = owns; only = stands_only files Message (dotted w) message e there is };
        })

  -- ---- values of enums

  module _ (words : List (List ℕ)) (has : HasWords text name words) where
    pub value_from : (type : DeclaredPlace) → (d : Declaration) × StandsAs files Enum type d → (value : DeclaredPlace)
        → (word : List ℕ) × (words ≡ word ∷ []) × IsValueOf files type word value
        → Names role.Value (inside.Enum type) value
    value_from type clear value x =
        let v = x.2 in
        let n = v.named in
        let outer = same_declaration files type v.outer clear.0 v.of_enum clear.1.stands in
        let inner = same_declaration files value n.only.has.declaration n.is.inner n.only.has.stands n.is.stands in
        names-value (subst (HasWords text name) x.1 has) clear.1
        (subst (λ (d : Declaration). IsAround d.full_name v.scope) outer v.around)
        (stands_in files Value type.file (qualified v.scope x.0) value n.only
        (ap (λ (d : Declaration). d.kind) inner ∙ n.is.is)) n.only.in_file n.only.has.named (
          n.is.step,
          ap (λ (d : Declaration). d.path) inner ∙ (n.is.path ∙ ap (λ (d : Declaration). d.path ++ n.is.step ∷ [])
              outer),
        )

    pub value_to : (type value : DeclaredPlace) → Names role.Value (inside.Enum type) value
        → (word : List ℕ) × (words ≡ word ∷ []) × IsValueOf files type word value
    value_to type value (names-value {outer = d} {inner = e} {scope = s} {word = w} its stands around
        there in_file is path) = (
          w,
          same_words text name words (w ∷ []) has its,
          record {
            outer = d;
            of_enum = stands.stands;
            scope = s;
            around = around;
            named = record {
              only = subst (λ (f : ℕ). IsOnly files f (qualified s w) value) in_file
                  (stands_only files Value (qualified s w) value e there is);
              is = record { inner = e; stands = there.stands; is = there.is; step = path.0; path = path.1 };
            };
          },
        )

  -- ---- other things that names are looked up in

  pub packs_none_options : (at : DeclaredPlace) → Names role.Message inside.Options at → ⊥
  packs_none_options at x = elim x [ ]

  pub packs_none_entries : (holder at : DeclaredPlace) → Names role.Message (inside.Entries holder) at → ⊥
  packs_none_entries holder at x = elim x [ ]

  pub packs_none_enum : (type at : DeclaredPlace) → Names role.Message (inside.Enum type) at → ⊥
  packs_none_enum type at x = elim x [ ]

  pub packs_none_scalar : (at : DeclaredPlace) → Names role.Message inside.Scalar at → ⊥
  packs_none_scalar at x = elim x [ ]

  pub packs_none_untold : (at : DeclaredPlace) → Names role.Message inside.Untold at → ⊥
  packs_none_untold at x = elim x [ ]

  pub elsewhere_none : (context : Context) (at : DeclaredPlace) → Names role.Elsewhere context at → ⊥
  elsewhere_none context at x = elim x [ ]

  pub packs_none_skipped : (at : DeclaredPlace) → Names role.Message inside.Skipped at → ⊥
  packs_none_skipped at x = elim x [ ]

  pub values_none_options : (at : DeclaredPlace) → Names role.Value inside.Options at → ⊥
  values_none_options at x = elim x [ ]

  pub values_none_message : (message at : DeclaredPlace) → Names role.Value (inside.Message message) at → ⊥
  values_none_message message at x = elim x [ ]

  pub values_none_entries : (holder at : DeclaredPlace) → Names role.Value (inside.Entries holder) at → ⊥
  values_none_entries holder at x = elim x [ ]

  pub values_none_scalar : (at : DeclaredPlace) → Names role.Value inside.Scalar at → ⊥
  values_none_scalar at x = elim x [ ]

  pub values_none_untold : (at : DeclaredPlace) → Names role.Value inside.Untold at → ⊥
  values_none_untold at x = elim x [ ]

  pub values_none_skipped : (at : DeclaredPlace) → Names role.Value inside.Skipped at → ⊥
  values_none_skipped at x = elim x [ ]
