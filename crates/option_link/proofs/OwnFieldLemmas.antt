-- Fields of messages by their simple names, from what is found step by step.
use Rattle.std.proofs.Common.{◌≡◌, ℕ, ◌+◌, ◌-◌, Bool, true, false, List, None}
use Rattle.std.proofs.Common.{refl, ap, sym, ◌∙◌, subst, arith}
use Rattle.std.proofs.lemmas.Bool.{false≢true}
use Rattle.proto_decl.specs.Names.{qualified}
use Rattle.proto_decl.specs.declared.declaration.Declaration.{Declaration}
use Rattle.proto_decl.specs.declared.declaration.DeclarationKind.{DeclarationKind}
use Rattle.proto_decl.specs.declared.declaration.DeclarationKind.TheVariants.{Message, Field}
use Rattle.proto_options.specs.declared.fields.FieldFact.{FieldFact}
use Rattle.proto_options.specs.declared.fields.FieldKind.TheVariants as kinds
use Rattle.proto_options.specs.declared.options.FileOption.{FileOption}
use Rattle.proto_visibility.specs.Files.{File}
use Rattle.option_link.specs.declared.contexts.Context.TheVariants as inside
use Rattle.option_link.specs.declared.facts.OptionFacts.{OptionFacts}
use Rattle.option_link.specs.declared.place.DeclaredPlace.{DeclaredPlace}
use Rattle.option_link.specs.Places.{StandsAs, place_at}
use Rattle.option_link.specs.Fields.{AreInOrder, IsField, IsMember, behind}
use Rattle.option_link.specs.Contexts.{HasFieldsOf, IsOptionsMessage, options_message}
use Rattle.option_link.specs.Contexts.HasFieldsOf.{options as fields-options, message as fields-message}
use Rattle.option_link.specs.Tables.{IsOnly}
use Rattle.option_link.specs.Typed.{IsMessageAt}
use Rattle.option_link.specs.Found.{IsFieldIn, IsMemberHere, IsMemberNamed, IsMemberOf, in_braces}
use Rattle.option_link.specs.Found.IsMemberHere.{plain as here-plain, group as here-group}
use Rattle.option_link.specs.Found.IsMemberOf.{plain as of-plain, group as of-group}
use Rattle.option_link.proofs.NameLemmas.{one_options_message}
use Rattle.option_link.proofs.OnlyLemmas.{one_only, stands_in, stands_only}
use Rattle.option_link.proofs.PlaceLemmas.{one_DeclaredPlace, one_fact, same_declaration}

message_or_field : Message ≡ Field → ⊥
message_or_field e = cc

-- ---- at a place

module _ (files : List File) (known : List OptionFacts) (order : AreInOrder known) (place : DeclaredPlace)
    (braces : Bool) where
  never_message : IsMessageAt files place → (fact : FieldFact) → IsField files known place fact → ⊥
  never_message at fact is = message_or_field (sym at.is ∙ (ap (λ (d : Declaration). d.kind)
      (same_declaration files place at.declaration is.declaration at.stands is.stands) ∙ is.is))

  -- where no message stands

  module _ (not : IsMessageAt files place → ⊥) where
    pub no_field_here : ((fact : FieldFact) → IsField files known place fact → ⊥) → (field : DeclaredPlace)
        → IsMemberHere files known place braces field → ⊥
    no_field_here none field x = by field x
      where
        by : (f : DeclaredPlace) → IsMemberHere files known place braces f → ⊥
        by _ (here-plain {fact = fact} is own plain) = none fact is
        by f (here-group in_them behind_it at is own group) = not at

    pub not_plain_here : (fact : FieldFact) → IsField files known place fact
        → (((fact.extended ≡ None) × (braces ≡ true → fact.kind ≡ kinds.Group → ⊥)) → ⊥) → (field : DeclaredPlace)
        → IsMemberHere files known place braces field → ⊥
    not_plain_here fact is other field x = by field x
      where
        by : (f : DeclaredPlace) → IsMemberHere files known place braces f → ⊥
        by _ (here-plain {fact = its} there own plain) =
            let same = one_fact files known order place its fact there is in
            other (subst (λ (f : FieldFact). (f.extended ≡ None) × (braces ≡ true → f.kind ≡ kinds.Group → ⊥)) same
            (own, plain))
        by f (here-group in_them behind_it at there own group) = not at

  -- where one stands

  module _ (at : IsMessageAt files place) where
    pub not_in_braces : braces ≡ false → (field : DeclaredPlace) → IsMemberHere files known place braces field → ⊥
    not_in_braces outside field x = by field x
      where
        by : (f : DeclaredPlace) → IsMemberHere files known place braces f → ⊥
        by _ (here-plain {fact = fact} is own plain) = never_message at fact is
        by f (here-group in_them behind_it its is own group) = false≢true (sym outside ∙ in_them)

    pub none_before : place.index ≡ 0 → (field : DeclaredPlace) → IsMemberHere files known place braces field → ⊥
    none_before first field x = by field x
      where
        by : (f : DeclaredPlace) → IsMemberHere files known place braces f → ⊥
        by _ (here-plain {fact = fact} is own plain) = never_message at fact is
        by f (here-group in_them behind_it its is own group) =
            omega (arith, first, ap (λ (p : DeclaredPlace). p.index) behind_it)

    module _ (before : DeclaredPlace) (is_before : behind before ≡ place) where
      same_before : (field : DeclaredPlace) → behind field ≡ place → field ≡ before
      same_before field is =
          let same = is ∙ sym is_before in
          one_DeclaredPlace field before (ap (λ (p : DeclaredPlace). p.file) same)
          (omega (arith, ap (λ (p : DeclaredPlace). p.index) same))

      pub no_group_before : ((fact : FieldFact) → IsField files known before fact → ⊥) → (field : DeclaredPlace)
          → IsMemberHere files known place braces field → ⊥
      no_group_before none field x = by field x
        where
          by : (f : DeclaredPlace) → IsMemberHere files known place braces f → ⊥
          by _ (here-plain {fact = fact} is own plain) = never_message at fact is
          by f (here-group {fact = fact} in_them behind_it its is own group) =
              none fact (subst (λ (p : DeclaredPlace). IsField files known p fact) (same_before f behind_it) is)

      pub not_group_before : (fact : FieldFact) → IsField files known before fact
          → (((fact.extended ≡ None) × (fact.kind ≡ kinds.Group)) → ⊥) → (field : DeclaredPlace)
          → IsMemberHere files known place braces field → ⊥
      not_group_before fact is other field x = by field x
        where
          by : (f : DeclaredPlace) → IsMemberHere files known place braces f → ⊥
          by _ (here-plain {fact = its} there own plain) = never_message at its there
          by f (here-group {fact = its} in_them behind_it here there own group) =
              let moved = subst (λ (p : DeclaredPlace). IsField files known p its) (same_before f behind_it) there in
              let same = one_fact files known order before its fact moved is in
              other (subst (λ (u : FieldFact). (u.extended ≡ None) × (u.kind ≡ kinds.Group)) same (own, group))

-- the place before one
pub place_before : (place : DeclaredPlace) → (place.index ≡ 0 → ⊥)
    → behind (place_at place.file (place.index - 1)) ≡ place
place_before place some = one_DeclaredPlace (behind (place_at place.file (place.index - 1))) place refl
    (one_less place.index some)
  where
    one_less : (n : ℕ) → (n ≡ 0 → ⊥) → n - 1 + 1 ≡ n
    one_less n some = omega (arith, some)

-- ---- by the full name

module _ (files : List File) (known : List OptionFacts) (message : DeclaredPlace) (outer : Declaration)
    (stands : StandsAs files Message message outer) (word : List ℕ) (braces : Bool) (name : List ℕ)
    (is_name : name ≡ qualified outer.full_name word) where
  pub member_from : (field : DeclaredPlace) → IsMemberNamed files known message.file name braces field
      → IsMemberOf files known message word braces field
  member_from field x = by field x.place x.only x.here
    where
      by : (f place : DeclaredPlace) → IsOnly files message.file name place
          → IsMemberHere files known place braces f → IsMemberOf files known message word braces f
      by _ place alone (here-plain {fact = fact} is own plain) = of-plain (record {
        member = record {
          outer = outer;
          of_message = stands;
          inner = alone.has.declaration;
          stands = stands_in files Field message.file name place alone
              (ap (λ (d : Declaration). d.kind) (same_declaration files place alone.has.declaration is.declaration
              alone.has.stands is.stands) ∙ is.is);
          same_file = alone.in_file;
          named = alone.has.named ∙ is_name;
        };
        is = is;
        own = own;
      }) plain
      by f place alone (here-group {fact = fact} in_them behind_it at is own group) =
          of-group in_them (record {
            member = subst (IsMember files message Message word) (sym behind_it) (record {
              outer = outer;
              of_message = stands;
              inner = alone.has.declaration;
              stands = stands_in files Message message.file name place alone
                  (ap (λ (d : Declaration). d.kind) (same_declaration files place alone.has.declaration at.declaration
                  alone.has.stands at.stands) ∙ at.is);
              same_file = alone.in_file;
              named = alone.has.named ∙ is_name;
            });
            fact = fact;
            is = is;
            own = own;
            group = group;
          })

  only_member : (kind : DeclarationKind) (member : DeclaredPlace) → IsMember files message kind word member
      → IsOnly files message.file name member
  only_member kind member m =
      let same = same_declaration files message m.outer outer m.of_message.stands stands.stands in
      subst (λ (n : ℕ). IsOnly files n name member) m.same_file
      (stands_only files kind name member m.inner m.stands
      (m.named ∙ (ap (λ (d : Declaration). qualified d.full_name word) same ∙ sym is_name)))

  pub member_to : (field : DeclaredPlace) → IsMemberOf files known message word braces field
      → IsMemberNamed files known message.file name braces field
  member_to field (of-plain own plain) = record {
    place = field;
    only = only_member Field field own.member;
    here = here-plain own.is own.own plain;
  }
  member_to field (of-group in_them own) = record {
    place = behind field;
    only = only_member Message (behind field) own.member;
    here = here-group in_them refl (record {
      declaration = own.member.inner;
      stands = own.member.stands.stands;
      is = own.member.stands.is;
    }) own.is own.own own.group;
  }

pub named_here : (files : List File) (known : List OptionFacts) (file : ℕ) (name : List ℕ) (braces : Bool)
    (place : DeclaredPlace) → IsOnly files file name place → (field : DeclaredPlace)
    → IsMemberNamed files known file name braces field → IsMemberHere files known place braces field
named_here files known file name braces place alone field x =
    subst (λ (p : DeclaredPlace). IsMemberHere files known p braces field) (one_only files file name x.place place
    x.only alone) x.here

-- ---- by what it is looked up in

module _ (files : List File) (known : List OptionFacts) (file : ℕ) (option : FileOption) (number : ℕ)
    (word : List ℕ) where
  pub in_message : (message field : DeclaredPlace)
      → IsFieldIn files known file option number word (inside.Message message) field
      → IsMemberOf files known message word (in_braces option number) field
  in_message message field x = by x.message x.has x.is
    where
      by : (other : DeclaredPlace) → HasFieldsOf files file option (inside.Message message) other
          → IsMemberOf files known other word (in_braces option number) field
          → IsMemberOf files known message word (in_braces option number) field
      by _ fields-message is = is

  pub of_message : (message field : DeclaredPlace) → IsMemberOf files known message word (in_braces option number) field
      → IsFieldIn files known file option number word (inside.Message message) field
  of_message message field is = record { message = message; has = fields-message; is = is }

  options_has : (message : DeclaredPlace) → HasFieldsOf files file option inside.Options message
      → IsOptionsMessage files file (options_message option.element) message
  options_has message (fields-options is) = is

  pub in_options : (message : DeclaredPlace)
      → IsOptionsMessage files file (options_message option.element) message → (field : DeclaredPlace)
      → IsFieldIn files known file option number word inside.Options field
      → IsMemberOf files known message word (in_braces option number) field
  in_options message is field x =
      subst (λ (m : DeclaredPlace). IsMemberOf files known m word (in_braces option number) field)
      (one_options_message files file (options_message option.element) x.message message
      (options_has x.message x.has) is) x.is

  pub of_options : (message : DeclaredPlace) → IsOptionsMessage files file (options_message option.element) message
      → (field : DeclaredPlace) → IsMemberOf files known message word (in_braces option number) field
      → IsFieldIn files known file option number word inside.Options field
  of_options message is field of = record { message = message; has = fields-options is; is = of }

  pub none_in_options : ((message : DeclaredPlace) → IsOptionsMessage files file (options_message option.element)
      message
      → ⊥) → (field : DeclaredPlace) → IsFieldIn files known file option number word inside.Options field → ⊥
  none_in_options none field x = none x.message (options_has x.message x.has)

  pub none_in_entries : (holder field : DeclaredPlace)
      → IsFieldIn files known file option number word (inside.Entries holder) field → ⊥
  none_in_entries holder field x = elim x.has [ ]

  pub none_in_enum : (type field : DeclaredPlace)
      → IsFieldIn files known file option number word (inside.Enum type) field → ⊥
  none_in_enum type field x = elim x.has [ ]

  pub none_in_scalar : (field : DeclaredPlace) → IsFieldIn files known file option number word inside.Scalar field → ⊥
  none_in_scalar field x = elim x.has [ ]

  pub none_in_untold : (field : DeclaredPlace) → IsFieldIn files known file option number word inside.Untold field → ⊥
  none_in_untold field x = elim x.has [ ]

  pub none_in_skipped : (field : DeclaredPlace) → IsFieldIn files known file option number word inside.Skipped field → ⊥
  none_in_skipped field x = elim x.has [ ]

pub clear_message : (files : List File) (source : ℕ) (name : List ℕ) (message : DeclaredPlace)
    → IsOptionsMessage files source name message → (d : Declaration) × StandsAs files Message message d
clear_message files source name message is = (is.named.declaration, is.named.stands)
