-- The extensions of message sets that messages declare for themselves.
use Rattle.std.proofs.Common.{◌≡◌, ◌↔◌, inl, inr, ℕ, ◌+◌, ◌<◌, Bool, List, Option, Some, None, MatchOption}
use Rattle.std.proofs.Common.{IsTrue, length, refl, ap, sym, ◌∙◌, subst, arith}
use Rattle.std.proofs.lemmas.Bool.{cases_lt, false≢true}
use Rattle.std.specs.Option.{is_some}
use Rattle.std.proofs.lemmas.Option.{none-some, same_Some, slice_get_within}
use Rattle.proto_decl.specs.Names.{qualified, IsAround}
use Rattle.proto_decl.specs.Facts.{Facts, AreOfSomeFile, NamesAreFilled}
use Rattle.proto_decl.specs.declared.declaration.Declaration.{Declaration}
use Rattle.proto_decl.specs.declared.declaration.DeclarationKind.TheVariants.{Message, Field}
use Rattle.proto_decl.proofs.ScopeLemmas.{one_around}
use Rattle.proto_options.specs.declared.fields.FieldFact.{FieldFact}
use Rattle.proto_options.specs.declared.messages.MessageClause.TheVariants as clauses
use Rattle.proto_options.specs.declared.names.OptionName.{OptionName}
use Rattle.proto_options.specs.declared.names.OptionRole.{OptionRole}
use Rattle.proto_options.specs.declared.names.OptionRole.TheVariants as role
use Rattle.proto_options.specs.declared.options.FileOption.{FileOption}
use Rattle.proto_visibility.specs.Files.{File, HasFacts, HaveOrigins}
use Rattle.proto_visibility.specs.Knows.{is_message}
use Rattle.proto_visibility.proofs.FileFactLemmas.{one_list_of_facts}
use Rattle.option_link.specs.declared.contexts.Context.{Context}
use Rattle.option_link.specs.declared.contexts.Context.TheVariants as inside
use Rattle.option_link.specs.declared.facts.OptionFacts.{OptionFacts}
use Rattle.option_link.specs.declared.place.DeclaredPlace.{DeclaredPlace}
use Rattle.option_link.specs.Places.{StandsAs, place_at}
use Rattle.option_link.specs.Fields.{AreInOrder, Extends, FieldGives, IsField, IsFieldOf, IsFirstItem, IsItem}
use Rattle.option_link.specs.Fields.IsFieldOf.{own as of-own, extending as of-extending}
use Rattle.option_link.specs.Said.{Says}
use Rattle.option_link.specs.Contexts.NamesAs.{field as names-field, group as names-group, extension as names-extension}
use Rattle.option_link.specs.Contexts.NamesAs.{item as names-item, packed as names-packed, value as names-value}
use Rattle.option_link.specs.Tables.{IsOnly, IsOwned}
use Rattle.option_link.specs.Typed.{IsAroundIn}
use Rattle.option_link.specs.Found.{IsBehind, IsItemNamed, IsSetIn}
use Rattle.option_link.proofs.ExtensionLemmas.{same_message}
use Rattle.option_link.proofs.LoopLemmas.{iff_as}
use Rattle.option_link.proofs.MemberLemmas.{around_named, filled_name, named_around}
use Rattle.option_link.proofs.OnlyLemmas.{one_only}
use Rattle.option_link.proofs.PlaceLemmas.{one_DeclaredPlace, one_fact, one_place, same_declaration}
use Rattle.option_link.proofs.TableLemmas.{within_files}

-- ---- what is found, and what is given

pub some_iff : {X : Type 0} (found : Option X) (one x : X) (is : Bool) → found ≡ Some one → (IsTrue is ↔ (one ≡ x))
    → IsTrue is ↔ (found ≡ Some x)
some_iff found one x is at iff =
    iff_as is (one ≡ x) (found ≡ Some x) (λ same. at ∙ ap Some same) (λ there. same_Some one x (sym at ∙ there)) iff

pub start_iff : {X : Type 0} (found : Option X) (is : Bool) → is ≡ is_some found
    → IsTrue is ↔ ((x : X) × (found ≡ Some x))
start_iff None is same = (λ t. absurd (false≢true (sym same ∙ t)), λ x. absurd (none-some x.0 x.1))
start_iff (Some x) is same = (λ t. (x, refl), λ its. same)

-- what is found is the only one of which this holds
pub found_is : {X : Type 0} (found : Option X) (P : X → Type 0) → MatchOption found ((x : X) → P x → ⊥) P
    → ((x y : X) → P x → P y → x ≡ y) → (x : X) → (found ≡ Some x) ↔ P x
found_is None P none one x = (λ there. absurd (none-some x there), λ is. absurd (none x is))
found_is (Some y) P its one x = (λ there. subst P (same_Some y x there) its, λ is. ap Some (one y x its is))

pub options_no_message : (message : DeclaredPlace) → inside.Options ≡ inside.Message message → ⊥
options_no_message message e = cc

pub entries_no_message : (holder message : DeclaredPlace) → inside.Entries holder ≡ inside.Message message → ⊥
entries_no_message holder message e = cc

pub enum_no_message : (type message : DeclaredPlace) → inside.Enum type ≡ inside.Message message → ⊥
enum_no_message type message e = cc

pub scalar_no_message : (message : DeclaredPlace) → inside.Scalar ≡ inside.Message message → ⊥
scalar_no_message message e = cc

pub untold_no_message : (message : DeclaredPlace) → inside.Untold ≡ inside.Message message → ⊥
untold_no_message message e = cc

pub skipped_no_message : (message : DeclaredPlace) → inside.Skipped ≡ inside.Message message → ⊥
skipped_no_message message e = cc

pub given_to : (context : Context) (found : Option DeclaredPlace) (message : DeclaredPlace)
    → MatchOption found ((m : DeclaredPlace) → context ≡ inside.Message m → ⊥) (λ m. context ≡ inside.Message m)
    → context ≡ inside.Message message → found ≡ Some message
given_to context None message none is = absurd (none message is)
given_to context (Some one) message its is = ap Some (same_message one message (sym its ∙ is))

-- ---- message sets

pub said_of : (files : List File) (known : List OptionFacts) (option : FileOption) (number : ℕ) (context : Context)
    (message set : DeclaredPlace) → context ≡ inside.Message message → IsSetIn files known option number context set
    → Says files known message clauses.IsMessageSet
said_of files known option number context message set is x =
    subst (λ (m : DeclaredPlace). Says files known m clauses.IsMessageSet) (same_message set message (sym x.is ∙ is))
    x.says

-- ---- the extension with a full name

module _ (files : List File) (origins : HaveOrigins files)
    (filled : (facts : Facts) → AreOfSomeFile facts → NamesAreFilled facts.declarations) (known : List OptionFacts)
    (set message field : DeclaredPlace) (d : Declaration) (stands : StandsAs files Field field d) (name : List ℕ)
    (named : d.full_name ≡ name) where
  pub item_around : IsItem files known set message field → IsAroundIn files field.file name message
  item_around x =
      let m = x.member in
      let inner = same_declaration files field m.inner d m.stands.stands stands.stands in
      let full : name ≡ qualified m.outer.full_name x.name =
      sym named ∙ (sym (ap (λ (e : Declaration). e.full_name) inner) ∙ m.named) in
      record {
        in_file = sym m.same_file;
        scope = m.outer.full_name;
        around = subst (λ (n : List ℕ). IsAround n m.outer.full_name) (sym full)
            (around_named m.outer.full_name x.name
            (filled_name files origins filled message m.outer m.of_message.stands) x.plain);
        declaration = m.outer;
        stands = m.of_message;
        named = refl;
      }

  pub item_by : AreInOrder known → (fact : FieldFact) → IsField files known field fact → (start : ℕ)
      → fact.extended ≡ Some start → IsAroundIn files field.file name message → IsFieldOf files known set field
      → FieldGives files known field (inside.Message message) → IsItem files known set message field
  item_by order fact is start extended around of gives =
      let full = filled_name files origins filled message around.declaration around.stands.stands in
      let its = named_around name around.scope (subst (λ (n : List ℕ). 0 < length n) around.named full) around.around in
      record {
        name = its.0;
        plain = its.1;
        member = record {
          outer = around.declaration;
          of_message = around.stands;
          inner = d;
          stands = stands;
          same_file = sym around.in_file;
          named = named ∙ (its.2 ∙ ap (λ (n : List ℕ). qualified n its.0) (sym around.named));
        };
        extends = by of;
        of_type = gives;
      }
    where
      by : IsFieldOf files known set field → Extends files known set field
      by (of-own {fact = other} plain x) =
          absurd (none-some start (sym x.own
          ∙ (ap (λ (f : FieldFact). f.extended) (one_fact files known order field other fact x.is is) ∙ extended)))
      by (of-extending x) = x

pub item_extends : (files : List File) (known : List OptionFacts) (set message field : DeclaredPlace)
    → IsItem files known set message field → IsFieldOf files known set field
item_extends files known set message field x = of-extending x.extends

pub one_around_message : (files : List File) (file : ℕ) (name : List ℕ) (a b : DeclaredPlace)
    → IsAroundIn files file name a → IsAroundIn files file name b → a ≡ b
one_around_message files file name a b x y =
    one_place files Message Message a b x.declaration y.declaration x.stands y.stands (x.in_file ∙ sym y.in_file)
    (x.named ∙ (one_around x.around y.around ∙ sym y.named))

-- ---- the first one

module _ (files : List File) (known : List OptionFacts) (set message : DeclaredPlace) (index : ℕ) where
  pub first_by : IsItem files known set message (place_at message.file index)
      → ((field : DeclaredPlace) → IsItem files known set message field → field.index < index → ⊥)
      → IsFirstItem files known set message (place_at message.file index)
  first_by is none = record {
    is = is;
    first = λ other x. elim (cases_lt other.index index) [
      | inl before ↦ absurd (none other x before)
      | inr least ↦ omega (arith, least)
    ];
  }

  pub more_without : (IsItem files known set message (place_at message.file index) → ⊥)
      → ((field : DeclaredPlace) → IsItem files known set message field → field.index < index → ⊥)
      → (field : DeclaredPlace) → IsItem files known set message field → field.index < index + 1 → ⊥
  more_without not none = λ field x before. elim (cases_lt field.index index) [
    | inl less ↦ none field x less
    | inr least ↦ not (subst (IsItem files known set message)
        (one_DeclaredPlace field (place_at message.file index) x.member.same_file (omega (arith, before, least))) x)
  ]

pub item_within : (files : List File) (known : List OptionFacts) (set message field : DeclaredPlace)
    → IsItem files known set message field → (facts : Facts) → HasFacts files message.file facts
    → (declarations : List Declaration) → declarations ≡ facts.declarations → field.index < length declarations
item_within files known set message field x facts has declarations are =
    let its = x.member.stands.stands in
    let there = subst (λ (n : ℕ). HasFacts files n its.facts) x.member.same_file its.known in
    let same = one_list_of_facts files message.file its.facts facts there has in
    let within : field.index < length its.facts.declarations =
    slice_get_within its.facts.declarations field.index x.member.inner its.listed in
    omega (arith, within, ap (λ (f : Facts). length f.declarations) same, ap length are)

-- ---- by the full name of its message

pub owned_in : (files : List File) (file : ℕ) (name : List ℕ) (message : DeclaredPlace)
    → IsOwned files file is_message name message → message.file < length files
owned_in files file name message owned =
    within_files files message owned.only.has.declaration owned.only.has.stands

pub named_of : (files : List File) (known : List OptionFacts) (file : ℕ) (set : DeclaredPlace) (name : List ℕ)
    (message : DeclaredPlace) → IsOwned files file is_message name message → (field : DeclaredPlace)
    → IsItemNamed files known file set name field → IsFirstItem files known set message field
named_of files known file set name message owned field x =
    let in_file = owned.owner.alone x.type.file x.owned.owner.gives in
    let same = one_only files message.file name x.type message
    (subst (λ (n : ℕ). IsOnly files n name x.type) in_file x.owned.only) owned.only in
    subst (λ (m : DeclaredPlace). IsFirstItem files known set m field) same x.is

-- ---- what comes behind what is spelled

module _ (files : List File) (known : List OptionFacts) (file : ℕ) (text : List ℕ) (option : FileOption) (number : ℕ)
    (name : OptionName) where
  pub no_extension_behind : (acting : OptionRole) (context : Context) → (acting ≡ role.Extension → ⊥)
      → IsBehind files known file text option number name acting context 0
  no_extension_behind _ context not at (names-field x has own group) = refl
  no_extension_behind _ context not at (names-group x has least own) = refl
  no_extension_behind _ context not at (names-extension x may from up owns stands is of_it) = refl
  no_extension_behind _ _ not at (names-item x braces says from up unknown owns stands is first) = absurd (not refl)
  no_extension_behind _ _ not at (names-packed x any called owns stands is) = refl
  no_extension_behind _ _ not at (names-value x of_enum around stands in_file is path) = refl

  pub none_behind : (acting : OptionRole) (context : Context)
      → ((set : DeclaredPlace) → IsSetIn files known option number context set → ⊥)
      → IsBehind files known file text option number name acting context 0
  none_behind _ context none at (names-field x has own group) = refl
  none_behind _ context none at (names-group x has least own) = refl
  none_behind _ context none at (names-extension x may from up owns stands is of_it) = refl
  none_behind _ _ none at (names-item {set = set} x braces says from up unknown owns stands is first) =
      absurd (none set (record { is = refl; braces = braces; says = says }))
  none_behind _ _ none at (names-packed x any called owns stands is) = refl
  none_behind _ _ none at (names-value x of_enum around stands in_file is path) = refl
