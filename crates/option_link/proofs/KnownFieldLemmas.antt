-- Fields that options use often.
use Rattle.std.proofs.Common.{◌≡◌, ◌≢◌, inl, inr, Bool, true, List, [], ◌∷◌, ◌++◌, Option, None, Some, IfSome, refl, ap, sym, ◌∙◌, subst}
use Rattle.std.specs.List.{Contains}
use Rattle.std.proofs.lemmas.List.Elements.{Contains-push_cases}
use Rattle.std.proofs.lemmas.Option.{none-some, same_Some}
use Rattle.basics.proofs.ListLemmas.{in_nothing}
use Rattle.proto_decl.specs.Declares.{simple_name}
use Rattle.proto_decl.specs.declared.declaration.Declaration.{Declaration}
use Rattle.proto_options.specs.declared.fields.FieldFact.{FieldFact}
use Rattle.proto_options.specs.declared.fields.FieldKind.TheVariants as kinds
use Rattle.proto_visibility.specs.Files.{File}
use Rattle.option_link.specs.declared.facts.OptionFacts.{OptionFacts}
use Rattle.option_link.specs.declared.known_fields.KnownField.{KnownField}
use Rattle.option_link.specs.declared.place.DeclaredPlace.{DeclaredPlace}
use Rattle.option_link.specs.Places.{Stands}
use Rattle.option_link.specs.Fields.{AreInOrder, IsField}
use Rattle.option_link.specs.Found.{IsMemberOf}
use Rattle.option_link.specs.Found.IsMemberOf.{plain, group}
use Rattle.option_link.specs.KnownFields.{AreKnownFields, IsKnownField, IsGivenBy, IsNamedIn}
use Rattle.option_link.proofs.PlaceLemmas.{one_fact, same_declaration}

module _ (files : List File) (known : List OptionFacts) where
  pub no_known : (fields : List KnownField) → fields ≡ [] → AreKnownFields files known fields
  no_known fields none one there =
      absurd (in_nothing one (subst (λ (its : List KnownField). Contains its one) none there))

  pub known_more : (fields new : List KnownField) (its : KnownField) → IsKnownField files known its
      → new ≡ fields ++ its ∷ [] → AreKnownFields files known fields → AreKnownFields files known new
  known_more fields new its is made so_far one there =
      elim (Contains-push_cases fields its one (subst (λ (all : List KnownField). Contains all one) made there)) [
        | inl before ↦ so_far one before
        | inr same ↦ subst (IsKnownField files known) same is
      ]

  -- what is found by a message and a word
  pub member_by : (one : KnownField) (message : DeclaredPlace) (word : List _) (found : DeclaredPlace)
      → IsKnownField files known one → one.message ≡ Some message → found ≡ one.field → (d : Declaration)
      → Stands files one.field d → simple_name d.path ≡ word → (braces : Bool)
      → IsMemberOf files known message word braces found
  member_by one message word found is of same d stands called braces =
      subst (IsMemberOf files known message word braces) (sym same)
      (subst (λ w. IsMemberOf files known message w braces one.field) called (is.named message of d stands braces))

  -- what isn't a group is the same in braces and elsewhere
  pub both_braces : AreInOrder known → (message : DeclaredPlace) (word : List _) (field : DeclaredPlace)
      (fact : FieldFact) → IsField files known field fact → fact.kind ≢ kinds.Group
      → IsMemberOf files known message word true field → (braces : Bool) → IsMemberOf files known message word braces field
  both_braces order message word field fact is not (plain own single) braces = plain own (λ _. single refl)
  both_braces order message word field fact is not (group _ own) braces =
      absurd (not (ap (λ (f : FieldFact). f.kind) (one_fact files known order field fact own.fact is own.is) ∙ own.group))

  pub named_by : (message : DeclaredPlace) (field : DeclaredPlace) (d : Declaration) → Stands files field d
      → ((braces : Bool) → IsMemberOf files known message (simple_name d.path) braces field)
      → IsNamedIn files known message field
  named_by message field d stands each other there braces =
      subst (λ (o : Declaration). IsMemberOf files known message (simple_name o.path) braces field)
      (same_declaration files field d other stands there) (each braces)

  pub if_named_by : (field : DeclaredPlace) (d : Declaration) → Stands files field d → (found : Option DeclaredPlace)
      → IfSome found (λ message. (braces : Bool) → IsMemberOf files known message (simple_name d.path) braces field)
      → (message : DeclaredPlace) → found ≡ Some message → IsNamedIn files known message field
  if_named_by field d stands None is message named = absurd (none-some message named)
  if_named_by field d stands (Some one) is message named =
      subst (λ (m : DeclaredPlace). IsNamedIn files known m field) (same_Some one message named)
      (named_by one field d stands is)

pub known_as : (one : KnownField) {files others : List File} {known beside : List OptionFacts} → files ≡ others
    → known ≡ beside → IsKnownField files known one → IsKnownField others beside one
known_as one {others = others} {known = known} same along is =
    subst (λ (k : List OptionFacts). IsKnownField others k one) along
    (subst (λ (f : List File). IsKnownField f known one) same is)

-- what is known of a field is right
pub is_known : (files : List File) (known : List OptionFacts) (one : KnownField)
    → ((message : DeclaredPlace) → one.message ≡ Some message → IsNamedIn files known message one.field)
    → IsGivenBy files known one.field one.gives → IsKnownField files known one
is_known files known one named gives = record { named = named; gives = gives }
