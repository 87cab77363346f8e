-- Which names need name nothing, by what they are looked up in.
use Rattle.std.proofs.Common.{◌≡◌, ◌≢◌, ◌↔◌, inl, inr, Bool, List, ℕ, ◌∷◌, [], IsTrue, refl, subst}
use Rattle.std.specs.Prelude.{codes}
use Rattle.proto_options.specs.declared.names.OptionName.{OptionName}
use Rattle.proto_options.specs.declared.names.OptionRole.TheVariants as role
use Rattle.proto_options.specs.declared.options.FileOption.{FileOption}
use Rattle.proto_visibility.specs.Files.{File}
use Rattle.option_link.specs.declared.contexts.Context.TheVariants as inside
use Rattle.option_link.specs.declared.facts.OptionFacts.{OptionFacts}
use Rattle.option_link.specs.declared.place.DeclaredPlace.{DeclaredPlace}
use Rattle.option_link.specs.Contexts.{HasWords, IsReserved}
use Rattle.option_link.specs.Found.{IsEntryName, IsWithoutMessage, NeedsNoneIn}
use Rattle.option_link.specs.Found.NeedsNoneIn.{word, entry, untold, without_message, reserved}
use Rattle.option_link.proofs.LoopLemmas.{iff_as}

module _ (files : List File) (known : List OptionFacts) (file : ℕ) (text : List ℕ) (option : FileOption) (number : ℕ)
    (name : OptionName) where
  scalar_acting : NeedsNoneIn files known file text option number name inside.Scalar → name.role ≡ role.Value
  scalar_acting (word acting) = acting

  pub scalar_iff : (is : Bool) → (IsTrue is ↔ (name.role ≡ role.Value))
      → IsTrue is ↔ NeedsNoneIn files known file text option number name inside.Scalar
  scalar_iff is iff = iff_as is (name.role ≡ role.Value)
      (NeedsNoneIn files known file text option number name inside.Scalar)
      (λ acting. word acting) scalar_acting iff

  untold_acting : NeedsNoneIn files known file text option number name inside.Untold → name.role ≢ role.Extension
  untold_acting (untold acting) = acting

  pub untold_iff : (is : Bool) → (IsTrue is ↔ (name.role ≢ role.Extension))
      → IsTrue is ↔ NeedsNoneIn files known file text option number name inside.Untold
  untold_iff is iff = iff_as is (name.role ≢ role.Extension)
      (NeedsNoneIn files known file text option number name inside.Untold)
      (λ acting. untold acting) untold_acting iff

  options_is : NeedsNoneIn files known file text option number name inside.Options → IsWithoutMessage files file option
      name
  options_is (without_message is) = is

  pub options_iff : (is : Bool) → (IsTrue is ↔ IsWithoutMessage files file option name)
      → IsTrue is ↔ NeedsNoneIn files known file text option number name inside.Options
  options_iff is iff = iff_as is (IsWithoutMessage files file option name)
      (NeedsNoneIn files known file text option number name inside.Options) (λ its. without_message its) options_is iff

  entry_is : (holder : DeclaredPlace) → NeedsNoneIn files known file text option number name (inside.Entries holder)
      → IsEntryName text name
  entry_is holder (entry is) = is

  pub entries_iff : (holder : DeclaredPlace) (is : Bool) → (IsTrue is ↔ IsEntryName text name)
      → IsTrue is ↔ NeedsNoneIn files known file text option number name (inside.Entries holder)
  entries_iff holder is iff = iff_as is (IsEntryName text name)
      (NeedsNoneIn files known file text option number name (inside.Entries holder)) (λ its. entry its)
      (entry_is holder) iff

  message_is : (message : DeclaredPlace)
      → NeedsNoneIn files known file text option number name (inside.Message message)
      → IsReserved files known text option number name message
  message_is message (reserved is) = is

  pub message_iff : (message : DeclaredPlace) (is : Bool)
      → (IsTrue is ↔ IsReserved files known text option number name message)
      → IsTrue is ↔ NeedsNoneIn files known file text option number name (inside.Message message)
  message_iff message is iff = iff_as is (IsReserved files known text option number name message)
      (NeedsNoneIn files known file text option number name (inside.Message message)) (λ its. reserved its)
      (message_is message) iff

  pub enum_none : (type : DeclaredPlace) → NeedsNoneIn files known file text option number name (inside.Enum type) → ⊥
  enum_none type x = elim x [ ]

pub value_entry : (text : List ℕ) (name : OptionName) → name.role ≡ role.Field
    → (HasWords text name (codes "key" ∷ []) → ⊥) → (is : Bool)
    → (IsTrue is ↔ HasWords text name (codes "value" ∷ [])) → IsTrue is ↔ IsEntryName text name
value_entry text name plain not is iff = iff_as is (HasWords text name (codes "value" ∷ [])) (IsEntryName text name)
    (λ has. record { plain = plain; word = codes "value"; is = has; which = inr refl })
    (λ entry_name. elim entry_name.which [
      | inl key ↦ absurd (not (subst (λ (w : List ℕ). HasWords text name (w ∷ [])) key entry_name.is))
      | inr value ↦ subst (λ (w : List ℕ). HasWords text name (w ∷ [])) value entry_name.is
    ]) iff
