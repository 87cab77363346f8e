-- The messages of options, as they are kept.
use Rattle.std.specs.Prelude.{◌≡◌, ◌↔◌, ℕ, List, Contains}
use Rattle.std.specs.List.Sorted.{IsNonDecreasingBy}
use Rattle.proto_options.specs.declared.elements.Element.{Element}
use Rattle.proto_options.specs.declared.elements.Element.TheVariants as of_a
use Rattle.proto_visibility.specs.Files.{File}
use Rattle.option_link.specs.declared.messages.NamedMessages.{NamedMessages}
use Rattle.option_link.specs.declared.messages.OptionMessages.{OptionMessages}
use Rattle.option_link.specs.declared.place.DeclaredPlace.{DeclaredPlace}
use Rattle.option_link.specs.Contexts.{IsMessageNamed, options_message}

-- all messages with this full name, in order of their files
pub record AreMessagesNamed (files : List File) (name : List ℕ) (found : NamedMessages) : Type 0 where
  pub all : (message : DeclaredPlace) → Contains found.all.items message ↔ IsMessageNamed files name message
  pub sorted : IsNonDecreasingBy (λ message. message.file) found.all.items

-- the message with this full name of a file
pub record IsMessageOf (files : List File) (name : List ℕ) (file : ℕ) (message : DeclaredPlace) : Type 0 where
  pub named : IsMessageNamed files name message
  pub in_file : message.file ≡ file

-- those that are kept for an element
abbrev pub named_messages : OptionMessages → Element → NamedMessages
named_messages messages of_a.File = messages.file
named_messages messages of_a.Message = messages.message
named_messages messages (of_a.Field name) = messages.field
named_messages messages of_a.Oneof = messages.oneof
named_messages messages of_a.Enum = messages.enumeration
named_messages messages of_a.EnumValue = messages.value
named_messages messages of_a.Service = messages.service
named_messages messages of_a.Method = messages.method
named_messages messages of_a.ExtensionRange = messages.range

-- they are those of its options
abbrev pub AreOptionsMessages : List File → OptionMessages → Type 0
AreOptionsMessages files messages = (element : Element)
    → AreMessagesNamed files (options_message element) (named_messages messages element)
