-- The messages of options are kept by the kinds of elements; which of them are those of a source.
use Rattle.std.specs.Bool.{⊤}
use Rattle.std.proofs.Common.{◌≡◌, ◌↔◌, IsTrue, IfOk, IfSome, MatchOption, Option, Some, None, Result, Bool, ℕ, List}
use Rattle.std.proofs.Common.{true, false, not, refl, sym, ◌∙◌, subst}
use Rattle.std.proofs.lemmas.Bool.{false≢true}
use Rattle.std.specs.List.{Contains}
use Rattle.std.specs.List.Sorted.{IsNonDecreasingBy, IsPermutation}
use Rattle.std.proofs.lemmas.List.Sorted.{Contains-permutation, IsPermutation-sym}
use Rattle.std.specs.Option.{is_some, option_copied}
use denote.Ref.{Bor}
use Rattle.proto_lex.specs.declared.span.Span.{Span}
use Rattle.proto_options.specs.declared.elements.Element.{Element}
use Rattle.proto_options.specs.declared.elements.Element.TheVariants as of_a
use Rattle.proto_decl.specs.declared.declaration.DeclarationKind.TheVariants.{Message}
use Rattle.proto_visibility.specs.Files.{File, IsPresent}
use Rattle.proto_visibility.specs.Reaches.{HasOptionsIn}
use Rattle.option_link.specs.declared.messages.NamedMessages.{NamedMessages}
use Rattle.option_link.specs.declared.messages.OptionMessages.{OptionMessages}
use Rattle.option_link.specs.declared.place.DeclaredPlace.{DeclaredPlace}
use Rattle.option_link.specs.Contexts.{IsMessageNamed, IsOptionsFile, IsOptionsMessage, LacksMessage, options_message}
use Rattle.option_link.specs.Contexts.LacksMessage.{nowhere, not_there}
use Rattle.option_link.specs.Messages.{AreMessagesNamed, AreOptionsMessages, IsMessageOf}
use Rattle.option_link.proofs.LoopLemmas.{always_so, found_as, iff_as, never_so, option_as}
use Rattle.option_link.proofs.NameLemmas.{lacks_none}
use Rattle.option_link.proofs.PlaceLemmas.{one_place}

abbrev Of : List File → Element → NamedMessages → Type 0
Of files element found = AreMessagesNamed files (options_message element) found

pub of_each : (files : List File) (messages : OptionMessages) (place : Span) → Of files of_a.File messages.file
    → Of files of_a.Message messages.message → Of files (of_a.Field place) messages.field
    → Of files of_a.Oneof messages.oneof → Of files of_a.Enum messages.enumeration
    → Of files of_a.EnumValue messages.value → Of files of_a.Service messages.service
    → Of files of_a.Method messages.method → Of files of_a.ExtensionRange messages.range
    → AreOptionsMessages files messages
of_each files messages place a b c d e f g h i of_a.File = a
of_each files messages place a b c d e f g h i of_a.Message = b
of_each files messages place a b c d e f g h i (of_a.Field name) = c
of_each files messages place a b c d e f g h i of_a.Oneof = d
of_each files messages place a b c d e f g h i of_a.Enum = e
of_each files messages place a b c d e f g h i of_a.EnumValue = f
of_each files messages place a b c d e f g h i of_a.Service = g
of_each files messages place a b c d e f g h i of_a.Method = h
of_each files messages place a b c d e f g h i of_a.ExtensionRange = i

-- they are in order of their files
pub sorted_messages : (files : List File) (name : List ℕ) (found : List DeclaredPlace) (messages : NamedMessages)
    → ((message : DeclaredPlace) → Contains found message ↔ IsMessageNamed files name message)
    → IsPermutation found messages.all.items → IsNonDecreasingBy (λ (m : DeclaredPlace). m.file) messages.all.items
    → AreMessagesNamed files name messages
sorted_messages files name found messages all permutation sorted = record {
  all = λ message. (
    λ there. (all message).0 (Contains-permutation messages.all.items found message
        (IsPermutation-sym found messages.all.items permutation) there),
    λ is. Contains-permutation found messages.all.items message permutation ((all message).1 is),
  );
  sorted = sorted;
}

-- what is told of those that are kept

module _ (files : List File) (name : List ℕ) (found : NamedMessages) (file : ℕ) (is : AreMessagesNamed files name found)
  where
    pub found_there : (message : DeclaredPlace) → Contains found.all.items message → message.file ≡ file
        → IsMessageOf files name file message
    found_there message there in_file = record { named = (is.all message).0 there; in_file = in_file }

    pub none_there : ((message : DeclaredPlace) → Contains found.all.items message → message.file ≡ file → ⊥)
        → (message : DeclaredPlace) → IsMessageOf files name file message → ⊥
    none_there none message its = none message ((is.all message).1 its.named) its.in_file

    pub of_file : (one : Option DeclaredPlace)
        → MatchOption one
        ((message : DeclaredPlace) → Contains found.all.items message → message.file ≡ file → ⊥)
        (λ message. Contains found.all.items message × (message.file ≡ file))
        → MatchOption one ((message : DeclaredPlace) → IsMessageOf files name file message → ⊥)
        (IsMessageOf files name file)
    of_file one told = option_as one
        ((message : DeclaredPlace) → Contains found.all.items message → message.file ≡ file → ⊥)
        ((message : DeclaredPlace) → IsMessageOf files name file message → ⊥)
        (λ message. Contains found.all.items message × (message.file ≡ file)) (IsMessageOf files name file)
        none_there (λ message its. found_there message its.0 its.1) told

-- a file has one message with a full name
pub one_of_file : (files : List File) (name : List ℕ) (file : ℕ) (a b : DeclaredPlace)
    → IsMessageOf files name file a → IsMessageOf files name file b → a ≡ b
one_of_file files name file a b x y =
    one_place files Message Message a b x.named.declaration y.named.declaration x.named.stands y.named.stands
    (x.in_file ∙ sym y.in_file) (x.named.named ∙ sym y.named.named)

module _ (files : List File) (name : List ℕ) (message found : DeclaredPlace)
    (there : IsMessageOf files name message.file found) where
  pub other_there : (found ≡ message → ⊥) → IsMessageNamed files name message → ⊥
  other_there other named = other (one_of_file files name message.file found message there
      (record { named = named; in_file = refl }))

  pub same_there : found ≡ message → IsMessageNamed files name message
  same_there same = subst (IsMessageNamed files name) same there.named

pub present_iff : (files : List File) (name : List ℕ) (message : DeclaredPlace) (is : Bool)
    → IsMessageNamed files name message → (IsTrue is ↔ IsPresent files message.file)
    → IsTrue is ↔ (IsMessageNamed files name message × IsPresent files message.file)
present_iff files name message is named iff = iff_as is (IsPresent files message.file)
    (IsMessageNamed files name message × IsPresent files message.file) (λ present. (named, present)) (λ both. both.1)
    iff

-- ---- the messages of a source's options

module _ (files : List File) (source : ℕ) (name : List ℕ) where
  module _ (file : ℕ) (of_source : IsOptionsFile files source file) where
    to_file : (message : DeclaredPlace) → IsOptionsMessage files source name message
        → IsMessageOf files name file message
    to_file message is = record {
      named = is.named;
      in_file = of_source.only message.file is.of_source.has;
    }

    from_file : (message : DeclaredPlace) → IsMessageOf files name file message
        → IsOptionsMessage files source name message
    from_file message its = record {
      named = its.named;
      of_source = subst (IsOptionsFile files source) (sym its.in_file) of_source;
    }

    pub of_options_file : {E : Type 0} (found : Result (Option DeclaredPlace) E)
        → IfOk found (λ one. MatchOption one ((message : DeclaredPlace) → IsMessageOf files name file message → ⊥)
        (IsMessageOf files name file))
        → IfOk found (λ one. MatchOption one
        ((message : DeclaredPlace) → IsOptionsMessage files source name message → ⊥)
        (IsOptionsMessage files source name))
    of_options_file found told = found_as found
        ((message : DeclaredPlace) → IsMessageOf files name file message → ⊥)
        ((message : DeclaredPlace) → IsOptionsMessage files source name message → ⊥)
        (IsMessageOf files name file) (IsOptionsMessage files source name)
        (λ none message is. none message (to_file message is)) from_file told

    -- it has one there, or lacks it
    has_one : (message : DeclaredPlace) → IsMessageOf files name file message → LacksMessage files source name → ⊥
    has_one message its lacks = lacks_none files source name lacks message (from_file message its)

    pub lacks_there : (found : Option DeclaredPlace) (is : Bool) → is_some found ≡ not is
        → MatchOption found ((message : DeclaredPlace) → IsMessageOf files name file message → ⊥)
        (IsMessageOf files name file)
        → IsTrue is ↔ LacksMessage files source name
    lacks_there None true test none = always_so _ (not_there of_source
        (λ message named in_file. none message (record { named = named; in_file = in_file })))
    lacks_there None false test none = absurd (false≢true test)
    lacks_there (Some message) true test its = absurd (false≢true (sym test))
    lacks_there (Some message) false test its = never_so _ (has_one message its)

  pub no_file_no_message : ((file : ℕ) → IsOptionsFile files source file → ⊥) → (message : DeclaredPlace)
      → IsOptionsMessage files source name message → ⊥
  no_file_no_message none message is = none message.file is.of_source

  pub lacks_nowhere : ((file : ℕ) → IsOptionsFile files source file → ⊥) → (is : Bool)
      → (IsTrue is ↔ ((file : ℕ) → HasOptionsIn files source file → ⊥))
      → IsTrue is ↔ LacksMessage files source name
  lacks_nowhere none is iff = iff_as is ((file : ℕ) → HasOptionsIn files source file → ⊥)
      (LacksMessage files source name) (λ not. nowhere not) by iff
    where
      by : LacksMessage files source name → (file : ℕ) → HasOptionsIn files source file → ⊥
      by (nowhere not) = not
      by (not_there {file = file} of_source missing) = absurd (none file of_source)

pub kept_by : (files : List File) (found : Option (Bor OptionMessages)) (kept : Option OptionMessages)
    → option_copied found ≡ kept → MatchOption kept ⊤ (AreOptionsMessages files)
    → IfSome found (λ messages. AreOptionsMessages files messages.now)
kept_by files (Some messages) kept is are =
    subst (λ (its : Option OptionMessages). MatchOption its ⊤ (AreOptionsMessages files)) (sym is) are
kept_by files None kept is are = tt
