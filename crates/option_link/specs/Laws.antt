-- Laws about what options name.
use Rattle.std.specs.Prelude.{◌≡◌, ◌≢◌, ◌≤◌, ℕ, Some, List, [], ◌∷◌}
use Rattle.std.specs.List.{slice_get}
use Rattle.proto_options.specs.declared.fields.FieldFact.{FieldFact}
use Rattle.proto_options.specs.declared.fields.FieldKind.TheVariants as kinds
use Rattle.proto_options.specs.declared.names.OptionName.{OptionName}
use Rattle.proto_options.specs.declared.names.OptionRole.TheVariants as role
use Rattle.proto_options.specs.declared.options.FileOption.{FileOption}
use Rattle.proto_visibility.specs.declared.clash.Duplicates.{Duplicates}
use Rattle.proto_visibility.specs.declared.clash.Duplicates.TheVariants.{Refuse}
use Rattle.proto_visibility.specs.Files.{File, HaveOrigins, HaveOwnPaths, IsPresent, IsSource}
use Rattle.proto_visibility.specs.Clashes.{NoClash}
use Rattle.proto_visibility.specs.Reaches.{HasOptionsIn, IsReachable, LinksOptions}
use Rattle.option_link.specs.declared.facts.OptionFacts.{OptionFacts}
use Rattle.option_link.specs.declared.place.DeclaredPlace.{DeclaredPlace}
use Rattle.option_link.specs.declared.target.OptionTarget.{OptionTarget}
use Rattle.option_link.specs.declared.target.UncertainName.{UncertainName}
use Rattle.option_link.specs.declared.contexts.Context.{Context}
use Rattle.option_link.specs.Fields.{AreInOrder, IsOwnField}
use Rattle.option_link.specs.Contexts.{HasFieldsOf, HasWords, IsMessageNamed, IsOptionsMessage, StandsIn}
use Rattle.option_link.specs.OptionNames.{IsOptionTarget, IsGap, NamesPlace}
use Rattle.option_link.specs.Uncertain.{IsUncertainName}

-- a name in an option is looked up in one thing at most, and so has one target at most
abbrev pub OneContextAName : Type 0
OneContextAName = (files : List File) → HaveOrigins files → (known : List OptionFacts)
    → AreInOrder known → (file : ℕ) (text : List ℕ) (option : FileOption) (number : ℕ) (context other : Context)
    → StandsIn files known file text option number context → StandsIn files known file text option number other
    → context ≡ other

abbrev pub OneTargetAName : Type 0
OneTargetAName = (duplicates : Duplicates) (files : List File) → HaveOrigins files → NoClash duplicates files → (known : List OptionFacts) → AreInOrder known → (source : ℕ) → IsSource files source
    → (text : List ℕ) (option : FileOption) (a b : OptionTarget) → IsOptionTarget files known source text option a
    → IsOptionTarget files known source text option b → a.name_number ≡ b.name_number → a ≡ b

-- and an option has one gap at most
abbrev pub OneGapAnOption : Type 0
OneGapAnOption = (files : List File) (known : List OptionFacts) (file : ℕ) (text : List ℕ) (option : FileOption)
    (number other : ℕ) (name its : OptionName) → IsGap files known file text option number name
    → IsGap files known file text option other its → number ≡ other

-- and one uncertain name, behind one file
abbrev pub OneUncertainNameAnOption : Type 0
OneUncertainNameAnOption = (files : List File) (known : List OptionFacts) (file : ℕ) (text : List ℕ)
    (option : FileOption) (a b : UncertainName) → IsUncertainName files known file text option a
    → IsUncertainName files known file text option b → a ≡ b

-- Where names in a source's options are linked, what they name is in a reachable file: so of what they name, names don't
-- clash.
abbrev pub TargetsAreReachable : Type 0
TargetsAreReachable = (files : List File) (known : List OptionFacts) (source : ℕ) → IsSource files source
    → LinksOptions files source → (text : List ℕ) (option : FileOption) (target : OptionTarget)
    → (is : IsOptionTarget files known source text option target) → IsReachable files is.at.file

-- And names are named. Where no two reachable files declare a name, and of the files that a source may have the messages
-- of its options in none is left out, the message with their name in such a file is that which plain names are looked
-- up in.
abbrev pub EachSourceHasItsOptionsMessage : Type 0
EachSourceHasItsOptionsMessage = (files : List File) → HaveOwnPaths files → NoClash Refuse files → (source : ℕ)
    → IsSource files source → LinksOptions files source
    → ((file : ℕ) → HasOptionsIn files source file → IsPresent files file)
    → (name : List ℕ) (message : DeclaredPlace) → IsMessageNamed files name message
    → HasOptionsIn files source message.file → IsOptionsMessage files source name message

-- A plain name names the field of that simple name which the message declares that it is looked up in, but for a group in
-- braces.
abbrev pub EachFieldIsNamed : Type 0
EachFieldIsNamed = (files : List File) (known : List OptionFacts) (source : ℕ) (text : List ℕ) (option : FileOption)
    (number : ℕ) (name : OptionName) (context : Context) (message field : DeclaredPlace) (word : List ℕ)
    (fact : FieldFact) → slice_get option.setting.names number ≡ Some name → name.role ≡ role.Field
    → HasWords text name (word ∷ []) → StandsIn files known source text option number context
    → HasFieldsOf files source option context message → IsOwnField files known message word field fact
    → (option.setting.parts ≤ number → fact.kind ≢ kinds.Group)
    → NamesPlace files known source text option number name field
