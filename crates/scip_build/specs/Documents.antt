-- The documents of sources that were read, and why they aren't made.
use Rattle.std.specs.Prelude.{◌≡◌, ◌↔◌, ◌<◌, ◌⊎◌, ℕ, ⊤, Result, Ok, Err, Some, List, [], length, map, Contains}
use Rattle.std.specs.Prelude.{MatchResult, Bool, true, false, Option, None}
use Rattle.std.specs.declared.cmp.Ordering.TheVariants.{Less}
use Rattle.std.specs.Ordering.{nat_cmp}
use Rattle.std.specs.Cmp.Lexicographic.{slice_cmp}
use Rattle.std.specs.List.{slice_get}
use Rattle.std.specs.Option.{unwrap_or}
use Rattle.proto_decl.specs.Facts.{Facts}
use Rattle.proto_decl.specs.declared.uses.Use.{Use}
use Rattle.proto_link.specs.Targets.{IsUnresolved, IsUseFault}
use Rattle.proto_link.specs.Uncertain.{IsUncertain}
use Rattle.proto_link.specs.declared.uncertain_use.UncertainUse.{UncertainUse}
use Rattle.proto_visibility.specs.declared.fault.LinkFault.{LinkFault}
use Rattle.proto_visibility.specs.declared.fault.LinkFault.TheVariants as link
use Rattle.proto_visibility.specs.declared.files.FilePlace.{FilePlace}
use Rattle.proto_visibility.specs.Files.{File, HasFacts, IsSource}
use Rattle.scip_records.specs.declared.records.Document.{Document}
use Rattle.scip_model.specs.Chosen.{Chosen, HaveChoices}
use Rattle.scip_model.specs.Conditions.{HaveGoodPaths, IsResolved, AllResolve, IsFirstUnresolved, UsesResolve, HasText}
use Rattle.scip_model.specs.Indexes.{IsAscendingListOf, IsDocumentWith, document_cmp, HasDocumentWith}
use Rattle.scip_model.specs.Indexes.{HaveDocumentsWith}
use Rattle.scip_model.specs.Options.{AreOptionGapsIf, AreUncertainNamesIf, HasGapIf, HasUncertainIf}
use Rattle.scip_build.specs.declared.settings.Settings.{Settings}
use Rattle.scip_model.specs.Conditions.{AreUnresolvedUses}
use Rattle.scip_model.specs.declared.source_document.PlannedWithOptions.{PlannedWithOptions}
use Rattle.option_link.specs.declared.facts.OptionFacts.{OptionFacts}
use Rattle.option_link.specs.Beside.{nothing_beside}
use Rattle.scip_build.specs.Parsed.{asks_options}
use Rattle.scip_build.specs.declared.faulty.Faulty.{Faulty}
use Rattle.scip_build.specs.declared.faulty.Faulty.TheVariants.{Refuse}
use Rattle.scip_build.specs.declared.fault.FileFault.{FileFault}
use Rattle.scip_build.specs.declared.fault.BuildFault.{BuildFault}
use Rattle.scip_build.specs.declared.fault.BuildFault.TheVariants as build
use Rattle.scip_build.specs.declared.source_document.NoDocument.{NoDocument}
use Rattle.scip_build.specs.declared.source_document.NoDocument.TheVariants as lacking
use Rattle.scip_build.specs.Files.{FileContents, ReadFile}

-- a file's text; none if it has no contents
abbrev pub text_in : Result FileContents FileFault → List ℕ
text_in (Ok contents) = contents.text
text_in (Err fault) = []

abbrev pub text_of : ReadFile → List ℕ
text_of parsed_file = text_in parsed_file.contents

abbrev pub texts_of : List ReadFile → List (List ℕ)
texts_of parsed = map text_of parsed

-- what is known of a file beside its facts; nothing, if it has no contents
abbrev pub beside_in : Result FileContents FileFault → OptionFacts
beside_in (Ok contents) = unwrap_or contents.beside nothing_beside
beside_in (Err fault) = nothing_beside

abbrev pub known_in : List ReadFile → List OptionFacts
known_in parsed = map (λ (parsed_file : ReadFile). beside_in parsed_file.contents) parsed

-- the same, if names in options are linked
abbrev pub asked_if : (asks : Bool) → List ReadFile → Option (List OptionFacts)
asked_if false parsed = None
asked_if true parsed = Some (known_in parsed)

-- by the settings
abbrev pub asks_in : Settings → Bool
asks_in settings = asks_options settings.dialect settings.options

abbrev pub asked_in : Settings → List ReadFile → Option (List OptionFacts)
asked_in settings parsed = asked_if (asks_in settings) parsed

-- the file with this number has contents, with this text
pub record HasReadText (parsed : List ReadFile) (number : ℕ) (text : List ℕ) : Type 0 where
  pub parsed_file : ReadFile
  pub contents : FileContents
  pub numbered : slice_get parsed number ≡ Some parsed_file
  pub read : parsed_file.contents ≡ Ok contents
  pub text_is : contents.text ≡ text

abbrev pub IsRead : List ReadFile → (number : ℕ) → Type 0
IsRead parsed number = (text : List ℕ) × HasReadText parsed number text

-- What is asked of the linker's files, of the parsed files and of the choices for documents of the sources, so many, to
-- be made.
pub record AreReady (parsed : List ReadFile) (files : List File) (chosen : Chosen) (count : ℕ) : Type 0 where
  pub sources : (number : ℕ) → (number < count) ↔ IsSource files number
  pub read : (number : ℕ) → number < count → IsRead parsed number
  pub texts : (number : ℕ) (text : List ℕ) → HasReadText parsed number text → HasText files number text
  pub good : HaveGoodPaths files
  pub rising : (lesser number : ℕ) (a b : File) → lesser < number → number < count → slice_get files lesser ≡ Some a
      → slice_get files number ≡ Some b
      → slice_cmp nat_cmp a.path b.path ≡ Less
  pub choices : HaveChoices files chosen
  pub one_text_each : length (texts_of parsed) ≡ length files

-- what the second phase works on
pub record SourceWork : Type 0 where
  pub parsed : List ReadFile
  pub files : List File
  pub chosen : Chosen
  pub settings : Settings
  pub count : ℕ

-- The document of the source with this number, its uses that name no type, and the gaps and the uncertain names of its
-- options, if names in options are linked. There are no such uses if they are refused.
pub record IsDocumentAt (parsed : List ReadFile) (files : List File) (chosen : Chosen) (settings : Settings)
    (number : ℕ) (made : PlannedWithOptions) : Type 0 where
  pub text : List ℕ
  pub has_text : HasReadText parsed number text
  pub is : IsDocumentWith (asked_in settings parsed) files chosen settings.package settings.encoding number text
      made.planned.document
  pub unresolved_uses : AreUnresolvedUses files number made.planned.unresolved
  pub option_gaps : AreOptionGapsIf (asked_in settings parsed) files number text made.option_gaps
  pub uncertain_names : AreUncertainNamesIf (asked_in settings parsed) files number text made.uncertain_names
  pub refused : settings.faulty ≡ Refuse → made.planned.unresolved ≡ []

-- why a source has no document: its first use that names no type, if such are refused; nothing is said about memory
abbrev pub MayRefuseSource : Faulty → List File → (number : ℕ) → NoDocument → Type 0
MayRefuseSource faulty files number lacking.Memory = ⊤
MayRefuseSource faulty files number (lacking.Unresolved span) = (faulty ≡ Refuse) × IsFirstUnresolved files number span

-- some use at this place is ambiguous
abbrev pub IsAmbiguousAt : List File → FilePlace → Type 0
IsAmbiguousAt files place = IsUseFault files place.file (link.Ambiguous place)

-- the fault of a build that stops since the source with this number has no document
abbrev pub fault_of_source : (number : ℕ) → NoDocument → BuildFault
fault_of_source number lacking.Memory = build.Memory
fault_of_source number (lacking.Unresolved span) = build.Unresolved (record { file = number; span = span })

-- what the making of a document gives
abbrev pub GivesDocument : List ReadFile → List File → Chosen → Settings → (number : ℕ)
    → Result PlannedWithOptions NoDocument → Type 0
GivesDocument parsed files chosen settings number result =
    MatchResult result (IsDocumentAt parsed files chosen settings number)
    (MayRefuseSource settings.faulty files number)

-- each use of each source names a type, or none
abbrev pub AllAreDecided : List File → Type 0
AllAreDecided files = (source : ℕ) (facts : Facts) (type_use : Use) → IsSource files source
    → HasFacts files source facts → Contains facts.uses type_use
    → IsResolved files source type_use ⊎ IsUnresolved files source type_use

-- a use at this place of a source names no type
pub record IsUnresolvedAt (files : List File) (place : FilePlace) : Type 0 where
  pub source : IsSource files place.file
  pub facts : Facts
  pub known : HasFacts files place.file facts
  pub type_use : Use
  pub listed : Contains facts.uses type_use
  pub stands : type_use.span ≡ place.span
  pub unresolved : IsUnresolved files place.file type_use

-- a use of the source in which this place is names nothing, for this
abbrev pub IsToldUse : List File → FilePlace → LinkFault → Type 0
IsToldUse files place fault = IsSource files place.file × IsUseFault files place.file fault

-- where names in options are linked: an option of a source has its gap at this place
pub record IsGapAt (asked : Option (List OptionFacts)) (parsed : List ReadFile) (files : List File)
    (place : FilePlace) : Type 0 where
  pub source : IsSource files place.file
  pub text : List ℕ
  pub has_text : HasReadText parsed place.file text
  pub gap : HasGapIf asked files place.file text place.span

-- where names in options are linked: the uncertain name of an option of a source is at this place, behind this file
pub record IsUncertainNameAt (asked : Option (List OptionFacts)) (parsed : List ReadFile) (files : List File)
    (name : UncertainUse) : Type 0 where
  pub source : IsSource files name.place.file
  pub text : List ℕ
  pub has_text : HasReadText parsed name.place.file text
  pub uncertain : HasUncertainIf asked files name.place.file text
      (record { span = name.place.span; behind = name.behind })

-- a use of a source is uncertain, or a name in an option of one
abbrev pub IsUncertainAt : (asked : Option (List OptionFacts)) → List ReadFile → List File → UncertainUse → Type 0
IsUncertainAt asked parsed files uncertain =
    IsUncertain files uncertain ⊎ IsUncertainNameAt asked parsed files uncertain

-- no option of a source has a gap
abbrev pub HaveNoGaps : (asked : Option (List OptionFacts)) → List ReadFile → List File → Type 0
HaveNoGaps asked parsed files = (place : FilePlace) → IsGapAt asked parsed files place → ⊥

-- The documents of all sources, one of each, by path, all uses of the sources that name no type, and all gaps and
-- uncertain names of their options, if names in options are linked. There are no such uses if they are refused.
pub record AreDocuments (parsed : List ReadFile) (files : List File) (chosen : Chosen) (settings : Settings)
    (documents : List Document) (unresolved_uses option_gaps : List FilePlace) (uncertain_names : List UncertainUse)
    : Type 0 where
  pub decided : AllAreDecided files
  pub unresolved : (place : FilePlace) → Contains unresolved_uses place ↔ IsUnresolvedAt files place
  pub gaps : (place : FilePlace) → Contains option_gaps place ↔ IsGapAt (asked_in settings parsed) parsed files place
  pub names : (name : UncertainUse) → Contains uncertain_names name
      ↔ IsUncertainNameAt (asked_in settings parsed) parsed files name
  pub refused : settings.faulty ≡ Refuse → AllResolve files × (unresolved_uses ≡ [])
  pub list : IsAscendingListOf document_cmp (HasDocumentWith (asked_in settings parsed) files (texts_of parsed) chosen
      settings.package settings.encoding) documents
  pub each : HaveDocumentsWith (asked_in settings parsed) files (texts_of parsed) chosen settings.package
      settings.encoding documents

-- the first use that names no type, of the first source in which one does
pub record IsLeastUnresolved (files : List File) (place : FilePlace) : Type 0 where
  pub source : IsSource files place.file
  pub first : IsFirstUnresolved files place.file place.span
  pub before : (lesser : ℕ) → lesser < place.file → IsSource files lesser → UsesResolve files lesser

-- a place comes before another: it is in a lower file, or in the same one and starts before it, or ends before it if
-- both start at once
abbrev pub ComesBefore : (place other : FilePlace) → Type 0
ComesBefore place other = (place.file < other.file) ⊎ ((place.file ≡ other.file)
    × ((place.span.start < other.span.start) ⊎ ((place.span.start ≡ other.span.start)
    × (place.span.end < other.span.end))))

-- the first of the places of which this holds
pub record IsFirstPlace (Holds : FilePlace → Type 0) (place : FilePlace) : Type 0 where
  pub holds : Holds place
  pub first : (other : FilePlace) → Holds other → ComesBefore other place → ⊥

-- the first gap of an option, where each use names a type
pub record IsLeastGap (asked : Option (List OptionFacts)) (parsed : List ReadFile) (files : List File)
    (place : FilePlace) : Type 0 where
  pub resolved : AllResolve files
  pub least : IsFirstPlace (IsGapAt asked parsed files) place

-- Why the documents aren't made: a use, if such are refused. A thread is refused only if one is to be started;
-- nothing is said about memory.
pub data MayRefuseDocuments (faulty : Faulty) (files : List File) (workers : ℕ) : BuildFault → Type 0 where
  documents_lack_thread : 1 < workers → MayRefuseDocuments faulty files workers build.Spawn
  documents_lack_memory : MayRefuseDocuments faulty files workers build.Memory
  first_is_unresolved : {place : FilePlace} → faulty ≡ Refuse → IsLeastUnresolved files place
      → MayRefuseDocuments faulty files workers (build.Unresolved place)

-- Of a use that names nothing it is told whether it is ambiguous; nothing is said about memory.
abbrev pub IsToldFor : List File → (fault told : BuildFault) → Type 0
IsToldFor files (build.Unresolved place) told =
    ((told ≡ build.Unresolved place) × (IsAmbiguousAt files place → ⊥))
    ⊎ (((told ≡ build.Ambiguous place) × IsAmbiguousAt files place) ⊎ (told ≡ build.Memory))
IsToldFor files fault told = told ≡ fault

-- why linked files make nothing: of the first use that names nothing, if such are refused, it is told whether it is
-- ambiguous; if there is none, it is the first gap of an option
pub data MayRefuseLinked (faulty : Faulty) (asked : Option (List OptionFacts)) (parsed : List ReadFile)
    (files : List File) (workers : ℕ) : BuildFault → Type 0 where
  linked_lack_thread : 1 < workers → MayRefuseLinked faulty asked parsed files workers build.Spawn
  linked_lack_memory : MayRefuseLinked faulty asked parsed files workers build.Memory
  least_is_unresolved : {place : FilePlace} → faulty ≡ Refuse → IsLeastUnresolved files place
      → (IsAmbiguousAt files place → ⊥) → MayRefuseLinked faulty asked parsed files workers (build.Unresolved place)
  least_is_ambiguous : {place : FilePlace} → faulty ≡ Refuse → IsLeastUnresolved files place
      → IsAmbiguousAt files place → MayRefuseLinked faulty asked parsed files workers (build.Ambiguous place)
  least_is_gap : {place : FilePlace} → faulty ≡ Refuse → IsLeastGap asked parsed files place
      → MayRefuseLinked faulty asked parsed files workers (build.OptionGap place)
