-- A tree is built, or has one fault of its files.
use Rattle.std.proofs.Common.{◌≡◌, ◌≢◌, ◌∙◌, ◌⊎◌, sym, ap, refl, subst, inl, inr, ℕ, ◌<◌, Some, Result, List, [], ◌∷◌}
use Rattle.std.proofs.Common.{◌++◌, length, Option}
use Rattle.std.specs.List.{All, Contains, slice_get}
use Rattle.std.proofs.lemmas.Bool.{cases_order}
use Rattle.std.proofs.lemmas.Option.{same_Some, slice_get_within}
use Rattle.std.proofs.lemmas.List.Elements.{All-head, All-tail, Contains-push, Contains-append_left}
use Rattle.std.proofs.lemmas.List.Elements.{Contains-append_right}
use Rattle.basics.proofs.ListLemmas.{item_at}
use Rattle.proto_parse.specs.dialect.Dialect.{Dialect}
use Rattle.proto_lex.specs.declared.span.Span.{Span}
use Rattle.proto_decl.specs.Facts.{Facts}
use Rattle.proto_decl.specs.Values.{Seen}
use Rattle.proto_decl.specs.declared.uses.Use.{Use}
use Rattle.index_hooks.specs.declared.choice.Choice.{Choice}
use Rattle.proto_visibility.specs.declared.clash.Duplicates.{Duplicates}
use Rattle.proto_visibility.specs.Files.{File, HaveOrigins}
use Rattle.proto_visibility.specs.declared.clash.Duplicates.TheVariants as names
use Rattle.proto_visibility.specs.Clashes.{Clash, NoClash}
use Rattle.proto_link.specs.Laws.{OneRefusal}
use Rattle.proto_visibility.specs.Linked.{CanBeLinked, MayRefuse}
use Rattle.proto_visibility.specs.Linked.MayRefuse.{broken_file, clashing, absent_import, lacks_memory}
use Rattle.proto_visibility.specs.declared.files.FilePlace.{FilePlace}
use Rattle.proto_visibility.specs.declared.fault.LinkFault.{LinkFault}
use Rattle.proto_visibility.specs.declared.fault.LinkFault.TheVariants as link
use Rattle.scip_build.specs.FactForms.{form_of}
use Rattle.scip_model.specs.Conditions.{IsResolved, AllResolve, IsFirstUnresolved, UsesResolve}
use Rattle.source_tree.specs.Files.{TreeFile}
use Rattle.scip_build.specs.declared.settings.Settings.{Settings}
use Rattle.scip_build.specs.declared.faulty.Faulty.{Faulty}
use Rattle.scip_build.specs.declared.faulty.Faulty.TheVariants.{Refuse}
use Rattle.scip_build.specs.declared.fault.FileFault.{FileFault}
use Rattle.scip_build.specs.declared.fault.BuildFault.{BuildFault}
use Rattle.scip_build.specs.declared.fault.BuildFault.TheVariants as build
use Rattle.scip_build.specs.Parsed.{IsUnreadable}
use Rattle.option_link.specs.declared.facts.OptionFacts.{OptionFacts}
use Rattle.scip_build.specs.Files.{FileContents, ReadFile}
use Rattle.scip_build.specs.ParsedFiles.{HasContents, AreParsedFiles, IsFirstFaulty}
use Rattle.scip_build.specs.Linking.{linked_files}
use Rattle.scip_build.specs.Linking.MayRefuseParsed.{is_unread, is_duplicate, is_missing}
use Rattle.scip_build.specs.Documents.{asked_in, asks_in, HaveNoGaps, IsAmbiguousAt, IsLeastGap, IsLeastUnresolved}
use Rattle.scip_build.specs.Builds.{OfParsed, IsBuildFault}
use Rattle.scip_build.specs.Laws.{OneFileFault, OneFirstFaulty, OneLinking, NoParsedFilesWhereFaulty}
use Rattle.scip_build.specs.Laws.{NoFactsWhereUnreadable, OneBesideAFile}
use Rattle.scip_build.specs.BuildLaws.{cause_of, BuiltHasNoFault, OneBuildFault}
use Rattle.scip_build.proofs.OptionGapLemmas.{least_too, one_least, reads_of, same_asked}
use Rattle.scip_build.proofs.ReadAlikeLemmas.{same_known, same_reads}
use Rattle.scip_build.proofs.ReadyLemmas.{whole_at, have_origins}

in_middle : {X : Type 0} (before : List X) (x : X) (behind : List X) → Contains (before ++ x ∷ behind) x
in_middle before x behind =
    Contains-append_right before (x ∷ behind) x (Contains-append_left (x ∷ []) behind x (Contains-push [] x))

abbrev head_or : {X : Type 0} → X → List X → X
head_or other [] = other
head_or other (x ∷ xs) = x

abbrev tail_of : {X : Type 0} → List X → List X
tail_of [] = []
tail_of (x ∷ xs) = xs

-- of one list, the first item that isn't so is one
one_first : {X : Type 0} (P : X → Type 0) (before : List X) (x : X) (behind other : List X) (y : X) (others : List X)
    → All P before → All P other → (P x → ⊥) → (P y → ⊥)
    → before ++ x ∷ behind ≡ other ++ y ∷ others → x ≡ y
one_first P [] x behind [] y others all also not nor same = ap (head_or x) same
one_first P [] x behind (z ∷ other) y others all also not nor same =
    absurd (not (subst P (sym (ap (head_or x) same)) (All-head P z other also)))
one_first P (z ∷ before) x behind [] y others all also not nor same =
    absurd (nor (subst P (ap (head_or z) same) (All-head P z before all)))
one_first P (z ∷ before) x behind (w ∷ other) y others all also not nor same =
    one_first P before x behind other y others (All-tail P z before all) (All-tail P w other also) not nor
    (ap tail_of same)

-- files without a clash have no first one
no_clash : (duplicates : Duplicates) (files : List File) (first second : FilePlace) → NoClash duplicates files
    → Clash duplicates files first second → ⊥
no_clash names.Refuse files first second clear clash = clear clash.earlier clash.later clash.exclude
no_clash names.Keep files first second clear clash =
    clear clash.number clash.is_reachable clash.clash.earlier clash.clash.later clash.clash.exclude

module _ (files : List File) where
  -- a file of which each use names a type has no first one that doesn't
  none_first : (file : ℕ) (span : Span) → UsesResolve files file → IsFirstUnresolved files file span → ⊥
  none_first file span all first =
      let Has : List Use → Type 0 = λ uses. Contains uses first.type_use in
      let named = all first.facts first.type_use first.known
      (subst Has (sym first.split) (in_middle first.before first.type_use first.behind)) in
      first.unresolved named.0 named.1 named.2

  all_resolve : AllResolve files → (place : FilePlace) → IsLeastUnresolved files place → ⊥
  all_resolve all place least =
      none_first place.file place.span (λ facts type_use. all place.file facts type_use least.source) least.first

  one_span : (file : ℕ) (a b : Span) → IsFirstUnresolved files file a → IsFirstUnresolved files file b → a ≡ b
  one_span file a b first second =
      let same_file : first.known.file ≡ second.known.file =
      same_Some first.known.file second.known.file (sym first.known.numbered ∙ second.known.numbered) in
      let facts : first.facts ≡ second.facts =
      same_Some first.facts second.facts
      (sym first.known.known ∙ (ap (λ (f : File). f.facts) same_file ∙ second.known.known)) in
      let lists = sym first.split ∙ (ap (λ (f : Facts). f.uses) facts ∙ second.split) in
      let uses = one_first (IsResolved files file) first.before first.type_use first.behind second.before
      second.type_use second.behind first.resolved second.resolved
      (λ named. first.unresolved named.0 named.1 named.2) (λ named. second.unresolved named.0 named.1 named.2) lists in
      sym first.place ∙ (ap (λ (u : Use). u.span) uses ∙ second.place)

  not_before : (place other : FilePlace) → IsLeastUnresolved files place → IsLeastUnresolved files other
      → place.file < other.file → ⊥
  not_before place other first second less =
      none_first place.file place.span (second.before place.file less first.source) first.first

  same_file : (place other : FilePlace) → IsLeastUnresolved files place → IsLeastUnresolved files other
      → place.file ≡ other.file
  same_file place other first second = elim (cases_order place.file other.file) [
    | inl same ↦ same
    | inr apart ↦ elim apart [
      | inl less ↦ absurd (not_before place other first second less)
      | inr more ↦ absurd (not_before other place second first more)
    ]
  ]

  one_place : (place other : FilePlace) → IsLeastUnresolved files place → IsLeastUnresolved files other → place ≡ other
  one_place place other first second =
      let file = same_file place other first second in
      let There : ℕ → Type 0 = λ k. IsFirstUnresolved files k other.span in
      let span = one_span place.file place.span other.span first.first (subst There (sym file) second.first) in
      λ i. record { file = file i; span = span i }

  -- why the use at a place is refused
  abbrev IsReasonAt : FilePlace → LinkFault → Type 0
  IsReasonAt place fault = ((fault ≡ link.Unresolved place) × (IsAmbiguousAt files place → ⊥))
      ⊎ ((fault ≡ link.Ambiguous place) × IsAmbiguousAt files place)

  one_reason : (place other : FilePlace) (a b : LinkFault) → place ≡ other → IsReasonAt place a → IsReasonAt other b
      → a ≡ b
  one_reason place other a b same (inl first) (inl second) = first.0 ∙ (ap link.Unresolved same ∙ sym second.0)
  one_reason place other a b same (inl first) (inr second) =
      absurd (first.1 (subst (IsAmbiguousAt files) (sym same) second.1))
  one_reason place other a b same (inr first) (inl second) =
      absurd (second.1 (subst (IsAmbiguousAt files) same first.1))
  one_reason place other a b same (inr first) (inr second) = first.0 ∙ (ap link.Ambiguous same ∙ sym second.0)

-- what refuses files: a fault of the linker, or the gap of an option at a place
abbrev Cause : Type 0
Cause = LinkFault ⊎ FilePlace

abbrev NoMemory : Cause → Type 0
NoMemory cause = cause ≢ inl link.Memory

module _ (asked : Option (List OptionFacts)) (parsed : List ReadFile) (files : List File) where
  -- what has no target, and is refused for it: the first use, or else the first gap of an option
  abbrev IsLacking : Cause → Type 0
  IsLacking (inl fault) = (place : FilePlace) × IsReasonAt files place fault × IsLeastUnresolved files place
  IsLacking (inr place) = IsLeastGap asked parsed files place

  one_lacking : (a b : Cause) → IsLacking a → IsLacking b → a ≡ b
  one_lacking (inl a) (inl b) first second =
      ap inl
      (one_reason files first.0 second.0 a b (one_place files first.0 second.0 first.2 second.2) first.1 second.1)
  one_lacking (inl a) (inr b) first second = absurd (all_resolve files second.resolved first.0 first.2)
  one_lacking (inr a) (inl b) first second = absurd (all_resolve files first.resolved second.0 second.2)
  one_lacking (inr a) (inr b) first second = ap inr (one_least asked parsed files a b first second)

  none_lacking : AllResolve files → HaveNoGaps asked parsed files → (cause : Cause) → IsLacking cause → ⊥
  none_lacking all filled (inl fault) lacks = all_resolve files all lacks.0 lacks.2
  none_lacking all filled (inr place) gap = filled place gap.least.holds

module _ (duplicates : Duplicates) (asked : Option (List OptionFacts)) (parsed : List ReadFile)
    (files : List File) where
  -- the linker refuses the files
  abbrev RefusesToLink : Cause → Type 0
  RefusesToLink cause = (fault : LinkFault) × (cause ≡ inl fault) × MayRefuse duplicates files fault

  -- why the files make no index
  abbrev Refuses : Cause → Type 0
  Refuses cause = RefusesToLink cause ⊎ (CanBeLinked duplicates files × IsLacking asked parsed files cause)

  linked_is_linked : CanBeLinked duplicates files → (fault : LinkFault) → MayRefuse duplicates files fault
      → fault ≢ link.Memory → ⊥
  linked_is_linked can _ (broken_file {number = number} wrong) other = can.read number wrong.unread
  linked_is_linked can _ (clashing {first = first} {second = second} read clash) other =
      no_clash duplicates files first second can.clear clash
  linked_is_linked can _ (absent_import {place = place} read clear absent) other = can.complete place absent.missing
  linked_is_linked can _ lacks_memory other = absurd (other refl)

  -- files that can be linked aren't refused by the linker
  linked_cause : CanBeLinked duplicates files → (cause : Cause) → RefusesToLink cause → NoMemory cause → ⊥
  linked_cause can cause refuses not =
      linked_is_linked can refuses.0 refuses.2 (λ memory. not (refuses.1 ∙ ap inl memory))

  one_cause : OneRefusal → HaveOrigins files → (a b : Cause) → Refuses a → Refuses b → NoMemory a → NoMemory b
      → a ≡ b
  one_cause one origins a b (inl first) (inl second) not nor =
      first.1 ∙ (ap inl (one duplicates files origins first.0 second.0 first.2 second.2
      (λ memory. not (first.1 ∙ ap inl memory)) (λ memory. nor (second.1 ∙ ap inl memory))) ∙ sym second.1)
  one_cause one origins a b (inl first) (inr second) not nor = absurd (linked_cause second.0 a first not)
  one_cause one origins a b (inr first) (inl second) not nor = absurd (linked_cause first.0 b second nor)
  one_cause one origins a b (inr first) (inr second) not nor =
      one_lacking asked parsed files a b first.1 second.1

  -- and why they do make one
  none_refuses : CanBeLinked duplicates files → AllResolve files → HaveNoGaps asked parsed files → (cause : Cause)
      → Refuses cause → NoMemory cause → ⊥
  none_refuses can all filled cause (inl first) not = linked_cause can cause first not
  none_refuses can all filled cause (inr later) not = none_lacking asked parsed files all filled cause later.1

-- the same of files that were read alike
refuses_too : (duplicates : Duplicates) (asked other : Option (List OptionFacts)) (parsed again : List ReadFile)
    (files others : List File) → asked ≡ other → reads_of parsed ≡ reads_of again → files ≡ others
    → (cause : Cause) → Refuses duplicates asked parsed files cause → Refuses duplicates other again others cause
refuses_too duplicates asked other parsed again files others asked_are reads files_are cause (inl is) =
    inl (is.0, is.1, subst (λ fs. MayRefuse duplicates fs is.0) files_are is.2)
refuses_too duplicates asked other parsed again files others asked_are reads files_are (inl fault) (inr (can, lacks)) =
    inr (
      subst (CanBeLinked duplicates) files_are can,
      (
        lacks.0,
        subst (λ fs. IsReasonAt fs lacks.0 fault) files_are lacks.1,
        subst (λ fs. IsLeastUnresolved fs lacks.0) files_are lacks.2,
      ),
    )
refuses_too duplicates asked other parsed again files others asked_are reads files_are (inr place) (inr (can, gap)) =
    inr (
      subst (CanBeLinked duplicates) files_are can,
      least_too asked other parsed again files others asked_are reads files_are place gap,
    )

-- a fault's reason: the first source that can't be read, or one of files that were read
abbrev Reason : Settings → (allows : Seen → Choice → Type 0) → List TreeFile → Cause → Type 0
Reason settings allows tree cause =
    ((number : ℕ) × (fault : FileFault) × (cause ≡ inl (link.Broken number))
    × IsFirstFaulty settings.dialect tree number fault)
    ⊎ OfParsed settings.dialect (form_of settings) allows tree
    (λ parsed. Refuses settings.duplicates (asked_in settings parsed) parsed (linked_files parsed) cause)

-- the cause of a fault: that of a gap is apart
abbrev cause_in : BuildFault → Cause
cause_in (build.OptionGap place) = inr place
cause_in fault = inl (cause_of fault)

-- a fault that names something has a cause that does
names_in : (fault : BuildFault) → cause_of fault ≢ link.Memory → NoMemory (cause_in fault)
names_in build.Spawn not = absurd (not refl)
names_in build.Memory not = absurd (not refl)
names_in (build.File number fault) not = λ memory. cc
names_in (build.Duplicate first second) not = λ memory. cc
names_in (build.MissingImport place) not = λ memory. cc
names_in (build.Unresolved place) not = λ memory. cc
names_in (build.Ambiguous place) not = λ memory. cc
names_in (build.OptionGap place) not = λ memory. cc

reason : (settings : Settings) (allows : Seen → Choice → Type 0) (tree : List TreeFile) (workers : ℕ)
    (fault : BuildFault) → IsBuildFault allows settings tree workers fault
    → NoMemory (cause_in fault) → (settings.faulty ≡ Refuse) × Reason settings allows tree (cause_in fault)
reason settings allows tree workers build.Spawn is not = absurd (not refl)
reason settings allows tree workers build.Memory is not = absurd (not refl)
reason settings allows tree workers (build.File number fault) (refuse, inl first) not =
    (refuse, inl (number, fault, refl, first))
reason settings allows tree workers (build.File number fault)
    (refuse, inr (parsed, are, is_unread broken has)) not =
    (refuse, inr (parsed, are, inl (link.Broken number, refl, broken_file broken)))
reason settings allows tree workers (build.Duplicate first second) (refuse, (parsed, are, is_duplicate is))
    not = (refuse, inr (parsed, are, inl (link.Duplicate first second, refl, is)))
reason settings allows tree workers (build.MissingImport place) (refuse, (parsed, are, is_missing is)) not =
    (refuse, inr (parsed, are, inl (link.MissingImport place, refl, is)))
reason settings allows tree workers (build.Unresolved place) (refuse, (parsed, are, (can, least, is))) not =
    (refuse, inr (parsed, are, inr (can, (place, inl (refl, is), least))))
reason settings allows tree workers (build.Ambiguous place) (refuse, (parsed, are, (can, least, is))) not =
    (refuse, inr (parsed, are, inr (can, (place, inr (refl, is), least))))
reason settings allows tree workers (build.OptionGap place) (refuse, (parsed, are, (can, gap))) not =
    (refuse, inr (parsed, are, inr (can, gap)))

-- two faults of a build have one cause
abbrev OneCause : (allows others : Seen → Choice → Type 0) → Type 0
OneCause allows others =
    (settings : Settings) (tree : List TreeFile) (workers more : ℕ) (fault other : BuildFault)
    → IsBuildFault allows settings tree workers fault → IsBuildFault others settings tree more other
    → NoMemory (cause_in fault) → NoMemory (cause_in other) → cause_in fault ≡ cause_in other

module _ (apart : NoFactsWhereUnreadable) (one_beside : OneBesideAFile) (allows others : Seen → Choice → Type 0)
    (one_linking : OneLinking allows others) (none : NoParsedFilesWhereFaulty allows)
    (none_others : NoParsedFilesWhereFaulty others) where
  -- what refuses one reading of a tree refuses another
  refuses_again : (settings : Settings) (tree : List TreeFile) (parsed again : List ReadFile)
      → AreParsedFiles Refuse settings.dialect (form_of settings) allows tree parsed
      → AreParsedFiles Refuse settings.dialect (form_of settings) others tree again → (cause : Cause)
      → Refuses settings.duplicates (asked_in settings again) again (linked_files again) cause
      → Refuses settings.duplicates (asked_in settings parsed) parsed (linked_files parsed) cause
  refuses_again settings tree parsed again are also cause refuses =
      let files = one_linking Refuse Refuse settings.dialect (form_of settings) tree parsed again are also in
      let reads = same_reads apart allows others Refuse Refuse settings.dialect (form_of settings) tree parsed again are
      also in
      let known = same_known apart allows others Refuse Refuse settings.dialect (form_of settings) tree parsed again are
      also one_beside in
      refuses_too settings.duplicates (asked_in settings again) (asked_in settings parsed) again parsed
      (linked_files again) (linked_files parsed) (sym (same_asked (asks_in settings) parsed again known)) (sym reads)
      (sym files) cause refuses

  pub built_has_no_fault : BuiltHasNoFault allows others
  built_has_no_fault settings tree workers built fault is wrong not =
      let names = names_in fault not in
      let why = reason settings others tree workers fault wrong names in
      let Read : Faulty → Type 0 = λ f. AreParsedFiles f settings.dialect (form_of settings) allows tree is.all in
      let read : Read Refuse = subst Read why.0 is.read in
      let good = is.of_files.refused why.0 in
      elim why.1 [
        | inl first ↦ none settings.dialect (form_of settings) tree is.all first.0 first.1 read first.3
        | inr later ↦ (
            let here = refuses_again settings tree is.all later.0 read later.1 (cause_in fault) later.2 in
            none_refuses settings.duplicates (asked_in settings is.all) is.all (linked_files is.all) good.linked
            good.resolved good.filled (cause_in fault) here names)
      ]

  cause_is_one : OneFirstFaulty → OneRefusal → OneCause allows others
  cause_is_one one_first one_refusal settings tree workers more fault other is also not nor =
      both (reason settings allows tree workers fault is not).1 (reason settings others tree more other also nor).1
    where
      both : Reason settings allows tree (cause_in fault) → Reason settings others tree (cause_in other)
          → cause_in fault ≡ cause_in other
      both (inl a) (inl b) =
          a.2 ∙ (ap (λ n. inl (link.Broken n)) (one_first settings.dialect tree a.0 b.0 a.1 b.1 a.3 b.3) ∙ sym b.2)
      both (inl a) (inr b) = absurd (none_others settings.dialect (form_of settings) tree b.0 a.0 a.1 b.1 a.3)
      both (inr a) (inl b) = absurd (none settings.dialect (form_of settings) tree a.0 b.0 b.1 a.1 b.3)
      both (inr a) (inr b) =
          let here = refuses_again settings tree a.0 b.0 a.1 b.1 (cause_in other) b.2 in
          let origins = have_origins a.0 (whole_at Refuse settings.dialect (form_of settings) allows tree a.0 a.1) in
          one_cause settings.duplicates (asked_in settings a.0) a.0 (linked_files a.0) one_refusal origins
          (cause_in fault) (cause_in other) a.2
          here not nor

-- the file that is named can't be read, for the fault that is told
record IsNamed (dialect : Dialect) (tree : List TreeFile) (number : ℕ) (fault : FileFault) : Type 0 where
  file : TreeFile
  numbered : slice_get tree number ≡ Some file
  unreadable : IsUnreadable dialect file.is_unread file.text fault

named : (settings : Settings) (allows : Seen → Choice → Type 0) (tree : List TreeFile) (workers number : ℕ)
    (fault : FileFault) → IsBuildFault allows settings tree workers (build.File number fault)
    → IsNamed settings.dialect tree number fault
named settings allows tree workers number fault (refuse, inl first) =
    record { file = first.file; numbered = first.numbered; unreadable = first.faulty.unreadable }
named settings allows tree workers number fault (refuse, inr (parsed, are, is_unread broken has)) =
    let within : number < length tree =
    rw (sym are.one_each) (slice_get_within parsed number has.parsed_file has.numbered) in
    let there = item_at tree number within in
    let Contents : Result FileContents FileFault → Type 0 =
    HasContents Refuse settings.dialect (form_of settings) allows number there.0 in
    let contents = subst Contents has.unread (are.each number there.0 has.parsed_file there.1 has.numbered).contents in
    record { file = there.0; numbered = there.1; unreadable = contents.1 }

-- two faults of the file that is named are one
file_fault_is_one : OneFileFault → (allows others : Seen → Choice → Type 0) (settings : Settings)
    (tree : List TreeFile) (workers more number : ℕ) (fault other : FileFault)
    → IsBuildFault allows settings tree workers (build.File number fault)
    → IsBuildFault others settings tree more (build.File number other) → fault ≡ other
file_fault_is_one one allows others settings tree workers more number fault other is also =
    let first = named settings allows tree workers number fault is in
    let second = named settings others tree more number other also in
    let same : first.file ≡ second.file = same_Some first.file second.file (sym first.numbered ∙ second.numbered) in
    let Of : TreeFile → Type 0 = λ file. IsUnreadable settings.dialect file.is_unread file.text other in
    one settings.dialect first.file.is_unread first.file.text fault other first.unreadable
    (subst Of (sym same) second.unreadable)

-- the fault that a cause says, but of a file
of_cause : Cause → BuildFault
of_cause (inl (link.Broken number)) = build.Memory
of_cause (inl (link.Duplicate first second)) = build.Duplicate first second
of_cause (inl (link.MissingImport place)) = build.MissingImport place
of_cause (inl (link.Unresolved place)) = build.Unresolved place
of_cause (inl (link.Ambiguous place)) = build.Ambiguous place
of_cause (inl link.Memory) = build.Memory
of_cause (inr place) = build.OptionGap place

-- a fault is the one that its cause says, or that of a file
by_cause : (fault : BuildFault) → NoMemory (cause_in fault)
    → (fault ≡ of_cause (cause_in fault)) ⊎ ((number : ℕ) × (of : FileFault) × (fault ≡ build.File number of))
unfolding of_cause
by_cause build.Spawn not = absurd (not refl)
by_cause build.Memory not = absurd (not refl)
by_cause (build.File number of) not = inr (number, of, refl)
by_cause (build.Duplicate first second) not = inl refl
by_cause (build.MissingImport place) not = inl refl
by_cause (build.Unresolved place) not = inl refl
by_cause (build.Ambiguous place) not = inl refl
by_cause (build.OptionGap place) not = inl refl

-- the fault that its cause says hasn't the cause of one of a file
of_no_file : (fault other : BuildFault) (number : ℕ) (of : FileFault) → NoMemory (cause_in fault)
    → fault ≡ of_cause (cause_in fault) → other ≡ build.File number of → cause_in fault ≡ cause_in other → ⊥
unfolding of_cause
of_no_file fault other number of not said is same = not (ap cause_in (said ∙ ap of_cause (same ∙ ap cause_in is)))

same_number : {n m : ℕ} → ◌≡◌ {A = Cause} (inl (link.Broken n)) (inl (link.Broken m)) → n ≡ m
same_number e = cc

same_file_fault : {n m : ℕ} {f g : FileFault} → n ≡ m → f ≡ g → build.File n f ≡ build.File m g
same_file_fault e h = cc

module _ (one : OneFileFault) (allows others : Seen → Choice → Type 0) (settings : Settings) (tree : List TreeFile)
    (workers more : ℕ) where
  -- two faults of files with one cause are one
  of_files : (number again : ℕ) (fault other : FileFault)
      → IsBuildFault allows settings tree workers (build.File number fault)
      → IsBuildFault others settings tree more (build.File again other)
      → number ≡ again → build.File number fault ≡ build.File again other
  of_files number again fault other is also same =
      let here = subst (λ (n : ℕ). IsBuildFault allows settings tree workers (build.File n fault)) same is in
      same_file_fault same
      (file_fault_is_one one allows others settings tree workers more again fault other here also)

  of_one_cause : (fault other : BuildFault) → IsBuildFault allows settings tree workers fault
      → IsBuildFault others settings tree more other
      → NoMemory (cause_in fault) → NoMemory (cause_in other) → cause_in fault ≡ cause_in other → fault ≡ other
  of_one_cause fault other is also not nor same = elim (by_cause fault not) [
    | inl said ↦ elim (by_cause other nor) [
      | inl says ↦ said ∙ (ap of_cause same ∙ sym says)
      | inr of ↦ absurd (of_no_file fault other of.0 of.1 not said of.2 same)
    ]
    | inr of ↦ elim (by_cause other nor) [
      | inl says ↦ absurd (of_no_file other fault of.0 of.1 nor says of.2 (sym same))
      | inr more_of ↦ of.2 ∙ (of_files of.0 more_of.0 of.1 more_of.1
          (subst (IsBuildFault allows settings tree workers) of.2 is)
          (subst (IsBuildFault others settings tree more) more_of.2 also)
          (same_number (sym (ap cause_in of.2) ∙ (same ∙ ap cause_in more_of.2))) ∙ sym more_of.2)
    ]
  ]

module _ (apart : NoFactsWhereUnreadable) (one_beside : OneBesideAFile) (allows others : Seen → Choice → Type 0)
    (one_linking : OneLinking allows others) (none : NoParsedFilesWhereFaulty allows)
    (none_others : NoParsedFilesWhereFaulty others) where
  pub one_build_fault : OneFirstFaulty → OneRefusal → OneFileFault → OneBuildFault allows others
  one_build_fault one_first one_refusal one settings tree workers more fault other is also not nor =
      let names = names_in fault not in
      let others_name = names_in other nor in
      of_one_cause one allows others settings tree workers more fault other is also names others_name
      (cause_is_one apart one_beside allows others one_linking none none_others one_first one_refusal settings tree
      workers more fault other is also names others_name)
