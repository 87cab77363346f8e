-- Faults of a tree exclude one another, and where it is indexed there is none.
use Rattle.std.proofs.Common.{◌≡◌, ◌≢◌, ◌∙◌, ◌⊎◌, inl, inr, ℕ, true, ◌<◌, ◌≤◌, List, length, ap, sym, subst}
use Rattle.std.proofs.Common.{refl, arith}
use Rattle.std.proofs.lemmas.Bool.{false≢true}
use Rattle.proto_decl.specs.Values.{Seen}
use Rattle.proto_visibility.specs.declared.fault.LinkFault.TheVariants as link
use Rattle.index_hooks.specs.declared.choice.Choice.{Choice}
use Rattle.source_tree.specs.Files.{TreeFile}
use Rattle.scip_build.specs.Builds.{IsBuilt, IsBuildFault}
use Rattle.scip_build.specs.BuildLaws.{cause_of, BuiltHasNoFault, OneBuildFault, SetTheSame}
use Rattle.scip_build.specs.BuildLaws.{OneBuiltOfChoices, OneBuilt}
use Rattle.scip_build.specs.declared.built.Built.{Built}
use Rattle.scip_build.specs.declared.settings.Settings.{Settings}
use Rattle.scip_build.specs.declared.fault.BuildFault.{BuildFault}
use Rattle.scip_build.specs.declared.fault.BuildFault.TheVariants as build
use Rattle.scip_build.specs.declared.fault.FileFault.TheVariants as file
use Rattle.scip_wire.specs.Spelling.{spelling_of, max_index_len}
use Rattle.protoscip.specs.declared.recorded.Recorded.{Recorded}
use Rattle.protoscip.specs.Indexes.{built_of, IsIndexed, IsRefused}
use Rattle.protoscip.specs.IndexLaws.{is_of_tree, OneFault, IndexedHasNoFault, AllowOneChoice}
use Rattle.protoscip.specs.IndexLaws.{OneIndexingOfChoices, OneIndexing, OneIndexingHasNoFault}
use Rattle.protoscip.specs.declared.fault.Fault.{Fault}
use Rattle.protoscip.specs.declared.fault.Fault.TheVariants as fault

-- the fault of a run with this fault of its build
fault_of : BuildFault → Fault
fault_of build.Spawn = fault.Spawn
fault_of build.Memory = fault.Memory
fault_of (build.File number (file.Lex because)) = fault.Lex number because
fault_of (build.File number (file.Syntax because)) = fault.Syntax number because
fault_of (build.File number file.Unread) = fault.Unread number
fault_of (build.Duplicate first second) = fault.Duplicate first second
fault_of (build.MissingImport place) = fault.MissingImport place
fault_of (build.Unresolved place) = fault.Unresolved place
fault_of (build.Ambiguous place) = fault.Ambiguous place
fault_of (build.OptionGap place) = fault.OptionGap place

-- the index of the tree has too many bytes, by some choices
IsLarge : (Seen → Choice → Type 0) → Settings → List TreeFile → Type 0
IsLarge allows settings tree =
    (built : Built) × IsBuilt allows settings tree built × (max_index_len < length (spelling_of built.index))

-- a fault of the tree is one of the build, or that of the index's size
record IsOfBuild (allows : Seen → Choice → Type 0) (settings : Settings) (tree : List TreeFile) (workers : ℕ)
    (of : Fault) : Type 0 where
  because : BuildFault
  is : IsBuildFault allows settings tree workers because
  named : cause_of because ≢ link.Memory
  same : of ≡ fault_of because

split : (allows : Seen → Choice → Type 0) (settings : Settings) (tree : List TreeFile) (workers : ℕ) (of : Fault)
    → IsRefused allows settings tree workers of → is_of_tree of ≡ true
    → (of ≡ fault.TooLarge) × IsLarge allows settings tree ⊎ IsOfBuild allows settings tree workers of
unfolding IsLarge fault_of
split allows settings tree workers fault.Spawn is named = absurd (false≢true named)
split allows settings tree workers fault.Memory is named = absurd (false≢true named)
split allows settings tree workers (fault.Lex number e) is named =
    inr (record { because = build.File number (file.Lex e); is = is; named = λ memory. cc; same = refl })
split allows settings tree workers (fault.Syntax number e) is named =
    inr (record { because = build.File number (file.Syntax e); is = is; named = λ memory. cc; same = refl })
split allows settings tree workers (fault.Unread number) is named =
    inr (record { because = build.File number file.Unread; is = is; named = λ memory. cc; same = refl })
split allows settings tree workers (fault.Duplicate first second) is named =
    inr (record { because = build.Duplicate first second; is = is; named = λ memory. cc; same = refl })
split allows settings tree workers (fault.MissingImport place) is named =
    inr (record { because = build.MissingImport place; is = is; named = λ memory. cc; same = refl })
split allows settings tree workers (fault.Unresolved place) is named =
    inr (record { because = build.Unresolved place; is = is; named = λ memory. cc; same = refl })
split allows settings tree workers (fault.Ambiguous place) is named =
    inr (record { because = build.Ambiguous place; is = is; named = λ memory. cc; same = refl })
split allows settings tree workers (fault.OptionGap place) is named =
    inr (record { because = build.OptionGap place; is = is; named = λ memory. cc; same = refl })
split allows settings tree workers (fault.Uncertain place behind) is named = absurd is
split allows settings tree workers fault.TooLarge is named = inl (refl, is)
split allows settings tree workers (fault.Write count) is named = absurd is
split allows settings tree workers fault.Read is named = absurd is
split allows settings tree workers (fault.Answer count) is named = absurd is

set_itself : (settings : Settings) → SetTheSame settings settings
set_itself settings = record {
  project_root = refl;
  at = refl;
  id = refl;
  encoding = refl;
  dialect = refl;
  form = refl;
  duplicates = refl;
}

module _ (allows others : Seen → Choice → Type 0) where
  pub one_fault : OneBuildFault allows others → BuiltHasNoFault allows others → BuiltHasNoFault others allows
      → OneFault allows others
  unfolding IsLarge
  one_fault one none also settings tree workers more of other is is_other named named_other =
      elim (split allows settings tree workers of is named) [
        | inl large ↦ elim (split others settings tree more other is_other named_other) [
          | inl larger ↦ large.0 ∙ sym larger.0
          | inr built ↦ absurd (none settings tree more large.1.0 built.because large.1.1 built.is built.named)
        ]
        | inr built ↦ elim (split others settings tree more other is_other named_other) [
          | inl larger ↦ absurd (also settings tree workers larger.1.0 built.because larger.1.1 built.is built.named)
          | inr again ↦ built.same
              ∙ (ap fault_of (one settings tree workers more built.because again.because built.is again.is built.named
              again.named) ∙ sym again.same)
        ]
      ]

  pub indexed_has_no_fault : BuiltHasNoFault allows others → IndexedHasNoFault allows others
  indexed_has_no_fault none settings tree workers recorded bytes fault.Spawn indexed is = inl refl
  indexed_has_no_fault none settings tree workers recorded bytes fault.Memory indexed is = inl refl
  indexed_has_no_fault none settings tree workers recorded bytes (fault.Lex number e) indexed is =
      absurd (none settings tree workers (built_of indexed.index recorded)
      (build.File number (file.Lex e)) indexed.built is (λ same. cc))
  indexed_has_no_fault none settings tree workers recorded bytes (fault.Syntax number e) indexed is =
      absurd (none settings tree workers (built_of indexed.index recorded)
      (build.File number (file.Syntax e)) indexed.built is (λ same. cc))
  indexed_has_no_fault none settings tree workers recorded bytes (fault.Unread number) indexed is =
      absurd (none settings tree workers (built_of indexed.index recorded)
      (build.File number file.Unread) indexed.built is (λ same. cc))
  indexed_has_no_fault none settings tree workers recorded bytes (fault.Duplicate first second) indexed is =
      absurd (none settings tree workers (built_of indexed.index recorded)
      (build.Duplicate first second) indexed.built is (λ same. cc))
  indexed_has_no_fault none settings tree workers recorded bytes (fault.MissingImport place) indexed is =
      absurd (none settings tree workers (built_of indexed.index recorded)
      (build.MissingImport place) indexed.built is (λ same. cc))
  indexed_has_no_fault none settings tree workers recorded bytes (fault.Unresolved place) indexed is =
      absurd (none settings tree workers (built_of indexed.index recorded)
      (build.Unresolved place) indexed.built is (λ same. cc))
  indexed_has_no_fault none settings tree workers recorded bytes (fault.Ambiguous place) indexed is =
      absurd (none settings tree workers (built_of indexed.index recorded)
      (build.Ambiguous place) indexed.built is (λ same. cc))
  indexed_has_no_fault none settings tree workers recorded bytes (fault.OptionGap place) indexed is =
      absurd (none settings tree workers (built_of indexed.index recorded)
      (build.OptionGap place) indexed.built is (λ same. cc))
  indexed_has_no_fault none settings tree workers recorded bytes (fault.Uncertain place behind) indexed is = absurd is
  indexed_has_no_fault none settings tree workers recorded bytes fault.TooLarge indexed is = inr refl
  indexed_has_no_fault none settings tree workers recorded bytes (fault.Write count) indexed is = absurd is
  indexed_has_no_fault none settings tree workers recorded bytes fault.Read indexed is = absurd is
  indexed_has_no_fault none settings tree workers recorded bytes (fault.Answer count) indexed is = absurd is

  -- what is built is one, so what is recorded and the bytes are
  same_indexing : (settings : Settings) (tree : List TreeFile) (recorded more : Recorded) (bytes also : List ℕ)
      → (indexed : IsIndexed allows settings tree recorded bytes) (again : IsIndexed others settings tree more also)
      → built_of indexed.index recorded ≡ built_of again.index more → (recorded ≡ more) × (bytes ≡ also)
  same_indexing settings tree recorded more bytes also indexed again same =
      let index : indexed.index ≡ again.index = ap (λ (b : Built). b.index) same in
      let choices : recorded.choices ≡ more.choices = ap (λ (b : Built). b.choices) same in
      let told : recorded.told ≡ more.told = ap (λ (b : Built). b.told) same in (
        (λ i. record { choices = choices i; told = told i }),
        indexed.spelled.spelling ∙ (ap spelling_of index ∙ sym again.spelled.spelling),
      )

  pub one_indexing_of_choices : OneBuiltOfChoices allows others → OneIndexingOfChoices allows others
  one_indexing_of_choices one settings tree recorded more bytes also choices indexed again =
      let same = one settings settings tree (built_of indexed.index recorded) (built_of again.index more)
      (set_itself settings) choices indexed.built again.built in
      same_indexing settings tree recorded more bytes also indexed again same

  module _ (one : OneBuilt allows others) where
    pub one_indexing : OneIndexing allows others
    one_indexing settings tree recorded more bytes also sole indexed again =
        let same = one settings settings tree (built_of indexed.index recorded) (built_of again.index more) sole
        (set_itself settings) indexed.built again.built in
        same_indexing settings tree recorded more bytes also indexed again same

    not_too_large : (settings : Settings) (tree : List TreeFile) (workers : ℕ) (recorded : Recorded) (bytes : List ℕ)
        → AllowOneChoice allows others
        → IsIndexed allows settings tree recorded bytes → IsRefused others settings tree workers fault.TooLarge → ⊥
    not_too_large settings tree workers recorded bytes sole indexed is =
        let same = one settings settings tree (built_of indexed.index recorded) is.0 sole (set_itself settings)
        indexed.built is.1 in
        let index : indexed.index ≡ is.0.index = ap (λ (b : Built). b.index) same in
        let spelling : bytes ≡ spelling_of is.0.index = indexed.spelled.spelling ∙ ap spelling_of index in
        let small : length (spelling_of is.0.index) ≤ max_index_len =
        subst (λ (b : List ℕ). length b ≤ max_index_len) spelling indexed.spelled.small in
        let large = is.2 in
        absurd (omega (arith, small, large))

    pub no_fault : IndexedHasNoFault allows others → OneIndexingHasNoFault allows others
    no_fault none settings tree workers recorded bytes of sole indexed is =
        elim (none settings tree workers recorded bytes of indexed is) [
          | inl out ↦ out
          | inr large ↦ absurd (not_too_large settings tree workers recorded bytes sole indexed
              (subst (IsRefused others settings tree workers) large is))
        ]
