use Rattle.std.proofs.Common.{◌∙◌, ◌<◌, ◌↔◌, ◌++◌, List, length, ap, sym, subst}
use Rattle.std.specs.Prelude.{All, Contains}
use Rattle.std.proofs.lemmas.Result.{err_from_is_err_and}
use Rattle.proto_visibility.specs.Absences.{AreMissing}
use Rattle.scip_build.specs.Linking.{linked_files}
use Rattle.scip_build.specs.Documents.{asked_in}
use Rattle.proto_visibility.specs.Files.{File}
use Rattle.proto_visibility.specs.declared.files.FilePlace.{FilePlace}
use Rattle.scip_build.specs.Making.MayRefuseSkipping.{skipping_lacks_memory}
use Rattle.scip_build.specs.Telling.{AreUseFaults}
use Rattle.proto_link.specs.declared.uncertain_use.UncertainUse.{UncertainUse}
use Rattle.proto_link.specs.Uncertain.{IsUncertain}
use Rattle.scip_build.proofs.UncertainNameLemmas.{all_uncertain}
use Rattle.scip_build.proofs.ToldUseLemmas.{all_within}
use Rattle.scip_build.proofs.BuildsRefusalLemmas.{of_skipping}
use Rattle.scip_build.proofs.building.make_kept.Goals as goal

pub returns-in_err-made : goal.returns-in_err-made
returns-in_err-made g c =
    let p = err_from_is_err_and c.from_residual-in_err-made.result c.from_residual-in_err-made.ensures.1 in
    rw (p.1, p.2)
    (of_skipping c.args.settings.now.faulty (asked_in c.args.settings.now c.args.parsed.now) c.args.parsed.now
    (linked_files c.args.parsed.now) c.args.run.now.workers
    c.in_err-made.field-0.0 c.requires.skip c.in_err-made.ensures)

pub returns-in_err-faults : goal.returns-in_err-faults
returns-in_err-faults g c =
    let p = err_from_is_err_and c.from_residual-in_err-faults.result c.from_residual-in_err-faults.ensures.1 in
    rw (p.1, p.2) skipping_lacks_memory

pub returns : goal.returns
returns g c =
    let files = c.in_ok-linker.ensures ∙ (c.as_slice.ensures.value ∙ c.in_ok-files.ensures) in
    let faults = c.in_ok-faults.faults.items in (
      c.in_ok-made.ensures,
      subst (λ fs. AreMissing fs c.in_ok-missing.missing.items) files c.in_ok-missing.ensures,
      subst (λ fs. AreUseFaults fs c.in_ok-made.made.unresolved_uses faults) files
          (subst (λ places. AreUseFaults c.in_ok-linker.linker places faults) c.as_slice-2.ensures
          c.in_ok-faults.ensures),
      all_uncertain (asked_in c.args.settings.now c.args.parsed.now) c.args.parsed.now
          (linked_files c.args.parsed.now) c.in_ok-uncertain.uncertain.items c.in_ok-made.made.uncertain_names
          c.add_names.new.uncertain.items (c.in_ok-add_names.ensures
          ∙ ap (λ names. c.in_ok-uncertain.uncertain.items ++ names) c.as_slice-3.ensures)
          (subst (λ (fs : List File). (u : UncertainUse) → Contains c.in_ok-uncertain.uncertain.items u
          ↔ IsUncertain fs u) files c.in_ok-uncertain.ensures)
          c.in_ok-made.ensures.in_form.made.names,
    )

pub returns-in_err-uncertain : goal.returns-in_err-uncertain
returns-in_err-uncertain g c =
    let p = err_from_is_err_and c.from_residual-in_err-uncertain.result
    c.from_residual-in_err-uncertain.ensures.1 in
    rw (p.1, p.2) skipping_lacks_memory

pub returns-in_err-add_names : goal.returns-in_err-add_names
returns-in_err-add_names g c =
    let p = err_from_is_err_and c.from_residual-in_err-add_names.result
    c.from_residual-in_err-add_names.ensures.1 in
    rw (p.1, p.2) skipping_lacks_memory

pub faults_at-requires : goal.faults_at-requires
faults_at-requires g c =
    let files = c.in_ok-linker.ensures ∙ (c.as_slice.ensures.value ∙ c.in_ok-files.ensures) in
    let linked = linked_files c.args.parsed.now in
    let unresolved = c.in_ok-made.ensures.in_form.made.unresolved in
    subst (λ (fs : List File). All (λ (place : FilePlace). place.file < length fs) c.as_slice-2.result.now) (sym files)
    (subst (All (λ (place : FilePlace). place.file < length linked)) (sym c.as_slice-2.ensures)
    (all_within linked c.in_ok-made.made.unresolved_uses (λ place there. (unresolved place).0 there)))
