use Rattle.std.proofs.Common.{◌∙◌, ap}
use Rattle.std.proofs.lemmas.List.Elements.{All-same}
use Rattle.std.proofs.lemmas.Result.{IfOk-weaker}
use Rattle.protoscip.specs.FaultLines.{HasFilesOf}
use Rattle.protoscip.specs.Findings.{faults_of, faults_with, refused_in}
use Rattle.protoscip.proofs.FindingReportLemmas.{have_files, have_all}
use Rattle.protoscip.proofs.findings.refused_findings.Goals as goal

pub refused_in-requires : goal.refused_in-requires
refused_in-requires c =
    let own = c.args.fault.now in
    let told = c.args.told.now in
    All-same (HasFilesOf c.args.tree.now) c.as_slice-2.result.now (faults_with own (faults_of told))
    (c.as_slice-2.ensures.value ∙ (c.in_ok-faults.ensures
    ∙ ap (faults_with own) (c.as_slice.ensures.value ∙ c.in_ok-others.ensures)))
    (have_all c.args.tree.now own (faults_of told) c.requires.fault
    (have_files c.args.tree.now told c.requires.told))

pub returns : goal.returns
returns c =
    let with_own = faults_with c.args.fault.now in
    IfOk-weaker c.refused_in.result _ _
    (λ findings is. is ∙ ap (refused_in c.args.tree.now) (c.as_slice-2.ensures.value ∙ (c.in_ok-faults.ensures
    ∙ ap with_own (c.as_slice.ensures.value ∙ c.in_ok-others.ensures))))
    c.refused_in.ensures
