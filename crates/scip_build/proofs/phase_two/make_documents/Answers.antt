use Rattle.std.proofs.Common.{subst, sym}
use Rattle.index_pool.specs.Phase.{MayRefuse}
use Rattle.index_pool.specs.declared.phase.fault.PoolFault.{PoolFault}
use Rattle.scip_build.specs.declared.source_document.NoDocument.{NoDocument}
use Rattle.scip_build.specs.Documents.{MayRefuseDocuments}
use Rattle.scip_build.specs.Forms.{GivesKept}
use Rattle.scip_build.specs.Placing.{kept_at}
use Rattle.scip_build.specs.Repeating.{with_packages}
use Rattle.scip_build.proofs.KeptLemmas.{kept_of, not_kept_of}
use Rattle.scip_build.proofs.phase_two.make_documents.Goals as goal

pub returns-in-Ok : goal.returns-in-Ok
returns-in-Ok g c =
    let sources = c.args.sources.now in
    kept_of (kept_at sources.settings.now.at g.F.DocumentForm.is_kept) sources.parsed.now sources.package.now.files sources.choices.now
    (with_packages sources.settings.now sources.package.now.ids) sources.count c.requires.ready
    c.one_document_a_source.ensures c.in-Ok.made.items c.in-Ok.ensures.answers

pub returns-in-Err-Job : goal.returns-in-Err-Job
returns-in-Err-Job g c =
    let sources = c.args.sources.now in
    let settings = with_packages sources.settings.now sources.package.now.ids in
    let Is = kept_at sources.settings.now.at g.F.DocumentForm.is_kept in
    let gives = GivesKept Is sources.parsed.now sources.package.now.files sources.choices.now settings in
    let Refused : PoolFault NoDocument → Type 0 =
    λ fault. MayRefuse gives sources.count c.args.run.now.workers fault in
    let least = subst Refused c.in-Err-Job.field-0-is c.in-Err-Job.ensures.refused in
    subst (MayRefuseDocuments settings.faulty sources.package.now.files c.args.run.now.workers) (sym c.refusal.ensures)
    (not_kept_of Is sources.parsed.now sources.package.now.files sources.choices.now settings
    sources.count c.requires.ready c.args.run.now.workers c.in-Err-Job.number c.in-Err-Job.fault least)
