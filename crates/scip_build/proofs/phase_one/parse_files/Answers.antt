use Rattle.std.proofs.Common.{ℕ, subst, sym}
use Rattle.index_pool.specs.Phase.{AnswersEach, MayRefuse, IsLeastFault}
use Rattle.index_pool.specs.declared.phase.fault.PoolFault.{PoolFault}
use Rattle.scip_build.specs.declared.file_parsing.NoContents.{NoContents}
use Rattle.scip_build.specs.ParsedFiles.{GivesParsedFile, MayRefuseFiles}
use Rattle.scip_build.proofs.ParsedFileLemmas.{parsed_of, refused_of}
use Rattle.scip_build.proofs.phase_one.parse_files.Goals as goal

pub returns-in-Ok : goal.returns-in-Ok
returns-in-Ok g c =
    let allows = g.C.Chooses.allows c.args.chooser.now in
    let Answer : ℕ → Type 0 =
    λ n. AnswersEach (GivesParsedFile c.args.faulty c.args.dialect c.args.form allows c.args.tree.now) n
    c.in-Ok.parsed.items in
    parsed_of c.args.faulty c.args.dialect c.args.form allows c.args.tree.now c.in-Ok.parsed.items
    (subst Answer c.file_count.ensures.count c.in-Ok.ensures.answers)

pub returns-in-Err-Job : goal.returns-in-Err-Job
returns-in-Err-Job g c =
    let allows = g.C.Chooses.allows c.args.chooser.now in
    let gives = GivesParsedFile c.args.faulty c.args.dialect c.args.form allows c.args.tree.now in
    let Refused : PoolFault NoContents → Type 0 =
    λ fault. MayRefuse gives c.file_count.result c.args.run.now.workers fault in
    let Least : ℕ → Type 0 = λ n. IsLeastFault gives n c.in-Err-Job.number c.in-Err-Job.fault in
    let least = subst Least c.file_count.ensures.count
    (subst Refused c.in-Err-Job.field-0-is c.in-Err-Job.ensures.refused) in
    subst (MayRefuseFiles c.args.faulty c.args.dialect c.args.tree.now c.args.run.now.workers) (sym c.refusal.ensures)
    (refused_of c.args.faulty c.args.dialect c.args.form allows c.args.tree.now c.args.run.now.workers
    c.in-Err-Job.number c.in-Err-Job.fault least)
