use Rattle.std.proofs.Common.{length, string_bytes, subst}
use Rattle.index_pool.specs.Phase.{MayRefuse}
use Rattle.index_pool.specs.declared.phase.fault.PoolFault.{PoolFault}
use Rattle.source_files.specs.declared.load_fault.LoadFault.{LoadFault}
use Rattle.source_files.proofs.ReadingLemmas.{gives_each, answers_each, stops_at}
use Rattle.source_files.proofs.reading.read_part.Goals as goal

pub returns-in-Ok : goal.returns-in-Ok
returns-in-Ok g c =
    answers_each (g.F.ReadFiles.lists c.args.readers.now.files.now) (g.F.ReadFiles.gives c.args.readers.now.files.now)
    c.args.readers.now.leaves_out c.args.root.now string_bytes c.args.paths.now c.in-Ok.all.items
    c.in-Ok.ensures.answers

pub returns-in-Err-Job : goal.returns-in-Err-Job
returns-in-Err-Job g c =
    let lists = g.F.ReadFiles.lists c.args.readers.now.files.now in
    let gives = g.F.ReadFiles.gives c.args.readers.now.files.now in
    let leaves_out = c.args.readers.now.leaves_out in
    let root = c.args.root.now in
    let paths = c.args.paths.now in
    let Refused : PoolFault LoadFault → Type 0 =
    λ fault. MayRefuse (gives_each lists gives leaves_out root string_bytes paths) (length paths) 1 fault in
    stops_at lists gives leaves_out root string_bytes paths c.in-Err-Job.field-0-0 c.in-Err-Job.fault
    (subst Refused c.in-Err-Job.field-0-is c.in-Err-Job.ensures.refused)
