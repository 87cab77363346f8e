use Rattle.std.proofs.Common.{length, map, string_bytes, subst}
use Rattle.index_pool.specs.Phase.{MayRefuse}
use Rattle.index_pool.specs.declared.phase.fault.PoolFault.{PoolFault}
use Rattle.source_files.specs.declared.load_fault.LoadFault.{LoadFault}
use Rattle.source_files.specs.Looks.{GivesLooked}
use Rattle.source_files.proofs.LookLemmas.{looked_each, looks_each, stops_at}
use Rattle.source_files.proofs.looking.look_part.Goals as goal

pub returns-in-Ok : goal.returns-in-Ok
returns-in-Ok g c =
    looked_each (GivesLooked (g.F.ReadFiles.finds c.args.looking.now.files.now)
    (g.F.ReadFiles.gives c.args.looking.now.files.now)
    (g.I.FindImports.tells c.args.looking.now.finder.now) c.args.looking.now.leaves_out c.args.looking.now.is_wanted
    (map string_bytes c.args.looking.now.roots.now))
    string_bytes c.args.paths.now c.in-Ok.all.items c.in-Ok.ensures.answers

pub returns-in-Err-Job : goal.returns-in-Err-Job
returns-in-Err-Job g c =
    let gives_looked = GivesLooked (g.F.ReadFiles.finds c.args.looking.now.files.now)
    (g.F.ReadFiles.gives c.args.looking.now.files.now)
    (g.I.FindImports.tells c.args.looking.now.finder.now) c.args.looking.now.leaves_out c.args.looking.now.is_wanted
    (map string_bytes c.args.looking.now.roots.now) in
    let paths = c.args.paths.now in
    let Refused : PoolFault LoadFault → Type 0 =
    λ fault. MayRefuse (looks_each gives_looked string_bytes paths) (length paths) 1 fault in
    stops_at gives_looked string_bytes paths c.in-Err-Job.field-0-0 c.in-Err-Job.fault
    (subst Refused c.in-Err-Job.field-0-is c.in-Err-Job.ensures.refused)
