use Rattle.std.proofs.Common.{refl}
use Rattle.scip_build.specs.declared.faulty.Faulty.TheVariants.{Refuse}
use Rattle.scip_build.proofs.ParsedFileLemmas.{no_parsed_files_where_faulty}
use Rattle.scip_build.proofs.laws.parsed_files_exclude_faults.Goals as goal

pub returns : goal.returns
returns g c = λ dialect form files parsed number fault.
    no_parsed_files_where_faulty Refuse dialect form
    (g.C.Chooses.allows c.args.chooser.now) files refl c.faults_exclude_facts.ensures.facts parsed number fault
