use Rattle.scip_build.proofs.BuildLawLemmas.{one_build_fault}
use Rattle.scip_build.proofs.laws.one_build_fault.Goals as goal

pub returns : goal.returns
returns g c =
    one_build_fault c.faults_exclude_facts.ensures.facts c.one_beside_a_file.ensures
    (g.C.Chooses.allows c.args.chooser.now)
    (g.D.Chooses.allows c.args.other.now) c.one_linking.ensures c.parsed_files_exclude_faults.ensures
    c.parsed_files_exclude_faults-2.ensures
    c.one_first_faulty.ensures c.one_refusal.ensures.refusal c.one_fault_a_file.ensures
