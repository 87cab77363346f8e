use Rattle.scip_build.proofs.phase_two.PhaseTwoJob.run.Goals as goal

pub make_document-requires-clause-texts : goal.make_document-requires-clause-texts
make_document-requires-clause-texts g c = c.self.invariant.0.texts c.number.result
