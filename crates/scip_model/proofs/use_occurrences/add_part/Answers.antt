use Rattle.scip_model.proofs.use_occurrences.add_part.Goals as goal

pub is_shown-requires-clause-nameable : goal.is_shown-requires-clause-nameable
is_shown-requires-clause-nameable c = (c.args.name.now, c.requires.nameable c.in-Some.part c.in-Some.is)
