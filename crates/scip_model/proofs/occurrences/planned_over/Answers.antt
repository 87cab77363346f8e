use Rattle.scip_model.proofs.occurrences.planned_over.Goals as goal

pub range_over-requires : goal.range_over-requires
range_over-requires c = record { starts = c.requires.starts_whole; ends = c.requires.ends_whole }
