use Rattle.scip_model.proofs.source_document.plan_with_options.Goals as goal

pub returns-clause-option_gaps : goal.returns-clause-option_gaps
returns-clause-option_gaps c = rw c.from_vec.ensures c.in_ok-planned.ensures.option_gaps

pub returns-clause-uncertain_names : goal.returns-clause-uncertain_names
returns-clause-uncertain_names c = rw c.from_vec-2.ensures c.in_ok-planned.ensures.uncertain_names
