use Rattle.scip_model.proofs.ConditionLemmas.{stand_there}
use Rattle.scip_model.proofs.OccurTieLemmas.{no_ties}
use Rattle.scip_model.proofs.OptionOccurLemmas.{no-ties-with}
use Rattle.scip_model.proofs.laws.no_two_occurrences_tie.Goals as goal

pub returns : goal.returns
returns c = λ asked files chosen ids encoding source text has.
    no-ties-with files chosen ids encoding source text asked
    (no_ties files chosen ids encoding source text c.positions_rise.ensures.characters
    (λ facts known. record {
      parts = stand_there text facts (has facts known) c.facts_stand_in_text.ensures;
      apart = c.facts_stand_apart.ensures facts (has facts known).origin;
      names = c.facts_in_order.ensures.names facts (has facts known).origin;
      package_name = c.facts_in_order.ensures.package_name facts (has facts known).origin;
    }))
