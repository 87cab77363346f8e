use Rattle.scip_model.proofs.known_facts.facts_occur_in_order.Goals as goal

pub returns-clause-order : goal.returns-clause-order
returns-clause-order c = record {
  names = c.facts_in_order.ensures.names;
  uses = c.facts_in_order.ensures.uses;
  imports = c.facts_in_order.ensures.imports;
  package_name = c.facts_in_order.ensures.package_name;
}

pub returns-clause-spelled : goal.returns-clause-spelled
returns-clause-spelled c = record {
  named = c.names_are_identifiers.ensures.named;
  paths = c.names_are_identifiers.ensures.paths;
  held = c.names_are_identifiers.ensures.held;
}
