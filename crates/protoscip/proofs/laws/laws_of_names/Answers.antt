use Rattle.protoscip.proofs.laws.laws_of_names.Goals as goal

pub returns : goal.returns
returns c =
    let identifiers = c.names_are_identifiers.ensures in
    record {
      named = identifiers.named;
      paths = identifiers.paths;
      held = identifiers.held;
      simple = c.scopes_are_known.ensures.package_name;
      one_name = c.one_declaration_a_name.ensures.declarations;
      unclashed = c.files_are_without_clash.ensures;
      symbols = c.symbols_name_one_entity_in_packages.ensures;
      targets = c.each_use_has_a_target.ensures;
      in_options = c.each_option_name_has_parts.ensures;
      reachable = c.targets_are_reachable.ensures;
    }
