use Rattle.std.proofs.Common.{subst}
use Rattle.proto_visibility.specs.Clashes.{NoClash}
use Rattle.proto_visibility.specs.Files.{HaveOrigins, HaveOwnPaths}
use Rattle.proto_visibility.specs.declared.clash.Duplicates.TheVariants.{Keep}
use Rattle.scip_model.proofs.known_facts.symbols_stand_apart.Goals as goal

pub returns-clause-known : goal.returns-clause-known
returns-clause-known c = record {
  own = subst HaveOwnPaths c.linker-linker.ensures.files c.linked.ensures.own;
  origins = subst HaveOrigins c.linker-linker.ensures.files c.linked.ensures.origins;
  clear = subst (NoClash Keep) c.linker-linker.ensures.files c.linked.ensures.clear.clear;
  repeated = c.linker-linker.ensures.repeated;
  one_name = c.one_declaration_a_name.ensures.declarations;
  spelled = record {
    named = c.names_are_identifiers.ensures.named;
    paths = c.names_are_identifiers.ensures.paths;
    held = c.names_are_identifiers.ensures.held;
  };
  symbols = c.symbols_name_one_entity_in_packages.ensures;
}
