use Rattle.std.proofs.Common.{List, sym, subst}
use Rattle.proto_visibility.specs.Files.{File, HasFacts}
use Rattle.proto_visibility.proofs.LookupEntityLemmas.{names_of_file}
use Rattle.proto_visibility.proofs.namespace.Namespace.entity_of.Goals as goal

pub entity_in-requires-clause-names : goal.entity_in-requires-clause-names
entity_in-requires-clause-names c =
    let facts = c.args.facts.now in
    let has = subst (λ (fs : List File). HasFacts fs c.args.number facts) (sym c.self.view_is) c.requires.has in
    names_of_file c.self.inside.files.now c.self.inside.names c.args.number facts c.self.invariant.names_are has
