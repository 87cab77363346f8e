use Rattle.std.proofs.Common.{◌↔◌, IsTrue, sym, subst}
use Rattle.proto_visibility.specs.Knows.{admits, KnowsAs}
use Rattle.proto_visibility.proofs.LookupKnownLemmas.{knows_iff}
use Rattle.proto_visibility.proofs.namespace.Namespace.knows.Goals as goal

pub returns : goal.returns
returns c =
    subst (λ r. IsTrue r ↔ KnowsAs c.args.self.now c.args.file (admits c.args.role) c.args.name.now)
    (sym c.is_some.ensures)
    (knows_iff c.args.self.now c.args.file
    (admits c.args.role) c.args.name.now c.giving_file.result c.giving_file.ensures)
