use Rattle.std.proofs.Common.{sym, ◌∙◌}
use Rattle.std.proofs.lemmas.Bool.{false≢true}
use Rattle.proto_visibility.specs.Knows.{admits}
use Rattle.proto_visibility.proofs.LookupListedLemmas.{not_alone, is_alone}
use Rattle.proto_visibility.proofs.lookup.unless_elsewhere.Goals as goal

pub returns-then-is_declared_elsewhere : goal.returns-then-is_declared_elsewhere
returns-then-is_declared_elsewhere c =
    not_alone c.args.row.now c.args.declared.now (admits c.args.role) c.args.first c.requires.there c.requires.declares
    (c.is_declared_elsewhere.ensures.0 c.if-is_declared_elsewhere.true)

pub returns-else-is_declared_elsewhere : goal.returns-else-is_declared_elsewhere
returns-else-is_declared_elsewhere c =
    is_alone c.args.row.now c.args.declared.now (admits c.args.role) c.args.first c.requires.there c.requires.declares
    (λ is. false≢true (sym c.if-is_declared_elsewhere.false ∙ c.is_declared_elsewhere.ensures.1 is))
