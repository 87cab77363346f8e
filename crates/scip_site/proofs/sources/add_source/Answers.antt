use Rattle.std.proofs.Common.{subst}
use Rattle.scip_site.specs.Sources.{IsSourceOf, added}
use Rattle.scip_site.proofs.sources.add_source.Goals as goal

pub returns-in_ok-push-in-Some : goal.returns-in_ok-push-in-Some
returns-in_ok-push-in-Some g c =
    added c.in-Some.source
    (subst (IsSourceOf (g.F.ReadFiles.gives c.args.files.now) c.args.root.now c.args.queries.now c.args.path.now)
    c.in-Some.is c.in_ok-source.ensures) c.in_ok-push-in-Some.ensures.items
