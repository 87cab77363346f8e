use Rattle.std.proofs.Common.{refl}
use Rattle.proto_decl.proofs.LayoutNextStartLemmas.{adjoining, adjoining_at_once}
use Rattle.proto_decl.proofs.layout.is_adjoining.Goals as goal

pub returns-in-Some : goal.returns-in-Some
returns-in-Some c =
    adjoining c.args.text.now c.args.from c.args.upto c.in-Some.start c.next_start-in-Some.result c.is_none.result
    c.is_none.ensures c.in-Some.ensures c.next_start-in-Some.ensures

pub returns-in-None : goal.returns-in-None
returns-in-None c =
    ((λ e. adjoining_at_once c.args.text.now c.args.from c.args.upto c.in-None.ensures), (λ h. refl))
