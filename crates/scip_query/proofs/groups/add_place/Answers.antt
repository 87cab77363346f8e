use Rattle.std.proofs.Common.{arith}
use Rattle.scip_query.proofs.GroupLemmas.{listed_more}
use Rattle.scip_query.proofs.groups.add_place.Goals as goal

pub returns : goal.returns
returns g c = λ other.
    listed_more c.args.groups.now c.groups-3-1.given.0 c.args.symbol c.push.new.self c.args.place (grind arith)
    (grind arith) other
