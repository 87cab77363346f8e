use Rattle.proto_parse.proofs.Walk.Order.{marks-in_order}
use Rattle.proto_parse.proofs.laws.spans_in_order.Goals as goal

pub returns : goal.returns
returns c = λ text tokens marks among ordered. marks-in_order text tokens marks among ordered
