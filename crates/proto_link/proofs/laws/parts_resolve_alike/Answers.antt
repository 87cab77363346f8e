-- A use names in a part of files what it names in the whole.
use Rattle.proto_link.proofs.PartLemmas.{parts_resolve_alike}
use Rattle.proto_link.proofs.laws.parts_resolve_alike.Goals as goal

pub returns : goal.returns
returns c = parts_resolve_alike
