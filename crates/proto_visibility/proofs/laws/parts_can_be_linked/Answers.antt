-- A part of files that can be linked can be linked.
use Rattle.proto_visibility.proofs.PartLinkedLemmas.{parts_can_be_linked}
use Rattle.proto_visibility.proofs.laws.parts_can_be_linked.Goals as goal

pub returns : goal.returns
returns c = parts_can_be_linked
