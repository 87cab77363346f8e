use Rattle.proto_link.proofs.MendedLemmas.{mended_resolves_alike}
use Rattle.proto_link.proofs.laws.mended_resolves_alike.Goals as goal

pub returns : goal.returns
returns c = mended_resolves_alike
