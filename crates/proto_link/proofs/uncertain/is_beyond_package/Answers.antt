use Rattle.std.proofs.lemmas.Bool.{false≢true}
use Rattle.proto_link.proofs.uncertain.is_beyond_package.Goals as goal

pub returns-in-None : goal.returns-in-None
returns-in-None c = (λ t. absurd (false≢true t), λ is. absurd (c.in-None.ensures is.0 is.1))
