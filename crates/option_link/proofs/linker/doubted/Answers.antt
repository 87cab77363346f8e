use Rattle.std.proofs.Common.{Option, None, ℕ, ap, sym}
use Rattle.option_link.specs.Doubts.{first_doubt}
use Rattle.option_link.proofs.linker.doubted.Goals as goal

pub returns-in-Some : goal.returns-in-Some
returns-in-Some c = sym (ap (λ (b : Option ℕ). first_doubt None c.args.number b) c.in-Some.is)

pub returns-in-None : goal.returns-in-None
returns-in-None c = sym (ap (λ (b : Option ℕ). first_doubt None c.args.number b) c.in-None.is)
