use Rattle.std.proofs.Common.{ℕ, List, subst}
use Rattle.streams.specs.Writers.{writing}
use Rattle.programs.specs.Printing.{Prints}
use Rattle.programs.proofs.output.print.Goals as goal

pub returns : goal.returns
returns g c =
    subst (λ (text : List ℕ). Prints g.W.Caused.cause text (writing g.W.Sink c.args.out.now c.print_bytes.new.out)
    (writing g.M.Sink c.args.messages.now c.print_bytes.new.messages) c.print_bytes.result)
    c.as_bytes.ensures.value c.print_bytes.ensures
