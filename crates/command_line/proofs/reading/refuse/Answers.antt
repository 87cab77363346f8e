use Rattle.std.proofs.Common.{subst}
use Rattle.std.proofs.lemmas.Result.{IfOk-weaker}
use Rattle.clap.specs.declared.error.kind.ErrorKind.{ErrorKind}
use Rattle.command_line.specs.Requests.{Prints}
use Rattle.command_line.proofs.RequestAnswerLemmas.{refuses}
use Rattle.command_line.proofs.reading.refuse.Goals as goal

pub returns : goal.returns
returns c = IfOk-weaker c.answer.result _ _
    (λ r p. refuses r (subst (λ (k : ErrorKind). Prints k r) c.in_ok-error.ensures.kind p.1))
    c.answer.ensures
