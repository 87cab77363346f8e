use Rattle.std.proofs.Common.{◌∙◌}
use Rattle.std.proofs.lemmas.Result.{on_ok_weaker}
use Rattle.std.specs.Fmt.{decimal}
use Rattle.std.specs.String.{string_bytes}
use Rattle.scip_query.proofs.MoreAnswerLemmas.{regroup}
use Rattle.scip_query.proofs.more_answer.push_named.Goals as goal

pub returns : goal.returns
returns c =
    on_ok_weaker c.writeln.result
    (λ e. e ∙ rw (
      c.start_line-line.ensures.value,
      c.start_column-column.ensures,
    )
    (regroup (string_bytes c.args.text.now) (decimal c.args.range.start_line) (decimal c.args.range.start_column)
    c.args.kind.now c.args.symbol.now))
    c.writeln.ensures.bytes
