use Rattle.std.proofs.Common.{◌∙◌}
use Rattle.std.proofs.lemmas.Result.{on_ok_weaker}
use Rattle.std.proofs.lemmas.Int.{to_z-of_z}
use Rattle.std.specs.Int.{w32}
use Rattle.std.specs.Fmt.{decimal, signed_decimal}
use Rattle.std.specs.String.{string_bytes}
use Rattle.scip_query.proofs.MoreAnswerLemmas.{regroup}
use Rattle.scip_query.proofs.more_answer.push_numbered.Goals as goal

pub returns : goal.returns
returns c =
    on_ok_weaker c.writeln.result
    (λ e. e ∙ rw (
      c.start_line-line.ensures.value,
      c.start_column-column.ensures,
      to_z-of_z w32 c.args.kind c.ranges.kind,
    )
    (regroup (string_bytes c.args.text.now) (decimal c.args.range.start_line) (decimal c.args.range.start_column)
    (signed_decimal c.args.kind) c.args.symbol.now))
    c.writeln.ensures.bytes
