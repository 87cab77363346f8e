use Rattle.std.proofs.Common.{◌≡◌, List, ℕ, ◌++◌, ◌∙◌, append_assoc}
use Rattle.std.proofs.lemmas.Result.{on_ok_weaker}
use Rattle.std.proofs.lemmas.Int.{to_z-of_z}
use Rattle.std.specs.Int.{w32}
use Rattle.std.specs.Fmt.{decimal, signed_decimal}
use Rattle.std.specs.String.{string_bytes}
use Rattle.scip_query.specs.Commands.{space}
use Rattle.scip_query.specs.AnswerText.{line_end}
use Rattle.scip_query.proofs.answer.push_line.Goals as goal

-- the pieces of a line, one after another
regroup : (old a b c d r s : List ℕ)
    → old ++ (a ++ (space ++ (b ++ (space ++ (c ++ (space ++ (d ++ (space ++ (r ++ (space ++ (s ++ line_end)))))))))))
    ≡ old ++ (a ++ space ++ b ++ space ++ c ++ space ++ d ++ space ++ r ++ space ++ s ++ line_end)
regroup old a b c d r s = simp append_assoc

pub returns : goal.returns
returns c =
    on_ok_weaker c.writeln.result
    (λ e. e ∙ rw (
      c.start_line-start_line.ensures.value,
      c.start_column-start_column.ensures,
      c.end_line-end_line.ensures,
      c.end_column-end_column.ensures,
      to_z-of_z w32 c.args.roles c.ranges.roles,
    )
    (regroup (string_bytes c.args.text.now) (decimal c.args.range.start_line) (decimal c.args.range.start_column)
    (decimal c.args.range.end_line) (decimal c.args.range.end_column)
    (signed_decimal c.args.roles) c.args.name.now))
    c.writeln.ensures.bytes
