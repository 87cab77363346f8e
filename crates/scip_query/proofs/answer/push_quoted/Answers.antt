use Rattle.std.proofs.Common.{◌++◌, ◌∙◌, ap, ℕ, List}
use Rattle.std.specs.Borrow.{Bor}
use Rattle.std.specs.List.{flat_map}
use Rattle.std.specs.String.{string_bytes}
use Rattle.std.proofs.lemmas.Result.{on_ok_weaker}
use Rattle.scip_query.specs.AnswerText.{quoted_line}
use Rattle.scip_query.proofs.AnswerLemmas.{lines_map}
use Rattle.scip_query.proofs.answer.push_quoted.Goals as goal

pub returns : goal.returns
returns c =
    let old = string_bytes c.args.text.now in
    on_ok_weaker c.push_lines.result
    (λ e. e ∙ ap (λ l. old ++ l)
    (ap (flat_map (λ (line : Bor (List ℕ)). quoted_line line.now)) c.as_slice.ensures.value
    ∙ lines_map quoted_line (λ (line : Bor (List ℕ)). line.now) c.in_ok-lines.lines.items
    ∙ ap (flat_map quoted_line) c.in_ok-lines.ensures))
    c.push_lines.ensures
