use Rattle.std.proofs.Common.{◌∙◌, sym, [], arith}
use Rattle.std.proofs.lemmas.List.Sums.{prefix_len-drop_yes, prefix_len-drop_no, prefix_len-drop_all}
use Rattle.comment_texts.specs.Lines.{is_empty_line}
use Rattle.comment_texts.proofs.lines.first_empty_count.Goals as goal

pub loop-start-preserved : goal.loop-start-preserved
loop-start-preserved c =
    let more = prefix_len-drop_yes is_empty_line c.args.lines.now c.loop-start.start [] (omega arith)
    (sym c.is_empty_at.ensures ∙ c.if-not-is_empty_at.false) in
    record { within = omega arith; so_far = omega (arith, more, c.loop-start.invariant.so_far) }

pub returns-then-not-is_empty_at-clause-value : goal.returns-then-not-is_empty_at-clause-value
returns-then-not-is_empty_at-clause-value c =
    let none = prefix_len-drop_no is_empty_line c.args.lines.now c.loop-start.start [] (omega arith)
    (sym c.is_empty_at.ensures ∙ c.if-not-is_empty_at.true) in
    omega (arith, none, c.loop-start.invariant.so_far)

pub returns-clause-value : goal.returns-clause-value
returns-clause-value c =
    let none = prefix_len-drop_all is_empty_line c.args.lines.now c.loop-start.start (omega arith) in
    omega (arith, none, c.loop-start.invariant.so_far)
