use Rattle.std.proofs.Common.{◌∙◌, sym, ap, List, ℕ, ◌+◌, [], length, arith}
use Rattle.std.specs.List.{suffix_len}
use Rattle.std.proofs.lemmas.List.{take_all}
use Rattle.std.proofs.lemmas.List.Sums.{suffix_len-take_yes, suffix_len-take_no, suffix_len-le-length}
use Rattle.comment_texts.specs.Lines.{is_empty_line}
use Rattle.comment_texts.proofs.lines.count_without_last_empty.Goals as goal

pub loop-end-init : goal.loop-end-init
loop-end-init c =
    let all = take_all (length c.args.lines.now) c.args.lines.now (omega arith) in
    record {
      within = omega arith;
      so_far = ap (λ (ls : List (List ℕ)). length c.args.lines.now + suffix_len is_empty_line ls) (sym all);
    }

pub loop-end-preserved : goal.loop-end-preserved
loop-end-preserved c =
    let more = suffix_len-take_yes is_empty_line c.args.lines.now c.loop-end.end [] c.loop-end-test.true
    c.loop-end.invariant.within (sym c.is_empty_at.ensures ∙ c.if-not-is_empty_at.false) in
    record { within = omega arith; so_far = omega (arith, more, c.loop-end.invariant.so_far) }

pub returns-then-not-is_empty_at-clause-value : goal.returns-then-not-is_empty_at-clause-value
returns-then-not-is_empty_at-clause-value c =
    let none = suffix_len-take_no is_empty_line c.args.lines.now c.loop-end.end [] c.loop-end-test.true
    c.loop-end.invariant.within (sym c.is_empty_at.ensures ∙ c.if-not-is_empty_at.true) in
    omega (arith, none, c.loop-end.invariant.so_far)

pub returns-clause-value : goal.returns-clause-value
returns-clause-value c =
    let most = suffix_len-le-length is_empty_line c.args.lines.now in
    omega (arith, most, c.loop-end.invariant.so_far)
