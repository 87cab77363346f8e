use Rattle.std.proofs.Common.{arith}
use Rattle.std.specs.Str.{IsCharBoundary}
use Rattle.option_link.proofs.LoopLemmas.{fails}
use Rattle.option_link.proofs.words.part_of.Goals as goal

pub returns-then-end-start : goal.returns-then-end-start
returns-then-end-start c = λ part. omega (arith, part.some)

pub returns-then-not-is_char_boundary : goal.returns-then-not-is_char_boundary
returns-then-not-is_char_boundary c = λ part.
    fails c.is_char_boundary.result (IsCharBoundary c.args.text.now c.args.span.start) c.is_char_boundary.ensures.test
    c.if-not-is_char_boundary.true part.starts_whole

pub returns-then-not-is_char_boundary-2 : goal.returns-then-not-is_char_boundary-2
returns-then-not-is_char_boundary-2 c = λ part.
    fails c.is_char_boundary-2.result (IsCharBoundary c.args.text.now c.args.span.end)
    c.is_char_boundary-2.ensures.test c.if-not-is_char_boundary-2.true part.ends_whole
