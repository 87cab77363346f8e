use Rattle.std.proofs.Common.{arith, ◌++◌, ◌-◌}
use Rattle.diagnostics.specs.Literals.{joined, texts_of}
use Rattle.diagnostics.proofs.LiteralTextLemmas.{pushed, text_more}
use Rattle.diagnostics.proofs.literals.push_joined.Goals as goal

pub loop-left-preserved : goal.loop-left-preserved
loop-left-preserved c =
    pushed c.loop-left.out.items c.extend_from_slice.new.self.items c.in-Some.text.now
    (texts_of (c.loop-left.left - 1) c.in-Some.behind.now) (texts_of c.loop-left.left c.loop-left.rest.now)
    (c.args.out.now.items ++ joined c.args.bytes.now) c.in_ok-extend_from_slice-in-Some.ensures.items
    (text_more c.loop-left.left c.loop-left.rest.now c.in-Some.text.now c.in-Some.behind.now
    (omega (arith, c.loop-left-test.true)) c.in-Some.ensures) c.loop-left.invariant
