use Rattle.std.specs.String.{string_bytes}
use Rattle.diagnostics.specs.Characters.{characters}
use Rattle.diagnostics.specs.Tables.Steps.{signs}
use Rattle.diagnostics.proofs.CharacterLemmas.{step}
use Rattle.diagnostics.proofs.shown.push_all_signs.Goals as goal

pub loop-left-preserved : goal.loop-left-preserved
loop-left-preserved c =
    step (signs c.args.sign.now) (string_bytes c.loop-left.out) (string_bytes c.push_signs.new.out) _ c.loop-left.left
    (characters c.loop-left.rest.now) c.in-Some.character.now (characters c.in-Some.others.now)
    c.loop-left-test.true c.in-Some.ensures.parts c.in_ok-push_signs-in-Some.ensures c.loop-left.invariant
