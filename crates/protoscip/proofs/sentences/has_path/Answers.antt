use Rattle.std.proofs.Common.{◌≡◌, ◌∙◌, ◌<◌, ℕ, List, true, false, length, arith, sym, subst}
use Rattle.std.specs.Str.{bytes_eq}
use Rattle.diagnostics.specs.Literals.{joined}
use Rattle.protoscip.proofs.ExplanationPathLemmas.{flipped, here, not_here}
use Rattle.protoscip.proofs.sentences.has_path.Goals as goal

pub returns-then-is_joined : goal.returns-then-is_joined
returns-then-is_joined c =
    let tree = c.args.tree.now in
    let path = joined c.args.literals.now in
    let number = c.loop-number.number in
    let within : number < length tree = omega (arith, c.loop-number-test.true, c.file_count-number-end.ensures.count) in
    sym (here path tree number within c.path.result.now c.path.ensures
    (subst (λ (found : List ℕ). bytes_eq found path ≡ true) c.as_bytes.ensures.value
    (flipped c.as_bytes.result.now path ∙ (sym c.is_joined.ensures ∙ c.if-is_joined.true))))

pub loop-number-preserved : goal.loop-number-preserved
loop-number-preserved c =
    let tree = c.args.tree.now in
    let path = joined c.args.literals.now in
    let number = c.loop-number.number in
    let within : number < length tree = omega (arith, c.loop-number-test.true, c.file_count-number-end.ensures.count) in
    not_here path tree number within c.path.result.now c.path.ensures c.loop-number.invariant
    (subst (λ (found : List ℕ). bytes_eq found path ≡ false) c.as_bytes.ensures.value
    (flipped c.as_bytes.result.now path ∙ (sym c.is_joined.ensures ∙ c.if-is_joined.false)))
