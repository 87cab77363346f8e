use Rattle.std.proofs.Common.{◌≡◌, get_or, arith}
use Rattle.std.proofs.lemmas.List.Elements.{Contains-get_or}
use Rattle.std.proofs.lemmas.Option.{slice_get-get_or}
use Rattle.option_link.specs.declared.table.Listed.{Listed}
use Rattle.option_link.specs.Said.{IsSaidAt, asked_for, saying}
use Rattle.option_link.proofs.LoopLemmas.{all_of, always_so, fails, never_so, none_yet, one_more}
use Rattle.option_link.proofs.SaidLemmas.{nowhere}
use Rattle.option_link.proofs.said.SaidOfMessages.is_among.Goals as goal

pub loop-one-init : goal.loop-one-init
loop-one-init c =
    none_yet (λ (one : Listed). ((one.place.file ≡ c.args.file)
    × IsSaidAt c.args.self.now one.place (saying c.args.name (asked_for c.args.word))) → ⊥) c.args.listed.now

pub returns-then-is_said_at : goal.returns-then-is_said_at
returns-then-is_said_at c =
    let listed = c.args.listed.now in
    let index = c.loop-one.one-index in
    let its = c.is_said_at.ensures.0 c.if-is_said_at.true in
    always_so _ (get_or listed index nowhere, Contains-get_or listed index nowhere (omega arith), its.0, its.1)

pub loop-one-preserved : goal.loop-one-preserved
loop-one-preserved c =
    let listed = c.args.listed.now in
    let index = c.loop-one.one-index in
    one_more (λ (one : Listed). ((one.place.file ≡ c.args.file)
    × IsSaidAt c.args.self.now one.place (saying c.args.name (asked_for c.args.word))) → ⊥) listed index
    (get_or listed index nowhere) (slice_get-get_or listed index nowhere (omega arith))
    (fails c.is_said_at.result _ c.is_said_at.ensures c.if-is_said_at.false) c.loop-one.invariant

pub returns : goal.returns
returns c =
    never_so _ (λ x. all_of (λ (one : Listed). ((one.place.file ≡ c.args.file)
    × IsSaidAt c.args.self.now one.place (saying c.args.name (asked_for c.args.word))) → ⊥) c.args.listed.now
    c.loop-one.one-index (omega arith) c.loop-one.invariant x.0 x.1 (x.2, x.3))
