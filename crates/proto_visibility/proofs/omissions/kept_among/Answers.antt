use Rattle.std.proofs.Common.{◌↔◌, ℕ, sym, ◌∙◌, subst, arith}
use Rattle.std.specs.List.{Contains}
use Rattle.std.proofs.lemmas.Bool.{false≢true}
use Rattle.std.proofs.lemmas.List.{take_all}
use Rattle.proto_visibility.specs.Kept.{IsKeptFile}
use Rattle.proto_visibility.proofs.OmissionLemmas.{among_none, among_skip, among_more}
use Rattle.proto_visibility.proofs.omissions.kept_among.Goals as goal

pub loop-number-init : goal.loop-number-init
loop-number-init c = among_none c.args.omissions.now c.new-kept.result.items c.new-kept.ensures.items

pub loop-number-preserved-then-not-is_kept : goal.loop-number-preserved-then-not-is_kept
loop-number-preserved-then-not-is_kept c = among_skip c.args.omissions.now c.args.numbers.now
    c.loop-number.kept.items c.loop-number.kept.items c.loop-number.number-index (omega arith)
    c.loop-number.invariant (λ is. false≢true (sym c.if-not-is_kept.true ∙ c.is_kept.ensures.1 is))

pub loop-number-preserved : goal.loop-number-preserved
loop-number-preserved c = among_more c.args.omissions.now c.args.numbers.now c.loop-number.kept.items
    c.push.new.self.items c.loop-number.number-index (omega arith) c.loop-number.invariant
    (c.is_kept.ensures.0 c.if-not-is_kept.false) c.in_ok-push.ensures.items

pub returns : goal.returns
returns c =
    subst (λ xs. (number : ℕ) → Contains c.loop-number.kept.items number
    ↔ (Contains xs number × IsKeptFile c.args.omissions.now number))
    (take_all c.loop-number.number-index c.args.numbers.now (omega arith)) c.loop-number.invariant
