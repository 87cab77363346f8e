use Rattle.std.proofs.Common.{◌≡◌, ◌<◌, ℕ, List, Option, Some, length, ap, sym, ◌∙◌, subst, arith}
use Rattle.std.specs.List.{slice_get}
use Rattle.proto_link.specs.Uncertain.{IsFirstUnreadIf}
use Rattle.option_link.specs.Linked.{LinkedOptions}
use Rattle.option_link.proofs.LoopLemmas.{beyond}
use Rattle.option_link.proofs.linker.OptionLinker.first_unread.Goals as goal

pub returns-in-Some : goal.returns-in-Some
returns-in-Some c =
    let first = c.in-Some.first in
    let stands = subst (λ (firsts : List (Option ℕ)). slice_get firsts c.args.file ≡ Some first)
    c.as_slice.ensures.value (sym c.first_at.ensures ∙ c.in-Some.is) in
    subst (λ (o : LinkedOptions). IsFirstUnreadIf o.files c.args.file first) c.self.view_is
    (c.self.invariant.2.are c.args.file first stands)

pub returns-in-None : goal.returns-in-None
returns-in-None c =
    let within = subst (λ (o : LinkedOptions). c.args.file < length o.files) (sym c.self.view_is) c.requires in
    absurd (beyond c.as_slice.result.now c.args.file
    (omega (arith, within, c.self.invariant.2.one_each, ap length c.as_slice.ensures.value))
    (sym c.first_at.ensures ∙ c.in-None.is))
