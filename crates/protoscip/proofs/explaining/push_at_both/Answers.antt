use Rattle.std.proofs.Common.{◌≡◌, ◌++◌, List, subst, ◌∙◌}
use Rattle.std.specs.Prelude.{OnOk}
use Rattle.std.specs.String.{string_bytes}
use Rattle.std.proofs.lemmas.Result.{on_ok_weaker}
use Rattle.source_tree.specs.Files.{TreeFile}
use Rattle.protoscip.specs.Explanations.{at_place, first_sentence}
use Rattle.protoscip.proofs.ExplainingLemmas.{two_parts}
use Rattle.protoscip.proofs.explaining.push_at_both.Goals as goal

pub returns-clause-both : goal.returns-clause-both
returns-clause-both c =
    let First : List TreeFile → Type 0 = λ tree. OnOk c.push_at_place-2.result (string_bytes c.push_at_place-2.new.out
    ≡ string_bytes c.push_at_place.new.out ++ at_place tree c.args.first.now first_sentence) in
    on_ok_weaker c.push_at_place-2.result (λ h.
    two_parts (string_bytes c.args.out.now) (string_bytes c.push_at_place.new.out)
    (string_bytes c.push_at_place-2.new.out)
    (at_place c.args.counter.now c.args.second.now c.args.sentence.now)
    (at_place c.args.counter.now c.args.first.now first_sentence)
    c.in_ok-push_at_place.ensures.place h) (subst First
    (c.new.ensures ∙ (c.tree.ensures ∙ c.in_ok-push_at_place.ensures.same)) c.push_at_place-2.ensures.place)
