use Rattle.std.proofs.Common.{rules}
use Rattle.std.proofs.lemmas.List.Sorted.{answers_always}
use Rattle.option_link.proofs.FactLemmas.{rises_by, starts_before}
use Rattle.option_link.proofs.facts.rise.Goals as goal

pub returns : goal.returns
returns c = rises_by c.args.fields.now c.is_sorted_by.result
    (c.is_sorted_by.ensures.cases starts_before (answers_always _ _ _ (λ f a r g called. search rules)))
