use Rattle.std.proofs.lemmas.List.Sorted.{IsPermutation-refl}
use Rattle.scip_model.proofs.entry_order.put_near.Goals as goal

pub returns-then-len-lt-MANY : goal.returns-then-len-lt-MANY
returns-then-len-lt-MANY c = IsPermutation-refl c.args.numbers.now.items

pub returns : goal.returns
returns c = c.sort_unstable_by.ensures.permutation
