use Rattle.std.proofs.Common.{rules, arith}
use Rattle.std.proofs.lemmas.List.Sorted.{IsNonDecreasingBy-from_sort_by_key}
use Rattle.option_link.specs.declared.table.Listed.{Listed}
use Rattle.option_link.proofs.TableLemmas.{lists_none, lists_more, lists_all}
use Rattle.option_link.proofs.table.listed_of.Goals as goal

pub loop-file-init : goal.loop-file-init
loop-file-init c = lists_none c.args.linker.now c.new-listed.result.items

pub loop-file-preserved : goal.loop-file-preserved
loop-file-preserved c =
    lists_more c.args.linker.now c.loop-file.file c.loop-file.listed.items c.list_known.new.listed.items
    c.in_ok-list_known.ensures c.loop-file.invariant

pub returns : goal.returns
returns c =
    lists_all c.args.linker.now c.loop-file.file c.loop-file.listed.items c.sort_unstable_by_key.new.self.items
    (omega (arith, c.count-file-end.ensures)) c.loop-file.invariant c.sort_unstable_by_key.ensures.permutation
    (IsNonDecreasingBy-from_sort_by_key (λ (one : Listed). one.hash64) c.sort_unstable_by_key.new.self.items
    c.sort_unstable_by_key.ensures.sorted (λ a r q k. search rules))
