use Rattle.std.proofs.Common.{rules, arith}
use Rattle.std.proofs.lemmas.List.Sorted.{IsNonDecreasingBy-from_sort_by_key}
use Rattle.option_link.specs.declared.table.Listed.{Listed}
use Rattle.option_link.proofs.SaidLemmas.{said_none, said_more, said_all}
use Rattle.option_link.proofs.said.list_all.Goals as goal

pub loop-file-init : goal.loop-file-init
loop-file-init c = said_none c.args.known.now c.new-listed.result.items

pub loop-file-preserved : goal.loop-file-preserved
loop-file-preserved c =
    said_more c.args.known.now c.loop-file.file c.messages_of.result.now c.loop-file.listed.items
    c.list_file.new.listed.items c.messages_of.ensures c.in_ok-list_file.ensures c.loop-file.invariant

pub returns : goal.returns
returns c =
    said_all c.args.known.now c.loop-file.file c.loop-file.listed.items c.sort_unstable_by_key.new.self.items
    (omega (arith, c.count-file-end.ensures)) c.loop-file.invariant c.sort_unstable_by_key.ensures.permutation
    (IsNonDecreasingBy-from_sort_by_key (λ (one : Listed). one.hash64) c.sort_unstable_by_key.new.self.items
    c.sort_unstable_by_key.ensures.sorted (λ a r q k. search rules))
