use Rattle.source_files.specs.Unread.{unread_cmp, unread_of}
use Rattle.source_files.proofs.UnreadEntryLemmas.{equal_unread, unread_ties, unread_total}
use Rattle.source_files.proofs.WalkOnceLemmas.{each_once}
use Rattle.std.proofs.lemmas.List.Filters.{dedup_is}
use Rattle.source_files.proofs.unread_entry.each_once.Goals as goal

pub returns : goal.returns
returns c =
    let all = each_once unread_of unread_cmp unread_total equal_unread _ unread_ties c.args.entries.items
    c.sort.new.self.items c.dedup.new.self.items c.sort.ensures.permutation c.in_ok-sort.ensures.sorted
    (dedup_is _ _ _ c.dedup.ensures.filtered) in
    record { same = all.0; ascends = all.1 }
