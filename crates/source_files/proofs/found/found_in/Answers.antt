use Rattle.source_files.specs.Entries.{nothing}
use Rattle.source_files.proofs.EntryLemmas.{entry_more}
use Rattle.source_files.proofs.found.found_in.Goals as goal

pub loop-entry-init : goal.loop-entry-init
loop-entry-init c = rw (c.new-folders.ensures.items, c.new-paths.ensures.items) nothing

pub loop-entry-preserved : goal.loop-entry-preserved
loop-entry-preserved c =
    entry_more c.args.folder.now c.args.entries.now c.loop-entry.entry-index c.entry-item.result _ _ _ _
    c.loop-entry-test.true c.entry-item.is c.loop-entry.invariant c.in_ok-add_entry.ensures
