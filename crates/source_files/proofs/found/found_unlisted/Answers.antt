use Rattle.std.proofs.Common.{string_bytes}
use Rattle.source_files.specs.Unread.{unread_of}
use Rattle.source_files.proofs.FoundLemmas.{holds_unlisted}
use Rattle.source_files.proofs.found.found_unlisted.Goals as goal

pub returns : goal.returns
returns c =
    holds_unlisted string_bytes unread_of c.args.folder.now _ _ c.in_ok-unread.unread.items c.new-folders.ensures.items
    c.new-paths.ensures.items c.in_ok-unread.ensures
