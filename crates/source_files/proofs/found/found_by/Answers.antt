use Rattle.std.proofs.Common.{◌∙◌, map, ap, subst, string_bytes}
use Rattle.source_files.specs.Entries.{Give}
use Rattle.source_files.specs.Unread.{in_folder, unread_of}
use Rattle.source_files.proofs.FoundLemmas.{holds_listed}
use Rattle.source_files.proofs.found.found_by.Goals as goal

pub returns : goal.returns
returns c =
    let folder = c.args.folder.now in
    let found = c.in_ok-found.found in
    let give = subst (λ l. Give folder l (map string_bytes found.0.items) (map string_bytes found.1.items))
    c.deref.ensures.value c.in_ok-found.ensures in
    let unread = c.in_ok-unread.ensures
    ∙ ap (map (λ named. in_folder folder (unread_of named))) c.deref-2.ensures.value in
    holds_listed string_bytes unread_of folder c.args.listing.now.entries.items c.args.listing.now.unnamed.items
    c.args.listing.now.identity found.0.items found.1.items c.in_ok-unread.unread.items give unread
