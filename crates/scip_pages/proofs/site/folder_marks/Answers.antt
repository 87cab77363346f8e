use Rattle.std.specs.String.{string_bytes}
use Rattle.scip_pages.proofs.SiteFolderLemmas.{scanned_all}
use Rattle.scip_pages.proofs.site.folder_marks.Goals as goal

pub returns : goal.returns
returns c = scanned_all (string_bytes c.loop-rest.marks) c.loop-rest.rest.now c.args.path.now c.in_default.len_below
    c.loop-rest.invariant
