use Rattle.std.proofs.Common.{◌≡◌, ◌++◌, length}
use Rattle.std.specs.String.{string_bytes}
use Rattle.scip_pages.proofs.SiteFolderLemmas.{scanned}
use Rattle.scip_pages.proofs.site.folder_marks.Given as goal

-- the marks so far, and those of what is left
abbrev pub invariant-loop-rest : goal.invariant-loop-rest
invariant-loop-rest l = string_bytes l.marks ++ scanned l.rest ≡ scanned l.path

abbrev pub decreases-loop-rest : goal.decreases-loop-rest
decreases-loop-rest l = length l.rest
