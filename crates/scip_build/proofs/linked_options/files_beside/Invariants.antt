-- What is known of the files so far.
use Rattle.std.proofs.Common.{◌≡◌, take}
use Rattle.scip_build.specs.Documents.{known_in}
use Rattle.scip_build.proofs.linked_options.files_beside.Given as goal

abbrev pub invariant-loop-parsed_file : goal.invariant-loop-parsed_file
invariant-loop-parsed_file l = l.beside ≡ known_in (take l.parsed_file-index l.parsed)
