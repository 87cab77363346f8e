-- The files so far.
use Rattle.std.proofs.Common.{◌≡◌, take}
use Rattle.scip_build.specs.Linking.{linked_files}
use Rattle.scip_build.proofs.linking.linked_files.Given as goal

abbrev pub invariant-loop-parsed_file : goal.invariant-loop-parsed_file
invariant-loop-parsed_file l = l.files.items ≡ linked_files (take l.parsed_file-index l.parsed)
