use Rattle.std.proofs.Common.{◌∙◌}
use Rattle.proto_visibility.proofs.FileOrderLemmas.{found_more}
use Rattle.proto_visibility.proofs.file_order.walk.Goals as goal

pub loop-file-preserved : goal.loop-file-preserved
loop-file-preserved c = record {
  files = c.in_ok-walk_from.ensures.files ∙ c.loop-file.invariant.files;
  found = found_more c.loop-file.search.numbers c.walk_from.new.search.numbers c.loop-file.file
      c.in_ok-walk_from.ensures.kept c.in_ok-walk_from.ensures.found c.loop-file.invariant.found;
}
