use Rattle.scip_pages.proofs.SnapshotSource.{flat_is_one_line, has_the_source}
use Rattle.scip_pages.proofs.laws.snapshots_have_their_source.Goals as goal

pub returns : goal.returns
returns c = record { source = has_the_source; line = flat_is_one_line }
