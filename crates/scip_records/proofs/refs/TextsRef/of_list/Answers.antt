use Rattle.std.proofs.Common.{append-nil}
use Rattle.scip_records.proofs.refs.TextsRef.of_list.Goals as goal

pub returns : goal.returns
returns c = append-nil c.args.listed.now
