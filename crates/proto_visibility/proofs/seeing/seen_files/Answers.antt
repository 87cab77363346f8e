use Rattle.std.proofs.Common.{length, map}
use Rattle.proto_visibility.specs.Tables.Rows.{files_at}
use Rattle.proto_visibility.proofs.SeeingLemmas.{rows_by}
use Rattle.proto_visibility.proofs.seeing.seen_files.Goals as goal

pub returns : goal.returns
returns c =
    let table = c.args.table.now in
    let rows = map (files_at c.in_ok-order.order) c.in_ok-rows.rows.items in
    rows_by c.requires.steps (length table) (length c.args.files.now) rows c.requires.one_each c.in_ok-rows.ensures
