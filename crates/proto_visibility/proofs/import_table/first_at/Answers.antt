use Rattle.std.proofs.Common.{Some}
use Rattle.std.proofs.lemmas.Map.Text.{hash_map_updates_str}
use Rattle.proto_visibility.proofs.import_table.first_at.Goals as goal

pub returns-clause-kept : goal.returns-clause-kept
returns-clause-kept c = hash_map_updates_str c.args.path.now c.args.numbers.now c.insert.new.self
    (Some c.args.number) c.in_ok-insert.ensures.updates
