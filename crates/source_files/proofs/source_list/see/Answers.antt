use Rattle.std.proofs.Common.{Some}
use Rattle.std.proofs.lemmas.Map.Text.{hash_map_updates_str}
use Rattle.source_files.proofs.source_list.see.Goals as goal

pub returns : goal.returns
returns c = hash_map_updates_str c.args.path.now c.args.seen.now c.insert.new.self
    (Some c.args.line) c.in_ok-insert.ensures.updates
