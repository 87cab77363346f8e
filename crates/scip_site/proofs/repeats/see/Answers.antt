use Rattle.std.proofs.Common.{◌∙◌, ap}
use Rattle.std.specs.Prelude.{Some}
use Rattle.std.specs.HashMap.{get_by}
use Rattle.std.specs.Option.{is_some}
use Rattle.std.specs.Str.{bytes_eq}
use Rattle.std.proofs.lemmas.Map.Text.{hash_map_updates_str}
use Rattle.scip_site.proofs.RepeatLemmas.{put_or_there}
use Rattle.scip_site.proofs.repeats.see.Goals as goal

pub returns-clause-seen : goal.returns-clause-seen
returns-clause-seen c = λ other.
    ap is_some (hash_map_updates_str c.args.path.now c.args.seen.now c.insert.new.self
    (Some c.args.number) c.in_ok-insert.ensures.updates other)
    ∙ put_or_there (bytes_eq c.args.path.now other) c.args.number
    (get_by (λ key. bytes_eq other key.now) c.args.seen.now)
