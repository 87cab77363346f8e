use Rattle.std.proofs.Common.{◌∙◌, Some, ap, cond, List, ℕ}
use Rattle.std.specs.String.{string_bytes}
use Rattle.std.specs.Str.{bytes_eq}
use Rattle.std.specs.HashMap.{get_by_text}
use Rattle.std.proofs.lemmas.Map.Text.{hash_map_updates_text}
use Rattle.scip_model.proofs.repeated.first_holder.Goals as goal

pub returns-clause-kept : goal.returns-clause-kept
returns-clause-kept c = λ other.
    hash_map_updates_text (string_bytes c.in_ok-copy.copy) c.args.holders.now c.insert.new.self (Some c.args.number)
    c.in_ok-insert.ensures.updates other
    ∙ ap (λ (text : List ℕ). cond (bytes_eq text other) (Some c.args.number) (get_by_text c.args.holders.now other))
    c.in_ok-copy.ensures.ok
