use Rattle.std.specs.String.{string_bytes}
use Rattle.scip_model.proofs.PlanLemmas.{keys_grown, key_stored}
use Rattle.scip_model.proofs.symbol_table.place_of.Goals as goal

pub returns-clause-grown : goal.returns-clause-grown
returns-clause-grown c =
    keys_grown string_bytes _ c.args.others.now.keys c.insert_full.new.self.keys c.args.text c.in_ok-index.ensures.keys

pub returns-clause-stored : goal.returns-clause-stored
returns-clause-stored c =
    let stored = c.in_ok-index.ensures.stored in
    key_stored string_bytes c.insert_full.new.self.keys _ stored.0 (string_bytes c.args.text) stored.1 stored.2
