use Rattle.std.proofs.Common.{OnOk, sym, subst}
use Rattle.proto_visibility.specs.declared.lookup.Entity.{Entity}
use Rattle.scip_model.specs.Tables.ExternalLists.{Adds, IsOfPart}
use Rattle.scip_model.proofs.external_symbols.push_part.Goals as goal

pub returns-in-Declared : goal.returns-in-Declared
returns-in-Declared c =
    subst (λ (part : Entity). OnOk c.push_declared.result
    (Adds (IsOfPart c.args.linker.now c.args.choices.now part) c.args.named.now.items
    c.push_declared.new.named.items))
    (sym c.in-Declared.is) c.push_declared.ensures
