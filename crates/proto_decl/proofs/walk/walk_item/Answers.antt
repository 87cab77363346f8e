use Rattle.std.proofs.Common.{◌∙◌, ◌++◌, ap, sym, Result, Ok, Err, OnOk}
use Rattle.std.proofs.lemmas.List.{append-nil}
use Rattle.proto_decl.specs.Walked.{uses_in_item}
use Rattle.proto_decl.proofs.WalkedLemmas.{enum_uses_none}
use Rattle.proto_decl.proofs.walk.walk_item.Goals as goal

-- what holds at all holds of a result, too
on_ok : {T E P : Type 0} (result : Result T E) → P → OnOk result P
on_ok (Ok value) holds = holds
on_ok (Err fault) holds = tt

pub returns-in-Enum-clause-uses : goal.returns-in-Enum-clause-uses
returns-in-Enum-clause-uses c =
    let text = c.args.text.now in
    let around = c.args.surrounding.now in
    let uses = c.args.found.now.uses.items in
    on_ok c.outline_enum.result
    (sym (ap (λ found. uses ++ found)
    (ap (uses_in_item text around) c.in-Enum.is ∙ enum_uses_none text around c.in-Enum.declared)
    ∙ append-nil uses))
