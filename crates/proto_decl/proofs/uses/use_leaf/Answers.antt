use Rattle.std.proofs.Common.{◌∙◌, ◌++◌, ap, sym}
use Rattle.std.proofs.lemmas.List.{append-nil}
use Rattle.proto_decl.specs.Walked as walked
use Rattle.proto_decl.proofs.WalkedLemmas.{enum_uses_none}
use Rattle.proto_decl.proofs.uses.use_leaf.Goals as goal

pub returns-in-Enum : goal.returns-in-Enum
returns-in-Enum c =
    let text = c.args.text.now in
    let around = c.args.surrounding.now in
    let uses = c.args.uses.now.items in
    sym (ap (λ found. uses ++ found)
    (ap (walked.uses_in_leaf text around) c.in-Enum.is ∙ enum_uses_none text around c.in-Enum.field-0)
    ∙ append-nil uses)
