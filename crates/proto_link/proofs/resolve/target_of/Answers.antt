use Rattle.std.proofs.Common.{refl}
use Rattle.proto_link.proofs.TargetLemmas.{none_told, without_name, without_two}
use Rattle.proto_link.specs.Tables.Found.{HasNoName}
use Rattle.proto_link.proofs.resolve.target_of.Goals as goal

pub returns-in-None-clause-refused : goal.returns-in-None-clause-refused
returns-in-None-clause-refused c =
    let files = c.args.namespace.now in
    let file = c.args.file in
    let type_use = c.args.type_use.now in
    let none : HasNoName files file type_use =
    none_told (HasNoName files file type_use) _ _ c.in-None.is
    c.in_ok-name.ensures in
    rw c.unresolved.ensures
    (without_name files file type_use none, without_two files file type_use none, refl)
