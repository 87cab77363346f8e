use Rattle.std.specs.String.{string_bytes}
use Rattle.option_link.proofs.LoopLemmas.{some_of, none_of}
use Rattle.option_link.proofs.LookupLemmas.{single_by, single_none}
use Rattle.option_link.proofs.table.DeclarationTable.one_word.Goals as goal

pub returns-in_ok-name-in-Some : goal.returns-in_ok-name-in-Some
returns-in_ok-name-in-Some c =
    let files = c.args.self.now in
    let file = c.args.file in
    let scope = c.args.scope.now in
    let word = c.args.word.now in
    let innermost = some_of _ _ _ c.in-Some.is c.in_ok-start.ensures in
    single_by files file scope word c.in-Some.start.now (string_bytes c.in_ok-name-in-Some.name) innermost
    c.in_ok-name-in-Some.ensures

pub returns-in-None : goal.returns-in-None
returns-in-None c =
    let none = none_of _ _ c.in-None.is c.in_ok-start.ensures in
    single_none c.args.self.now c.args.file c.args.scope.now c.args.word.now none
