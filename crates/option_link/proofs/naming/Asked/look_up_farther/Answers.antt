use Rattle.std.proofs.Common.{◌<◌, ◌↔◌, ℕ, List, IsTrue, length, map, sym, subst}
use Rattle.option_link.specs.Doubts.{AreFoundFarther, LookUpFarther}
use Rattle.option_link.specs.Found.{IsScope}
use Rattle.option_link.proofs.DoubtLemmas.{from_scope}
use Rattle.option_link.proofs.LoopLemmas.{none_of, ok_as, some_of}
use Rattle.option_link.proofs.WordLemmas.{now}
use Rattle.option_link.proofs.naming.Asked.look_up_farther.Goals as goal

pub scope_of-scope-requires : goal.scope_of-scope-requires
scope_of-scope-requires c =
    subst (λ (n : List ℕ). 0 < length n) (sym c.as_str.ensures)
    (some_of _ _ _ c.in-Some.is c.in_ok-extended.ensures.some)

pub returns-in-Some : goal.returns-in-Some
returns-in-Some c =
    let self = c.args.self in
    let files = self.files.names.now in
    let option = self.option.now in
    let number = c.args.number in
    let context = c.args.context in
    let words = map now c.args.words.now in
    let scope = c.scope_of-scope.result.now in
    let called = some_of _ _ _ c.in-Some.is c.in_ok-extended.ensures.named in
    let is_scope = subst (λ (n : List ℕ). IsScope option number n scope) c.as_str.ensures c.scope_of-scope.ensures in
    let way = from_scope files self.file option number context words c.in-Some.extended scope called is_scope
    c.requires.has in
    ok_as c.are_found_farther.result (λ is. IsTrue is ↔ AreFoundFarther files self.file option number words scope)
    (λ is. IsTrue is ↔ LookUpFarther files self.file option number context words)
    (λ is so. (λ t. way.0 (so.0 t), λ farther. so.1 (way.1 farther))) c.are_found_farther.ensures

pub returns-in-None : goal.returns-in-None
returns-in-None c =
    let none = none_of _ _ c.in-None.is c.in_ok-extended.ensures.named in
    absurd (none c.requires.has.message c.requires.has.extended)
