use Rattle.std.proofs.Common.{◌↔◌, IsTrue}
use Rattle.option_link.specs.Doubts.{IsWordFarther}
use Rattle.option_link.specs.Lookups.{admits}
use Rattle.option_link.proofs.DoubtLemmas.{IsBeyond, word_found, word_lost}
use Rattle.option_link.proofs.LoopLemmas.{never_so, none_of, ok_as, some_of}
use Rattle.option_link.proofs.naming.Asked.is_word_farther.Goals as goal

pub returns-in-Some : goal.returns-in-Some
returns-in-Some c =
    let self = c.args.self in
    let files = self.files.names.now in
    let option = self.option.now in
    let number = c.args.number in
    let sought = admits c.args.sought in
    let word = c.args.word.now in
    let scope = c.args.scope.now in
    let start = c.in-Some.start.now in
    let found = some_of _ _ _ c.in-Some.is c.in_ok-start.ensures in
    let way = word_found files self.file option number sought word scope start found in
    ok_as c.is_beyond.result (λ is. IsTrue is ↔ IsBeyond files self.file option number scope start)
    (λ is. IsTrue is ↔ IsWordFarther files self.file option number sought word scope)
    (λ is so. (λ t. way.0 (so.0 t), λ farther. so.1 (way.1 farther))) c.is_beyond.ensures

pub returns-in-None : goal.returns-in-None
returns-in-None c =
    let self = c.args.self in
    let none = none_of _ _ c.in-None.is c.in_ok-start.ensures in
    never_so _ (word_lost self.files.names.now self.file self.option.now c.args.number (admits c.args.sought)
    c.args.word.now c.args.scope.now none)
