use Rattle.std.proofs.Common.{◌↔◌, [], ◌∷◌, IsTrue, map, arith}
use Rattle.option_link.specs.Doubts.{AreFoundFarther}
use Rattle.option_link.proofs.DoubtLemmas.{no_words_farther, words_farther}
use Rattle.option_link.proofs.LookupLemmas.{several_of}
use Rattle.option_link.proofs.LoopLemmas.{never_so, ok_as}
use Rattle.option_link.proofs.WordLemmas.{now, one_of}
use Rattle.option_link.proofs.naming.Asked.are_found_farther.Goals as goal

pub returns-in-empty : goal.returns-in-empty
returns-in-empty c =
    let self = c.args.self in
    never_so _ (no_words_farther self.files.names.now self.file self.option.now c.args.number c.args.words.now
    c.args.scope.now (omega arith))

pub returns-in-len1 : goal.returns-in-len1
returns-in-len1 c =
    let self = c.args.self in
    let files = self.files.names.now in
    let option = self.option.now in
    let words = map now c.args.words.now in
    let scope = c.args.scope.now in
    let way = words_farther files self.file option c.args.number words _ [] scope
    (one_of c.args.words.now _ (omega arith)) in
    ok_as c.is_word_farther.result _
    (λ is. IsTrue is ↔ AreFoundFarther files self.file option c.args.number words scope)
    (λ is so. (λ t. way.0 (so.0 t), λ farther. so.1 (way.1 farther))) c.is_word_farther.ensures

pub returns-in-len2-up : goal.returns-in-len2-up
returns-in-len2-up c =
    let self = c.args.self in
    let files = self.files.names.now in
    let option = self.option.now in
    let words = map now c.args.words.now in
    let scope = c.args.scope.now in
    let several = several_of c.args.words.now _ (omega arith) in
    let way = words_farther files self.file option c.args.number words _ (several.0 ∷ several.1) scope several.2 in
    ok_as c.is_word_farther-in-len2-up.result _
    (λ is. IsTrue is ↔ AreFoundFarther files self.file option c.args.number words scope)
    (λ is so. (λ t. way.0 (so.0 t), λ farther. so.1 (way.1 farther))) c.is_word_farther-in-len2-up.ensures
