use Rattle.std.proofs.Common.{◌↔◌, ℕ, ◌∷◌, List, IsTrue, map, sym, ◌∙◌, subst}
use denote.Ref.{Bor}
use Rattle.option_link.specs.Contexts.{HasWords}
use Rattle.option_link.specs.Doubts.{LookUpFarther}
use Rattle.option_link.specs.Uncertain.{IsLookedUpFarther}
use Rattle.option_link.proofs.DoubtLemmas.{has_lookup, name_farther, no_dot, with_dot}
use Rattle.option_link.proofs.LoopLemmas.{fails, never_so, none_of, ok_as, some_of}
use Rattle.option_link.proofs.WordLemmas.{now}
use Rattle.option_link.proofs.naming.Asked.is_looked_up_farther.Goals as goal

pub returns-then-not-is_as : goal.returns-then-not-is_as
returns-then-not-is_as c =
    never_so _ (λ n. fails c.is_as.result _ c.is_as.ensures c.if-not-is_as.true n.extension)

pub returns-then-is_some : goal.returns-then-is_some
returns-then-is_some c =
    never_so _ (λ n. with_dot c.args.name.now.name.leading_dot (sym c.is_some.ensures ∙ c.if-is_some.true) n.plain)

pub look_up_farther-requires-clause-has : goal.look_up_farther-requires-clause-has
look_up_farther-requires-clause-has c =
    let self = c.args.self in
    has_lookup self.files.names.now self.files.known.now self.file self.text.now self.option.now c.args.number
    c.args.name.now c.args.context c.requires.named.0 c.requires.named.1 (c.is_as.ensures.0 c.if-not-is_as.false)

pub returns-in-Some : goal.returns-in-Some
returns-in-Some c =
    let self = c.args.self in
    let files = self.files.names.now in
    let text = self.text.now in
    let option = self.option.now in
    let number = c.args.number in
    let name = c.args.name.now in
    let context = c.args.context in
    let words = map now c.as_slice.result.now in
    let has_words = subst (λ (ws : List (Bor (List ℕ))). HasWords text name (map now ws)) (sym c.as_slice.ensures.value)
    (some_of _ _ _ c.in-Some.is c.in_ok-words.ensures) in
    let way = name_farther files self.files.known.now self.file text option number name context words
    (c.is_as.ensures.0 c.if-not-is_as.false)
    (no_dot name.name.leading_dot (sym c.is_some.ensures ∙ c.if-is_some.false)) has_words in
    ok_as c.look_up_farther.result (λ is. IsTrue is ↔ LookUpFarther files self.file option number context words)
    (λ is. IsTrue is ↔ IsLookedUpFarther files self.file text option number name context)
    (λ is so. (λ t. way.0 (so.0 t), λ farther. so.1 (way.1 farther))) c.look_up_farther.ensures

pub returns-in-None : goal.returns-in-None
returns-in-None c =
    let none = none_of _ _ c.in-None.is c.in_ok-words.ensures in
    never_so _ (λ n. none (n.word ∷ n.others) n.words)
