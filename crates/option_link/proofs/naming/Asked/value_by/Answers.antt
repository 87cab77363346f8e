use Rattle.std.proofs.Common.{◌≡◌, ◌∷◌, [], List, ℕ, map, sym, ◌∙◌, subst, arith}
use Rattle.option_link.specs.Found.{IsValueOf}
use Rattle.option_link.specs.declared.place.DeclaredPlace.{DeclaredPlace}
use Rattle.option_link.proofs.LoopLemmas.{found_as}
use Rattle.option_link.proofs.NameLemmas.{same_word}
use Rattle.option_link.proofs.WordLemmas.{now, one_of, none_one, many_one}
use Rattle.option_link.proofs.naming.Asked.value_by.Goals as goal

pub returns-in-empty : goal.returns-in-empty
returns-in-empty c = λ value word is x. none_one c.args.words.now word (omega arith) is

pub returns-in-len1 : goal.returns-in-len1
returns-in-len1 c =
    let files = c.args.self.files.names.now in
    let type = c.args.of in
    let words = map now c.args.words.now in
    let are = one_of c.args.words.now _ (omega arith) in
    found_as c.value.result ((value : DeclaredPlace) → IsValueOf files type _ value → ⊥)
    ((value : DeclaredPlace) (word : List ℕ) → words ≡ word ∷ [] → IsValueOf files type word value → ⊥)
    (IsValueOf files type _) (λ value. (word : List ℕ) × (words ≡ word ∷ []) × IsValueOf files type word value)
    (λ none value word is x. none value
    (subst (λ (w : List ℕ). IsValueOf files type w value) (sym (same_word _ word (sym are ∙ is))) x))
    (λ value x. (_, are, x)) c.value.ensures

pub returns-in-len2-up : goal.returns-in-len2-up
returns-in-len2-up c = λ value word is x. many_one c.args.words.now word (omega arith) is
