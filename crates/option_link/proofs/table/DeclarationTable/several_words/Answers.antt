use Rattle.std.proofs.Common.{◌≡◌, ◌∷◌, false, List, ℕ, sym, ap, ◌∙◌, subst}
use Rattle.std.specs.String.{string_bytes}
use Rattle.proto_decl.specs.Names.{qualified, dotted}
use Rattle.option_link.specs.Lookups.{LooksFor}
use Rattle.option_link.proofs.LoopLemmas.{some_of, none_of}
use Rattle.option_link.proofs.LookupLemmas.{compound_by, compound_none}
use Rattle.option_link.proofs.table.DeclarationTable.several_words.Goals as goal

pub returns-in_ok-name-in-Some : goal.returns-in_ok-name-in-Some
returns-in_ok-name-in-Some c =
    let files = c.args.self.now in
    let file = c.args.file in
    let scope = c.args.scope.now in
    let first = c.args.first.now in
    let words = c.requires.words in
    let innermost = some_of _ _ _ c.in-Some.is c.in_ok-start.ensures in
    let start = c.in-Some.start.now in
    let text = string_bytes c.in_ok-name-in-Some.name in
    let is : text ≡ qualified start (dotted (first ∷ (words.0 ∷ words.1))) =
    c.in_ok-name-in-Some.ensures ∙ ap (λ ws. qualified start (dotted ws)) words.2 in
    subst (λ (ws : List (List ℕ)). LooksFor files file false ws scope text) (sym words.2)
    (compound_by files file scope first words.0 words.1 start text innermost is)

pub returns-in-None : goal.returns-in-None
returns-in-None c =
    let none = none_of _ _ c.in-None.is c.in_ok-start.ensures in
    let words = c.requires.words in
    subst (λ (ws : List (List ℕ)). (name : List ℕ) → LooksFor c.args.self.now c.args.file false ws c.args.scope.now name
    → ⊥) (sym words.2)
    (compound_none c.args.self.now c.args.file c.args.scope.now c.args.first.now words.0 words.1 none)
