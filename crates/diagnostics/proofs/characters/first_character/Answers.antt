use Rattle.std.proofs.Common.{◌∙◌, ap₂, sym, List, ℕ, ◌∷◌}
use Rattle.diagnostics.specs.Characters.{characters}
use Rattle.diagnostics.proofs.CharacterLemmas.{first_at, behind_first}
use Rattle.diagnostics.proofs.characters.first_character.Goals as goal

pub returns-in-len1-up-clause-parts : goal.returns-in-len1-up-clause-parts
returns-in-len1-up-clause-parts c =
    let bytes = c.args.bytes.now in
    first_at bytes _ c.count_going_on.result c.in-len1-up.len_at_least
    (behind_first bytes) c.count_going_on.ensures.value
    ∙ ap₂ (λ (first rest : List ℕ). first ∷ characters rest) (sym c.split_at.ensures.front)
    (sym c.split_at.ensures.back)
