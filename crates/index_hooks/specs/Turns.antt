-- Whose turn it is in a choice: the filters in their order, and then the rules in theirs.
use Rattle.std.specs.Prelude.{◌≡◌, ℕ, ◌+◌, List, ◌∷◌, ◌++◌, length}
use Rattle.index_hooks.specs.Adding.{most_hooks}
use Rattle.index_hooks.specs.declared.turns.Turn.{Turn}
use Rattle.index_hooks.specs.declared.turns.Turns.{Turns}

-- those of the most filters and the most rules that a registry has
abbrev pub most_turns : ℕ
most_turns = most_hooks + most_hooks

-- how many turns were given out or left out
abbrev pub taken : Turns → ℕ
taken turns = turns.taken

-- how many turns come before it
abbrev pub place_of : Turn → ℕ
place_of turn = turn.place

-- it is the turn of this hook, one of those whose turns begin at a place
pub record IsTurnOf {H : Type 0} (first : ℕ) (hooks : List H) (hook : H) (place : ℕ) : Type 0 where
  pub before : List H
  pub after : List H
  pub hooks_are : hooks ≡ before ++ hook ∷ after
  pub place_is : place ≡ first + length before
