-- What comes of adding a hook to those that a registry has.
use Rattle.std.specs.Prelude.{◌≡◌, ◌<◌, ◌↔◌, ℕ, List, [], ◌∷◌, ◌++◌, length, Result, Ok, Err}
use Rattle.index_hooks.specs.declared.fault.HookFault.{HookFault}
use Rattle.index_hooks.specs.declared.fault.HookFault.TheVariants.{Full}

-- of filters, and of documentation rules
abbrev pub most_hooks : ℕ
most_hooks = 16

-- The hook comes after the others, in a list that was not full; or nothing has changed and it comes back, Full if and
-- only if the list was.
abbrev pub Adds : {H : Type 0} → (old : List H) (hook : H) (new : List H) → Result (Unit {0}) (H × HookFault) → Type 0
Adds old hook new (Ok _) = (new ≡ old ++ hook ∷ []) × (length old < most_hooks)
Adds old hook new (Err e) = (new ≡ old) × (e.0 ≡ hook) × ((e.1 ≡ Full) ↔ (length old ≡ most_hooks))
