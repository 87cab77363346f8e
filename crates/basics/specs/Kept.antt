-- The bytes of a text, wherever it is, and what its copy is.
use Rattle.std.specs.Prelude.{◌≡◌, ℕ, List, Result, Ok, IfOk}
use Rattle.std.specs.declared.alloc.AllocError.{AllocError}
use Rattle.basics.specs.declared.place.Place.{Place}
use Rattle.basics.specs.declared.place.Place.TheVariants.{Borrowed, Owned}

abbrev pub bytes_at : Place → List ℕ
bytes_at (Borrowed text) = text.now
bytes_at (Owned text) = text.value

-- it is in a box of its own, and has these bytes
abbrev pub IsOwned : List ℕ → Place → Type 0
IsOwned bytes (Borrowed text) = ⊥
IsOwned bytes (Owned text) = text.value ≡ bytes

-- A text that is borrowed is borrowed once more, for no memory; one that is owned is copied to another box, for which
-- memory may run out.
abbrev pub IsCopied : Place → Result Place AllocError → Type 0
IsCopied (Borrowed text) result = result ≡ Ok (Borrowed text)
IsCopied (Owned text) result = IfOk result (IsOwned text.value)
