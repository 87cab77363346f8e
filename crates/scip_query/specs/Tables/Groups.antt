-- Places by symbol, as a table is made of them.
use Rattle.std.specs.Prelude.{◌≡◌, ℕ, List, [], Vec}
use Rattle.std.specs.Borrow.{Bor}
use Rattle.std.specs.HashMap.{HashMap, get_by}
use Rattle.std.specs.List.{filter}
use Rattle.std.specs.Option.{option_map_or}
use Rattle.std.specs.Str.{bytes_eq}

-- what a map lists at a symbol
abbrev pub gathered_at : {N A S : Type 0} → HashMap (Bor (List ℕ)) (Vec N A) S → (symbol : List ℕ) → List N
gathered_at groups symbol =
    option_map_or (λ listed. listed.items) (get_by (λ (key : Bor (List ℕ)). bytes_eq symbol key.now) groups) []

-- of some places those with each symbol, in their order
abbrev pub AreGathered : {N : Type 0} → (N → List ℕ) → List N → (List ℕ → List N) → Type 0
AreGathered {N} symbol_of places gathered =
    (symbol : List ℕ) → gathered symbol ≡ filter (λ (place : N). bytes_eq (symbol_of place) symbol) places
