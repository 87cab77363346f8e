-- What bytes are put into, and what it then has.
use Rattle.std.specs.Prelude.{◌≡◌, ℕ, ◌+◌, ◌≤◌, List, ◌++◌, length, Vec, vec_len, vec_capacity}

-- Bytes were put behind those that were put before, whatever those are: `holds` says of an output, and of the sink
-- behind it, that these bytes were put since both were begun. `old` and `new` are the output around the call.
pub data IsPut {W O : Type 0} (holds : W → O → W → O → List ℕ → Type 0) : W → O → W → O → List ℕ → Type 0 where
  put : {before after : W} {old new : O} {bytes : List ℕ}
      → ((sink : W) (begun : O) (earlier : List ℕ) → holds sink begun before old earlier
      → holds sink begun after new (earlier ++ bytes))
      → IsPut holds before old after new bytes

-- a list has these bytes behind those with which it was begun
pub record HasGained {Z : Type 0} (begun now : Vec ℕ Z) (bytes : List ℕ) : Type 0 where
  pub items : now.items ≡ begun.items ++ bytes
  pub len : vec_len now ≡ vec_len begun + length bytes
  pub capacity : vec_capacity begun ≤ vec_capacity now

-- a list is an output: it has them, if it was begun with room for them
abbrev pub IsFilled : {W Z : Type 0} → W → Vec ℕ Z → W → Vec ℕ Z → List ℕ → Type 0
IsFilled sink begun now_sink now bytes =
    vec_len begun + length bytes ≤ vec_capacity begun → HasGained begun now bytes
