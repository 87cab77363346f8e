-- Bytes in which a text, the prefix, is left out at some of its places.
use Rattle.std.specs.Prelude.{ℕ, ◌+◌, ◌≡◌, ◌≤◌, List, [], ◌∷◌, ◌++◌, length, take, drop, vec_len, vec_capacity}
use Rattle.scip_wire.specs.declared.spell.shortened.Shortened.{Shortened}

-- the bytes in full: before each prefix come so many bytes of the rest as a distance says, and behind the last one what
-- is left of the rest
abbrev pub in_full : (prefix rest distances : List ℕ) → List ℕ
in_full prefix rest [] = rest
in_full prefix rest (distance ∷ distances) =
    take distance rest ++ (prefix ++ in_full prefix (drop distance rest) distances)

-- how many bytes of the rest come before the last prefix that is left out
abbrev pub distance_sum : List ℕ → ℕ
distance_sum [] = 0
distance_sum (distance ∷ distances) = distance + distance_sum distances

-- the bytes that were put
abbrev pub bytes_in : Shortened → List ℕ
bytes_in f = in_full f.prefix.items f.rest.items f.distances.items

-- `last` is the sum of the distances, and the rest has so many bytes
pub record IsPlaced (f : Shortened) : Type 0 where
  pub total : f.last ≡ distance_sum f.distances.items
  pub within : f.last ≤ length f.rest.items

-- nothing was put into it
pub record IsBegun (room : ℕ) (f : Shortened) : Type 0 where
  pub rest : f.rest.items ≡ []
  pub len : vec_len f.rest ≡ 0
  pub distances : f.distances.items ≡ []
  pub last : f.last ≡ 0
  pub has_room : vec_capacity f.rest ≡ room

-- these bytes are to be put: their prefix was left out, or not, and `behind` is still to be kept of them
pub record LeavesOut (old now : Shortened) (bytes behind : List ℕ) : Type 0 where
  pub text : IsPlaced old → bytes_in now ++ behind ≡ bytes_in old ++ bytes
  pub placed : IsPlaced old → IsPlaced now
  pub rest : now.rest ≡ old.rest
  pub short : length behind ≤ length bytes

-- these bytes were put behind those that were put before
pub record HasShortened (begun now : Shortened) (bytes : List ℕ) : Type 0 where
  pub text : bytes_in now ≡ bytes_in begun ++ bytes
  pub len : vec_len now.rest ≤ vec_len begun.rest + length bytes
  pub capacity : vec_capacity begun.rest ≤ vec_capacity now.rest
  pub placed : IsPlaced now

-- it is an output: they were put, if there was room for them when it was begun
abbrev pub IsShortened : {W : Type 0} → W → Shortened → W → Shortened → List ℕ → Type 0
IsShortened sink begun now_sink now bytes =
    vec_len begun.rest + length bytes ≤ vec_capacity begun.rest → HasShortened begun now bytes
