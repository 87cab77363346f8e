-- The fields that bytes hold (Protocol Buffers encoding). Each relation goes from the bytes
-- before to the bytes left.
use Rattle.std.specs.Prelude.{◌≡◌, ℕ, suc, ◌+◌, ◌-◌, ◌*◌, ◌^◌, ◌<◌, ◌≤◌, List, [], ◌∷◌, ◌++◌, length}

-- what a field holds, by its wire type (Encoding, Message Structure)
pub data Payload : Type 0 where
  Varint : (value : ℕ) → Payload
  Fixed64 : (bytes : List ℕ) → Payload
  Delimited : (bytes : List ℕ) → Payload
  Fixed32 : (bytes : List ℕ) → Payload

-- the greatest number of a field (proto3 language guide, Assigning Field Numbers)
abbrev pub max_field_number : ℕ
max_field_number = 536870911

-- the most bytes of a varint: 64 bits, seven a byte (Encoding, Base 128 Varints)
abbrev pub max_varint_len : ℕ
max_varint_len = 10

-- a field: its number, and what it holds
pub record Field : Type 0 where
  pub number : ℕ
  pub payload : Payload

-- A varint of at most `limit` bytes (Encoding, Base 128 Varints): seven bits a byte, the lowest
-- first, the top bit set on all but the last. What is above the first seven bits has at most 57,
-- so that all has at most 64: a tenth byte is at most 1. Needless bytes are allowed.
pub data IsVarint : ℕ → List ℕ → ℕ → List ℕ → Type 0 where
  last : {limit byte : ℕ} {rest : List ℕ} → byte < 128 → IsVarint (suc limit) (byte ∷ rest) byte rest
  more : {limit byte high : ℕ} {bytes rest : List ℕ}
      → 128 ≤ byte → high < 2 ^ 57 → IsVarint limit bytes high rest
      → IsVarint (suc limit) (byte ∷ bytes) (byte - 128 + 128 * high) rest

-- A payload of a wire type: a varint, eight bytes, bytes after their length, or four bytes. Of the other types,
-- groups (3 and 4) among them, there is none.
pub data IsPayload : ℕ → List ℕ → Payload → List ℕ → Type 0 where
  varint : {value : ℕ} {bytes rest : List ℕ} → IsVarint max_varint_len bytes value rest
      → IsPayload 0 bytes (Varint value) rest
  fixed64 : {bytes inside rest : List ℕ} → bytes ≡ inside ++ rest → length inside ≡ 8
      → IsPayload 1 bytes (Fixed64 inside) rest
  delimited : {bytes inside rest : List ℕ} → IsVarint max_varint_len bytes (length inside) (inside ++ rest)
      → IsPayload 2 bytes (Delimited inside) rest
  fixed32 : {bytes inside rest : List ℕ} → bytes ≡ inside ++ rest → length inside ≡ 4
      → IsPayload 5 bytes (Fixed32 inside) rest

-- A field's record: its tag, which is below 2 ^ 32 and holds the field's number and the wire
-- type, and its payload.
pub data IsField : List ℕ → Field → List ℕ → Type 0 where
  field : {number type : ℕ} {payload : Payload} {a b c : List ℕ}
      → IsVarint max_varint_len a (8 * number + type) b → 0 < number → number ≤ max_field_number
      → IsPayload type b payload c
      → IsField a (record { number = number; payload = payload }) c

-- the bytes are the records of these fields, in order
pub data HasFields : List ℕ → List Field → Type 0 where
  none : HasFields [] []
  next : {bytes rest : List ℕ} {field : Field} {fields : List Field}
      → IsField bytes field rest → HasFields rest fields → HasFields bytes (field ∷ fields)
