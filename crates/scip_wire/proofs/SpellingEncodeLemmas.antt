-- `Encode`: a message is as long as its fields, one after another.
use Rattle.std.proofs.Common.{◌≡◌, ℕ, ◌+◌, ◌-◌, ◌^◌, min, List, ◌++◌, length, ap, arith, subst, ℤ}
use Rattle.std.proofs.Common.{length-append}
use Rattle.std.proofs.lemmas.Grind.{flat_map-append}
use Rattle.scip_wire.specs.Fields.{Field}
use Rattle.scip_wire.specs.Spelling.{bytes_of, field_bytes, int_fields}
use Rattle.scip_wire.specs.Saturated.{saturated, fields_len}

-- one part's length and another's
pub added : (fs gs : List Field) (m n r : ℕ) → m ≡ saturated (fields_len fs) → n ≡ saturated (fields_len gs)
    → r ≡ min (m + n) (2 ^ 64 - 1)
    → r ≡ saturated (fields_len (fs ++ gs))
added fs gs m n r p q e =
    omega (arith, ap length (flat_map-append field_bytes fs gs), length-append (bytes_of fs) (bytes_of gs))

-- a number as the call takes it is the number as it stands
pub int_len-same : (k n : ℕ) (y z : ℤ) → y ≡ z → n ≡ saturated (fields_len (int_fields k y))
    → n ≡ saturated (fields_len (int_fields k z))
int_len-same k n y z e p = subst (λ x. n ≡ saturated (fields_len (int_fields k x))) e p
