-- A text of ASCII is UTF-8.
use Rattle.std.proofs.Common.{◌≡◌, ℕ, ◌<◌, Bool, true, ◌&&◌, nat_lt, List, [], ◌∷◌, subst, arith, ltb-true}
use Rattle.std.specs.Prelude.{IsUtf8}
use Rattle.std.proofs.lemmas.Bool.{and_parts}
use Rattle.std.proofs.lemmas.Str.{IsUtf8-append, IsUtf8-nil, IsUtf8-encode, encode_ascii}
use lib.Utf8.{low_scalar}

abbrev pub are_ascii : List ℕ → Bool
are_ascii [] = true
are_ascii (b ∷ bs) = nat_lt b 128 && are_ascii bs

ascii_then : (b : ℕ) (bs : List ℕ) → b < 128 → IsUtf8 bs → IsUtf8 (b ∷ bs)
ascii_then b bs small others =
    let one = subst IsUtf8 (encode_ascii b small) (IsUtf8-encode b (low_scalar b (omega arith))) in
    IsUtf8-append (b ∷ []) bs one others

pub ascii : (bs : List ℕ) → are_ascii bs ≡ true → IsUtf8 bs
ascii [] e = IsUtf8-nil
ascii (b ∷ bs) e = let p = and_parts _ _ e in ascii_then b bs (ltb-true _ _ p.0) (ascii bs p.1)
