-- Reading a feed to its end (`Readers`): what one read takes, and the counts of some reads and of one more.
use Rattle.std.proofs.Common.{◌≡◌, ℕ, zero, suc, ◌+◌, ◌<◌, ◌≤◌, List, [], ◌∷◌, ◌++◌, length, refl, ap, sym, ◌∙◌, arith}
use Rattle.std.proofs.Common.{Option, Some, None, Ok}
use Rattle.std.specs.Io.KnownBytes.{Consumes, IsAtEnd, Keeps}
use Rattle.streams.specs.Streams.{one_more, more_by, reads_after_read, ends_after_read}

-- what is left behind a read
pub consumed : (known after : Option (List ℕ)) (left taken : List ℕ) → known ≡ Some left → Consumes known after taken
    → (rest : List ℕ) × (after ≡ Some rest) × (left ≡ taken ++ rest)
consumed None after left taken e c = absurd cc
consumed (Some xs) None left taken e c = absurd c
consumed (Some xs) (Some ys) left taken e c = let same : xs ≡ left = cc in (ys, refl, sym same ∙ c)

-- a read that fails takes nothing
pub kept-left : (known after : Option (List ℕ)) (left : List ℕ) → known ≡ Some left → Keeps known after
    → after ≡ Some left
kept-left None after left e k = absurd cc
kept-left (Some xs) None left e k = absurd k
kept-left (Some xs) (Some ys) left e k = let same : xs ≡ left = cc in ap Some (k ∙ same)

pub nothing-left : (after : Option (List ℕ)) (rest : List ℕ) → after ≡ Some rest → IsAtEnd after → rest ≡ []
nothing-left None rest e end = cc
nothing-left (Some ys) rest e end = let same : ys ≡ rest = cc in sym same ∙ end

-- a read into room for a byte counts
pub reads-full : (n : ℕ) (room : List ℕ) → 0 < length room → reads_after_read n room ≡ one_more n
reads-full n [] some = absurd (omega arith)
reads-full n (b ∷ bs) some = refl

-- one more read after some
pub one-more-read : (old now after n : ℕ) → (n ≡ 0 → now ≡ old) → (0 < n → now ≡ more_by n old) → after ≡ one_more now
    → after ≡ more_by (n + 1) old
one-more-read old now after zero none some e = omega (arith, none refl)
one-more-read old now after (suc n) none some e = omega (arith, some (omega arith))

-- a read that gives bytes is no end
pub no-end : (E : Type 0) (ends count : ℕ) (room : List ℕ) → (count ≡ 0 → ⊥)
    → ends_after_read {E = E} ends (Ok count) room ≡ ends
no-end E ends zero room some = absurd (some refl)
no-end E ends (suc count) room some = refl

-- one that gives none, into room for a byte, is one
pub one-end : (E : Type 0) (ends count : ℕ) (room : List ℕ) → count ≡ 0 → 0 < length room
    → ends_after_read {E = E} ends (Ok count) room ≡ one_more ends
one-end E ends zero [] none some = absurd (omega arith)
one-end E ends zero (b ∷ bs) none some = refl
one-end E ends (suc count) room none some = absurd (omega arith)

-- the reads of some turns, and of one more
pub more-reads : (old now after turns : ℕ) → now ≤ old + turns → after ≡ one_more now → after ≤ old + (turns + 1)
more-reads old now after turns few e = omega (arith, e)
