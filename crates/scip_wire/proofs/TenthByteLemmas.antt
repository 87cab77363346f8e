-- A fault of a varint by its bytes, each below 256: they end before its last one, or the tenth is over 1.
use Rattle.std.proofs.Common.{◌≡◌, ◌⊎◌, inl, inr, refl, ap, sym, ◌∙◌, subst, ℕ, zero, suc, ◌+◌, ◌-◌, ◌*◌, ◌^◌, ◌<◌, ◌≤◌}
use Rattle.std.proofs.Common.{List, [], ◌∷◌, ◌++◌, length, arith}
use Rattle.std.specs.Prelude.{nat_lt}
use Rattle.std.specs.List.{AllByRecursion}
use Rattle.std.proofs.Math.Nat.{mul_assoc, pow-suc, one-le-pow, pow-le-pow_right}
use Rattle.std.proofs.lemmas.Bool.{ltb-true, ltb-false}
use Rattle.scip_wire.specs.Fields.{IsVarint, last, more, max_varint_len}
use Rattle.scip_wire.specs.Refused.{NoVarint, cut_off, too_long, too_large, behind}
use Rattle.scip_wire.specs.TenthByte.{IsByte, GoesOn, CutOrOver, cut, over}
use Rattle.scip_wire.specs.declared.wire_fault.WireFault.{WireFault}
use Rattle.scip_wire.specs.declared.wire_fault.WireFault.TheVariants.{Truncated, Varint}
use Rattle.scip_wire.proofs.ReadingOptionLemmas.{split}

-- 128 times more, and one power more
up : (n k : ℕ) → n * 128 ^ suc k ≡ n * 128 ^ k * 128
up n k = ap (λ p. n * p) (pow-suc 128 k) ∙ sym (mul_assoc n (128 ^ k) 128)

-- ---- how large a varint is

-- the last of so many bytes of a varint, which says how large its value is at most
record LastAt (k value : ℕ) (bytes : List ℕ) : Type 0 where
  pub front : List ℕ
  pub rest : List ℕ
  pub end : ℕ
  pub regrouped : bytes ≡ front ++ end ∷ rest
  pub go_on : AllByRecursion GoesOn front
  pub length_is : length front ≡ k
  pub below : value < (end + 1) * 128 ^ k

further : (k end high low : ℕ) → high < (end + 1) * 128 ^ k → low < 128 → low + 128 * high < (end + 1) * 128 ^ suc k
further k end high low h l = rw (up (end + 1) k) (omega (arith, h, l))

-- of at most k + 1 bytes: below 128 ^ k, or of k + 1
varint_size : (k : ℕ) {value : ℕ} {bytes rest : List ℕ} → AllByRecursion IsByte bytes
    → IsVarint (suc k) bytes value rest → (value < 128 ^ k) ⊎ LastAt k value bytes
varint_size zero b (last {byte = byte} {rest = rest} small) = inr (record {
  front = [];
  rest = rest;
  end = byte;
  regrouped = refl;
  go_on = tt;
  length_is = refl;
  below = omega arith;
})
varint_size zero b (more large high v) = elim v [ ]
varint_size (suc k) b (last {byte = byte} small) =
    let one : 1 ≤ 128 ^ k = one-le-pow k 128 (omega arith) in
    inl (omega (arith, one, small, pow-suc 128 k))
varint_size (suc k) b (more {byte = byte} {high = high} large fits v) =
    elim (varint_size k b.1 v) [
      | inl h ↦ inl (omega (arith, h, b.0, pow-suc 128 k))
      | inr l ↦ inr (record {
        front = byte ∷ l.front;
        rest = l.rest;
        end = l.end;
        regrouped = ap (λ bytes. byte ∷ bytes) l.regrouped;
        go_on = (large, l.go_on);
        length_is = ap suc l.length_is;
        below = further k l.end high (byte - 128) l.below (omega (arith, b.0));
      })
    ]

varint_below : (limit : ℕ) {value : ℕ} {bytes rest : List ℕ} → AllByRecursion IsByte bytes
    → IsVarint limit bytes value rest → value < 128 ^ limit
varint_below zero {value = value} {bytes = bytes} {rest = rest} b v = elim v [ ]
varint_below (suc limit) b (last small) =
    let one : 1 ≤ 128 ^ limit = one-le-pow limit 128 (omega arith) in
    omega (arith, one, small, pow-suc 128 limit)
varint_below (suc limit) b (more large fits v) = omega (arith, varint_below limit b.1 v, b.0, pow-suc 128 limit)

-- ---- what a fault says of the bytes

-- of at most so many bytes
data NoneIn (start limit : ℕ) (bytes : List ℕ) : WireFault → Type 0 where
  ends : AllByRecursion GoesOn bytes → length bytes < limit → NoneIn start limit bytes (Truncated start)
  long : (front rest : List ℕ) → bytes ≡ front ++ rest → AllByRecursion GoesOn front → length front ≡ limit
      → NoneIn start limit bytes (Varint start)
  large : (front rest : List ℕ) (end : ℕ) → bytes ≡ front ++ end ∷ rest → AllByRecursion GoesOn front
      → length front + 1 ≡ limit → limit ≡ 10 → 1 < end → NoneIn start limit bytes (Varint start)

one_more : {start limit byte : ℕ} {bytes : List ℕ} {fault : WireFault} → limit < 10 → 128 ≤ byte
    → NoneIn start limit bytes fault → NoneIn start (suc limit) (byte ∷ bytes) fault
one_more below goes_on (ends go_on short) = ends (goes_on, go_on) (omega (arith, short))
one_more {byte = byte} below goes_on (long front rest regrouped go_on length_is) =
    long (byte ∷ front) rest (ap (λ bytes. byte ∷ bytes) regrouped) (goes_on, go_on) (ap suc length_is)
one_more below goes_on (large front rest end regrouped go_on length_is ten above) =
    absurd (omega (arith, below, ten))

-- what is above the first seven bits has more than 57: of nine bytes
too_high : (start limit byte high : ℕ) (bytes rest : List ℕ) → limit < 10 → AllByRecursion IsByte bytes → 128 ≤ byte
    → IsVarint limit bytes high rest → 2 ^ 57 ≤ high → NoneIn start (suc limit) (byte ∷ bytes) (Varint start)
too_high start zero byte high bytes rest below b goes_on v h = elim v [ ]
too_high start (suc limit) byte high bytes rest below b goes_on v h =
    split (nat_lt limit 8)
    (λ few.
    let fits : high < 128 ^ suc limit = varint_below (suc limit) b v in
    let most : 128 ^ suc limit ≤ 128 ^ 8 =
    pow-le-pow_right (omega arith) {i = suc limit} {j = 8} (omega (arith, ltb-true limit 8 few)) in
    absurd (omega (arith, fits, most, h)))
    (λ many.
    let eight : limit ≡ 8 = omega (arith, below, ltb-false limit 8 many) in
    elim (varint_size limit b v) [
      | inl small ↦
          let fits : high < 128 ^ 8 = subst (λ k. high < 128 ^ k) eight small in
          absurd (omega (arith, fits, h))
      | inr l ↦
          let fits : high < (l.end + 1) * 128 ^ 8 = subst (λ k. high < (l.end + 1) * 128 ^ k) eight l.below in
          large (byte ∷ l.front) l.rest l.end (ap (λ bytes. byte ∷ bytes) l.regrouped) (goes_on, l.go_on)
          (omega (arith, l.length_is)) (omega (arith, eight)) (omega (arith, fits, h))
    ])

none_in : {start limit : ℕ} {bytes : List ℕ} {fault : WireFault} → limit ≤ 10 → AllByRecursion IsByte bytes
    → NoVarint start limit bytes fault → NoneIn start limit bytes fault
none_in most b cut_off = ends tt (omega arith)
none_in most b (too_long {bytes = bytes}) = long [] bytes refl tt refl
none_in {start = start} most b (too_large {limit = limit} {byte = byte} {high = high} {bytes = bytes} {rest = rest}
    goes_on v h) =
    too_high start limit byte high bytes rest (omega (arith, most)) b.1 goes_on v h
none_in most b (behind goes_on n) =
    one_more (omega (arith, most)) goes_on (none_in (omega (arith, most)) b.1 n)

-- the last of bytes that all go on
record TheLast (k : ℕ) (bytes : List ℕ) : Type 0 where
  pub front : List ℕ
  pub end : ℕ
  pub regrouped : (rest : List ℕ) → bytes ++ rest ≡ front ++ end ∷ rest
  pub go_on : AllByRecursion GoesOn front
  pub length_is : length front ≡ k
  pub end_goes_on : 128 ≤ end

the_last : (k : ℕ) (bytes : List ℕ) → length bytes ≡ suc k → AllByRecursion GoesOn bytes → TheLast k bytes
the_last k [] e go_on = absurd (omega (arith, e))
the_last zero (byte ∷ []) e go_on = record {
  front = [];
  end = byte;
  regrouped = λ rest. refl;
  go_on = tt;
  length_is = refl;
  end_goes_on = go_on.0;
}
the_last zero (byte ∷ (other ∷ bytes)) e go_on = absurd (omega (arith, e))
the_last (suc k) (byte ∷ bytes) e go_on =
    let l = the_last k bytes (omega (arith, e)) go_on.1 in
    record {
      front = byte ∷ l.front;
      end = l.end;
      regrouped = λ rest. ap (λ bytes. byte ∷ bytes) (l.regrouped rest);
      go_on = (go_on.0, l.go_on);
      length_is = ap suc l.length_is;
      end_goes_on = l.end_goes_on;
    }

pub to_tenth_byte : {start : ℕ} {bytes : List ℕ} {fault : WireFault} → AllByRecursion IsByte bytes
    → NoVarint start max_varint_len bytes fault → CutOrOver start bytes fault
to_tenth_byte b n = whole (none_in (omega arith) b n) where
  whole : {start : ℕ} {bytes : List ℕ} {fault : WireFault} → NoneIn start 10 bytes fault → CutOrOver start bytes fault
  whole (ends go_on short) = cut go_on short
  whole (long front rest regrouped go_on length_is) =
      let l = the_last 9 front length_is go_on in
      over l.front rest l.end (regrouped ∙ l.regrouped rest) l.go_on l.length_is (omega (arith, l.end_goes_on))
  whole (large front rest end regrouped go_on length_is ten above) =
      over front rest end regrouped go_on (omega (arith, length_is)) above

-- ---- and the other way round

cut_in : {start : ℕ} (limit : ℕ) (bytes : List ℕ) → AllByRecursion GoesOn bytes → length bytes < limit
    → NoVarint start limit bytes (Truncated start)
cut_in zero bytes go_on short = absurd (omega (arith, short))
cut_in (suc limit) [] go_on short = cut_off
cut_in (suc limit) (byte ∷ bytes) go_on short = behind go_on.0 (cut_in limit bytes go_on.1 (omega (arith, short)))

-- a varint of one byte more than `front`, whose last byte says how large it is at least
record AtLeast (front rest : List ℕ) (end : ℕ) : Type 0 where
  pub value : ℕ
  pub after : List ℕ
  pub is_varint : IsVarint (suc (length front)) (front ++ end ∷ rest) value after
  pub at_least : end * 128 ^ length front ≤ value

over_in : (start end : ℕ) (rest front : List ℕ) → AllByRecursion GoesOn front
    → NoVarint start (suc (length front)) (front ++ end ∷ rest) (Varint start) ⊎ AtLeast front rest end
over_in start end rest [] go_on =
    split (nat_lt end 128)
    (λ small. inr (record {
      value = end;
      after = rest;
      is_varint = last (ltb-true end 128 small);
      at_least = omega arith;
    }))
    (λ large. inl (behind (ltb-false end 128 large) too_long))
over_in start end rest (byte ∷ front) go_on =
    elim (over_in start end rest front go_on.1) [
      | inl n ↦ inl (behind go_on.0 n)
      | inr v ↦ split (nat_lt v.value (2 ^ 57))
          (λ fits. inr (record {
            value = byte - 128 + 128 * v.value;
            after = v.after;
            is_varint = more go_on.0 (ltb-true v.value (2 ^ 57) fits) v.is_varint;
            at_least = rw (up end (length front)) (omega (arith, v.at_least));
          }))
          (λ above. inl (too_large go_on.0 v.is_varint (ltb-false v.value (2 ^ 57) above)))
    ]

-- nine that go on and a tenth over 1
of_ten : (start end : ℕ) (rest front : List ℕ) → AllByRecursion GoesOn front → length front ≡ 9 → 1 < end
    → NoVarint start 10 (front ++ end ∷ rest) (Varint start)
of_ten start end rest [] go_on nine above = absurd (omega (arith, nine))
of_ten start end rest (byte ∷ front) go_on nine above =
    let eight : length front ≡ 8 = omega (arith, nine) in
    elim (over_in start end rest front go_on.1) [
      | inl n ↦ subst (λ k. NoVarint start (suc (suc k)) (byte ∷ (front ++ end ∷ rest)) (Varint start)) eight
          (behind go_on.0 n)
      | inr v ↦
          let least : end * 128 ^ 8 ≤ v.value = subst (λ k. end * 128 ^ k ≤ v.value) eight v.at_least in
          subst (λ k. NoVarint start (suc (suc k)) (byte ∷ (front ++ end ∷ rest)) (Varint start)) eight
          (too_large go_on.0 v.is_varint (omega (arith, least, above)))
    ]

pub from_tenth_byte : {start : ℕ} {bytes : List ℕ} {fault : WireFault} → CutOrOver start bytes fault
    → NoVarint start max_varint_len bytes fault
from_tenth_byte {bytes = bytes} (cut go_on short) = cut_in 10 bytes go_on short
from_tenth_byte {start = start} (over front rest tenth regrouped go_on nine above) =
    subst (λ bytes. NoVarint start 10 bytes (Varint start)) (sym regrouped)
    (of_ten start tenth rest front go_on nine above)
