use Rattle.std.proofs.Common.{◌≡◌, ℕ, true, false, cond, nat_eq, List, [], ◌∷◌, refl, sym, ◌∙◌, subst, eqb-true, ◌+◌}
use Rattle.std.proofs.Common.{◌-◌, ◌≤◌, Bool, not, length, drop, take, get_or, ap, arith, add-one}
use Rattle.std.specs.List.{list_all}
use Rattle.proto_lex.specs.Bytes.{is_digit, is_octal_digit, is_hex_mark, is_plus_or_minus, is_exponent_mark, starts}
use Rattle.proto_lex.specs.Numbers.{IsInteger, decimal, octal, hexadecimal, Digits, digit, digits, IsExponentOrNone}
use Rattle.proto_lex.specs.Numbers.{no_exponent, unsigned, signed, IsFloat, whole, fraction, power, point_first}
use Rattle.proto_lex.specs.Numbers.{goes_on, run_after, run_of, begins_hexadecimal}
use Rattle.proto_lex.specs.Reading.{past, are_digits, are_hex_digits, is_zero_integer, is_integer, past_sign}
use Rattle.proto_lex.specs.Reading.{is_exponent_or_none, ends_fraction, ends_whole, is_float}
use Rattle.proto_lex.proofs.ReadingTestLemmas.{chosen, both, after-cons}
use Rattle.proto_lex.proofs.ReadingPrefixLemmas.{past-cons, past-stop, past-all}
use Rattle.proto_lex.proofs.ByteLemmas.{nonzero_not_zero, nonzero_is_digit, digit_nonzero, octal_not_hex_mark}
use Rattle.proto_lex.proofs.ByteLemmas.{octal_is_digit, digit_not_point, digit_not_plus_or_minus}
use Rattle.proto_lex.proofs.ByteLemmas.{exponent_mark_not_digit, exponent_mark_not_point, hex_mark_not_digit}
use Rattle.proto_lex.proofs.ByteLemmas.{hex_mark_not_point, hex_mark_not_exponent_mark}

-- The tests of numbers accept exactly the forms of numbers.

hex_found : (x : ℕ) (ds : List ℕ) → is_hex_mark x ≡ true → are_hex_digits ds ≡ true → IsInteger (48 ∷ (x ∷ ds))
hex_found x [] t e = absurd cc
hex_found x (d ∷ ds) t e = hexadecimal t e

zero_found : (others : List ℕ) → is_zero_integer others ≡ true → IsInteger (48 ∷ others)
zero_found [] e = octal refl
zero_found (x ∷ ds) e = chosen (is_hex_mark x) e (λ t y. hex_found x ds t y) (λ t y. octal y)

pub integer_found : (run : List ℕ) → is_integer run ≡ true → IsInteger run
integer_found [] e = absurd cc
integer_found (d ∷ others) e =
    chosen (nat_eq d 48) e
    (λ t x. subst (λ (b : ℕ). IsInteger (b ∷ others)) (sym (eqb-true d 48 t)) (zero_found others x))
    (λ t x. both (is_digit d) (list_all is_digit others) x (λ h hs. decimal (digit_nonzero d h t) hs))

octal_exact : (ds : List ℕ) → list_all is_octal_digit ds ≡ true → is_zero_integer ds ≡ true
octal_exact [] h = refl
octal_exact (x ∷ ds) h = both (is_octal_digit x) (list_all is_octal_digit ds) h (λ t ts. rw (octal_not_hex_mark x t) h)

pub integer_exact : {run : List ℕ} → IsInteger run → is_integer run ≡ true
integer_exact (decimal {d} {ds} h hs) = rw (nonzero_not_zero d h, nonzero_is_digit d h) hs
integer_exact (octal {ds} h) = octal_exact ds h
integer_exact (hexadecimal {x} {d} {ds} t h) = rw t h

-- digits

pub digits_start : {a b : List ℕ} → Digits a b → starts is_digit a ≡ true
digits_start (digit h) = h
digits_start (digits h r) = h

digits_past : {a b : List ℕ} → Digits a b → starts is_digit b ≡ false → past is_digit a ≡ b
digits_past (digit {d} {others} h) s = past-cons is_digit d others h ∙ past-stop is_digit others s
digits_past (digits {d} {ds} h r) s = past-cons is_digit d ds h ∙ digits_past r s

digits_found : (a : List ℕ) → starts is_digit a ≡ true → Digits a (past is_digit a)
digits_found [] e = absurd cc
digits_found (d ∷ others) e =
    elim (starts is_digit others) as
    (λ t. starts is_digit others ≡ t → Digits (d ∷ others) (past is_digit (d ∷ others))) [
      | true ↦ λ s. subst (λ (left : List ℕ). Digits (d ∷ others) left) (sym (past-cons is_digit d others e))
          (digits e (digits_found others s))
      | false ↦ λ s. subst (λ (left : List ℕ). Digits (d ∷ others) left)
          (sym (past-cons is_digit d others e ∙ past-stop is_digit others s)) (digit e)
    ] refl

all_found : (d : ℕ) (ds : List ℕ) → list_all is_digit (d ∷ ds) ≡ true → Digits (d ∷ ds) []
all_found d [] e = both (is_digit d) true e (λ h _. digit h)
all_found d (x ∷ ds) e = both (is_digit d) (list_all is_digit (x ∷ ds)) e (λ h hs. digits h (all_found x ds hs))

are_digits_found : (ds : List ℕ) → are_digits ds ≡ true → Digits ds []
are_digits_found [] e = absurd cc
are_digits_found (d ∷ ds) e = all_found d ds e

are_digits-all : (ds : List ℕ) → are_digits ds ≡ true → list_all is_digit ds ≡ true
are_digits-all [] e = refl
are_digits-all (d ∷ ds) e = e

are_digits_exact : {a b : List ℕ} → Digits a b → b ≡ [] → are_digits a ≡ true
are_digits_exact (digit {d} {others} h) e = rw (h, e) refl
are_digits_exact (digits {d} {ds} h r) e = rw h (are_digits-all ds (are_digits_exact r e))

-- exponents

mark_found : (e : ℕ) (others : List ℕ) → is_exponent_mark e ≡ true → are_digits (past_sign others) ≡ true
    → IsExponentOrNone (e ∷ others)
mark_found e [] h x = absurd cc
mark_found e (s ∷ ds) h x =
    elim (is_plus_or_minus s) as
    (λ t. is_plus_or_minus s ≡ t → are_digits (cond t ds (s ∷ ds)) ≡ true → IsExponentOrNone (e ∷ (s ∷ ds))) [
      | true ↦ λ p y. signed h p (are_digits_found ds y)
      | false ↦ λ p y. unsigned h (are_digits_found (s ∷ ds) y)
    ] refl x

exponent_found : (bytes : List ℕ) → is_exponent_or_none bytes ≡ true → IsExponentOrNone bytes
exponent_found [] x = no_exponent
exponent_found (e ∷ others) x =
    both (is_exponent_mark e) (are_digits (past_sign others)) x (λ h y. mark_found e others h y)

past_sign-digits : {a b : List ℕ} → Digits a b → past_sign a ≡ a
past_sign-digits (digit {d} h) = rw (digit_not_plus_or_minus d h) refl
past_sign-digits (digits {d} h r) = rw (digit_not_plus_or_minus d h) refl

exponent_exact : {bytes : List ℕ} → IsExponentOrNone bytes → is_exponent_or_none bytes ≡ true
exponent_exact no_exponent = refl
exponent_exact (unsigned {e} {ds} h r) = rw (h, past_sign-digits r) (are_digits_exact r refl)
exponent_exact (signed {e} {s} {ds} h p r) = rw (h, p) (are_digits_exact r refl)

exponent_start : {bytes : List ℕ} → IsExponentOrNone bytes → starts is_digit bytes ≡ false
exponent_start no_exponent = refl
exponent_start (unsigned {e} h r) = exponent_mark_not_digit e h
exponent_start (signed {e} h p r) = exponent_mark_not_digit e h

exponent_first : {bytes : List ℕ} → IsExponentOrNone bytes → (e : ℕ) (others : List ℕ) → bytes ≡ e ∷ others
    → is_exponent_mark e ≡ true
exponent_first no_exponent e others q = absurd cc
exponent_first (unsigned {e = d} h r) e others q = let same : d ≡ e = cc in rw (← same) h
exponent_first (signed {e = d} h p r) e others q = let same : d ≡ e = cc in rw (← same) h

-- floating-point numbers

fraction_found : {bytes : List ℕ} (others : List ℕ) → Digits bytes (46 ∷ others) → ends_fraction others ≡ true
    → IsFloat bytes
fraction_found {bytes} others d x =
    elim (starts is_digit others) as (λ t. starts is_digit others ≡ t → IsFloat bytes) [
      | true ↦ λ s. fraction d (digits_found others s) (exponent_found _ x)
      | false ↦ λ s. whole d (exponent_found others (rw (past-stop is_digit others s) at x))
    ] refl

ends_found : {bytes : List ℕ} (rest : List ℕ) → Digits bytes rest → ends_whole rest ≡ true → IsFloat bytes
ends_found [] d e = absurd cc
ends_found {bytes} (c ∷ others) d e =
    chosen (nat_eq c 46) e
    (λ t x. fraction_found others (subst (λ (b : ℕ). Digits bytes (b ∷ others)) (eqb-true c 46 t) d) x)
    (λ t x. power d (exponent_found (c ∷ others) x))

pub float_found : (run : List ℕ) → is_float run ≡ true → IsFloat run
float_found [] e = absurd cc
float_found (b ∷ others) e =
    chosen (nat_eq b 46) e
    (λ t x. both (starts is_digit others) (ends_fraction others) x (λ s f.
    subst (λ (c : ℕ). IsFloat (c ∷ others)) (sym (eqb-true b 46 t))
    (point_first (digits_found others s) (exponent_found _ f))))
    (λ t x. both (is_digit b) (ends_whole (past is_digit others)) x (λ h w.
    ends_found (past is_digit others)
    (subst (λ (left : List ℕ). Digits (b ∷ others) left) (past-cons is_digit b others h) (digits_found (b ∷ others) h))
    w))

digits_exact : {bytes rest : List ℕ} → Digits bytes rest → starts is_digit rest ≡ false → ends_whole rest ≡ true
    → is_float bytes ≡ true
digits_exact (digit {d} {others} h) s w = rw (digit_not_point d h, h, past-stop is_digit others s) w
digits_exact (digits {d} {ds} h r) s w = rw (digit_not_point d h, h, digits_past r s) w

ends_exact : {ds exponent : List ℕ} → Digits ds exponent → IsExponentOrNone exponent → ends_fraction ds ≡ true
ends_exact d x = rw (digits_past d (exponent_start x)) (exponent_exact x)

pub float_exact : {run : List ℕ} → IsFloat run → is_float run ≡ true
float_exact (whole {bytes} {exponent} d x) =
    digits_exact d refl (rw (past-stop is_digit exponent (exponent_start x)) (exponent_exact x))
float_exact (fraction d ds x) = digits_exact d refl (ends_exact ds x)
float_exact (power {bytes} {exponent} {e} d x) =
    let mark = exponent_first x e exponent refl in
    digits_exact d (exponent_mark_not_digit e mark) (rw (exponent_mark_not_point e mark) (exponent_exact x))
float_exact (point_first d x) = rw (digits_start d) (ends_exact d x)

-- no run is both

all_octal : (ds : List ℕ) → list_all is_octal_digit ds ≡ true → list_all is_digit ds ≡ true
all_octal [] h = refl
all_octal (d ∷ ds) h = both (is_octal_digit d) (list_all is_octal_digit ds) h
    (λ t ts. rw (octal_is_digit d t) (all_octal ds ts))

integer_no_float : {run : List ℕ} → IsInteger run → is_float run ≡ false
integer_no_float (decimal {d} {ds} h hs) =
    rw (digit_not_point d (nonzero_is_digit d h), nonzero_is_digit d h, past-all is_digit ds hs) refl
integer_no_float (octal {ds} h) = rw (past-all is_digit ds (all_octal ds h)) refl
integer_no_float (hexadecimal {x} {d} {ds} t h) =
    rw (
      past-stop is_digit (x ∷ (d ∷ ds)) (hex_mark_not_digit x t),
      hex_mark_not_point x t,
      hex_mark_not_exponent_mark x t,
    ) refl

pub float_no_integer : {run : List ℕ} → IsFloat run → is_integer run ≡ false
float_no_integer {run} f =
    elim (is_integer run) as (λ t. is_integer run ≡ t → t ≡ false) [
      | true ↦ λ e. let no = integer_no_float (integer_found run e) in let yes = float_exact f in cc
      | false ↦ λ e. refl
    ] refl

-- a run is the front of the bytes
pub run_after-front : (m : Bool) (last : ℕ) (bytes : List ℕ)
    → take (length (run_after m last bytes)) bytes ≡ run_after m last bytes
run_after-front m last [] = refl
run_after-front m last (b ∷ others) =
    elim (goes_on m last b) as
    (λ t. take (length (cond t (b ∷ run_after m b others) [])) (b ∷ others) ≡ cond t (b ∷ run_after m b others) []) [
      | true ↦ ap (λ xs. b ∷ xs) (run_after-front m b others)
      | false ↦ refl
    ]

-- the run of bytes, from the length of what follows the first
pub run_of-take : (bytes : List ℕ) (len : ℕ) → 1 ≤ length bytes
    → len ≡ length (run_after (not (begins_hexadecimal bytes)) (get_or bytes 0 0)
    (take (length bytes - 1) (drop 1 bytes)))
    → take (len + 1) bytes ≡ run_of bytes
run_of-take [] len h e = absurd (omega arith)
run_of-take (b ∷ others) len h e = rw (e, after-cons b others, add-one) (ap (λ xs. b ∷ xs) (run_after-front _ b others))

pub run_of-front : (bytes : List ℕ) → take (length (run_of bytes)) bytes ≡ run_of bytes
run_of-front [] = refl
run_of-front (b ∷ others) = ap (λ xs. b ∷ xs) (run_after-front (not (begins_hexadecimal (b ∷ others))) b others)
