-- The limit that a text gives.
use Rattle.std.proofs.Common.{◌≡◌, ◌≤◌, ℕ, Bool, true, false, refl, ap, Option, Some, None, Result, Ok, Err}
use Rattle.std.proofs.Common.{arith, le-leb, leb-true}
use Rattle.std.specs.Prelude.{cond, nat_le}
use Rattle.std.specs.Option.{option_and_then}
use Rattle.std.specs.Str.Parse.{ParsesUnsigned, digits_value, without_leading_plus}
use Rattle.clap.specs.Words.{ReadsOne, Text}
use Rattle.clap.specs.ValueTests.{is_unsigned_in}
use Rattle.clap.specs.declared.builder.value_parser.ValueParser.TheVariants as values
use Rattle.clap.proofs.ValueTestLemmas.{Accepts-accepts, accepts-Accepts}
use Rattle.command_line.specs.Options.Limits.{in_limit, limit_in, most_limit}

-- a number that the text spells
fits_so : (t : Text) (n : ℕ) → ParsesUnsigned {E = ℕ} 64 10 t (Ok n) → in_limit (Some n) ≡ limit_in t
fits_so t n parsed = go (is_unsigned_in 0 most_limit t) refl (nat_le n most_limit) refl
  where
    go : (b : Bool) → is_unsigned_in 0 most_limit t ≡ b → (d : Bool) → nat_le n most_limit ≡ d
        → cond d (Some n) None ≡ cond b (Some (digits_value 10 (without_leading_plus t))) None
    go true e true f = ap Some parsed.1
    go false e false f = refl
    go true e false f =
        let accepted = accepts-Accepts false (values.Unsigned 0 most_limit) t e in
        let high : n ≤ most_limit = rw parsed.1 accepted.3 in
        let yes : nat_le n most_limit ≡ true = le-leb n most_limit high in
        absurd cc
    go false e true f =
        let high : digits_value 10 (without_leading_plus t) ≤ most_limit =
        rw (← parsed.1) (leb-true n most_limit f) in
        let low : 0 ≤ digits_value 10 (without_leading_plus t) = omega arith in
        let yes = Accepts-accepts false (values.Unsigned 0 most_limit) t (parsed.0.0, parsed.0.1, low, high) in
        absurd cc

-- a text that spells none
none_so : (t : Text) (e : ℕ) → ParsesUnsigned {E = ℕ} 64 10 t (Err e) → in_limit None ≡ limit_in t
none_so t e unread = go (is_unsigned_in 0 most_limit t) refl
  where
    go : (b : Bool) → is_unsigned_in 0 most_limit t ≡ b
        → None ≡ cond b (Some (digits_value 10 (without_leading_plus t))) None
    go false f = refl
    go true f = let accepted = accepts-Accepts false (values.Unsigned 0 most_limit) t f in
        absurd (unread (accepted.0, accepted.1))

reads : (E : Type 0) (G : Text → Result ℕ E → Type 0) → ((u : Text) (x : Result ℕ E) → G u x → ParsesUnsigned 64 10 u x)
    → (t : Text) (r : Option ℕ) → ReadsOne G t r → in_limit r ≡ limit_in t
reads E G only t (Some n) h = fits_so t n (only t (Ok n) h)
reads E G only t None h = none_so t 0 (only t (Err h.0) h.1)

-- what is read of the text, if there is one
pub in_limit_is : (E : Type 0) (G : Text → Result ℕ E → Type 0)
    → ((u : Text) (x : Result ℕ E) → G u x → ParsesUnsigned 64 10 u x)
    → (text : Option Text) (r : Option ℕ) → (text ≡ None → r ≡ None) → ((t : Text) → text ≡ Some t → ReadsOne G t r)
    → in_limit r ≡ option_and_then limit_in text
in_limit_is E G only None r none some = ap in_limit (none refl)
in_limit_is E G only (Some t) r none some = reads E G only t r (some t refl)
