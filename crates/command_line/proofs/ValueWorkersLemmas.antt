-- The number of threads that a text gives.
use Rattle.std.proofs.Common.{◌≡◌, ◌≤◌, ◌&&◌, ℕ, Bool, true, false, refl, ap, Option, Some, None, Result, Ok, Err}
use Rattle.std.proofs.Common.{le-leb, leb-true}
use Rattle.std.specs.Prelude.{cond, nat_le}
use Rattle.std.specs.Option.{option_map_or}
use Rattle.std.specs.Str.Parse.{ParsesUnsigned, digits_value, without_leading_plus}
use Rattle.clap.specs.Words.{ReadsOne, Text}
use Rattle.clap.specs.ValueTests.{is_unsigned_in}
use Rattle.clap.specs.declared.builder.value_parser.ValueParser.TheVariants as values
use Rattle.clap.proofs.ValueTestLemmas.{Accepts-accepts, accepts-Accepts}
use Rattle.clap.proofs.WalkLemmas.{both}
use Rattle.index_pool.specs.Workers.{most_workers}
use Rattle.command_line.specs.Options.Workers.{fitting, workers_in}

-- a number that the text spells
fits_so : (t : Text) (n : ℕ) → ParsesUnsigned {E = ℕ} 64 10 t (Ok n) → fitting (Some n) ≡ workers_in t
fits_so t n parsed = go (is_unsigned_in 1 most_workers t) refl (nat_le 1 n && nat_le n most_workers) refl
  where
    go : (b : Bool) → is_unsigned_in 1 most_workers t ≡ b → (d : Bool) → (nat_le 1 n && nat_le n most_workers) ≡ d
        → cond d n 1 ≡ cond b (digits_value 10 (without_leading_plus t)) 1
    go true e true f = parsed.1
    go false e false f = refl
    go true e false f =
        let accepted = accepts-Accepts false (values.Unsigned 1 most_workers) t e in
        let low : 1 ≤ n = rw parsed.1 accepted.2 in
        let high : n ≤ most_workers = rw parsed.1 accepted.3 in
        let yes : (nat_le 1 n && nat_le n most_workers) ≡ true =
        rw (le-leb 1 n low, le-leb n most_workers high) refl in
        absurd cc
    go false e true f =
        let parts = both _ _ f in
        let low : 1 ≤ digits_value 10 (without_leading_plus t) = rw (← parsed.1) (leb-true 1 n parts.0) in
        let high : digits_value 10 (without_leading_plus t) ≤ most_workers =
        rw (← parsed.1) (leb-true n most_workers parts.1) in
        let yes = Accepts-accepts false (values.Unsigned 1 most_workers) t (parsed.0.0, parsed.0.1, low, high) in
        absurd cc

-- a text that spells none
none_so : (t : Text) (e : ℕ) → ParsesUnsigned {E = ℕ} 64 10 t (Err e) → fitting None ≡ workers_in t
none_so t e unread = go (is_unsigned_in 1 most_workers t) refl
  where
    go : (b : Bool) → is_unsigned_in 1 most_workers t ≡ b → 1 ≡ cond b (digits_value 10 (without_leading_plus t)) 1
    go false f = refl
    go true f = let accepted = accepts-Accepts false (values.Unsigned 1 most_workers) t f in
        absurd (unread (accepted.0, accepted.1))

reads : (E : Type 0) (G : Text → Result ℕ E → Type 0) → ((u : Text) (x : Result ℕ E) → G u x → ParsesUnsigned 64 10 u x)
    → (t : Text) (r : Option ℕ) → ReadsOne G t r → fitting r ≡ workers_in t
reads E G only t (Some n) h = fits_so t n (only t (Ok n) h)
reads E G only t None h = none_so t 0 (only t (Err h.0) h.1)

-- what is read of the text, if there is one
pub fitting_is : (E : Type 0) (G : Text → Result ℕ E → Type 0)
    → ((u : Text) (x : Result ℕ E) → G u x → ParsesUnsigned 64 10 u x)
    → (text : Option Text) (r : Option ℕ) → (text ≡ None → r ≡ None) → ((t : Text) → text ≡ Some t → ReadsOne G t r)
    → fitting r ≡ option_map_or workers_in text 1
fitting_is E G only None r none some = ap fitting (none refl)
fitting_is E G only (Some t) r none some = reads E G only t r (some t refl)
