use Rattle.std.proofs.Common.{◌≡◌, ◌≢◌, ℕ, zero, suc, ◌+◌, ◌-◌, ◌<◌, ◌≤◌, true, false, Option, Some, None, Ok, Err}
use Rattle.std.proofs.Common.{List, [], ◌∷◌, length, drop, take, get_or, nat_eq, refl, ◌∙◌, arith, add-zero, eq-eqb}
use Rattle.std.proofs.lemmas.Bool.Decides.{nat_tests}
use Rattle.proto_lex.specs.Reading.{Read, ◌>>=◌, literal_at, character_at, escape_len, escaped}
use Rattle.proto_lex.specs.declared.fault.LexFault.{LexFault}
use Rattle.proto_lex.specs.declared.fault.LexFault.TheVariants.{OpenString}
use Rattle.proto_lex.proofs.ReadingTestLemmas.{chosen, err_not_ok, after-cons, bind_of_ok, bind_of_err}

-- the bytes that are known to be in the string may be left out
pub literal_skip : (quote opening skip len : ℕ) (bytes : List ℕ)
    → literal_at quote opening skip len bytes ≡ literal_at quote opening 0 (len + skip) (drop skip bytes)
unfolding literal_at
literal_skip quote opening zero len bytes = rw add-zero refl
literal_skip quote opening (suc skip) len [] = refl
literal_skip quote opening (suc skip) len (b ∷ others) =
    let e : len + 1 + skip ≡ len + suc skip = omega arith in
    literal_skip quote opening skip (len + 1) others ∙ rw e refl

escaped_positive : (at : ℕ) (len : Option ℕ) (more : ℕ) → escaped at len ≡ Ok more → 0 < more
escaped_positive at None more e = absurd cc
escaped_positive at (Some len) more e = let same : len + 1 ≡ more = cc in omega arith

one_positive : (more : ℕ) (r : Read ℕ) → r ≡ Ok 1 → r ≡ Ok more → 0 < more
one_positive more r d e = let same : 1 ≡ more = cc in omega arith

-- a character takes a byte at least
pub character_positive : (opening at b more : ℕ) (others : List ℕ) → character_at opening at b others ≡ Ok more
    → 0 < more
unfolding character_at
character_positive opening at b more others e =
    chosen (nat_eq b 10) e (λ _ x. err_not_ok x) (λ _ x.
    chosen (nat_eq b 0) x (λ _ y. err_not_ok y) (λ _ y.
    chosen (nat_eq b 92) y (λ _ z. escaped_positive at (escape_len others) more z)
    (λ _ z. one_positive more (Ok 1) refl z)))

pub literal_first : (quote opening len b : ℕ) (others : List ℕ) → b ≢ quote
    → literal_at quote opening 0 len (b ∷ others)
    ≡ (character_at opening (opening + len) b others >>= λ more. literal_at quote opening (more - 1) (len + 1) others)
unfolding literal_at
literal_first quote opening len b others ne = let e : nat_eq b quote ≡ false = grind (arith, nat_tests) in rw e refl

-- a character is read, and then the rest
pub literal_step-cons : (quote opening len more b : ℕ) (others : List ℕ) → b ≢ quote
    → character_at opening (opening + len) b others ≡ Ok more
    → literal_at quote opening 0 len (b ∷ others) ≡ literal_at quote opening 0 (len + more) (drop more (b ∷ others))
literal_step-cons quote opening len zero b others ne e = absurd (omega (arith, character_positive _ _ _ _ _ e))
literal_step-cons quote opening len (suc k) b others ne e =
    let same : len + 1 + k ≡ len + suc k = omega arith in
    let less : suc k - 1 ≡ k = omega arith in
    literal_first quote opening len b others ne ∙ bind_of_ok _ e
    ∙ rw less (literal_skip quote opening k (len + 1) others ∙ rw same refl)

pub literal_step : (quote opening len more : ℕ) (bytes : List ℕ) → 1 ≤ length bytes → get_or bytes 0 0 ≢ quote
    → character_at opening (opening + len) (get_or bytes 0 0) (take (length bytes - 1) (drop 1 bytes)) ≡ Ok more
    → literal_at quote opening 0 len bytes ≡ literal_at quote opening 0 (len + more) (drop more bytes)
literal_step quote opening len more [] h ne e = absurd (omega arith)
literal_step quote opening len more (b ∷ others) h ne e =
    literal_step-cons quote opening len more b others ne (rw (after-cons b others) at e)

-- a character that isn't one is the string's fault
pub literal_fault : (quote opening len : ℕ) (bytes : List ℕ) (fault : LexFault) → 1 ≤ length bytes
    → get_or bytes 0 0 ≢ quote
    → character_at opening (opening + len) (get_or bytes 0 0) (take (length bytes - 1) (drop 1 bytes)) ≡ Err fault
    → literal_at quote opening 0 len bytes ≡ Err fault
literal_fault quote opening len [] fault h ne e = absurd (omega arith)
literal_fault quote opening len (b ∷ others) fault h ne e =
    literal_first quote opening len b others ne ∙ bind_of_err _ (rw (after-cons b others) at e)

-- the quote ends it
pub literal_close : (quote opening len : ℕ) (bytes : List ℕ) → 1 ≤ length bytes → get_or bytes 0 0 ≡ quote
    → literal_at quote opening 0 len bytes ≡ Ok (len + 1)
unfolding literal_at
literal_close quote opening len [] h e = absurd (omega arith)
literal_close quote opening len (b ∷ others) h e = let t : nat_eq b quote ≡ true = eq-eqb b quote e in rw t refl

-- and so does the end
pub literal_end : (quote opening len : ℕ) (bytes : List ℕ) → length bytes ≡ 0
    → literal_at quote opening 0 len bytes ≡ Err (OpenString opening)
unfolding literal_at
literal_end quote opening len [] h = refl
literal_end quote opening len (b ∷ others) h = absurd (omega arith)
