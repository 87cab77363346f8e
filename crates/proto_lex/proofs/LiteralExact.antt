use Rattle.std.proofs.Common.{◌≡◌, ℕ, ◌+◌, true, false, ◌||◌, ◌&&◌, nat_eq, nat_le, Some, Ok, List, [], ◌∷◌, ◌++◌}
use Rattle.std.proofs.Common.{length, drop, refl, ◌∙◌, ap, arith, eqb-true, append_assoc}
use Rattle.std.proofs.lemmas.Bool.{eqb-false, and_from, or_right}
use Rattle.std.proofs.lemmas.Bool.Decides.{nat_tests}
use Rattle.std.proofs.lemmas.List.{length-append}
use Rattle.std.specs.List.{list_all}
use Rattle.proto_lex.specs.Bytes.{is_octal_digit, is_hex_digit, is_hex_mark, is_quote}
use Rattle.proto_lex.specs.Literals.{is_plain, is_escape_letter, IsEscape, letter, one_hex, two_hex, one_octal}
use Rattle.proto_lex.specs.Literals.{two_octal, three_octal, short_unicode, long_unicode, last_unicode, EndsLiteral}
use Rattle.proto_lex.specs.Literals.{close, character, escape}
use Rattle.proto_lex.specs.Reading.{begins_with_hex, escape_len, character_at, literal_at}
use Rattle.proto_lex.proofs.ReadingTestLemmas.{both, either}
use Rattle.proto_lex.proofs.LiteralLemmas.{literal_step-cons, literal_close}
use Rattle.proto_lex.proofs.ByteLemmas.{quote_not_backslash, plain_not_quote, plain_not_newline, plain_not_nul}
use Rattle.proto_lex.proofs.ByteLemmas.{plain_not_backslash, hex_is_plain, octal_is_plain}

-- Every string is read.

-- a plain byte is a character
plain_exact : (quote opening at b : ℕ) (others : List ℕ) → is_plain quote b ≡ true
    → character_at opening at b others ≡ Ok 1
unfolding character_at
plain_exact quote opening at b others p =
    rw (plain_not_newline quote b p, plain_not_nul quote b p, plain_not_backslash quote b p) refl

pub literal_plain : (quote opening len b : ℕ) (others : List ℕ) → is_plain quote b ≡ true
    → literal_at quote opening 0 len (b ∷ others) ≡ literal_at quote opening 0 (len + 1) others
literal_plain quote opening len b others p =
    literal_step-cons quote opening len 1 b others (eqb-false b quote (plain_not_quote quote b p))
    (plain_exact quote opening (opening + len) b others p)

literal_hex : (quote opening len b : ℕ) (others : List ℕ) → is_quote quote ≡ true → is_hex_digit b ≡ true
    → literal_at quote opening 0 len (b ∷ others) ≡ literal_at quote opening 0 (len + 1) others
literal_hex quote opening len b others q h = literal_plain quote opening len b others (hex_is_plain quote b q h)

literal_octal : (quote opening len b : ℕ) (others : List ℕ) → is_quote quote ≡ true → is_octal_digit b ≡ true
    → literal_at quote opening 0 len (b ∷ others) ≡ literal_at quote opening 0 (len + 1) others
literal_octal quote opening len b others q h = literal_plain quote opening len b others (octal_is_plain quote b q h)

-- a `\` is read with what follows it
backslash_exact : (opening at count : ℕ) (others : List ℕ) → escape_len others ≡ Some count
    → character_at opening at 92 others ≡ Ok (count + 1)
unfolding character_at
backslash_exact opening at count others e = rw e refl

literal_escape : (quote opening len count : ℕ) (others : List ℕ) → is_quote quote ≡ true
    → escape_len others ≡ Some count
    → literal_at quote opening 0 len (92 ∷ others)
    ≡ literal_at quote opening 0 (len + (count + 1)) (drop (count + 1) (92 ∷ others))
literal_escape quote opening len count others q e =
    literal_step-cons quote opening len (count + 1) 92 others (quote_not_backslash quote q)
    (backslash_exact opening (opening + len) count others e)

hex_mark_no_letter : (x : ℕ) → is_hex_mark x ≡ true → (is_escape_letter x || is_octal_digit x) ≡ false
hex_mark_no_letter x t =
    either (nat_eq x 120) (nat_eq x 88) t (λ e. rw (eqb-true x 120 e) refl) (λ _ e. rw (eqb-true x 88 e) refl)

one_exact : (a : ℕ) (rest : List ℕ) → is_hex_digit a ≡ true → begins_with_hex 1 (a ∷ rest) ≡ true
one_exact a rest h =
    and_from (nat_le 1 (length (a ∷ rest))) (list_all is_hex_digit (a ∷ [])) (grind (arith, nat_tests))
    (and_from (is_hex_digit a) true h refl)

hex_exact : (x a : ℕ) (rest : List ℕ) → is_hex_mark x ≡ true → is_hex_digit a ≡ true
    → escape_len (x ∷ (a ∷ rest)) ≡ Some 2
hex_exact x a rest t h = rw (hex_mark_no_letter x t, t, one_exact a rest h) refl

octal_escape : (a : ℕ) (rest : List ℕ) → is_octal_digit a ≡ true → escape_len (a ∷ rest) ≡ Some 1
octal_escape a rest h = rw (or_right (is_escape_letter a) (is_octal_digit a) h) refl

four_exact : (a b c d : ℕ) (rest : List ℕ) → list_all is_hex_digit (a ∷ (b ∷ (c ∷ (d ∷ [])))) ≡ true
    → begins_with_hex 4 (a ∷ (b ∷ (c ∷ (d ∷ rest)))) ≡ true
four_exact a b c d rest h =
    and_from (nat_le 4 (length (a ∷ (b ∷ (c ∷ (d ∷ rest)))))) (list_all is_hex_digit (a ∷ (b ∷ (c ∷ (d ∷ [])))))
    (grind (arith, nat_tests)) h

five_exact : (a b c d e : ℕ) (rest : List ℕ) → list_all is_hex_digit (a ∷ (b ∷ (c ∷ (d ∷ (e ∷ []))))) ≡ true
    → begins_with_hex 5 (a ∷ (b ∷ (c ∷ (d ∷ (e ∷ rest))))) ≡ true
five_exact a b c d e rest h =
    and_from (nat_le 5 (length (a ∷ (b ∷ (c ∷ (d ∷ (e ∷ rest)))))))
    (list_all is_hex_digit (a ∷ (b ∷ (c ∷ (d ∷ (e ∷ [])))))) (grind (arith, nat_tests)) h

-- something is read wherever an escape stands
pub escape_some : {letters : List ℕ} → IsEscape letters → (rest : List ℕ)
    → (count : ℕ) × (escape_len (letters ++ rest) ≡ Some count)
escape_some (letter t) rest = (1, rw t refl)
escape_some (one_hex {x} {a} t h) rest = both (is_hex_digit a) true h (λ ha _. (2, hex_exact x a rest t ha))
escape_some (two_hex {x} {a} {b} t h) rest =
    both (is_hex_digit a) (is_hex_digit b && true) h (λ ha _. (2, hex_exact x a (b ∷ rest) t ha))
escape_some (one_octal {a} h) rest = both (is_octal_digit a) true h (λ ha _. (1, octal_escape a rest ha))
escape_some (two_octal {a} {b} h) rest =
    both (is_octal_digit a) (is_octal_digit b && true) h (λ ha _. (1, octal_escape a (b ∷ rest) ha))
escape_some (three_octal {a} {b} {c} h) rest =
    both (is_octal_digit a) (is_octal_digit b && (is_octal_digit c && true)) h
    (λ ha _. (1, octal_escape a (b ∷ (c ∷ rest)) ha))
escape_some (short_unicode {a} {b} {c} {d} h) rest = (5, rw (four_exact a b c d rest h) refl)
escape_some (long_unicode {a} {b} {c} {d} {e} h) rest = (9, rw (five_exact a b c d e rest h) refl)
escape_some (last_unicode {a} {b} {c} {d} h) rest = (9, rw (four_exact a b c d rest h) refl)

-- an escape is read, with the digits that follow its first as characters
pub escape_exact : (quote opening : ℕ) → is_quote quote ≡ true → {letters : List ℕ} → IsEscape letters
    → (len : ℕ) (rest : List ℕ)
    → literal_at quote opening 0 len (92 ∷ (letters ++ rest))
    ≡ literal_at quote opening 0 (len + 1 + length letters) rest
escape_exact quote opening q (letter {b} t) len rest =
    let e : escape_len (b ∷ rest) ≡ Some 1 = rw t refl in
    let n : len + (1 + 1) ≡ len + 1 + 1 = omega arith in
    literal_escape quote opening len 1 (b ∷ rest) q e ∙ rw n refl
escape_exact quote opening q (one_hex {x} {a} t h) len rest =
    both (is_hex_digit a) true h (λ ha _.
    let n : len + (2 + 1) ≡ len + 1 + 2 = omega arith in
    literal_escape quote opening len 2 (x ∷ (a ∷ rest)) q (hex_exact x a rest t ha) ∙ rw n refl)
escape_exact quote opening q (two_hex {x} {a} {b} t h) len rest =
    both (is_hex_digit a) (is_hex_digit b && true) h (λ ha hs. both (is_hex_digit b) true hs (λ hb _.
    let n : len + (2 + 1) + 1 ≡ len + 1 + 3 = omega arith in
    literal_escape quote opening len 2 (x ∷ (a ∷ (b ∷ rest))) q (hex_exact x a (b ∷ rest) t ha)
    ∙ (literal_hex quote opening (len + (2 + 1)) b rest q hb ∙ rw n refl)))
escape_exact quote opening q (one_octal {a} h) len rest =
    both (is_octal_digit a) true h (λ ha _.
    let n : len + (1 + 1) ≡ len + 1 + 1 = omega arith in
    literal_escape quote opening len 1 (a ∷ rest) q (octal_escape a rest ha) ∙ rw n refl)
escape_exact quote opening q (two_octal {a} {b} h) len rest =
    both (is_octal_digit a) (is_octal_digit b && true) h (λ ha hs. both (is_octal_digit b) true hs (λ hb _.
    let n : len + (1 + 1) + 1 ≡ len + 1 + 2 = omega arith in
    literal_escape quote opening len 1 (a ∷ (b ∷ rest)) q (octal_escape a (b ∷ rest) ha)
    ∙ (literal_octal quote opening (len + (1 + 1)) b rest q hb ∙ rw n refl)))
escape_exact quote opening q (three_octal {a} {b} {c} h) len rest =
    both (is_octal_digit a) (is_octal_digit b && (is_octal_digit c && true)) h (λ ha hs.
    both (is_octal_digit b) (is_octal_digit c && true) hs (λ hb ht. both (is_octal_digit c) true ht (λ hc _.
    let n : len + (1 + 1) + 1 + 1 ≡ len + 1 + 3 = omega arith in
    literal_escape quote opening len 1 (a ∷ (b ∷ (c ∷ rest))) q (octal_escape a (b ∷ (c ∷ rest)) ha)
    ∙ (literal_octal quote opening (len + (1 + 1)) b (c ∷ rest) q hb
    ∙ (literal_octal quote opening (len + (1 + 1) + 1) c rest q hc ∙ rw n refl)))))
escape_exact quote opening q (short_unicode {a} {b} {c} {d} h) len rest =
    let e : escape_len (117 ∷ (a ∷ (b ∷ (c ∷ (d ∷ rest))))) ≡ Some 5 = rw (four_exact a b c d rest h) refl in
    let n : len + (5 + 1) ≡ len + 1 + 5 = omega arith in
    literal_escape quote opening len 5 (117 ∷ (a ∷ (b ∷ (c ∷ (d ∷ rest))))) q e ∙ rw n refl
escape_exact quote opening q (long_unicode {a} {b} {c} {d} {e} h) len rest =
    let r : escape_len (85 ∷ (48 ∷ (48 ∷ (48 ∷ (a ∷ (b ∷ (c ∷ (d ∷ (e ∷ rest))))))))) ≡ Some 9 =
    rw (five_exact a b c d e rest h) refl in
    let n : len + (9 + 1) ≡ len + 1 + 9 = omega arith in
    literal_escape quote opening len 9 (85 ∷ (48 ∷ (48 ∷ (48 ∷ (a ∷ (b ∷ (c ∷ (d ∷ (e ∷ rest))))))))) q r ∙ rw n refl
escape_exact quote opening q (last_unicode {a} {b} {c} {d} h) len rest =
    let r : escape_len (85 ∷ (48 ∷ (48 ∷ (49 ∷ (48 ∷ (a ∷ (b ∷ (c ∷ (d ∷ rest))))))))) ≡ Some 9 =
    rw (four_exact a b c d rest h) refl in
    let n : len + (9 + 1) ≡ len + 1 + 9 = omega arith in
    literal_escape quote opening len 9 (85 ∷ (48 ∷ (48 ∷ (49 ∷ (48 ∷ (a ∷ (b ∷ (c ∷ (d ∷ rest))))))))) q r ∙ rw n refl

pub literal_exact : (quote opening : ℕ) → is_quote quote ≡ true → {bytes : List ℕ} → EndsLiteral quote bytes
    → (len : ℕ) (rest : List ℕ)
    → literal_at quote opening 0 len (bytes ++ rest) ≡ Ok (len + length bytes)
literal_exact quote opening q close len rest = literal_close quote opening len (quote ∷ rest) (omega arith) refl
literal_exact quote opening q (character {b} {others} p r) len rest =
    let n : len + 1 + length others ≡ len + length (b ∷ others) = omega arith in
    literal_plain quote opening len b (others ++ rest) p
    ∙ (literal_exact quote opening q r (len + 1) rest ∙ ap (λ k. Ok k) n)
literal_exact quote opening q (escape {letters} {others} f r) len rest =
    let n : len + 1 + length letters + length others ≡ len + length (92 ∷ (letters ++ others)) =
    omega (arith, length-append letters others) in
    rw (append_assoc letters others rest)
    (escape_exact quote opening q f len (others ++ rest)
    ∙ (literal_exact quote opening q r (len + 1 + length letters) rest ∙ ap (λ k. Ok k) n))
