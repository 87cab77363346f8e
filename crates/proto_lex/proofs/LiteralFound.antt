use Rattle.std.proofs.Common.{◌≡◌, ℕ, zero, suc, ◌+◌, ◌-◌, true, false, cond, ◌||◌, ◌&&◌, nat_eq, nat_le, Option, Some}
use Rattle.std.proofs.Common.{None, Ok, List, [], ◌∷◌, ◌++◌, length, drop, refl, sym, ◌∙◌, ap, subst, arith, eqb-true}
use Rattle.std.proofs.Common.{append_assoc}
use Rattle.std.proofs.lemmas.List.{drop_at, length-append}
use Rattle.std.specs.List.{list_all}
use Rattle.std.proofs.lemmas.Option.{same_Some, none-some}
use Rattle.proto_lex.specs.Bytes.{is_octal_digit, is_hex_digit, is_hex_mark}
use Rattle.proto_lex.specs.Literals.{is_plain, is_escape_letter, IsEscape, letter, one_hex, one_octal, short_unicode}
use Rattle.proto_lex.specs.Literals.{long_unicode, last_unicode, EndsLiteral, close, character, escape}
use Rattle.proto_lex.specs.Reading.{begins_with_hex, begins_last_unicode, begins_long_unicode, escape_len, escaped}
use Rattle.proto_lex.specs.Reading.{character_at, literal_at}
use Rattle.proto_lex.proofs.ReadingTestLemmas.{chosen, both, either, same_ok, err_not_ok, bind_ok}
use Rattle.proto_lex.proofs.LiteralLemmas.{character_positive}
use Rattle.proto_lex.proofs.ByteLemmas.{is_plain_from}

-- Strings are read exactly as they are defined.

-- a front of bytes that is an escape after its `\`, of so many bytes
pub record EscapeFront (bytes : List ℕ) (count : ℕ) : Type 0 where
  pub front : List ℕ
  pub rest : List ℕ
  pub parts : bytes ≡ front ++ rest
  pub form : IsEscape front
  pub counted : count ≡ length front

one_found : (b : ℕ) (others : List ℕ) → (is_escape_letter b || is_octal_digit b) ≡ true → EscapeFront (b ∷ others) 1
one_found b others e = record {
  front = b ∷ [];
  rest = others;
  parts = refl;
  counted = refl;
  form = either (is_escape_letter b) (is_octal_digit b) e (λ t. letter t) (λ _ t. one_octal (rw t refl));
}

two_found : (x : ℕ) (others : List ℕ) → is_hex_mark x ≡ true → begins_with_hex 1 others ≡ true
    → EscapeFront (x ∷ others) 2
two_found x [] t e = absurd cc
two_found x (a ∷ rest) t e =
    record { front = x ∷ (a ∷ []); rest = rest; parts = refl; counted = refl; form = one_hex t (both _ _ e (λ _ h. h)) }

-- four hexadecimal digits, and five
four_found : (bytes : List ℕ) {P : Type 0} → begins_with_hex 4 bytes ≡ true
    → ((a b c d : ℕ) (rest : List ℕ) → bytes ≡ a ∷ (b ∷ (c ∷ (d ∷ rest)))
    → list_all is_hex_digit (a ∷ (b ∷ (c ∷ (d ∷ [])))) ≡ true → P) → P
four_found [] e p = absurd cc
four_found (a ∷ []) e p = absurd cc
four_found (a ∷ (b ∷ [])) e p = absurd cc
four_found (a ∷ (b ∷ (c ∷ []))) e p = absurd cc
four_found (a ∷ (b ∷ (c ∷ (d ∷ rest)))) e p =
    p a b c d rest refl (both (nat_le 4 (length (a ∷ (b ∷ (c ∷ (d ∷ rest))))))
    (list_all is_hex_digit (a ∷ (b ∷ (c ∷ (d ∷ []))))) e (λ _ h. h))

five_found : (bytes : List ℕ) {P : Type 0} → begins_with_hex 5 bytes ≡ true
    → ((a b c d f : ℕ) (rest : List ℕ) → bytes ≡ a ∷ (b ∷ (c ∷ (d ∷ (f ∷ rest))))
    → list_all is_hex_digit (a ∷ (b ∷ (c ∷ (d ∷ (f ∷ []))))) ≡ true → P) → P
five_found [] e p = absurd cc
five_found (a ∷ []) e p = absurd cc
five_found (a ∷ (b ∷ [])) e p = absurd cc
five_found (a ∷ (b ∷ (c ∷ []))) e p = absurd cc
five_found (a ∷ (b ∷ (c ∷ (d ∷ [])))) e p = absurd cc
five_found (a ∷ (b ∷ (c ∷ (d ∷ (f ∷ rest))))) e p =
    p a b c d f rest refl (both (nat_le 5 (length (a ∷ (b ∷ (c ∷ (d ∷ (f ∷ rest)))))))
    (list_all is_hex_digit (a ∷ (b ∷ (c ∷ (d ∷ (f ∷ [])))))) e (λ _ h. h))

short_found : (others : List ℕ) → begins_with_hex 4 others ≡ true → EscapeFront (117 ∷ others) 5
short_found others e = four_found others e (λ a b c d rest q h. record {
  front = 117 ∷ (a ∷ (b ∷ (c ∷ (d ∷ []))));
  rest = rest;
  parts = ap (λ xs. 117 ∷ xs) q;
  form = short_unicode h;
  counted = refl;
})

last_found : (others : List ℕ) → begins_last_unicode others ≡ true → EscapeFront (85 ∷ (48 ∷ (48 ∷ (49 ∷ others)))) 9
last_found [] e = absurd cc
last_found (z ∷ others) e =
    both (nat_eq z 48) (begins_with_hex 4 others) e (λ t f. four_found others f (λ a b c d rest q h. record {
      front = 85 ∷ (48 ∷ (48 ∷ (49 ∷ (48 ∷ (a ∷ (b ∷ (c ∷ (d ∷ []))))))));
      rest = rest;
      parts = rw (eqb-true z 48 t, q) refl;
      form = last_unicode h;
      counted = refl;
    }))

long_found : (others : List ℕ) → begins_long_unicode others ≡ true → EscapeFront (85 ∷ others) 9
long_found [] e = absurd cc
long_found (x ∷ []) e = absurd cc
long_found (x ∷ (y ∷ [])) e = absurd cc
long_found (x ∷ (y ∷ (z ∷ others))) e =
    both (nat_eq x 48 && nat_eq y 48)
    (cond (nat_eq z 48) (begins_with_hex 5 others) (nat_eq z 49 && begins_last_unicode others)) e (λ zeros k.
    both (nat_eq x 48) (nat_eq y 48) zeros (λ tx ty.
    chosen (nat_eq z 48) k
    (λ tz f. five_found others f (λ a b c d g rest q h. record {
      front = 85 ∷ (48 ∷ (48 ∷ (48 ∷ (a ∷ (b ∷ (c ∷ (d ∷ (g ∷ []))))))));
      rest = rest;
      parts = rw (eqb-true x 48 tx, eqb-true y 48 ty, eqb-true z 48 tz, q) refl;
      form = long_unicode h;
      counted = refl;
    }))
    (λ _ f. both (nat_eq z 49) (begins_last_unicode others) f (λ tz g.
    rw (eqb-true x 48 tx, eqb-true y 48 ty, eqb-true z 49 tz) (last_found others g)))))

pub escape_found : (bytes : List ℕ) (count : ℕ) → escape_len bytes ≡ Some count → EscapeFront bytes count
escape_found [] count e = absurd (none-some _ e)
escape_found (b ∷ others) count e =
    chosen (is_escape_letter b || is_octal_digit b) e
    (λ t x. subst (λ (n : ℕ). EscapeFront (b ∷ others) n) (same_Some _ _ x) (one_found b others t)) (λ _ x.
    chosen (is_hex_mark b) x
    (λ t y. chosen (begins_with_hex 1 others) y
    (λ h z. subst (λ (n : ℕ). EscapeFront (b ∷ others) n) (same_Some _ _ z) (two_found b others t h))
    (λ _ z. absurd (none-some _ z))) (λ _ y.
    chosen (nat_eq b 117) y
    (λ t z. chosen (begins_with_hex 4 others) z
    (λ h w. rw (eqb-true b 117 t)
    (subst (λ (n : ℕ). EscapeFront (117 ∷ others) n) (same_Some _ _ w) (short_found others h)))
    (λ _ w. absurd (none-some _ w))) (λ _ z.
    chosen (nat_eq b 85) z
    (λ t w. chosen (begins_long_unicode others) w
    (λ h v. rw (eqb-true b 85 t)
    (subst (λ (n : ℕ). EscapeFront (85 ∷ others) n) (same_Some _ _ v) (long_found others h)))
    (λ _ v. absurd (none-some _ v)))
    (λ _ w. absurd (none-some _ w)))))

-- a front of bytes that ends a string, of so many bytes
pub record LiteralFront (quote : ℕ) (bytes : List ℕ) (count : ℕ) : Type 0 where
  pub front : List ℕ
  pub rest : List ℕ
  pub parts : bytes ≡ front ++ rest
  pub ends : EndsLiteral quote front
  pub counted : count ≡ length front

pub escaped_found : (at : ℕ) (len : Option ℕ) (more : ℕ) → escaped at len ≡ Ok more
    → (count : ℕ) × (len ≡ Some count) × (more ≡ count + 1)
escaped_found at None more e = err_not_ok e
escaped_found at (Some count) more e = (count, refl, sym (same_ok (count + 1) more (Ok (count + 1)) refl e))

-- a character, and then the rest of a string
plain_front : (quote b more count : ℕ) (others : List ℕ) → is_plain quote b ≡ true → more ≡ 1
    → LiteralFront quote (drop (more - 1) others) count → LiteralFront quote (b ∷ others) (more + count)
plain_front quote b more count others p e f =
    let back : drop (more - 1) others ≡ others = rw e refl in
    record {
      front = b ∷ f.front;
      rest = f.rest;
      parts = ap (λ xs. b ∷ xs) (sym back ∙ f.parts);
      ends = character p f.ends;
      counted = omega (arith, f.counted);
    }

escape_front : (quote more count k : ℕ) (others : List ℕ) → EscapeFront others k → more ≡ k + 1
    → LiteralFront quote (drop (more - 1) others) count → LiteralFront quote (92 ∷ others) (more + count)
escape_front quote more count k others g e f =
    let less : more - 1 ≡ k = omega arith in
    let back : drop (more - 1) others ≡ g.rest = rw (less, g.parts) (drop_at g.front g.rest k (sym g.counted)) in
    let joined : others ≡ (g.front ++ f.front) ++ f.rest =
    g.parts ∙ (ap (λ xs. g.front ++ xs) (sym back ∙ f.parts) ∙ sym (append_assoc g.front f.front f.rest)) in
    record {
      front = 92 ∷ (g.front ++ f.front);
      rest = f.rest;
      parts = ap (λ xs. 92 ∷ xs) joined;
      ends = escape g.form f.ends;
      counted = omega (arith, f.counted, g.counted, length-append g.front f.front);
    }

character_front : (quote opening at b more count : ℕ) (others : List ℕ) → nat_eq b quote ≡ false
    → character_at opening at b others ≡ Ok more → LiteralFront quote (drop (more - 1) others) count
    → LiteralFront quote (b ∷ others) (more + count)
unfolding character_at
character_front quote opening at b more count others nq e f =
    chosen (nat_eq b 10) e (λ _ x. err_not_ok x) (λ n10 x.
    chosen (nat_eq b 0) x (λ _ y. err_not_ok y) (λ n0 y.
    chosen (nat_eq b 92) y
    (λ t z. let g = escaped_found at (escape_len others) more z in
    rw (eqb-true b 92 t) (escape_front quote more count g.0 others (escape_found others g.0 g.1) g.2 f))
    (λ n92 z. plain_front quote b more count others (is_plain_from quote b nq n10 n0 n92)
    (sym (same_ok 1 more (Ok 1) refl z)) f)))

pub literal_found : (quote opening skip len total : ℕ) (bytes : List ℕ)
    → literal_at quote opening skip len bytes ≡ Ok total
    → (count : ℕ) × (total ≡ len + skip + count) × LiteralFront quote (drop skip bytes) count
unfolding literal_at
literal_found quote opening skip len total [] e = err_not_ok e
literal_found quote opening (suc skip) len total (b ∷ others) e =
    let r = literal_found quote opening skip (len + 1) total others e in (r.0, omega (arith, r.1), r.2)
literal_found quote opening zero len total (b ∷ others) e =
    chosen (nat_eq b quote) e
    (λ t x. (
      1,
      omega (arith, same_ok (len + 1) total (Ok (len + 1)) refl x),
      record {
        front = quote ∷ [];
        rest = others;
        parts = rw (eqb-true b quote t) refl;
        ends = close;
        counted = refl;
      },
    ))
    (λ n x.
    let m = bind_ok (character_at opening (opening + len) b others)
    (λ more. literal_at quote opening (more - 1) (len + 1) others) total x in
    let r = literal_found quote opening (m.0 - 1) (len + 1) total others m.2 in (
      m.0 + r.0,
      omega (arith, r.1, character_positive opening (opening + len) b m.0 others m.1),
      character_front quote opening (opening + len) b m.0 r.0 others n m.1 r.2,
    ))
