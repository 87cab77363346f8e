-- What a fault at a token is of: a step `p`, and the step `q` that it is where custom options are read past. A fault
-- is of a token that can't be there, or of a ban; and then `q` goes on with the token, or `p` with another literal.
use Rattle.std.proofs.Common.{◌≡◌, ℕ, zero, suc, Bool, true, false, List, [], ◌∷◌, ◌++◌, length, inl, inr, refl, sym}
use Rattle.std.proofs.Common.{ap, subst, ◌∙◌, append_assoc, arith, codes}
use Rattle.std.proofs.lemmas.Bool.{and_parts}
use Rattle.std.proofs.lemmas.List.{append_cancel_right}
use Rattle.proto_lex.specs.declared.token.TokenKind.TheVariants.{StringLiteral, OpenBrace, OpenParenthesis}
use Rattle.proto_grammar.specs.declared.dialect.CustomOptions.{CustomOptions}
use Rattle.proto_grammar.specs.declared.dialect.CustomOptions.TheVariants.{Refuse}
use Rattle.proto_grammar.specs.declared.fault.SyntaxFault.{SyntaxFault}
use Rattle.proto_grammar.specs.declared.fault.SyntaxFault.TheVariants.{CustomOption, Aggregate, Extend, ImportEscape}
use Rattle.proto_grammar.specs.declared.fault.SyntaxFault.TheVariants.{TooDeep, Grammar}
use Rattle.proto_grammar.specs.Lexeme.{Lexeme, place_of}
use Rattle.proto_grammar.specs.Terminal.{first_is, of_kind, is_word, is_plain_literal, offset_at}
use Rattle.proto_grammar.proofs.TerminalTokenLemmas.{same_kind}
use Rattle.proto_steps.specs.Step.{Terminal, Step, Done, Never, Take, If, Count, Derives, Refused, Counts, wrong_at}
use Rattle.proto_steps.specs.Step.Counts.{at_zero, past as past_one}
use Rattle.proto_steps.specs.Terminals.{is_escaped}
use Rattle.proto_steps.proofs.StepLaws.{IsTaken, count_taken}
use Rattle.proto_steps.proofs.FirstLemmas.{less_of, like_first, like_front}
use Rattle.proto_steps.proofs.EndLemmas.{keeps_front}

-- ---- literals

-- the token as a literal
abbrev pub lit : Lexeme → Lexeme
lit t = record { kind = StringLiteral; spelling = t.spelling; span = t.span; dotted = t.dotted }

abbrev pub IsLiteral : Lexeme → Type 0
IsLiteral t = of_kind StringLiteral t ≡ true

-- all literals pass the test, or none
abbrev pub Blind : (Lexeme → Bool) → Type 0
Blind test = (t u : Lexeme) → test (lit t) ≡ test (lit u)

pub is_lit : (t : Lexeme) → IsLiteral t → t ≡ lit t
is_lit t is =
    ap (λ k. record { kind = k; spelling = t.spelling; span = t.span; dotted = t.dotted })
    (same_kind StringLiteral t.kind is)

pub blind : (test : Lexeme → Bool) → Blind test → (t u : Lexeme) → IsLiteral t → IsLiteral u → test t ≡ test u
blind test same t u is lit_u =
    ap test (is_lit t is) ∙ same t u ∙ sym (ap test (is_lit u lit_u))

pub blind_first : (test : Lexeme → Bool) → Blind test → (f : List Lexeme) (t u : Lexeme) (b c : List Lexeme)
    → IsLiteral t → IsLiteral u → first_is test (f ++ t ∷ b) ≡ first_is test (f ++ u ∷ c)
blind_first test same [] t u b c is lit_u = blind test same t u is lit_u
blind_first test same (v ∷ f) t u b c is lit_u = refl

-- the first token, whatever is behind the token
pub first_same : (test : Lexeme → Bool) (f : List Lexeme) (t : Lexeme) (b c : List Lexeme)
    → first_is test (f ++ t ∷ b) ≡ first_is test (f ++ t ∷ c)
first_same test f t b c = like_first t b c test (like_front t b c f)

-- ---- what a fault is of

-- The step takes all tokens, or would take more.
pub data Reaches {A : Type 0} (p : Step A) (end : ℕ) (a : List Lexeme) : Type 0 where
  whole : (x : A) → Derives p a x [] → Reaches p end a
  short : (e : SyntaxFault) → Refused p end a e [] → Reaches p end a

-- a ban of custom options, at its token
pub data OptionBan (t : Lexeme) : SyntaxFault → Type 0 where
  custom_option : of_kind OpenParenthesis t ≡ true → OptionBan t (CustomOption t.span.start)
  aggregate : of_kind OpenBrace t ≡ true → OptionBan t (Aggregate t.span.start)
  extend : is_word (codes "extend") t ≡ true → OptionBan t (Extend t.span.start)

-- the step is refused at each literal
abbrev pub Shut : {A : Type 0} → Step A → ℕ → List Lexeme → Type 0
Shut p end f = (u : Lexeme) (c : List Lexeme) → IsLiteral u → (e : SyntaxFault) × Refused p end (f ++ u ∷ c) e (u ∷ c)

pub data Outcome (custom : CustomOptions) (Also : List Lexeme → Lexeme → SyntaxFault → Type 0) {A : Type 0}
    (p q : Step A) (end : ℕ) (f : List Lexeme) (t : Lexeme) (b : List Lexeme) (e : SyntaxFault) : Type 0 where
  misplaced : e ≡ Grammar t.span.start → Refused q end (f ++ t ∷ b) e (t ∷ b)
      → (is_escaped t ≡ true → Shut p end f) → Outcome custom Also p q end f t b e
  opened : custom ≡ Refuse → OptionBan t e → Reaches q end (f ++ t ∷ []) → Outcome custom Also p q end f t b e
  escape : is_escaped t ≡ true → e ≡ ImportEscape t.span.start
      → ((u : Lexeme) → is_plain_literal u ≡ true → Reaches p end (f ++ u ∷ [])) → Outcome custom Also p q end f t b e
  also : Also f t e → Outcome custom Also p q end f t b e

-- nothing more, or that it is too deep
abbrev pub Deeply : Bool → List Lexeme → Lexeme → SyntaxFault → Type 0
Deeply deep f t e = (deep ≡ true) × (at : ℕ) × (e ≡ TooDeep at)

-- wherever it stands
abbrev pub any : List Lexeme → Bool
any a = true

-- A step that stops in front of a literal stops there in front of another.
abbrev pub Leaves : {A : Type 0} → Step A → Type 0
Leaves {A} p =
    (f : List Lexeme) (t u : Lexeme) (b c : List Lexeme) (x : A) → IsLiteral t → IsLiteral u
    → Derives p (f ++ t ∷ b) x (t ∷ b) → Derives p (f ++ u ∷ c) x (u ∷ c)

-- Each fault of `p` is of one of these, where the text passes the test `on`.
pub record Explains (custom : CustomOptions) (Also : List Lexeme → Lexeme → SyntaxFault → Type 0)
    (on : List Lexeme → Bool) {A : Type 0} (p q : Step A) : Type 0 where
  pub past : (a b : List Lexeme) (x : A) → Derives p a x b → Derives q a x b
  pub leaves : Leaves p
  pub missing : (end : ℕ) (a : List Lexeme) (e : SyntaxFault) → on a ≡ true → Refused p end a e [] → e ≡ Grammar end
  pub at_token : (end : ℕ) (f : List Lexeme) (t : Lexeme) (b : List Lexeme) (e : SyntaxFault)
      → on (f ++ t ∷ b) ≡ true → Refused p end (f ++ t ∷ b) e (t ∷ b) → Outcome custom Also p q end f t b e

-- ---- a step in one that contains it

-- What the one does with the tokens `m`, the other does with `n`.
pub record Carries {A B : Type 0} (p : Step A) (q : Step B) (end : ℕ) (m n : List Lexeme) : Type 0 where
  pub refuses : (e : SyntaxFault) (l : List Lexeme) → Refused p end m e l → Refused q end n e l
  pub reads : (x : A) → Derives p m x [] → Reaches q end n

pub carried : {A B : Type 0} (p : Step A) (q : Step B) (end : ℕ) (m n : List Lexeme) → Carries p q end m n
    → Reaches p end m → Reaches q end n
carried p q end m n c (whole x d) = c.reads x d
carried p q end m n c (short e r) = short e (c.refuses e [] r)

pub is_literal : (t : Lexeme) → is_escaped t ≡ true → IsLiteral t
is_literal t esc = (and_parts (of_kind StringLiteral t) _ esc).0

pub plain_literal : (u : Lexeme) → is_plain_literal u ≡ true → IsLiteral u
plain_literal u plain = (and_parts (of_kind StringLiteral u) _ plain).0

module _ {custom : CustomOptions} {Also More : List Lexeme → Lexeme → SyntaxFault → Type 0} {A B : Type 0}
    (p q : Step A) (r s : Step B) (end : ℕ) (f g : List Lexeme) (t : Lexeme) (b : List Lexeme) (e : SyntaxFault)
    (wide : (c : List Lexeme) → Carries q s end (g ++ t ∷ c) ((f ++ g) ++ t ∷ c))
    (other : (u : Lexeme) (c : List Lexeme) → IsLiteral t → IsLiteral u
    → Carries p r end (g ++ u ∷ c) ((f ++ g) ++ u ∷ c))
    (more : Also g t e → More (f ++ g) t e) where
  pub moved : Outcome custom Also p q end g t b e → Outcome custom More r s end (f ++ g) t b e
  moved (misplaced same refused shut) =
      misplaced same ((wide b).refuses e (t ∷ b) refused)
      (λ esc u c lit_u.
      let k = shut esc u c lit_u in (k.0, (other u c (is_literal t esc) lit_u).refuses k.0 (u ∷ c) k.1))
  moved (opened refuse ban reach) =
      opened refuse ban (carried q s end (g ++ t ∷ []) ((f ++ g) ++ t ∷ []) (wide []) reach)
  moved (escape esc same reach) =
      escape esc same
      (λ u plain.
      carried p r end (g ++ u ∷ []) ((f ++ g) ++ u ∷ [])
      (other u [] (is_literal t esc) (plain_literal u plain)) (reach u plain))
  moved (also a) = also (more a)

-- where a text is cut in two, in front of a token
pub split_at : {Goal : Type 0} (f : List Lexeme) (l a : List Lexeme) → IsTaken (f ++ l) a → IsTaken a l
    → ((g h : List Lexeme) → f ≡ g ++ h → a ≡ h ++ l → Goal) → Goal
split_at f l a first rest goal =
    goal first.0 rest.0
    (append_cancel_right f (first.0 ++ rest.0) l
    (first.1 ∙ ap (λ z. first.0 ++ z) rest.1 ∙ sym (append_assoc first.0 rest.0 l))) rest.1

pub whole_text : (f g h l : List Lexeme) → f ≡ g ++ h → f ++ l ≡ g ++ (h ++ l)
whole_text f g h l e = ap (λ z. z ++ l) e ∙ append_assoc g h l

pub no_front : (f l : List Lexeme) → l ≡ f ++ l → f ≡ []
no_front f l e = append_cancel_right f [] l (sym e)

pub leaves_front : {A : Type 0} (p : Step A) → Leaves p → (f g : List Lexeme) (t u : Lexeme) (b c : List Lexeme) (x : A)
    → IsLiteral t → IsLiteral u → Derives p (f ++ (g ++ t ∷ b)) x (g ++ t ∷ b)
    → Derives p (f ++ (g ++ u ∷ c)) x (g ++ u ∷ c)
leaves_front p leaves f [] t u b c x is lit_u d = leaves f t u b c x is lit_u d
leaves_front p leaves f (v ∷ g) t u b c x is lit_u d = keeps_front p f [] v (g ++ t ∷ b) (g ++ u ∷ c) x d

-- ---- single steps

module _ {custom : CustomOptions} {Also : List Lexeme → Lexeme → SyntaxFault → Type 0} {on : List Lexeme → Bool}
    {A : Type 0} where
  pub done : {v : A} → Explains custom Also on (Done v) (Done v)
  done {v} = record {
    past = λ a b x d. d;
    leaves =
        λ f t u b c x is lit_u d.
        let none = no_front f (t ∷ b) d.1 in (d.0, subst (λ z. u ∷ c ≡ z ++ u ∷ c) (sym none) refl);
    missing = λ end a e at r. absurd r;
    at_token = λ end f t b e at r. absurd r;
  }

  pub never : Explains custom Also on (Never {A = A} Grammar) (Never {A = A} Grammar)
  never = record {
    past = λ a b x d. d;
    leaves = λ f t u b c x is lit_u d. absurd d;
    missing = λ end a e at r. r.1 ∙ ap (λ z. wrong_at end z) (sym r.0);
    at_token =
        λ end f t b e at r.
        misplaced (r.1 ∙ ap (λ z. wrong_at end z) (sym r.0)) r
        (λ esc u c lit_u. (
          wrong_at end (f ++ u ∷ c),
          (subst (λ z. u ∷ c ≡ z ++ u ∷ c) (sym (no_front f (t ∷ b) r.0)) refl, refl),
        ));
  }

-- a ban, at its token
module _ {A : Type 0} {test : Lexeme → Bool} {make : ℕ → SyntaxFault} where
  pub option_ban : {Also : List Lexeme → Lexeme → SyntaxFault → Type 0} {r : Step A}
      → ((t : Lexeme) → test t ≡ true → OptionBan t (make t.span.start))
      → ((end : ℕ) (t : Lexeme) → test t ≡ true → Reaches r end (t ∷ []))
      → Explains Refuse Also (first_is test) (Never make) r
  option_ban {r = r} ban reach = record {
    past = λ a b x d. absurd d;
    leaves = λ f t u b c x is lit_u d. absurd d;
    missing =
        λ end a e at s.
        absurd (let never : false ≡ true = subst (λ z. first_is test z ≡ true) (sym s.0) at in cc);
    at_token =
        λ end f t b e at s.
        let is : test t ≡ true = subst (λ z. first_is test z ≡ true) (sym s.0) at in
        let same : e ≡ make t.span.start =
        s.1 ∙ ap (λ z. make (offset_at (place_of end z))) (sym s.0) in
        opened refl (subst (λ z. OptionBan t z) (sym same) (ban t is))
        (subst (λ z. Reaches r end (z ++ t ∷ [])) (sym (no_front f (t ∷ b) s.0)) (reach end t is));
  }

  pub deep_ban : {custom : CustomOptions} → ((n : ℕ) → (at : ℕ) × (make n ≡ TooDeep at))
      → Explains custom (Deeply true) (first_is test) (Never {A = A} make) (Never {A = A} make)
  deep_ban deep = record {
    past = λ a b x d. d;
    leaves = λ f t u b c x is lit_u d. absurd d;
    missing =
        λ end a e at s.
        absurd (let never : false ≡ true = subst (λ z. first_is test z ≡ true) (sym s.0) at in cc);
    at_token =
        λ end f t b e at s.
        let k = deep (offset_at (place_of end (f ++ t ∷ b))) in also (refl, k.0, s.1 ∙ k.1);
  }

count_leaves : {next : Lexeme → ℕ → ℕ} {n : ℕ} {a l : List Lexeme} (f : List Lexeme) (t u : Lexeme)
    (b c : List Lexeme) → Counts next n a l → a ≡ f ++ t ∷ b → l ≡ t ∷ b → Counts next n (f ++ u ∷ c) (u ∷ c)
count_leaves {next} f t u b c (at_zero {a = a}) e same =
    let none = no_front f (t ∷ b) (sym same ∙ e) in
    subst (λ z. Counts next zero (z ++ u ∷ c) (u ∷ c)) (sym none) at_zero
count_leaves [] t u b c (past_one {t = v} {a = a} d) e same =
    absurd (omega (arith, less_of (count_taken d), ap length e, ap length same))
count_leaves {next} (w ∷ f) t u b c (past_one {n = n} {t = v} {a = a} d) e same =
    let heads : v ≡ w = cc in
    let tails : a ≡ f ++ t ∷ b = cc in
    subst (λ z. Counts next (suc n) (z ∷ (f ++ u ∷ c)) (u ∷ c)) heads (past_one (count_leaves f t u b c d tails same))

module _ {custom : CustomOptions} {Also : List Lexeme → Lexeme → SyntaxFault → Type 0} {on : List Lexeme → Bool}
  where
    pub take : {terminal : Terminal} → Blind terminal.is → Explains custom Also on (Take terminal) (Take terminal)
    take {terminal} same = record {
      past = λ a b x d. d;
      leaves =
          λ f t u b c x is lit_u d.
          let one = append_cancel_right f (d.0 ∷ []) (t ∷ b) d.1 in
          (d.0, subst (λ z. z ++ u ∷ c ≡ d.0 ∷ (u ∷ c)) (sym one) refl, d.2, d.3);
      missing = λ end a e at r. r.2 ∙ ap (λ z. wrong_at end z) (sym r.1);
      at_token =
          λ end f t b e at r.
          misplaced (r.2 ∙ ap (λ z. wrong_at end z) (sym r.1)) r
          (λ esc u c lit_u. (
            wrong_at end (f ++ u ∷ c),
            (
              sym (blind_first terminal.is same f t u b c (is_literal t esc) lit_u) ∙ r.0,
              subst (λ z. u ∷ c ≡ z ++ u ∷ c) (sym (no_front f (t ∷ b) r.1)) refl,
              refl,
            ),
          ));
    }

    pub count : {example : Lexeme} {next : Lexeme → ℕ → ℕ} {n : ℕ}
        → Explains custom Also on (Count example next n) (Count example next n)
    count {next = next} = record {
      past = λ a b x d. d;
      leaves = λ f t u b c x is lit_u d. count_leaves f t u b c d refl refl;
      missing = λ end a e at r. r.2;
      at_token = λ end f t b e at r. absurd (let none : t ∷ b ≡ [] = r.1 in cc);
    }

-- ---- one of two

pub yes : {A : Type 0} (test : Lexeme → Bool) (p q : Step A) (end : ℕ) (m : List Lexeme) → first_is test m ≡ true
    → Carries p (If test p q) end m m
yes test p q end m is = record { refuses = λ e l d. inl (is, d); reads = λ x d. whole x (inl (is, d)) }

pub no : {A : Type 0} (test : Lexeme → Bool) (p q : Step A) (end : ℕ) (m : List Lexeme) → first_is test m ≡ false
    → Carries q (If test p q) end m m
no test p q end m is = record { refuses = λ e l d. inr (is, d); reads = λ x d. whole x (inr (is, d)) }

module _ {custom : CustomOptions} {Also : List Lexeme → Lexeme → SyntaxFault → Type 0} {A : Type 0}
    {test : Lexeme → Bool} {p q r s : Step A} (same : Blind test)
    (h : Explains custom Also (first_is test) p r) (k : Explains custom Also any q s) where
  either_past : (a b : List Lexeme) (x : A) → Derives (If test p q) a x b → Derives (If test r s) a x b
  either_past a b x (inl d) = inl (d.0, h.past a b x d.1)
  either_past a b x (inr d) = inr (d.0, k.past a b x d.1)

  either_leaves : Leaves (If test p q)
  either_leaves f t u b c x is lit_u (inl d) =
      inl (sym (blind_first test same f t u b c is lit_u) ∙ d.0, h.leaves f t u b c x is lit_u d.1)
  either_leaves f t u b c x is lit_u (inr d) =
      inr (sym (blind_first test same f t u b c is lit_u) ∙ d.0, k.leaves f t u b c x is lit_u d.1)

  either_missing : (end : ℕ) (a : List Lexeme) (e : SyntaxFault) → Refused (If test p q) end a e [] → e ≡ Grammar end
  either_missing end a e (inl d) = h.missing end a e d.0 d.1
  either_missing end a e (inr d) = k.missing end a e refl d.1

  either_token : (end : ℕ) (f : List Lexeme) (t : Lexeme) (b : List Lexeme) (e : SyntaxFault)
      → Refused (If test p q) end (f ++ t ∷ b) e (t ∷ b)
      → Outcome custom Also (If test p q) (If test r s) end f t b e
  either_token end f t b e (inl d) =
      moved p r (If test p q) (If test r s) end [] f t b e
      (λ c. yes test r s end (f ++ t ∷ c) (first_same test f t c b ∙ d.0))
      (λ u c is lit_u. yes test p q end (f ++ u ∷ c) (sym (blind_first test same f t u b c is lit_u) ∙ d.0))
      (λ a. a) (h.at_token end f t b e d.0 d.1)
  either_token end f t b e (inr d) =
      moved q s (If test p q) (If test r s) end [] f t b e
      (λ c. no test r s end (f ++ t ∷ c) (first_same test f t c b ∙ d.0))
      (λ u c is lit_u. no test p q end (f ++ u ∷ c) (sym (blind_first test same f t u b c is lit_u) ∙ d.0))
      (λ a. a) (k.at_token end f t b e refl d.1)

  pub either_of : {on : List Lexeme → Bool} → Explains custom Also on (If test p q) (If test r s)
  either_of = record {
    past = either_past;
    leaves = either_leaves;
    missing = λ end a e at d. either_missing end a e d;
    at_token = λ end f t b e at d. either_token end f t b e d;
  }
