-- A step that ends with a token of its own reads the same of what is in front of this token's end, whatever is behind.
use Rattle.std.proofs.Common.{◌≡◌, ◌<◌, List, [], ◌∷◌, ◌++◌, length, ◌⊎◌, inl, inr, refl, sym, ap, subst, subst₂, ◌∙◌}
use Rattle.std.proofs.Common.{append_assoc, Bool, true, false, arith}
use Rattle.std.proofs.lemmas.List.{length-append}
use Rattle.proto_lex.specs.declared.token.TokenKind.TheVariants.{Identifier}
use Rattle.proto_grammar.specs.Lexeme.{Lexeme}
use Rattle.proto_grammar.specs.Terminal.{first_is, of_kind}
use Rattle.proto_steps.specs.Step.{Step, Done, Never, Take, Peek, Then, If, While, Count, Kept, Derives}
use Rattle.proto_steps.proofs.StepLaws.{taken}
use Rattle.proto_steps.proofs.FirstLemmas.{Like, like_front, like_only, like_head, like_first, keeps}

-- Nothing is looked at.
abbrev pub Still : {A : Type 0} → Step A → Type 0
Still (Done v) = Unit {0}
Still (Then {A} p next) = Still p × ((x : A) → Still (next x))
Still p = ⊥

-- The last token is no word, and nothing is looked at behind it.
abbrev pub Ends : {A : Type 0} → Step A → Type 0
Ends (Done v) = ⊥
Ends (Never fault) = Unit {0}
Ends (Take terminal) = (t : Lexeme) → terminal.is t ≡ true → of_kind Identifier t ≡ false
Ends (Peek example next) = (t : Lexeme) → Ends (next t)
Ends (Then {A} p next) = ((x : A) → Ends (next x)) ⊎ (Ends p × ((x : A) → Still (next x)))
Ends (If test p q) = Ends p × Ends q
Ends (While goes step s) = ⊥
Ends (Count example next n) = ⊥
Ends (Kept p) = ⊥

-- what is read in front of a token is read whatever is behind it
pub keeps_front : {A : Type 0} (p : Step A) (f g : List Lexeme) (t : Lexeme) (b c : List Lexeme) (x : A)
    → Derives p (f ++ (g ++ t ∷ b)) x (g ++ t ∷ b) → Derives p (f ++ (g ++ t ∷ c)) x (g ++ t ∷ c)
keeps_front p f g t b c x d =
    let like = subst₂ (λ l m. Like t b c l m) (append_assoc f g (t ∷ b)) (append_assoc f g (t ∷ c))
    (like_front t b c (f ++ g)) in
    let less : length b < length (g ++ t ∷ b) = omega (arith, length-append g (t ∷ b)) in
    let k = keeps t b c p (f ++ (g ++ t ∷ b)) (f ++ (g ++ t ∷ c)) (g ++ t ∷ b) x like d less in
    subst (λ z. Derives p (f ++ (g ++ t ∷ c)) x z) (like_only t b c k.2 (like_front t b c g) refl) k.1

-- what derives, with its last token, and whatever is behind this
pub record Cut {A : Type 0} (p : Step A) (a : List Lexeme) (x : A) (b : List Lexeme) : Type 0 where
  pub front : List Lexeme
  pub last : Lexeme
  pub no_word : of_kind Identifier last ≡ false
  pub whole : a ≡ front ++ last ∷ b
  pub before_any : (c : List Lexeme) → Derives p (front ++ last ∷ c) x c

still_same : {A : Type 0} (p : Step A) → Still p → (a b : List Lexeme) (x : A) → Derives p a x b
    → (b ≡ a) × ((c : List Lexeme) → Derives p c x c)
still_same (Done v) s a b x d = (d.1, λ c. (d.0, refl))
still_same (Never fault) s a b x d = absurd s
still_same (Take terminal) s a b x d = absurd s
still_same (Peek example next) s a b x d = absurd s
still_same (Then p next) s a b x d =
    let f = still_same p s.0 a d.1 d.0 d.2 in
    let g = still_same (next d.0) (s.1 d.0) d.1 b x d.3 in
    (g.0 ∙ f.0, λ c. (d.0, c, f.1 c, g.1 c))
still_same (If test p q) s a b x d = absurd s
still_same (While goes step t) s a b x d = absurd s
still_same (Count example next n) s a b x d = absurd s
still_same (Kept p) s a b x d = absurd s

same_first : (test : Lexeme → Bool) (f : List Lexeme) (t : Lexeme) (b c a : List Lexeme) → a ≡ f ++ t ∷ b
    → first_is test (f ++ t ∷ c) ≡ first_is test a
same_first test f t b c a e =
    sym (like_first t b c test (like_front t b c f)) ∙ ap (first_is test) (sym e)

pub cut : {A : Type 0} (p : Step A) → Ends p → (a b : List Lexeme) (x : A) → Derives p a x b → Cut p a x b
cut (Done v) e a b x d = absurd e
cut (Never fault) e a b x d = absurd d
cut (Take terminal) e a b x d = record {
  front = [];
  last = d.0;
  no_word = e d.0 d.2;
  whole = d.1;
  before_any = λ c. (d.0, refl, d.2, d.3);
}
cut (Peek example next) e a b x d =
    let f = cut (next d.0) (e d.0) a b x d.3 in
    record {
      front = f.front;
      last = f.last;
      no_word = f.no_word;
      whole = f.whole;
      before_any =
          λ c.
          let h = like_head f.last b c (like_front f.last b c f.front) d.0 d.1 (sym f.whole ∙ d.2) in
          (d.0, h.0, h.1, f.before_any c);
    }
cut (Then p next) (inl e) a b x d =
    let f = cut (next d.0) (e d.0) d.1 b x d.3 in
    let pre = taken p a d.1 d.0 d.2 in
    let whole : a ≡ pre.0 ++ (f.front ++ f.last ∷ b) = pre.1 ∙ ap (λ z. pre.0 ++ z) f.whole in
    let first = subst₂ (λ l m. Derives p l d.0 m) whole f.whole d.2 in
    record {
      front = pre.0 ++ f.front;
      last = f.last;
      no_word = f.no_word;
      whole = whole ∙ sym (append_assoc pre.0 f.front (f.last ∷ b));
      before_any =
          λ c.
          subst (λ l. Derives (Then p next) l x c) (sym (append_assoc pre.0 f.front (f.last ∷ c)))
          (d.0, f.front ++ f.last ∷ c, keeps_front p pre.0 f.front f.last b c d.0 first, f.before_any c);
    }
cut (Then p next) (inr e) a b x d =
    let f = cut p e.0 a d.1 d.0 d.2 in
    let g = still_same (next d.0) (e.1 d.0) d.1 b x d.3 in
    record {
      front = f.front;
      last = f.last;
      no_word = f.no_word;
      whole = f.whole ∙ ap (λ z. f.front ++ f.last ∷ z) (sym g.0);
      before_any = λ c. (d.0, c, f.before_any c, g.1 c);
    }
cut (If test p q) e a b x (inl d) =
    let f = cut p e.0 a b x d.1 in
    record {
      front = f.front;
      last = f.last;
      no_word = f.no_word;
      whole = f.whole;
      before_any = λ c. inl (same_first test f.front f.last b c a f.whole ∙ d.0, f.before_any c);
    }
cut (If test p q) e a b x (inr d) =
    let f = cut q e.1 a b x d.1 in
    record {
      front = f.front;
      last = f.last;
      no_word = f.no_word;
      whole = f.whole;
      before_any = λ c. inr (same_first test f.front f.last b c a f.whole ∙ d.0, f.before_any c);
    }
cut (While goes step s) e a b x d = absurd e
cut (Count example next n) e a b x d = absurd e
cut (Kept p) e a b x d = absurd e
