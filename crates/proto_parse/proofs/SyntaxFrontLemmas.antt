-- What is in front of a file's statements, and the literals of a syntax statement.
use Rattle.std.proofs.Common.{◌≡◌, ℕ, ◌<◌, Bool, true, false, ◌&&◌, List, [], ◌∷◌, ◌++◌, inl, inr, refl, sym, ap, subst}
use Rattle.std.proofs.Common.{◌∙◌, length, append_assoc, bytes_eq, codes, arith}
use Rattle.std.proofs.lemmas.List.{length-append}
use Rattle.proto_lex.specs.declared.span.Span.{Span}
use Rattle.proto_lex.specs.declared.token.TokenKind.TheVariants.{Identifier, StringLiteral}
use Rattle.proto_grammar.specs.declared.dialect.Dialect.{Dialect}
use Rattle.proto_grammar.specs.declared.dialect.Dialect.TheVariants.{Proto3, All}
use Rattle.proto_grammar.specs.declared.dialect.Syntax.{Syntax}
use Rattle.proto_grammar.specs.Lexeme.{Lexeme}
use Rattle.proto_grammar.specs.Syntax.{is_all}
use Rattle.proto_grammar.specs.Terminal.{first_is, of_kind, is_word}
use Rattle.proto_grammar.proofs.TerminalTokenLemmas.{other_kind}
use Rattle.proto_steps.specs.Step.{Step, Done, when, Derives, Turns, ◌>>=◌}
use Rattle.proto_steps.specs.Step.Turns.{ended, turn}
use Rattle.proto_steps.specs.Grammar.Definitions.{content, more_contents, accepted, spelled, version, syntax_statement}
use Rattle.proto_steps.specs.Grammar.Definitions.{syntax}
use Rattle.proto_steps.proofs.FirstLemmas.{like_front, like_head, like_first}
use Rattle.proto_steps.proofs.EndLemmas.{Ends, cut}
use Rattle.proto_steps.proofs.EndFileLemmas.{syntax_statement_ends}
use Rattle.proto_parse.specs.Refused.{group_start}
use Rattle.proto_parse.proofs.DeepLemmas.{own, sign_start}

-- ---- the literals of a statement

content_ends : Ends content
unfolding content
content_ends = λ t. inr (λ u is. other_kind StringLiteral Identifier u refl is, λ x. tt)

abbrev pub literal_first : List Lexeme → Bool
literal_first = first_is (of_kind StringLiteral)

-- the literals, with whatever is behind them that is none
contents_any : {s text : List ℕ} {a b : List Lexeme}
    → Turns (of_kind StringLiteral) (λ v. Derives (content >>= λ more. Done (v ++ more))) s a text b
    → (f : List Lexeme) × (a ≡ f ++ b)
    × ((c : List Lexeme) → literal_first c ≡ false
    → Turns (of_kind StringLiteral) (λ v. Derives (content >>= λ more. Done (v ++ more))) s (f ++ c) text c)
contents_any (ended over) = ([], refl, λ c off. ended off)
contents_any {text = text} {b = b} (turn {s = v} {t = w} {a = a} {b = d} go one less rest) =
    let k = cut (content >>= λ more. Done (v ++ more)) (inr (content_ends, λ x. tt)) a d w one in
    let r = contents_any rest in (
      k.front ++ k.last ∷ r.0,
      k.whole ∙ ap (λ z. k.front ++ k.last ∷ z) r.1 ∙ sym (append_assoc k.front (k.last ∷ r.0) b),
      λ c off.
          subst
          (λ z. Turns (of_kind StringLiteral) (λ v. Derives (content >>= λ more. Done (v ++ more))) v z text c)
          (sym (append_assoc k.front (k.last ∷ r.0) c))
          (turn (same_first k.front k.last d (r.0 ++ c) (ap literal_first (sym k.whole) ∙ go))
          (k.before_any (r.0 ++ c)) (less_last k.front k.last (r.0 ++ c)) (r.2 c off)),
    )
  where
    same_first : (f : List Lexeme) (t : Lexeme) (b c : List Lexeme) → literal_first (f ++ t ∷ b) ≡ true
        → literal_first (f ++ t ∷ c) ≡ true
    same_first f t b c is = sym (like_first t b c (of_kind StringLiteral) (like_front t b c f)) ∙ is

    less_last : (f : List Lexeme) (v : Lexeme) (n : List Lexeme) → length n < length (f ++ v ∷ n)
    less_last f v n = omega (arith, length-append f (v ∷ n))

contents_over : {One : List ℕ → List Lexeme → List ℕ → List Lexeme → Type 0} {s text : List ℕ} {a b : List Lexeme}
    → Turns (of_kind StringLiteral) One s a text b → literal_first b ≡ false
contents_over (ended over) = over
contents_over (turn go one less rest) = contents_over rest

-- what is read without a look at the text
abbrev AnyBehind : {A : Type 0} → Step A → Type 0
AnyBehind {A} p =
    (a b : List Lexeme) (x : A) → Derives p a x b → (b ≡ a) × ((c : List Lexeme) → Derives p c x c)

when_any : {A : Type 0} (b : Bool) (p q : Step A) → AnyBehind p → AnyBehind q → AnyBehind (when b p q)
when_any true p q h g = h
when_any false p q h g = g

accepted_any : (dialect : Dialect) (first : Span) (text : List ℕ) → AnyBehind (accepted dialect first text)
unfolding accepted
accepted_any dialect first text =
    when_any (bytes_eq text (codes "proto3")) _ _ (λ a b x d. (d.1, λ c. (d.0, refl)))
    (when_any (bytes_eq text (codes "proto2") && is_all dialect) _ _ (λ a b x d. (d.1, λ c. (d.0, refl)))
    (λ a b x d. absurd d))

pub version_any : (dialect : Dialect) (a b : List Lexeme) (x : Syntax) → Derives (version dialect) a x b
    → (f : List Lexeme) × (a ≡ f ++ b)
    × ((c : List Lexeme) → literal_first c ≡ false → Derives (version dialect) (f ++ c) x c)
unfolding version spelled more_contents
version_any dialect a b x d =
    let read = d.3 in
    let k = cut content content_ends a read.1 read.0 read.2 in
    let more = read.3 in
    let m = contents_any more.2 in
    let end = accepted_any dialect d.0.span more.0 more.1 b x more.3 in (
      k.front ++ k.last ∷ m.0,
      k.whole ∙ ap (λ z. k.front ++ k.last ∷ z) (m.1 ∙ ap (λ z. m.0 ++ z) (sym end.0))
          ∙ sym (append_assoc k.front (k.last ∷ m.0) b),
      λ c off.
          let h = like_head k.last read.1 (m.0 ++ c) (like_front k.last read.1 (m.0 ++ c) k.front) d.0 d.1
          (sym k.whole ∙ d.2) in
          subst (λ z. Derives (version dialect) z x c) (sym (append_assoc k.front (k.last ∷ m.0) c))
          (d.0, h.0, h.1, (read.0, m.0 ++ c, k.before_any (m.0 ++ c), (more.0, c, m.2 c off, end.1 c))),
    )

pub version_over : (dialect : Dialect) (a b : List Lexeme) (x : Syntax) → Derives (version dialect) a x b
    → literal_first b ≡ false
unfolding version spelled more_contents
version_over dialect a b x d =
    let more = d.3.3 in
    subst (λ z. literal_first z ≡ false) (sym (accepted_any dialect d.0.span more.0 more.1 b x more.3).0)
    (contents_over more.2)

-- ---- what is behind a statement that is read, or where there is none

-- where there is no statement, the first word isn't one that begins one
abbrev pub Allows : List Lexeme → List Lexeme → Type 0
Allows [] l = (first_is (is_word (codes "syntax")) l ≡ false) × (first_is (is_word (codes "edition")) l ≡ false)
Allows (t ∷ front) l = Unit {0}

pub record Front (dialect : Dialect) (grammar : Syntax) (a b : List Lexeme) : Type 0 where
  pub start : List Lexeme
  pub whole : a ≡ start ++ b
  pub allows : Allows start b
  pub opens : (c : List Lexeme) → Allows start c → Derives (syntax dialect) (start ++ c) grammar c
  pub quiet : (t : Lexeme) → group_start start t ≡ own t

pub syntax_front : (dialect : Dialect) (a b : List Lexeme) (x : Syntax) → Derives (syntax dialect) a x b
    → Front dialect x a b
unfolding syntax
syntax_front dialect a b x (inl d) =
    let k = cut (syntax_statement dialect) (syntax_statement_ends dialect) a b x d.1 in
    record {
      start = k.front ++ k.last ∷ [];
      whole = k.whole ∙ sym (append_assoc k.front (k.last ∷ []) b);
      allows = some k.front k.last b;
      opens =
          λ c allows.
          subst (λ z. Derives (syntax dialect) z x c) (sym (append_assoc k.front (k.last ∷ []) c))
          (inl (
            sym (like_first k.last b c (is_word (codes "syntax")) (like_front k.last b c k.front))
                ∙ ap (first_is (is_word (codes "syntax"))) (sym k.whole) ∙ d.0,
            k.before_any c,
          ));
      quiet = λ t. sign_start k.front k.last t k.no_word;
    }
  where
    some : (f : List Lexeme) (v : Lexeme) (c : List Lexeme) → Allows (f ++ v ∷ []) c
    some [] v c = tt
    some (w ∷ f) v c = tt
syntax_front dialect a b x (inr (off, inl d)) = absurd d.1
syntax_front (Proto3 custom) a b x (inr (off, inr d)) = absurd d.1
syntax_front All a b x (inr (off, inr d)) = record {
  start = [];
  whole = sym d.1.1;
  allows = (
    ap (first_is (is_word (codes "syntax"))) d.1.1 ∙ off,
    ap (first_is (is_word (codes "edition"))) d.1.1 ∙ d.0,
  );
  opens = λ c allows. inr (allows.0, inr (allows.1, (d.1.0, refl)));
  quiet = λ t. refl;
}
