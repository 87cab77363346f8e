-- The literals of a syntax statement, joined.
use Rattle.std.proofs.Common.{◌≡◌, ◌<◌, ℕ, Bool, true, false, Ok, Err, Option, Some, None, List, [], ◌∷◌, ◌++◌}
use Rattle.std.proofs.Common.{length, drop, cond, refl, sym, ◌∙◌, ap, append_assoc, append-nil, bytes_eq, nat_eq}
use Rattle.std.proofs.Common.{codes, arith}
use Rattle.std.specs.List.{starts_with}
use Rattle.std.specs.Option.{option_map_or}
use Rattle.std.proofs.lemmas.Slice.Eq.{starts_is, bytes_eq-Decides}
use Rattle.std.proofs.Math.Seq.{drop-append_seam}
use Rattle.std.proofs.lemmas.Bool.Decides.{Decides-eqb}
use Rattle.std.proofs.lemmas.Bool.{lt-ltb}
use Rattle.basics.proofs.TestLemmas.{same_tests}
use Rattle.proto_lex.specs.declared.token.TokenKind.TheVariants.{StringLiteral}
use Rattle.proto_grammar.specs.declared.dialect.Dialect.{Dialect}
use Rattle.proto_grammar.specs.declared.dialect.Dialect.TheVariants as dialects
use Rattle.proto_grammar.specs.declared.dialect.Syntax.TheVariants.{Proto2}
use Rattle.proto_grammar.specs.declared.fault.SyntaxFault.TheVariants.{NotProto3, Grammar}
use Rattle.proto_grammar.specs.Lexeme.{Lexeme, Place, place_of}
use Rattle.proto_grammar.specs.Terminal.{first, others, first_is, of_kind, between_quotes}
use Rattle.proto_grammar.specs.Syntax.{is_all}
use Rattle.proto_grammar.specs.Reading.Repetition.{token_that}
use Rattle.proto_steps.specs.Version.{version_of, stripped_of, is_left, content_of, joined_of, behind_literals}
use Rattle.proto_steps.specs.Version.{past_literals, syntax_by, version_at}
use Rattle.proto_steps.specs.Step.{Done, Never, when, run, ◌>>=◌}
use Rattle.proto_steps.specs.Grammar.Definitions.{content, more_contents, accepted, spelled, version}
use Rattle.proto_steps.proofs.TurnLemmas.{by_bool, first_turn}

-- a literal more
pub joined_further : (tokens : List Lexeme) → first_is (of_kind StringLiteral) tokens ≡ true
    → (joined_of tokens ≡ content_of (first tokens) ++ joined_of (others tokens))
    × (behind_literals tokens ≡ behind_literals (others tokens))
joined_further [] is = cc
joined_further (t ∷ rest) is = (rw is refl, rw is refl)

-- no literal more
pub joined_done : (tokens : List Lexeme) → first_is (of_kind StringLiteral) tokens ≡ false
    → (joined_of tokens ≡ []) × (behind_literals tokens ≡ tokens)
joined_done [] is = (refl, refl)
joined_done (t ∷ rest) is = (rw is refl, rw is refl)

-- what is left behind a literal, and what is left before it
pub left_behind : (left : Option (List ℕ)) (content text : List ℕ)
    → is_left (stripped_of left content) text ≡ is_left left (content ++ text)
left_behind None content text = refl
left_behind (Some left) content text = by_start (starts_with nat_eq left content) refl
  where
    by_start : (b : Bool) → starts_with nat_eq left content ≡ b
        → is_left (stripped_of (Some left) content) text ≡ bytes_eq (content ++ text) left
    by_start true is =
        let whole : left ≡ content ++ drop (length content) left =
        (starts_is (λ a b. Decides-eqb a b) left content (starts_with nat_eq left content) refl).0 is in
        rw is (same_tests (bytes_eq text (drop (length content) left)) (bytes_eq (content ++ text) left)
        (λ same. let e : text ≡ drop (length content) left = (bytes_eq-Decides text (drop (length content) left)).0 same
        in (bytes_eq-Decides (content ++ text) left).1 (rw e (sym whole)))
        (λ same. let e : content ++ text ≡ left = (bytes_eq-Decides (content ++ text) left).0 same in
        (bytes_eq-Decides text (drop (length content) left)).1
        (rw (← e) (sym (drop-append_seam content text)))))
    by_start false is =
        rw is (same_tests false (bytes_eq (content ++ text) left) (λ no. cc)
        (λ same. let e : content ++ text ≡ left = (bytes_eq-Decides (content ++ text) left).0 same in
        let starts : starts_with nat_eq left content ≡ true =
        (starts_is (λ a b. Decides-eqb a b) left content (starts_with nat_eq left content) refl).1 text (sym e) in
        sym is ∙ starts))

pub left_further : (left now : Option (List ℕ)) (content : List ℕ) (tokens rest : List Lexeme) (b : Bool)
    → first_is (of_kind StringLiteral) tokens ≡ true → content ≡ content_of (first tokens) → rest ≡ others tokens
    → now ≡ stripped_of left content → is_left left (joined_of tokens) ≡ b
    → is_left now (joined_of rest) ≡ b
left_further left now content tokens rest b is here behind stripped so_far =
    ap (λ n. is_left n (joined_of rest)) stripped
    ∙ ap (λ r. is_left (stripped_of left content) (joined_of r)) behind
    ∙ left_behind left content (joined_of (others tokens))
    ∙ ap (λ c. is_left left (c ++ joined_of (others tokens))) here
    ∙ ap (is_left left) (sym (joined_further tokens is).0)
    ∙ so_far

pub nothing_joined : (left : List Lexeme) → first_is (of_kind StringLiteral) left ≡ false → joined_of left ≡ []
nothing_joined left is = (joined_done left is).0

-- no literal is passed where none is next
past_done_by : (left : List Lexeme) (end : ℕ) → first_is (of_kind StringLiteral) left ≡ false
    → past_literals (place_of end left) ≡ place_of end left
past_done_by left end is = ap (place_of end) (joined_done left is).1

pub past_done : (p : Place) → first_is (of_kind StringLiteral) p.left ≡ false → past_literals p ≡ p
past_done p is = past_done_by p.left p.end is

-- ---- the grammar as data reads the same

module _ (end : ℕ) where
  one_content : (t : Lexeme) (rest : List Lexeme) → of_kind StringLiteral t ≡ true
      → run content (place_of end (t ∷ rest)) ≡ Ok (between_quotes t.spelling, place_of end rest)
  unfolding run content token_that
  one_content t rest is = rw is refl

  no_content : (t : Lexeme) (rest : List Lexeme) (text : List ℕ) → of_kind StringLiteral t ≡ false
      → run (more_contents text) (place_of end (t ∷ rest)) ≡ Ok (text, place_of end (t ∷ rest))
  unfolding run more_contents
  no_content t rest text off =
      rw (
        first_turn (of_kind StringLiteral) (λ s. run (content >>= λ more. Done (s ++ more))) text
            (place_of end (t ∷ rest)),
        off,
      )
      refl

  next_content : (t : Lexeme) (rest : List Lexeme) (text : List ℕ) → of_kind StringLiteral t ≡ true
      → run (more_contents text) (place_of end (t ∷ rest))
      ≡ run (more_contents (text ++ between_quotes t.spelling)) (place_of end rest)
  unfolding run more_contents
  next_content t rest text is =
      let less : length rest < length (t ∷ rest) = omega arith in
      rw (
        first_turn (of_kind StringLiteral) (λ s. run (content >>= λ more. Done (s ++ more))) text
            (place_of end (t ∷ rest)),
        is,
        one_content t rest is,
        lt-ltb _ _ less,
      )
      refl

  all_read : (text : List ℕ) → run (more_contents text) (place_of end []) ≡ Ok (text ++ [], place_of end [])
  unfolding run more_contents
  all_read text =
      rw (
        first_turn (of_kind StringLiteral) (λ s. run (content >>= λ more. Done (s ++ more))) text (place_of end []),
        append-nil text,
      )
      refl

  contents_joined : (left : List Lexeme) (text : List ℕ) → run (more_contents text) (place_of end left)
      ≡ Ok (text ++ joined_of left, place_of end (behind_literals left))
  contents_joined [] text = all_read text
  contents_joined (t ∷ rest) text =
      by_bool (of_kind StringLiteral t)
      (λ is.
      next_content t rest text is ∙ contents_joined rest (text ++ between_quotes t.spelling)
      ∙ rw is (ap (λ l. Ok (l, place_of end (behind_literals rest)))
      (append_assoc text (between_quotes t.spelling) (joined_of rest))))
      (λ off. no_content t rest text off ∙ rw (off, append-nil text) refl)

-- which version is accepted
proto2_by : (dialect : Dialect) (start : ℕ) (place : Place)
    → run (when (is_all dialect) (Done Proto2) (Never (λ at. NotProto3 start))) place
    ≡ option_map_or (λ syntax. Ok (syntax, place)) (cond (is_all dialect) (Some Proto2) None) (Err (NotProto3 start))
unfolding run
proto2_by (dialects.Proto3 custom) start place = refl
proto2_by dialects.All start place = refl

accepted_by : (dialect : Dialect) (start end : ℕ) (text : List ℕ) (place : Place)
    → run (accepted dialect (record { start = start; end = end }) text) place
    ≡ option_map_or (λ syntax. Ok (syntax, place)) (syntax_by (version_of text) dialect) (Err (NotProto3 start))
unfolding run accepted
accepted_by dialect start end text place =
    by_bool (bytes_eq text (codes "proto3")) (λ is. rw is refl)
    (λ off. by_bool (bytes_eq text (codes "proto2")) (λ is. rw (off, is) (proto2_by dialect start place))
    (λ no. rw (off, no) refl))

no_literal : (end : ℕ) (t : Lexeme) (rest : List Lexeme) → of_kind StringLiteral t ≡ false
    → run content (place_of end (t ∷ rest)) ≡ Err (Grammar t.span.start)
unfolding run content token_that
no_literal end t rest off = rw off refl

version_by : (dialect : Dialect) (left : List Lexeme) (end : ℕ)
    → run (version dialect) (place_of end left) ≡ version_at dialect (place_of end left)
unfolding run version spelled version_at
version_by dialect [] end = refl
version_by dialect (t ∷ rest) end =
    by_bool (of_kind StringLiteral t)
    (λ is.
    rw (one_content end t rest is, contents_joined end rest (between_quotes t.spelling), is)
    (accepted_by dialect t.span.start t.span.end (between_quotes t.spelling ++ joined_of rest)
    (place_of end (behind_literals rest))))
    (λ off. rw (no_literal end t rest off, off) refl)

pub version_agrees : (dialect : Dialect) (place : Place) → run (version dialect) place ≡ version_at dialect place
version_agrees dialect place = version_by dialect place.left place.end
