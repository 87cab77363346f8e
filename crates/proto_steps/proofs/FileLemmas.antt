-- Statements of a file: the one that is chosen, that each takes a token, and what is done with custom options.
use Rattle.std.proofs.Common.{◌≡◌, ◌<◌, ℕ, Bool, true, false, ◌&&◌, Result, Ok, Option, is_some, List}
use Rattle.std.proofs.Common.{[], ◌∷◌, length, ◌⊎◌, inl, inr, refl, ◌∙◌, ap, ◌==◌, bytes_eq, codes}
use Rattle.std.specs.List.{list_any}
use Rattle.proto_lex.specs.Ascii as ascii
use Rattle.proto_lex.specs.declared.span.Span.{Span}
use Rattle.proto_lex.specs.declared.token.TokenKind.TheVariants.{StringLiteral, Semicolon}
use Rattle.proto_grammar.specs.declared.dialect.Dialect.{Dialect}
use Rattle.proto_grammar.specs.declared.dialect.Dialect.TheVariants as dialects
use Rattle.proto_grammar.specs.declared.dialect.Syntax.{Syntax}
use Rattle.proto_grammar.specs.declared.dialect.Syntax.TheVariants.{Proto2}
use Rattle.proto_grammar.specs.declared.fault.SyntaxFault.{SyntaxFault}
use Rattle.proto_grammar.specs.declared.tree.File.{File}
use Rattle.proto_grammar.specs.Lexeme.{Lexeme, Place, place_of}
use Rattle.proto_grammar.specs.Terminal.{of_kind, is_word}
use Rattle.proto_grammar.specs.Syntax.{custom_of, custom_in, proto3_in, is_all}
use Rattle.proto_grammar.specs.Reading.Repetition.{token_that, plain_literal_at}
use Rattle.proto_steps.specs.declared.statement.FileStatement.{FileStatement}
use Rattle.proto_steps.specs.declared.statement.FileStatement.TheVariants as choice
use Rattle.proto_steps.specs.Step.{Step, when, run, Derives}
use Rattle.proto_steps.specs.Choice.{file_statement_of, chosen_statement}
use Rattle.proto_steps.specs.Grammar.Parts.{option_statement}
use Rattle.proto_steps.specs.Grammar.Definitions.{heading, enumeration, service, inside}
use Rattle.proto_steps.specs.Grammar.Definitions.{accepted, spelled, version, syntax_statement, syntax, path_literal}
use Rattle.proto_steps.specs.Grammar.Definitions.{kept_literal, import, package_statement, only_package}
use Rattle.proto_steps.specs.Grammar.Definitions.{file_statement}
use Rattle.proto_steps.proofs.TurnLemmas.{by_bool, either}
use Rattle.proto_steps.proofs.StepLaws.{found}
use Rattle.proto_steps.proofs.MoveLemmas.{Moves, shorter}
use Rattle.proto_steps.proofs.MessageLemmas.{message_moves, extend_statement_moves}
use Rattle.proto_steps.proofs.ChoiceLemmas.{picked}

-- ---- literals of a path

path_literal_by : (left : List Lexeme) (end : ℕ)
    → run path_literal (place_of end left) ≡ plain_literal_at (place_of end left)
unfolding run path_literal token_that plain_literal_at
path_literal_by [] end = refl
path_literal_by (t ∷ rest) end =
    by_bool (of_kind StringLiteral t)
    (λ is.
    by_bool (list_any (λ byte. byte == ascii.backslash) t.spelling) (λ escaped. rw (is, escaped) refl)
    (λ plain. rw (is, plain) refl))
    (λ off. rw off refl)

pub path_literal_agrees : (place : Place) → run path_literal place ≡ plain_literal_at place
path_literal_agrees place = path_literal_by place.left place.end

pub kept_literal_moves : Moves kept_literal
unfolding path_literal
kept_literal_moves = inl (tt, tt)

pub kept_literal_shorter : (place after : Place) (x : Option Span)
    → run kept_literal place ≡ Ok (x, after) → length after.left < length place.left
kept_literal_shorter place after x e = shorter kept_literal kept_literal_moves place after x e

-- ---- statements

when_moves : {A : Type 0} (b : Bool) (p q : Step A) → Moves p → Moves q → Moves (when b p q)
when_moves true p q h g = h
when_moves false p q h g = g

only_package_moves : (file : File) → Moves (only_package file)
unfolding only_package package_statement
only_package_moves file = when_moves (is_some file.package_name) _ _ tt (inl (inl tt))

pub statement_moves : (levels : ℕ) (syntax : Syntax) (file : File) → Moves (file_statement levels syntax file)
unfolding file_statement import option_statement enumeration service heading
statement_moves levels syntax file = (
  inl tt,
  (
    inl (inl tt),
    (
      only_package_moves file,
      (
        inl (inl tt),
        (
          inl (message_moves (inside syntax levels)),
          (
            inl (inl (inl tt)),
            (inl (inl (inl tt)), (inl (extend_statement_moves syntax (inside syntax levels)), tt)),
          ),
        ),
      ),
    ),
  ),
)

pub statement_shorter : (levels : ℕ) (syntax : Syntax) (file new : File) (place after : Place)
    → run (file_statement levels syntax file) place ≡ Ok (new, after) → length after.left < length place.left
statement_shorter levels syntax file new place after e =
    shorter (file_statement levels syntax file) (statement_moves levels syntax file) place after new e

module _ (levels : ℕ) (syntax : Syntax) (file : File) where
  abbrev read : Place → FileStatement → Result (File × Place) SyntaxFault
  read place statement = run (chosen_statement levels statement syntax file) place

  statement_by : (left : List Lexeme) (end : ℕ)
      → run (file_statement levels syntax file) (place_of end left)
      ≡ read (place_of end left) (file_statement_of left)
  unfolding run file_statement
  statement_by [] end = refl
  statement_by (t ∷ rest) end =
      let at = place_of end (t ∷ rest) in
      picked (read at) (of_kind Semicolon t) choice.Empty _ refl
      (picked (read at) (is_word (codes "import") t) choice.Import _ refl
      (picked (read at) (is_word (codes "package") t) choice.Package _ refl
      (picked (read at) (is_word (codes "option") t) choice.Option _ refl
      (picked (read at) (is_word (codes "message") t) choice.Message _ refl
      (picked (read at) (is_word (codes "enum") t) choice.Enum _ refl
      (picked (read at) (is_word (codes "service") t) choice.Service _ refl
      (picked (read at) (is_word (codes "extend") t) choice.Extend choice.Other refl refl)))))))

  pub statement_chosen : (place : Place)
      → run (file_statement levels syntax file) place ≡ read place (file_statement_of place.left)
  statement_chosen place = statement_by place.left place.end

-- ---- what is done with custom options, by the dialect

proto3_custom : (dialect : Dialect) → custom_of (proto3_in dialect) ≡ custom_in dialect
proto3_custom (dialects.Proto3 custom) = refl
proto3_custom dialects.All = refl

-- what derives by a choice that is known before
pub when_derives : {A : Type 0} (b : Bool) (p q : Step A) (a : List Lexeme) (x : A) (c : List Lexeme)
    → Derives (when b p q) a x c → ((b ≡ true) × Derives p a x c) ⊎ ((b ≡ false) × Derives q a x c)
when_derives true p q a x c d = inl (refl, d)
when_derives false p q a x c d = inr (refl, d)

proto2_custom : (dialect : Dialect) (b : Bool) (x : Syntax) → (b && is_all dialect) ≡ true → x ≡ Proto2
    → custom_of x ≡ custom_in dialect
proto2_custom (dialects.Proto3 custom) true x all e = absurd (let never : false ≡ true = all in cc)
proto2_custom (dialects.Proto3 custom) false x all e = absurd (let never : false ≡ true = all in cc)
proto2_custom dialects.All b x all e = ap custom_of e

accepted_custom : (dialect : Dialect) (first : Span) (text : List ℕ) (a b : List Lexeme) (x : Syntax)
    → Derives (accepted dialect first text) a x b → custom_of x ≡ custom_in dialect
unfolding accepted
accepted_custom dialect first text a b x d =
    either (when_derives (bytes_eq text (codes "proto3")) _ _ a x b d) (λ e. ap custom_of e.1.0 ∙ proto3_custom dialect)
    (λ e. either (when_derives (bytes_eq text (codes "proto2") && is_all dialect) _ _ a x b e.1)
    (λ f. proto2_custom dialect (bytes_eq text (codes "proto2")) x f.0 f.1.0) (λ f. absurd f.1))

pub syntax_by_custom : (dialect : Dialect) (a b : List Lexeme) (x : Syntax) → Derives (syntax dialect) a x b
    → custom_of x ≡ custom_in dialect
unfolding syntax syntax_statement version spelled
syntax_by_custom dialect a b x d =
    either d
    (λ e.
    let statement = e.1.3.3 in
    let named = statement.2.3 in
    let same : x ≡ statement.0 = statement.3.3.0 in
    ap custom_of same ∙ accepted_custom dialect _ _ _ _ statement.0 named.3.3)
    (λ e. either e.1 (λ f. absurd f.1)
    (λ f. either (when_derives (is_all dialect) _ _ a x b f.1)
    (λ g. proto2_custom dialect true x g.0 g.1.0) (λ g. absurd g.1)))

pub syntax_custom : (dialect : Dialect) (place after : Place) (x : Syntax)
    → run (syntax dialect) place ≡ Ok (x, after) → custom_of x ≡ custom_in dialect
syntax_custom dialect place after x e =
    syntax_by_custom dialect place.left after.left x (found (syntax dialect) place (x, after) e)
