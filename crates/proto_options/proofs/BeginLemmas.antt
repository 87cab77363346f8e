-- A field's name with something of a value behind it: what is read, and what is where none begins.
use Rattle.std.proofs.Common.{◌≡◌, ◌⊎◌, inl, inr, ◌<◌, ◌≤◌, ℕ, true, false, cond, Result, Ok, Err, Option, Some, None}
use Rattle.std.proofs.Common.{List, [], ◌∷◌, length, refl, sym, ◌∙◌, ap, subst, arith}
use Rattle.proto_lex.specs.declared.token.TokenKind.TheVariants.{Identifier, OpenBracket, CloseBracket, Slash}
use Rattle.proto_lex.proofs.ReadingTestLemmas.{chosen}
use Rattle.proto_grammar.specs.declared.dialect.CustomOptions.TheVariants.{Skip}
use Rattle.proto_grammar.specs.declared.fault.SyntaxFault.{SyntaxFault}
use Rattle.proto_grammar.specs.declared.fault.SyntaxFault.TheVariants.{CustomOption, Aggregate, Extend, Memory}
use Rattle.proto_grammar.specs.Lexeme.{Lexeme, Place, place_of}
use Rattle.proto_grammar.specs.Terminal.{first_is, others, of_kind, behind}
use Rattle.proto_grammar.specs.Gives.{Fails}
use Rattle.proto_grammar.specs.Reading.Repetition.{token_that}
use Rattle.proto_grammar.specs.Reading.Names.{name_at}
use Rattle.proto_grammar.proofs.RepetitionStepLemmas.{read_as, same_ok, bind_ok}
use Rattle.proto_grammar.proofs.TerminalTokenLemmas.{token_found, token_exact, one_next, one_others, one_shorter}
use Rattle.proto_grammar.proofs.TerminalTokenLemmas.{next_found, next_other_kind}
use Rattle.proto_grammar.proofs.Found.Names.{name_found}
use Rattle.proto_grammar.proofs.Exact.Names.{name_exact}
use Rattle.proto_grammar.proofs.GrammarShorterLemmas.{name_shorter}
use Rattle.proto_options.specs.declared.names.FieldName.{FieldName}
use Rattle.proto_options.specs.declared.names.OptionRole.TheVariants.{Field}
use Rattle.proto_options.specs.Grammar.Aggregates.{IsFieldName, begins_value, Begins, field_name}
use Rattle.proto_options.specs.Grammar.Aggregates.IsFieldName.{field, extension, packed}
use Rattle.proto_options.specs.Reading.Aggregates.{extension_end_at, packed_end_at, bracketed_at, if_valued}
use Rattle.proto_options.specs.Reading.Aggregates.{bracket_begin_at, word_begin_at, begin_at, is_memory}

-- ---- what begins is read

begin_exact_by : (end : ℕ) {a b : List Lexeme} {name : FieldName} → IsFieldName a name b → begins_value b ≡ true
    → begin_at (place_of end a) ≡ Ok (Some name, place_of end b)
unfolding begin_at bracket_begin_at word_begin_at bracketed_at packed_end_at extension_end_at
begin_exact_by end (field {a = a} {b = b} w) valued =
    let behind : begins_value (others a) ≡ true = rw (one_others w) valued in
    rw (next_other_kind Identifier OpenBracket a refl (one_next w), one_next w, behind, token_exact end w) refl
begin_exact_by end (extension {c = c} o n k) valued =
    rw (
      one_next o,
      token_exact end o,
      name_exact end n,
      next_other_kind CloseBracket Slash c refl (one_next k),
      token_exact end k,
      valued,
    ) refl
begin_exact_by end (packed o n s m k) valued =
    rw (
      one_next o,
      token_exact end o,
      name_exact end n,
      one_next s,
      token_exact end s,
      name_exact end m,
      token_exact end k,
      valued,
    ) refl

pub begin_exact : (end : ℕ) {a b : List Lexeme} {name : FieldName} → Begins a name b
    → begin_at (place_of end a) ≡ Ok (Some name, place_of end b)
begin_exact end begins = begin_exact_by end begins.is begins.valued

-- ---- what is read begins

bracketed_found : (tokens : Place) (x : FieldName × Place) → bracketed_at tokens ≡ Ok x
    → IsFieldName tokens.left x.0 x.1.left
unfolding bracketed_at packed_end_at extension_end_at
bracketed_found tokens x e =
    let o = bind_ok (token_that (of_kind OpenBracket) tokens) _ x e in
    let n = bind_ok (name_at o.0.1) _ x o.2 in
    chosen (first_is (of_kind Slash) n.0.1.left) {z = Ok x} n.2
    (λ _ read.
    let s = bind_ok (token_that (of_kind Slash) n.0.1) _ x read in
    let m = bind_ok (name_at s.0.1) _ x s.2 in
    let c = bind_ok (token_that (of_kind CloseBracket) m.0.1) _ x m.2 in
    subst (λ (y : FieldName × Place). IsFieldName tokens.left y.0 y.1.left) (same_ok _ x c.2)
    (packed (token_found _ _ o.1) (name_found _ _ n.1) (token_found _ _ s.1) (name_found _ _ m.1)
    (token_found _ _ c.1)))
    (λ _ read.
    let c = bind_ok (token_that (of_kind CloseBracket) n.0.1) _ x read in
    subst (λ (y : FieldName × Place). IsFieldName tokens.left y.0 y.1.left) (same_ok _ x c.2)
    (extension (token_found _ _ o.1) (name_found _ _ n.1) (token_found _ _ c.1)))

-- that a field begins, by its name and the place behind it
pub record Begun (tokens : Place) : Type 0 where
  pub name : FieldName
  pub rest : Place
  pub read : begin_at tokens ≡ Ok (Some name, rest)
  pub begins : Begins tokens.left name rest.left

abbrev pub Either : Place → Type 0
Either tokens = (begin_at tokens ≡ Ok (None, tokens)) ⊎ Begun tokens

valued_by : (tokens : Place) (x : FieldName × Place) → IsFieldName tokens.left x.0 x.1.left
    → begin_at tokens ≡ cond (begins_value x.1.left) (Ok (Some x.0, x.1)) (Ok (None, tokens)) → Either tokens
valued_by tokens x is e =
    chosen (begins_value x.1.left) {z = begin_at tokens} (sym e)
    (λ valued read. inr (record {
      name = x.0;
      rest = x.1;
      read = sym read;
      begins = record { is = is; valued = valued };
    }))
    (λ _ read. inl (sym read))

bracket_by : (tokens : Place) (read : Result (FieldName × Place) SyntaxFault) → bracketed_at tokens ≡ read
    → begin_at tokens ≡ if_valued tokens read → Either tokens
bracket_by tokens (Ok x) is e = valued_by tokens x (bracketed_found tokens x is) e
bracket_by tokens (Err fault) is e = inl e

word_by : (tokens : Place) → first_is (of_kind Identifier) tokens.left ≡ true → begin_at tokens ≡ word_begin_at tokens
    → Either tokens
unfolding word_begin_at
word_by tokens is e =
    let w = next_found tokens.left is in
    chosen (begins_value (others tokens.left)) {z = begin_at tokens} (sym e)
    (λ valued read. inr (record {
      name = field_name Field (w.0 ∷ []);
      rest = behind tokens;
      read = sym (rw (token_exact tokens.end w.1) at read);
      begins = record { is = field w.1; valued = valued };
    }))
    (λ _ read. inl (sym read))

pub begin_cases : (tokens : Place) → Either tokens
unfolding begin_at bracket_begin_at
begin_cases tokens =
    chosen (first_is (of_kind OpenBracket) tokens.left) {z = begin_at tokens} refl
    (λ _ e. bracket_by tokens (bracketed_at tokens) refl (sym e))
    (λ _ e. chosen (first_is (of_kind Identifier) tokens.left) {z = begin_at tokens} e
    (λ is e. word_by tokens is (sym e)) (λ _ e. inl (sym e)))

no_begin_by : (tokens : Place) → Either tokens
    → ((name : FieldName) (rest : List Lexeme) → Begins tokens.left name rest → ⊥)
    → begin_at tokens ≡ Ok (None, tokens)
no_begin_by tokens (inl e) none = e
no_begin_by tokens (inr begun) none = absurd (none begun.name begun.rest.left begun.begins)

pub no_begin : (tokens : Place) → ((name : FieldName) (rest : List Lexeme) → Begins tokens.left name rest → ⊥)
    → begin_at tokens ≡ Ok (None, tokens)
no_begin tokens none = no_begin_by tokens (begin_cases tokens) none

one_option : (x : FieldName) (a b : Place) → read_as {A = Option FieldName × Place} (None, a) ≡ read_as (Some x, b) → ⊥
one_option x a b e =
    let same : None ≡ Some x = ap (λ (y : Option FieldName × Place). y.0) (same_ok (None, a) (Some x, b) e) in cc

pub none_begins : (end : ℕ) (a : List Lexeme) (left : Place) → begin_at (place_of end a) ≡ Ok (None, left)
    → (name : FieldName) (rest : List Lexeme) → Begins a name rest → ⊥
none_begins end a left e name rest begins =
    one_option name left (place_of end rest) (sym e ∙ begin_exact end begins)

-- ---- tokens are taken

name_takes_by : {a b : List Lexeme} {name : FieldName} → IsFieldName a name b → length b < length a
name_takes_by (field w) = one_shorter w
name_takes_by (extension o n k) = omega (arith, one_shorter o, name_shorter n, one_shorter k)
name_takes_by (packed o n s m k) =
    omega (arith, one_shorter o, name_shorter n, one_shorter s, name_shorter m, one_shorter k)

begin_takes_by : (tokens rest : Place) (name : FieldName) → Either tokens → begin_at tokens ≡ Ok (Some name, rest)
    → length rest.left < length tokens.left
begin_takes_by tokens rest name (inl e) read = absurd (one_option name tokens rest (sym e ∙ read))
begin_takes_by tokens rest name (inr begun) read =
    let same : begun.rest.left ≡ rest.left =
    ap (λ (y : Option FieldName × Place). y.1.left)
    (same_ok (Some begun.name, begun.rest) (Some name, rest) (sym begun.read ∙ read)) in
    subst (λ (left : List Lexeme). length left < length tokens.left) same (name_takes_by begun.begins.is)

pub begin_takes : (tokens rest : Place) (name : FieldName) → begin_at tokens ≡ Ok (Some name, rest)
    → length rest.left < length tokens.left
begin_takes tokens rest name read = begin_takes_by tokens rest name (begin_cases tokens) read

begin_leaves_by : (tokens rest : Place) → Either tokens → begin_at tokens ≡ Ok (None, rest)
    → length rest.left ≤ length tokens.left
begin_leaves_by tokens rest (inl e) read =
    let same : tokens.left ≡ rest.left =
    ap (λ (y : Option FieldName × Place). y.1.left) (same_ok (None, tokens) (None, rest) (sym e ∙ read)) in
    subst (λ (left : List Lexeme). length left ≤ length tokens.left) same (omega arith)
begin_leaves_by tokens rest (inr begun) read =
    absurd (one_option begun.name rest begun.rest (sym read ∙ begun.read))

pub begin_leaves : (tokens rest : Place) → begin_at tokens ≡ Ok (None, rest) → length rest.left ≤ length tokens.left
begin_leaves tokens rest read = begin_leaves_by tokens rest (begin_cases tokens) read

-- ---- as the code reads brackets

pub bracket_valued : (place : Place) (x : FieldName × Place) → bracketed_at place ≡ Ok x
    → begins_value x.1.left ≡ true → bracket_begin_at place ≡ Ok (Some x.0, x.1)
unfolding bracket_begin_at
bracket_valued place x e valued = rw (e, valued) refl

pub bracket_bare : (place : Place) (x : FieldName × Place) → bracketed_at place ≡ Ok x
    → begins_value x.1.left ≡ false → bracket_begin_at place ≡ Ok (None, place)
unfolding bracket_begin_at
bracket_bare place x e bare = rw (e, bare) refl

told : (place : Place) (fault : SyntaxFault) (read : Result (FieldName × Place) SyntaxFault) → is_memory fault ≡ false
    → Fails Skip fault read → if_valued place read ≡ Ok (None, place)
told place (CustomOption offset) read not_memory fails = rw fails.1 refl
told place (Aggregate offset) read not_memory fails = rw fails.1 refl
told place (Extend offset) read not_memory fails = rw fails.1 refl
told place Memory read not_memory fails = absurd (let no : true ≡ false = not_memory in cc)
told place fault read not_memory fails = rw fails refl

pub bracket_stops : (place : Place) (fault : SyntaxFault) → is_memory fault ≡ false
    → Fails Skip fault (bracketed_at place) → bracket_begin_at place ≡ Ok (None, place)
unfolding bracket_begin_at
bracket_stops place fault not_memory fails = told place fault (bracketed_at place) not_memory fails
