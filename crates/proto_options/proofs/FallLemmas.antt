-- Each step of a loop takes a token.
use Rattle.std.proofs.Common.{◌≡◌, ◌<◌, ◌≤◌, ℕ, Bool, true, Ok, Option}
use Rattle.std.proofs.Common.{List, [], ◌∷◌, length, ap, arith}
use Rattle.proto_lex.specs.declared.token.TokenKind.TheVariants.{Identifier, StringLiteral, Dot}
use Rattle.proto_lex.specs.declared.token.TokenKind.TheVariants.{OpenParenthesis, CloseParenthesis}
use Rattle.proto_lex.proofs.ReadingTestLemmas.{chosen}
use Rattle.proto_grammar.specs.Lexeme.{Lexeme, Place}
use Rattle.proto_grammar.specs.Terminal.{first_is, others, of_kind, not_next, behind}
use Rattle.proto_grammar.specs.Reading.Repetition.{Read, token_that, until_at, passing}
use Rattle.proto_grammar.specs.Reading.Names.{name_at}
use Rattle.proto_grammar.proofs.RepetitionStepLemmas.{same_ok, bind_ok}
use Rattle.proto_grammar.proofs.RepetitionUntilLemmas.{Falls, Until-shorter, until_at-found}
use Rattle.proto_grammar.proofs.TerminalTokenLemmas.{token_found, next_found, one_shorter}
use Rattle.proto_grammar.proofs.Found.Names.{name_found}
use Rattle.proto_grammar.proofs.GrammarShorterLemmas.{name_shorter}
use Rattle.proto_options.specs.declared.names.OptionRole.{OptionRole}
use Rattle.proto_options.specs.declared.names.OptionRole.TheVariants.{Field}
use Rattle.proto_options.specs.Names.{Names, last_number}
use Rattle.proto_options.specs.Reading.Aggregates.{literal_at, literals_at, strings_at, word_at}
use Rattle.proto_options.specs.Reading.Settings.{type_name_at, extension_at, part_at, dot_part_at}

-- what is read takes a token, or leaves no more than there were
abbrev pub Takes : {A : Type 0} → Read A → Type 0
Takes {A} read = (tokens : Place) (x : A × Place) → read tokens ≡ Ok x → length x.1.left < length tokens.left

abbrev pub Leaves : {A : Type 0} → Read A → Type 0
Leaves {A} read = (tokens : Place) (x : A × Place) → read tokens ≡ Ok x → length x.1.left ≤ length tokens.left

pub token_takes : (test : Lexeme → Bool) → Takes (token_that test)
token_takes test tokens x e = one_shorter (token_found tokens x e)

pub name_takes : Takes name_at
name_takes tokens x e = name_shorter (name_found tokens x e)

-- steps that take tokens
pub until_leaves : {S : Type 0} (ends : List Lexeme → Bool) (step : S → Read S) → Falls step → (s : S)
    → Leaves (until_at ends step s)
until_leaves ends step falls s tokens x e =
    Until-shorter (λ s t a b shorter. shorter) s x.0 tokens.left x.1.left
    (until_at-found ends step (λ s a t b. length b < length a) falls s tokens x e)

pub literals_fall : Falls (passing literal_at)
unfolding literal_at
literals_fall s tokens x e =
    let t = bind_ok (token_that (of_kind StringLiteral) tokens) _ x e in
    let left : t.0.1.left ≡ x.1.left = ap (λ y. y.1.left) (same_ok _ x t.2) in
    rw (← left) (token_takes _ tokens t.0 t.1)

pub word_takes : (role : OptionRole) (around : Option ℕ) (names : Names) → Takes (word_at role around names)
unfolding word_at
word_takes role around names tokens x e =
    let t = bind_ok (token_that (of_kind Identifier) tokens) _ x e in
    let left : t.0.1.left ≡ x.1.left = ap (λ y. y.1.left) (same_ok _ x t.2) in
    rw (← left) (token_takes _ tokens t.0 t.1)

pub type_name_takes : Takes type_name_at
unfolding type_name_at
type_name_takes tokens x e =
    chosen (first_is (of_kind Dot) tokens.left) {z = Ok x} e
    (λ _ read.
    let d = bind_ok (token_that (of_kind Dot) tokens) _ x read in
    let n = bind_ok (name_at d.0.1) _ x d.2 in
    let left : n.0.1.left ≡ x.1.left = ap (λ y. y.1.left) (same_ok _ x n.2) in
    rw (← left) (omega (arith, token_takes _ tokens d.0 d.1, name_takes d.0.1 n.0 n.1)))
    (λ _ read.
    let n = bind_ok (name_at tokens) _ x read in
    let left : n.0.1.left ≡ x.1.left = ap (λ y. y.1.left) (same_ok _ x n.2) in
    rw (← left) (name_takes tokens n.0 n.1))

pub extension_takes : (around : Option ℕ) (names : Names) → Takes (extension_at around names)
unfolding extension_at
extension_takes around names tokens x e =
    let o = bind_ok (token_that (of_kind OpenParenthesis) tokens) _ x e in
    let n = bind_ok (type_name_at o.0.1) _ x o.2 in
    let c = bind_ok (token_that (of_kind CloseParenthesis) n.0.1) _ x n.2 in
    let left : c.0.1.left ≡ x.1.left = ap (λ y. y.1.left) (same_ok _ x c.2) in
    rw (← left)
    (omega (arith, token_takes _ tokens o.0 o.1, type_name_takes o.0.1 n.0 n.1, token_takes _ n.0.1 c.0 c.1))

pub part_takes : (around : Option ℕ) (names : Names) → Takes (part_at around names)
unfolding part_at
part_takes around names tokens x e =
    chosen (first_is (of_kind OpenParenthesis) tokens.left) {z = Ok x} e
    (λ _ read. extension_takes around names tokens x read) (λ _ read. word_takes Field around names tokens x read)

pub dot_parts_fall : Falls dot_part_at
unfolding dot_part_at
dot_parts_fall names tokens x e =
    let d = bind_ok (token_that (of_kind Dot) tokens) _ x e in
    omega (arith, token_takes _ tokens d.0 d.1, part_takes (last_number names) names d.0.1 x d.2)

-- what is behind the next token, if there is one
pub others_leave : (tokens : List Lexeme) → length (others tokens) ≤ length tokens
others_leave [] = omega arith
others_leave (t ∷ rest) = omega arith

-- the next token, of which a test is known, is behind
pub behind_takes : (test : Lexeme → Bool) (tokens : Place) → first_is test tokens.left ≡ true
    → length (behind tokens).left < length tokens.left
behind_takes test tokens is = one_shorter (next_found tokens.left is).1

pub strings_takes : Takes strings_at
unfolding strings_at literal_at literals_at
strings_takes tokens x e =
    let t = bind_ok (literal_at tokens) _ x e in
    let one : length t.0.1.left < length tokens.left = literals_fall tt tokens t.0 t.1 in
    omega (arith, one, until_leaves (not_next StringLiteral) (passing literal_at) literals_fall tt t.0.1 x t.2)
