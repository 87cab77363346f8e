-- The literals of a syntax statement, joined.
use Rattle.std.proofs.Common.{◌≡◌, ℕ, Bool, true, false, List, [], ◌∷◌}
use Rattle.std.proofs.Common.{refl}
use Rattle.std.proofs.lemmas.Bool.{not-true}
use Rattle.proto_lex.specs.declared.token.TokenKind.TheVariants.{StringLiteral}
use Rattle.proto_grammar.specs.Lexeme.{Lexeme}
use Rattle.proto_grammar.specs.Terminal.{of_kind}
use Rattle.proto_parse.specs.Grammar.Files.{SpellsJoined}
use Rattle.proto_parse.specs.Grammar.Files.SpellsJoined.{none, some}
use Rattle.proto_steps.specs.Version.{joined_of, behind_literals}

-- what is joined is spelled
pub joined_found : (tokens : List Lexeme) → SpellsJoined tokens (joined_of tokens) (behind_literals tokens)
joined_found [] = none refl
joined_found (t ∷ rest) = by_kind (of_kind StringLiteral t) refl (joined_found rest)
  where
    by_kind : (b : Bool) → of_kind StringLiteral t ≡ b
        → SpellsJoined rest (joined_of rest) (behind_literals rest)
        → SpellsJoined (t ∷ rest) (joined_of (t ∷ rest)) (behind_literals (t ∷ rest))
    by_kind true is behind = rw is (some is behind)
    by_kind false is behind = rw is (none {a = t ∷ rest} (rw is refl))

-- what is spelled is joined
pub joined_exact : {a b : List Lexeme} {text : List ℕ} → SpellsJoined a text b
    → (joined_of a ≡ text) × (behind_literals a ≡ b)
joined_exact (none {a = []} past) = (refl, refl)
joined_exact (none {a = t ∷ rest} past) =
    let is : of_kind StringLiteral t ≡ false = not-true (of_kind StringLiteral t) past in (rw is refl, rw is refl)
joined_exact (some {t = t} {rest = rest} is behind) =
    let later = joined_exact behind in (rw (is, later.0) refl, rw (is, later.1) refl)
