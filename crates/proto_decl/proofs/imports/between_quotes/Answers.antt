use Rattle.std.proofs.Common.{sym, subst, List, ℕ}
use Rattle.proto_lex.specs.Lexes.{Spells}
use Rattle.proto_lex.specs.declared.token.TokenKind.TheVariants.{StringLiteral}
use Rattle.proto_decl.proofs.ImportLiteralLemmas.{cut_first, cut_last}
use Rattle.proto_decl.proofs.imports.between_quotes.Goals as goal
use Rattle.proto_decl.proofs.imports.between_quotes.Goals.{After-spelling_at-spelling}

spelled : (c : After-spelling_at-spelling) → Spells StringLiteral c.spelling_at-spelling.result.now
spelled c = subst (λ (s : List ℕ). Spells StringLiteral s) (sym c.spelling_at-spelling.ensures) c.requires.spelled

pub range-requires-clause-start_le_end : goal.range-requires-clause-start_le_end
range-requires-clause-start_le_end c =
    (cut_last (spelled (goal.at.range-requires-clause-start_le_end c).After-spelling_at-spelling)).0

pub range-requires-clause-start_boundary : goal.range-requires-clause-start_boundary
range-requires-clause-start_boundary c =
    λ some. cut_first (spelled (goal.at.range-requires-clause-start_boundary c).After-spelling_at-spelling)
    c.spelling_at-spelling.utf8

pub range-requires-clause-end_boundary : goal.range-requires-clause-end_boundary
range-requires-clause-end_boundary c =
    (cut_last (spelled (goal.at.range-requires-clause-end_boundary c).After-spelling_at-spelling)).1
