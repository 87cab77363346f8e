use Rattle.std.proofs.Common.{◌≡◌, ℕ, true, List, option_map, Bor, sym, ◌∙◌, ap}
use Rattle.proto_lex.specs.declared.token.TokenKind.TheVariants.{StringLiteral}
use Rattle.proto_grammar.specs.Terminal.{first_is, of_kind}
use Rattle.proto_steps.specs.Version.{past_literals}
use Rattle.proto_steps.proofs.JoinedLemmas.{joined_further, left_further}
use Rattle.proto_steps.proofs.syntax.version.Goals as goal
use Rattle.proto_grammar.specs.Lexeme.{Place, place_of}

pub literals-preserved : goal.literals-preserved
literals-preserved c =
    let is : first_is (of_kind StringLiteral) c.literals.parser.left ≡ true = cc in
    record {
      proto3 = left_further (option_map {T = Bor (List ℕ)} {U = List ℕ} (λ t. t.now) c.literals.proto3) _ _
          c.literals.parser.left _ _ is c.content-literal.ensures.content
          (ap (λ (p : Place). p.left) c.content-literal.ensures.rest)
          c.stripped-proto3.ensures c.literals.invariant.proto3;
      proto2 = left_further (option_map {T = Bor (List ℕ)} {U = List ℕ} (λ t. t.now) c.literals.proto2) _ _
          c.literals.parser.left _ _ is c.content-literal.ensures.content
          (ap (λ (p : Place). p.left) c.content-literal.ensures.rest)
          c.stripped-proto2.ensures c.literals.invariant.proto2;
      behind = ap past_literals c.content-literal.ensures.rest
          ∙ ap (place_of c.literals.parser.end) (sym (joined_further c.literals.parser.left is).1)
          ∙ c.literals.invariant.behind;
    }
