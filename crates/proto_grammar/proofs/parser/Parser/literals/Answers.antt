use Rattle.std.proofs.Common.{◌≡◌, true, false, refl}
use Rattle.std.proofs.lemmas.Result.{err_from_is_err_and}
use Rattle.proto_lex.specs.declared.token.TokenKind.TheVariants.{StringLiteral}
use Rattle.proto_grammar.specs.Terminal.{first_is, of_kind, not_next}
use Rattle.proto_grammar.specs.Reading.Repetition.{passing}
use Rattle.proto_grammar.specs.Reading.Options.{literal_at, literals_at}
use Rattle.proto_grammar.proofs.RepetitionUntilLemmas.{Fails-of, goes_on, is_done, stops}
use Rattle.proto_grammar.proofs.RepetitionFallLemmas.{literals_fall}
use Rattle.proto_grammar.proofs.parser.Parser.literals.Goals as goal

pub literals-smaller : goal.literals-smaller
literals-smaller c = literals_fall tt c.literals.self (tt, c.literal.new.self) c.in_ok-literal.ensures

pub literals-preserved : goal.literals-preserved
literals-preserved c =
    let is : first_is (of_kind StringLiteral) c.literals.self.left ≡ true = cc in
    let further : not_next StringLiteral c.literals.self.left ≡ false = rw is refl in
    goes_on (not_next StringLiteral)
    (passing literal_at) literals_fall tt tt c.literals.self c.literal.new.self _ c.literals.invariant further
    c.in_ok-literal.ensures

pub returns-in_err-literal : goal.returns-in_err-literal
unfolding literals_at
returns-in_err-literal c =
    let is : first_is (of_kind StringLiteral) c.literals.self.left ≡ true = cc in
    let further : not_next StringLiteral c.literals.self.left ≡ false = rw is refl in
    let p = err_from_is_err_and c.from_residual.result c.from_residual.ensures.1 in
    rw (p.1, p.2)
    (Fails-of _ _ (passing literal_at tt c.literals.self) _
    (stops (not_next StringLiteral)
    (passing literal_at) literals_fall tt c.literals.self _ c.literals.invariant further) c.in_err-literal.ensures)

pub returns : goal.returns
unfolding literals_at
returns c =
    let is : first_is (of_kind StringLiteral) c.literals.self.left ≡ false = cc in
    let past : not_next StringLiteral c.literals.self.left ≡ true = rw is refl in
    is_done (not_next StringLiteral) (passing literal_at) literals_fall tt c.literals.self _ c.literals.invariant
    past
