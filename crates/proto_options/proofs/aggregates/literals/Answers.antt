use Rattle.std.proofs.Common.{◌≡◌, true, false, refl}
use Rattle.std.proofs.lemmas.Result.{err_from_is_err_and}
use Rattle.proto_lex.specs.declared.token.TokenKind.TheVariants.{StringLiteral}
use Rattle.proto_grammar.specs.Terminal.{first_is, of_kind, not_next}
use Rattle.proto_grammar.specs.Reading.Repetition.{passing}
use Rattle.proto_options.specs.Reading.Aggregates.{literal_at, literals_at}
use Rattle.proto_grammar.proofs.RepetitionUntilLemmas.{Fails-of, goes_on, is_done, stops}
use Rattle.proto_options.proofs.FallLemmas.{literals_fall}
use Rattle.proto_options.proofs.aggregates.literals.Goals as goal

pub literals-smaller : goal.literals-smaller
literals-smaller c = literals_fall tt c.literals.cursor (tt, c.literal.new.cursor) c.in_ok-literal.ensures

pub literals-preserved : goal.literals-preserved
literals-preserved c =
    let is : first_is (of_kind StringLiteral) c.literals.cursor.left ≡ true = cc in
    let further : not_next StringLiteral c.literals.cursor.left ≡ false = rw is refl in
    goes_on (not_next StringLiteral)
    (passing literal_at) literals_fall tt tt c.literals.cursor c.literal.new.cursor _ c.literals.invariant further
    c.in_ok-literal.ensures

pub returns-in_err-literal : goal.returns-in_err-literal
unfolding literals_at
returns-in_err-literal c =
    let is : first_is (of_kind StringLiteral) c.literals.cursor.left ≡ true = cc in
    let further : not_next StringLiteral c.literals.cursor.left ≡ false = rw is refl in
    let p = err_from_is_err_and c.from_residual.result c.from_residual.ensures.1 in
    rw (p.1, p.2)
    (Fails-of _ _ (passing literal_at tt c.literals.cursor) _
    (stops (not_next StringLiteral)
    (passing literal_at) literals_fall tt c.literals.cursor _ c.literals.invariant further) c.in_err-literal.ensures)

pub returns : goal.returns
unfolding literals_at
returns c =
    let is : first_is (of_kind StringLiteral) c.literals.cursor.left ≡ false = cc in
    let past : not_next StringLiteral c.literals.cursor.left ≡ true = rw is refl in
    is_done (not_next StringLiteral) (passing literal_at) literals_fall tt c.literals.cursor _ c.literals.invariant
    past
