use Rattle.std.proofs.Common.{◌≡◌, true, false, refl}
use Rattle.std.proofs.lemmas.Result.{err_from_is_err_and}
use Rattle.proto_lex.specs.declared.token.TokenKind.TheVariants.{Comma}
use Rattle.proto_grammar.specs.Terminal.{first_is, of_kind, not_next}
use Rattle.proto_options.specs.Reading.Options.{comma_option_at, comma_options_at}
use Rattle.proto_grammar.proofs.RepetitionUntilLemmas.{Fails-of, goes_on, is_done, stops}
use Rattle.proto_options.proofs.WalkFallLemmas.{comma_options_fall}
use Rattle.proto_options.proofs.options.comma_options.Goals as goal

pub options-smaller : goal.options-smaller
options-smaller c =
    comma_options_fall c.args.scope.now c.args.element c.options.options c.options.cursor (_, c.comma_option.new.cursor)
    c.in_ok-comma_option.ensures

pub options-preserved : goal.options-preserved
options-preserved c =
    let is : first_is (of_kind Comma) c.options.cursor.left ≡ true = cc in
    let further : not_next Comma c.options.cursor.left ≡ false = rw is refl in
    goes_on (not_next Comma) (comma_option_at c.args.scope.now c.args.element)
    (comma_options_fall c.args.scope.now c.args.element) c.options.options _ c.options.cursor
    c.comma_option.new.cursor _ c.options.invariant further c.in_ok-comma_option.ensures

pub returns-in_err-comma_option : goal.returns-in_err-comma_option
unfolding comma_options_at
returns-in_err-comma_option c =
    let is : first_is (of_kind Comma) c.options.cursor.left ≡ true = cc in
    let further : not_next Comma c.options.cursor.left ≡ false = rw is refl in
    let p = err_from_is_err_and c.from_residual.result c.from_residual.ensures.1 in
    rw (p.1, p.2)
    (Fails-of _ _ (comma_option_at c.args.scope.now c.args.element c.options.options c.options.cursor) _
    (stops (not_next Comma) (comma_option_at c.args.scope.now c.args.element)
    (comma_options_fall c.args.scope.now c.args.element) c.options.options c.options.cursor _ c.options.invariant
    further)
    c.in_err-comma_option.ensures)

pub returns : goal.returns
unfolding comma_options_at
returns c =
    let is : first_is (of_kind Comma) c.options.cursor.left ≡ false = cc in
    let past : not_next Comma c.options.cursor.left ≡ true = rw is refl in
    is_done (not_next Comma) (comma_option_at c.args.scope.now c.args.element)
    (comma_options_fall c.args.scope.now c.args.element) c.options.options c.options.cursor _ c.options.invariant past
