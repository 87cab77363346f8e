use Rattle.std.proofs.Common.{◌≡◌, true, false, refl}
use Rattle.std.proofs.lemmas.Result.{err_from_is_err_and}
use Rattle.proto_lex.specs.declared.token.TokenKind.TheVariants.{Comma}
use Rattle.proto_grammar.specs.Terminal.{first_is, of_kind, not_next}
use Rattle.proto_grammar.specs.Reading.Repetition.{passing}
use Rattle.proto_grammar.specs.Reading.Options.{comma_setting_at, comma_settings_at}
use Rattle.proto_grammar.proofs.RepetitionUntilLemmas.{Fails-of, goes_on, is_done, stops}
use Rattle.proto_grammar.proofs.RepetitionFallLemmas.{comma_settings_fall}
use Rattle.proto_grammar.proofs.parser.Parser.comma_settings.Goals as goal

pub settings-smaller : goal.settings-smaller
settings-smaller c = comma_settings_fall c.args.custom tt c.settings.self
    (tt, c.comma_setting.new.self) c.in_ok-comma_setting.ensures

pub settings-preserved : goal.settings-preserved
settings-preserved c =
    let is : first_is (of_kind Comma) c.settings.self.left ≡ true = cc in
    let further : not_next Comma c.settings.self.left ≡ false = rw is refl in
    goes_on (not_next Comma) (passing (comma_setting_at c.args.custom))
    (comma_settings_fall c.args.custom) tt tt c.settings.self c.comma_setting.new.self _ c.settings.invariant
    further c.in_ok-comma_setting.ensures

pub returns-in_err-comma_setting : goal.returns-in_err-comma_setting
unfolding comma_settings_at
returns-in_err-comma_setting c =
    let is : first_is (of_kind Comma) c.settings.self.left ≡ true = cc in
    let further : not_next Comma c.settings.self.left ≡ false = rw is refl in
    let p = err_from_is_err_and c.from_residual.result c.from_residual.ensures.1 in
    rw (p.1, p.2)
    (Fails-of _ _ (passing (comma_setting_at c.args.custom) tt c.settings.self) _
    (stops (not_next Comma) (passing (comma_setting_at c.args.custom))
    (comma_settings_fall c.args.custom) tt c.settings.self _ c.settings.invariant further)
    c.in_err-comma_setting.ensures)

pub returns : goal.returns
unfolding comma_settings_at
returns c =
    let is : first_is (of_kind Comma) c.settings.self.left ≡ false = cc in
    let past : not_next Comma c.settings.self.left ≡ true = rw is refl in
    is_done (not_next Comma) (passing (comma_setting_at c.args.custom))
    (comma_settings_fall c.args.custom) tt c.settings.self _ c.settings.invariant past
