use Rattle.std.proofs.Common.{◌≡◌, true, false, refl}
use Rattle.std.proofs.lemmas.Result.{err_from_is_err_and}
use Rattle.proto_lex.specs.declared.token.TokenKind.TheVariants.{Dot}
use Rattle.proto_grammar.specs.Terminal.{first_is, of_kind, not_next}
use Rattle.proto_grammar.specs.Reading.Repetition.{passing}
use Rattle.proto_grammar.specs.Reading.Names.{pass_dot_name_at, pass_dot_names_at}
use Rattle.proto_grammar.proofs.RepetitionUntilLemmas.{Fails-of, goes_on, is_done, stops}
use Rattle.proto_grammar.proofs.RepetitionFallLemmas.{pass_dot_names_fall}
use Rattle.proto_grammar.proofs.parser.Parser.pass_dot_names.Goals as goal

pub names-smaller : goal.names-smaller
names-smaller c = pass_dot_names_fall tt c.names.self (tt, c.pass_dot_name.new.self)
    c.in_ok-pass_dot_name.ensures

pub names-preserved : goal.names-preserved
names-preserved c =
    let is : first_is (of_kind Dot) c.names.self.left ≡ true = cc in
    let further : not_next Dot c.names.self.left ≡ false = rw is refl in
    goes_on (not_next Dot) (passing pass_dot_name_at) pass_dot_names_fall tt tt c.names.self
    c.pass_dot_name.new.self _
    c.names.invariant further c.in_ok-pass_dot_name.ensures

pub returns-in_err-pass_dot_name : goal.returns-in_err-pass_dot_name
unfolding pass_dot_names_at
returns-in_err-pass_dot_name c =
    let is : first_is (of_kind Dot) c.names.self.left ≡ true = cc in
    let further : not_next Dot c.names.self.left ≡ false = rw is refl in
    let p = err_from_is_err_and c.from_residual.result c.from_residual.ensures.1 in
    rw (p.1, p.2)
    (Fails-of _ _ (passing pass_dot_name_at tt c.names.self) _
    (stops (not_next Dot) (passing pass_dot_name_at) pass_dot_names_fall tt c.names.self _ c.names.invariant
    further) c.in_err-pass_dot_name.ensures)

pub returns : goal.returns
unfolding pass_dot_names_at
returns c =
    let is : first_is (of_kind Dot) c.names.self.left ≡ false = cc in
    let past : not_next Dot c.names.self.left ≡ true = rw is refl in
    is_done (not_next Dot) (passing pass_dot_name_at) pass_dot_names_fall tt c.names.self _ c.names.invariant past
