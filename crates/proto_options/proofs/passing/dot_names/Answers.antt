use Rattle.std.proofs.Common.{◌≡◌, true, false, refl}
use Rattle.std.proofs.lemmas.Result.{err_from_is_err_and}
use Rattle.proto_lex.specs.declared.token.TokenKind.TheVariants.{Dot}
use Rattle.proto_grammar.specs.Terminal.{first_is, of_kind, not_next}
use Rattle.proto_grammar.specs.Reading.Repetition.{adding}
use Rattle.proto_grammar.specs.Reading.Names.{dot_name_at, dot_names_at}
use Rattle.proto_grammar.proofs.RepetitionUntilLemmas.{Fails-of, goes_on, is_done, stops, adding-step, adding-stops}
use Rattle.proto_grammar.proofs.RepetitionFallLemmas.{dot_names_fall}
use Rattle.proto_options.proofs.passing.dot_names.Goals as goal

pub names-smaller : goal.names-smaller
names-smaller c = dot_names_fall c.names.components c.names.cursor (_, c.dot_name.new.cursor)
    (adding-step dot_name_at c.names.components c.in_ok-name.name c.names.cursor c.dot_name.new.cursor
    c.in_ok-name.ensures)

pub names-preserved : goal.names-preserved
names-preserved c =
    let is : first_is (of_kind Dot) c.names.cursor.left ≡ true = cc in
    let further : not_next Dot c.names.cursor.left ≡ false = rw is refl in
    rw c.in_ok-keep.ensures
    (goes_on (not_next Dot) (adding dot_name_at) dot_names_fall c.names.components _ c.names.cursor
    c.dot_name.new.cursor _
    c.names.invariant further
    (adding-step dot_name_at c.names.components c.in_ok-name.name c.names.cursor c.dot_name.new.cursor
    c.in_ok-name.ensures))

pub returns-in_err-name : goal.returns-in_err-name
unfolding dot_names_at
returns-in_err-name c =
    let is : first_is (of_kind Dot) c.names.cursor.left ≡ true = cc in
    let further : not_next Dot c.names.cursor.left ≡ false = rw is refl in
    let p = err_from_is_err_and c.from_residual.result c.from_residual.ensures.1 in
    rw (p.1, p.2)
    (Fails-of _ _ (dot_name_at c.names.cursor) _
    (λ fault none. stops (not_next Dot)
    (adding dot_name_at) dot_names_fall c.names.components c.names.cursor _ c.names.invariant further fault
    (adding-stops dot_name_at c.names.components c.names.cursor fault none)) c.in_err-name.ensures)

pub returns : goal.returns
unfolding dot_names_at
returns c =
    let is : first_is (of_kind Dot) c.names.cursor.left ≡ false = cc in
    let past : not_next Dot c.names.cursor.left ≡ true = rw is refl in
    is_done (not_next Dot) (adding dot_name_at) dot_names_fall c.names.components c.names.cursor _ c.names.invariant
    past
