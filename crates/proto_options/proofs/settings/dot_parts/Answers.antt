use Rattle.std.proofs.Common.{◌≡◌, true, false, refl}
use Rattle.std.proofs.lemmas.Result.{err_from_is_err_and}
use Rattle.proto_lex.specs.declared.token.TokenKind.TheVariants.{Dot}
use Rattle.proto_grammar.specs.Terminal.{first_is, of_kind, not_next}
use Rattle.proto_options.specs.Reading.Settings.{dot_part_at, dot_parts_at}
use Rattle.proto_grammar.proofs.RepetitionUntilLemmas.{Fails-of, goes_on, is_done, stops}
use Rattle.proto_options.proofs.FallLemmas.{dot_parts_fall}
use Rattle.proto_options.proofs.settings.dot_parts.Goals as goal

pub parts-smaller : goal.parts-smaller
parts-smaller c = dot_parts_fall c.parts.names c.parts.cursor (_, c.dot_part.new.cursor) c.in_ok-dot_part.ensures

pub parts-preserved : goal.parts-preserved
parts-preserved c =
    let is : first_is (of_kind Dot) c.parts.cursor.left ≡ true = cc in
    let further : not_next Dot c.parts.cursor.left ≡ false = rw is refl in
    goes_on (not_next Dot) dot_part_at dot_parts_fall c.parts.names _ c.parts.cursor c.dot_part.new.cursor _
    c.parts.invariant further c.in_ok-dot_part.ensures

pub returns-in_err-dot_part : goal.returns-in_err-dot_part
unfolding dot_parts_at
returns-in_err-dot_part c =
    let is : first_is (of_kind Dot) c.parts.cursor.left ≡ true = cc in
    let further : not_next Dot c.parts.cursor.left ≡ false = rw is refl in
    let p = err_from_is_err_and c.from_residual.result c.from_residual.ensures.1 in
    rw (p.1, p.2)
    (Fails-of _ _ (dot_part_at c.parts.names c.parts.cursor) _
    (stops (not_next Dot) dot_part_at dot_parts_fall c.parts.names c.parts.cursor _ c.parts.invariant further)
    c.in_err-dot_part.ensures)

pub returns : goal.returns
unfolding dot_parts_at
returns c =
    let is : first_is (of_kind Dot) c.parts.cursor.left ≡ false = cc in
    let past : not_next Dot c.parts.cursor.left ≡ true = rw is refl in
    is_done (not_next Dot) dot_part_at dot_parts_fall c.parts.names c.parts.cursor _ c.parts.invariant past
