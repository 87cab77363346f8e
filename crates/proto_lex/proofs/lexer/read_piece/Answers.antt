use Rattle.std.proofs.Common.{◌∙◌, arith, inr, sym}
use Rattle.std.proofs.lemmas.Result.{err_from_is_err_and}
use Rattle.proto_lex.specs.Reading.{pieces}
use Rattle.proto_lex.proofs.PiecesLemmas.{comment_met, piece_bounds, piece_stops, reads_comment, reads_piece}
use Rattle.proto_lex.proofs.lexer.read_piece.Goals as goal

pub part-span-requires : goal.part-span-requires
part-span-requires c =
    let b = piece_bounds _ _ _ (sym c.in-Ok.ensures) in omega (arith, b.1, c.requires.fits)

pub returns-in_ok-push_piece-in-Ok : goal.returns-in_ok-push_piece-in-Ok
returns-in_ok-push_piece-in-Ok c =
    reads_piece c.args.hashes _ _ _ _ c.in-Ok.piece _ c.requires.some c.in-Ok.ensures c.part-span.ensures
    c.in_ok-push_piece-in-Ok.ensures.pushed

pub returns-in_ok-len-in-Err : goal.returns-in_ok-len-in-Err
returns-in_ok-len-in-Err c =
    let old = pieces c.args.found.now.tokens.items c.args.found.now.comments.items in
    let is = rw c.deref.ensures.value at (sym c.begins_comment.ensures ∙ c.if-begins_comment.true) in
    reads_comment c.args.hashes old _ c.args.at c.args.bytes.now _ is (rw c.tail.ensures at c.in_ok-len-in-Err.ensures)

pub returns-in_err-len-in-Err : goal.returns-in_err-len-in-Err
returns-in_err-len-in-Err c =
    let p = err_from_is_err_and c.from_residual-in_err-len-in-Err.result c.from_residual-in_err-len-in-Err.ensures.1 in
    let old = pieces c.args.found.now.tokens.items c.args.found.now.comments.items in
    let is = rw c.deref.ensures.value at (sym c.begins_comment.ensures ∙ c.if-begins_comment.true) in
    rw (p.1, p.2) (comment_met c.args.hashes old c.args.at c.args.bytes.now _ is
    (rw c.tail.ensures at c.in_err-len-in-Err.ensures))

pub returns-else-begins_comment : goal.returns-else-begins_comment
returns-else-begins_comment c =
    let old = pieces c.args.found.now.tokens.items c.args.found.now.comments.items in
    let no = rw c.deref.ensures.value at (sym c.begins_comment.ensures ∙ c.if-begins_comment.false) in
    inr (piece_stops c.args.hashes old c.args.at c.args.bytes.now _ c.requires.some c.in-Err.ensures no)
