use Rattle.std.proofs.Common.{◌≡◌, ◌∙◌, ◌+◌, ℕ, ap, arith, drop, inr, length, length-drop, sym, List, []}
use Rattle.std.proofs.lemmas.List.{drop-drop}
use Rattle.std.proofs.lemmas.Result.{err_from_is_err_and}
use Rattle.proto_lex.specs.Hashes.{Behind}
use Rattle.proto_lex.specs.Reading.{Pieces, pieces, pieces_at, joined}
use Rattle.proto_lex.proofs.HashLemmas.{opened_most}
use Rattle.proto_lex.proofs.PiecesLemmas.{comment_goes_on, comment_fails, comment_is_over, kept_tokens, piece_in_bounds}
use Rattle.proto_lex.proofs.lexer.pass_comment.Goals as goal

pub returns-in_err-piece : goal.returns-in_err-piece
returns-in_err-piece c =
    let p = err_from_is_err_and c.from_residual.result c.from_residual.ensures.1 in
    let n = sym c.comment_ends.ensures ∙ c.pieces-test.true in
    rw (p.1, p.2) (inr (λ tokens. comment_fails tokens _ _ _ _ _ _ _ _ n
    (sym (c.commented_at.ensures tokens c.pieces.depth) ∙ c.in_err-piece.was) (c.pieces.invariant.read tokens)))

pub part-span-requires : goal.part-span-requires
part-span-requires c =
    let b = piece_in_bounds _ _ _ _ (sym (c.commented_at.ensures [] c.pieces.depth) ∙ c.in_ok-piece.was) in
    omega (
      arith,
      b.1,
      ap length c.pieces.invariant.rest,
      length-drop c.pieces.len c.args.bytes.now,
      c.pieces.invariant.within,
      c.requires,
    )

pub tail-rest-requires : goal.tail-rest-requires
tail-rest-requires c =
    let b = piece_in_bounds _ _ _ _ (sym (c.commented_at.ensures [] c.pieces.depth) ∙ c.in_ok-piece.was) in b.1

pub pieces-smaller : goal.pieces-smaller
pieces-smaller c =
    let b = piece_in_bounds _ _ _ _ (sym (c.commented_at.ensures [] c.pieces.depth) ∙ c.in_ok-piece.was) in
    rw c.tail-rest.ensures (omega (arith, length-drop c.in_ok-piece.piece.len c.pieces.rest.now, b.0, b.1))

pub pieces-preserved : goal.pieces-preserved
pieces-preserved c =
    let p = c.in_ok-piece.piece in
    let n = sym c.comment_ends.ensures ∙ c.pieces-test.true in
    let b = piece_in_bounds _ _ _ _ (sym (c.commented_at.ensures [] c.pieces.depth) ∙ c.in_ok-piece.was) in
    let step : c.args.at + (c.pieces.len + p.len) ≡ c.args.at + c.pieces.len + p.len = omega arith in
    let pushed = rw (c.kept_kind-kept.ensures, c.part-span.ensures) at c.in_ok-push_piece.ensures.pushed in
    record {
      read = λ tokens. rw (c.tail-rest.ensures, pushed, c.opened_by-depth.ensures, step)
          (sym (comment_goes_on tokens _ _ _ _ _ n
          (sym (c.commented_at.ensures tokens c.pieces.depth) ∙ c.in_ok-piece.was))
          ∙ c.pieces.invariant.read tokens);
      tokens = ap (λ (q : Pieces). q.tokens) pushed ∙ (kept_tokens _ p.kind _ ∙ c.pieces.invariant.tokens);
      rest = c.tail-rest.ensures
          ∙ (ap (λ (xs : List ℕ). drop p.len xs) c.pieces.invariant.rest
          ∙ drop-drop p.len c.pieces.len c.args.bytes.now);
      within = omega (
        arith,
        b.1,
        ap length c.pieces.invariant.rest,
        length-drop c.pieces.len c.args.bytes.now,
        c.pieces.invariant.within,
      );
      deep = rw c.opened_by-depth.ensures
          (omega (arith, opened_most c.pieces.depth p.kind, b.0, c.pieces.invariant.deep));
    }

pub returns : goal.returns
returns c =
    let over = sym c.comment_ends.ensures ∙ c.pieces-test.false in
    let now = pieces c.pieces.found.tokens.items c.pieces.found.comments.items in
    record {
      within = c.pieces.invariant.within;
      tokens = c.pieces.invariant.tokens;
      read = λ tokens. sym (c.pieces.invariant.read tokens)
          ∙ (ap (joined now) (comment_is_over tokens c.pieces.depth (c.args.at + c.pieces.len) c.pieces.rest.now over)
          ∙ ap (λ (xs : List ℕ). joined now (pieces_at (Behind tokens) 0 (c.args.at + c.pieces.len) xs))
          c.pieces.invariant.rest);
    }
