use Rattle.std.proofs.Common.{◌∙◌, sym, ap, length, arith, length-drop}
use Rattle.std.proofs.lemmas.Bool.{eqb-true}
use Rattle.std.proofs.lemmas.Result.{err_from_is_err_and}
use Rattle.proto_lex.proofs.PiecesLemmas.{starts_with, mark_within, goes_on_past, ends, fault_met}
use Rattle.proto_lex.proofs.lexer.read_pieces.Goals as goal

pub loop-rest-init : goal.loop-rest-init
loop-rest-init c = record {
  read = rw (c.in_ok-tokens.ensures.items, c.in_ok-comments.ensures.items, c.tail-rest.ensures, c.mark_len-at.ensures)
      (starts_with c.args.hashes c.args.bytes.now);
  counted = rw (c.tail-rest.ensures, c.mark_len-at.ensures) (mark_within c.args.bytes.now);
}

pub returns-in_err-len : goal.returns-in_err-len
returns-in_err-len c =
    let p = err_from_is_err_and c.from_residual-in_err-len.result c.from_residual-in_err-len.ensures.1 in
    rw (p.1, p.2) (fault_met _ _ _ _ c.loop-rest.invariant.read c.in_err-len.ensures)

pub overflow_add-end : goal.overflow_add-end
overflow_add-end c = omega (arith, c.in_ok-len.ensures.within)

pub tail-behind-requires : goal.tail-behind-requires
tail-behind-requires c = c.in_ok-len.ensures.within

pub overflow_add-at : goal.overflow_add-at
overflow_add-at c =
    omega (
      arith,
      c.in_ok-len.ensures.within,
      c.blank_len-blanks.ensures.within,
      ap length c.tail-behind.ensures,
      length-drop c.in_ok-len.len c.loop-rest.rest.now,
    )

pub loop-rest-smaller : goal.loop-rest-smaller
loop-rest-smaller c =
    rw c.tail-rest-in-loop-rest.ensures
    (omega (
      arith,
      length-drop c.blank_len-blanks.result c.tail-behind.result.now,
      ap length c.tail-behind.ensures,
      length-drop c.in_ok-len.len c.loop-rest.rest.now,
      c.in_ok-len.ensures.some,
      c.in_ok-len.ensures.within,
    ))

pub loop-rest-preserved : goal.loop-rest-preserved
loop-rest-preserved c = record {
  read = rw c.tail-rest-in-loop-rest.ensures
      (sym (goes_on_past _ _ _ _ _ _ c.in_ok-len.ensures c.tail-behind.result.now c.tail-behind.ensures
      c.blank_len-blanks.result c.blank_len-blanks.ensures.value)
      ∙ c.loop-rest.invariant.read);
  counted = rw c.tail-rest-in-loop-rest.ensures
      (omega (
        arith,
        length-drop c.blank_len-blanks.result c.tail-behind.result.now,
        ap length c.tail-behind.ensures,
        length-drop c.in_ok-len.len c.loop-rest.rest.now,
        c.blank_len-blanks.ensures.within,
        c.in_ok-len.ensures.some,
        c.in_ok-len.ensures.within,
      ));
}

pub returns : goal.returns
returns c =
    sym c.loop-rest.invariant.read ∙ ends _ _ _ _ (eqb-true _ _ (sym c.is_empty.ensures ∙ c.loop-rest-test.false))
