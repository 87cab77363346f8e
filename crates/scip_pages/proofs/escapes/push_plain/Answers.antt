use Rattle.std.proofs.Common.{arith, length-drop}
use Rattle.scip_pages.specs.Escapes.{escape_byte}
use Rattle.scip_pages.specs.Plainly.{is_plain}
use Rattle.scip_pages.proofs.PlainLemmas.{front_and_behind}
use Rattle.scip_pages.proofs.EscapeLemmas.{plain_byte}
use Rattle.scip_pages.proofs.escapes.push_plain.Goals as goal

pub returns-clause-text : goal.returns-clause-text
returns-clause-text c =
    rw (c.in_ok-extend_from_slice.ensures.items, c.split_at.ensures.front, c.split_at.ensures.back)
    (front_and_behind escape_byte is_plain plain_byte c.args.page.now.items c.args.text.now c.plain_len.result
    c.plain_len.ensures.len)

pub returns-clause-within : goal.returns-clause-within
returns-clause-within c =
    rw c.split_at.ensures.back (omega (arith, length-drop c.plain_len.result c.args.text.now))
