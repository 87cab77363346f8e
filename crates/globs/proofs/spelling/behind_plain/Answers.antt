use Rattle.globs.proofs.PlainLemmas.{ended, passed}
use Rattle.globs.proofs.spelling.behind_plain.Goals as goal

pub returns-in-empty-clause-none : goal.returns-in-empty-clause-none
returns-in-empty-clause-none c = λ _.
    ended _ c.bytes.rest.now c.bytes.left.now 0 c.in-len1-up.len_at_least c.in-empty.len_below
    (c.is_plain.ensures c.if-not-is_plain.false) c.bytes.invariant

pub bytes-preserved : goal.bytes-preserved
bytes-preserved c =
    passed _ c.bytes.rest.now c.bytes.left.now 0 0 c.in-len1-up.len_at_least c.in-len1-up-left.len_at_least
    (c.is_plain.ensures c.if-not-is_plain.false) c.if-byte-first.false c.bytes.invariant
