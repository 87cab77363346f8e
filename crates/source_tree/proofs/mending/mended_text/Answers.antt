use Rattle.std.proofs.Common.{arith}
use Rattle.source_tree.proofs.MendingLemmas.{mended_long, mended_utf8}
use Rattle.source_tree.proofs.mending.mended_text.Goals as goal

pub returns-then-bytes-gt-MAX_TEXT_LENGTH : goal.returns-then-bytes-gt-MAX_TEXT_LENGTH
returns-then-bytes-gt-MAX_TEXT_LENGTH c = mended_long c.args.bytes.now (omega arith)

pub returns-in-Ok : goal.returns-in-Ok
returns-in-Ok c = mended_utf8 c.args.bytes.now (omega arith) c.in-Ok.ensures.cases.1
