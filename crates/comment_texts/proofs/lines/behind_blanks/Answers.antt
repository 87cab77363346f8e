use Rattle.std.proofs.Common.{arith}
use Rattle.comment_texts.proofs.CutLemmas.{cut_blanks}
use Rattle.comment_texts.proofs.lines.behind_blanks.Goals as goal

pub range_from-requires : goal.range_from-requires
range_from-requires c = λ some. cut_blanks c.args.line.now c.indentation.result
    (omega (arith, c.indentation.ensures.value)) c.utf8.line
