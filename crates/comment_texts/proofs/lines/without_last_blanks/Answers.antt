use Rattle.comment_texts.proofs.CutLemmas.{cut_so_many}
use Rattle.comment_texts.proofs.lines.without_last_blanks.Goals as goal

pub range-requires-clause-end_boundary : goal.range-requires-clause-end_boundary
range-requires-clause-end_boundary c = cut_so_many c.args.line.now c.last_blanks.result c.last_blanks.ensures.value
