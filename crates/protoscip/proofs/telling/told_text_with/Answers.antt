use Rattle.protoscip.proofs.telling.told_text_with.Goals as goal

pub returns : goal.returns
returns c = (c.source_count-sources.result, c.source_count-sources.ensures, c.text_of.ensures)
