use Rattle.scip_pages.proofs.CodeLemmas.{code_shows_the_lines, code_shows_the_source, pieces_have_the_links}
use Rattle.scip_pages.proofs.CodeLemmas.{pieces_have_the_text}
use Rattle.scip_pages.proofs.laws.code_shows_the_source.Goals as goal

pub returns : goal.returns
returns c = record {
  lines = code_shows_the_lines;
  source = code_shows_the_source;
  pieces = pieces_have_the_text;
  links = pieces_have_the_links;
}
