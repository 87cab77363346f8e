use Rattle.programs.proofs.ImportLemmas.{some_file, text_of_one}
use Rattle.programs.proofs.imports.imports_as_read.Goals as goal

pub text-requires : goal.text-requires
text-requires c = some_file c.in_ok-tree.ensures

pub returns : goal.returns
returns c = record {
  text = c.text.result.now;
  is_read = text_of_one c.text.result.now c.in_ok-tree.ensures c.text.ensures;
  told = c.in_ok-imports.ensures;
}
