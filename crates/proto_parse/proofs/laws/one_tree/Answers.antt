use Rattle.proto_grammar.specs.Lexeme.{lexemes_of}
use Rattle.proto_parse.proofs.RefusedFileLemmas.{same_tree}
use Rattle.proto_parse.proofs.laws.one_tree.Goals as goal

pub returns : goal.returns
returns c = λ dialect text tokens file other d e. same_tree dialect (lexemes_of text tokens) file other d e
