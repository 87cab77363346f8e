use Rattle.std.proofs.Common.{[], codes}
use Rattle.proto_grammar.specs.declared.dialect.CustomOptions.TheVariants.{Skip}
use Rattle.proto_grammar.specs.Lexeme.{lexemes_of}
use Rattle.proto_grammar.specs.Terminal.{is_word}
use Rattle.proto_steps.specs.Limits.{max_message_depth}
use Rattle.proto_steps.proofs.AmongFileLemmas.{file_among}
use Rattle.proto_parse.proofs.laws.proto3_without_extend_among_all.Goals as goal

pub returns : goal.returns
returns c = λ text tokens file none d.
    file_among (is_word (codes "extend")) Skip max_message_depth (λ e t off. off) (lexemes_of text tokens) [] file none
    d
