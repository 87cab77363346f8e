use Rattle.std.proofs.Common.{false, []}
use Rattle.proto_grammar.specs.declared.dialect.CustomOptions.TheVariants.{Refuse}
use Rattle.proto_grammar.specs.Lexeme.{lexemes_of}
use Rattle.proto_steps.specs.Limits.{max_message_depth}
use Rattle.proto_steps.proofs.AmongFileLemmas.{file_among, none_free, all_open}
use Rattle.proto_parse.proofs.laws.proto3_among_all.Goals as goal

pub returns : goal.returns
returns c = λ text tokens file d.
    let all = lexemes_of text tokens in
    file_among (λ t. false) Refuse max_message_depth all_open all [] file (none_free all) d
