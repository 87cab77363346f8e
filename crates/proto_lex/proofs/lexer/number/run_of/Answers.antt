use Rattle.std.proofs.Common.{◌∙◌}
use Rattle.proto_lex.proofs.NumberLemmas.{run_of-take}
use Rattle.proto_lex.proofs.lexer.number.run_of.Goals as goal

pub returns-in-len1-up : goal.returns-in-len1-up
returns-in-len1-up c =
    c.split_at.ensures.front
    ∙ run_of-take c.args.bytes.now _ c.in-len1-up.len_at_least
    (rw c.begins_hexadecimal.ensures at c.run_len_after-len.ensures.value)
