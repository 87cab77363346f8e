use Rattle.std.proofs.Common.{◌∙◌, arith}
use Rattle.std.proofs.lemmas.List.Sums.{prefix_len-le-length}
use Rattle.proto_lex.specs.Reading.{is_in_line}
use Rattle.proto_lex.proofs.ReadingSearchLemmas.{line_len_is}
use Rattle.proto_lex.proofs.lexer.bytes.line_len.Goals as goal

pub returns-clause-value : goal.returns-clause-value
returns-clause-value c = c.unwrap_or.ensures ∙ line_len_is c.args.bytes.now c.memchr.result c.memchr.ensures

pub returns-clause-within : goal.returns-clause-within
returns-clause-within c =
    omega (
      arith,
      c.unwrap_or.ensures ∙ line_len_is c.args.bytes.now c.memchr.result c.memchr.ensures,
      prefix_len-le-length is_in_line c.args.bytes.now,
    )
