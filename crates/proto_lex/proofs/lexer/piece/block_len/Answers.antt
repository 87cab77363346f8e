use Rattle.std.proofs.Common.{arith}
use Rattle.proto_lex.proofs.ReadingSearchLemmas.{block_closed, block_unclosed}
use Rattle.proto_lex.proofs.lexer.piece.block_len.Goals as goal

pub overflow_add-result : goal.overflow_add-result
overflow_add-result c = omega (arith, c.in-Some.ensures.1.fits)

pub returns-in-Some-clause-value : goal.returns-in-Some-clause-value
returns-in-Some-clause-value c = block_closed c.args.others.now c.in-Some.inside c.in-Some.ensures

pub returns-in-Some-clause-within : goal.returns-in-Some-clause-within
returns-in-Some-clause-within c = omega (arith, c.in-Some.ensures.1.fits)

pub returns-in-None-clause-value : goal.returns-in-None-clause-value
returns-in-None-clause-value c = block_unclosed c.args.others.now c.in-None.ensures
