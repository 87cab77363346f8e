use Rattle.std.proofs.Common.{ap}
use Rattle.proto_lex.specs.declared.span.Span.{Span}
use Rattle.option_link.proofs.LoopLemmas.{never_so}
use Rattle.option_link.proofs.SpanLemmas.{span_by}
use Rattle.option_link.proofs.searches.is_at.Goals as goal

pub returns-then-one-other : goal.returns-then-one-other
returns-then-one-other c = never_so _ (λ same. c.if-one-other.true (ap (λ (s : Span). s.start) same))

pub returns : goal.returns
returns c = span_by c.args.one c.args.other c.if-one-other.false
