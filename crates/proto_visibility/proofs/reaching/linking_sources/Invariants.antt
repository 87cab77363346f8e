use Rattle.proto_visibility.specs.Tables.OptionTables.{IsLinkingSource}
use Rattle.proto_visibility.proofs.ThoseLemmas.{AreThoseUpTo}
use Rattle.proto_visibility.proofs.reaching.linking_sources.Given as goal

abbrev pub invariant-loop-number : goal.invariant-loop-number
invariant-loop-number l = AreThoseUpTo (IsLinkingSource l.files) l.number l.numbers.items
