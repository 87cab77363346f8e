use Rattle.std.proofs.Common.{◌≡◌, ◌≤◌, length, vec_capacity}
use Rattle.proto_visibility.proofs.OptionLemmas.{AreAnswersOf}
use Rattle.proto_visibility.proofs.options.answers.Given as goal

abbrev pub invariant-loop-index : goal.invariant-loop-index
invariant-loop-index l = record {
  count : length l.known.items ≡ l.index;
  room : length l.firsts ≤ vec_capacity l.known;
  each : AreAnswersOf l.firsts l.lasts l.built_in l.known.items;
}
