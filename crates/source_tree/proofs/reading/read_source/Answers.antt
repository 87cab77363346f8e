use Rattle.std.proofs.Common.{◌≡◌, ℕ, ◌<◌, ◌≤◌, ◌++◌, List, [], length, take, refl, ap, sym, ◌∙◌, arith, append_assoc}
use Rattle.std.proofs.Common.{subst}
use Rattle.std.proofs.lemmas.List.{append-nil}
use Rattle.streams.specs.Streams.{one_more}
use Rattle.streams.specs.declared.failed.Failed.{Failed}
use Rattle.source_tree.specs.Reading.{kept_bytes, max_kept_length}
use Rattle.streams.proofs.WholeReadLemmas.{one-more-read, no-end, consumed, nothing-left, reads-full, more-reads}
use Rattle.source_tree.proofs.ReadingLemmas.{kept_bytes-more, kept_bytes-few}
use Rattle.source_tree.proofs.reading.read_source.Goals as goal

pub reads-init : goal.reads-init
reads-init g c = record {
  bytes = λ all e. ([], all, e, refl, c.new-bytes.ensures.items);
  few = rw c.new-bytes.ensures.items (omega arith);
  failures = refl;
  no_reads = λ _. refl;
  reads = λ none. absurd (omega arith);
  briefly = omega arith;
  ends = refl;
}

pub returns-then-count-eq0-clause-bytes : goal.returns-then-count-eq0-clause-bytes
returns-then-count-eq0-clause-bytes g c = λ all e.
    let before = c.reads.invariant.bytes all e in
    let after = consumed _ _ before.1 _ before.2 c.in-Ok.ensures.bytes.0 in
    let none : take c.in-Ok.count c.read.new.room ≡ [] = ap (λ n. take n c.read.new.room) c.if-count-eq0.true in
    let end : after.0 ≡ [] =
    nothing-left _ after.0 after.1 (c.in-Ok.ensures.bytes.1 c.if-count-eq0.true (omega arith)) in
    let all_given : all ≡ before.0 =
    before.3 ∙ ap (λ l. before.0 ++ l) (after.2 ∙ (ap (λ l. l ++ after.0) none ∙ end)) ∙ append-nil before.0 in
    before.4 ∙ ap kept_bytes (sym all_given)

pub reads-preserved : goal.reads-preserved
reads-preserved g c =
    let some : 0 < length c.read.new.room = omega arith in
    let read : g.R.Feed.reads c.read.new.self ≡ one_more (g.R.Feed.reads c.reads.source) =
    c.in-Ok.ensures.reads ∙ reads-full _ _ some in
    record {
      bytes = λ all e.
          let before = c.reads.invariant.bytes all e in
          let after = consumed _ _ before.1 _ before.2 c.in-Ok.ensures.bytes.0 in
          let taken = take c.in-Ok.count c.read.new.room in (
            before.0 ++ taken,
            after.0,
            after.1,
            before.3 ∙ ap (λ l. before.0 ++ l) after.2 ∙ sym (append_assoc before.0 taken after.0),
            c.in_ok-append_kept.ensures ∙ kept_bytes-more before.0 taken c.reads.bytes.items before.4,
          );
      few = subst (λ (l : List ℕ). length l ≤ max_kept_length) (sym c.in_ok-append_kept.ensures) (kept_bytes-few _);
      failures = c.in-Ok.ensures.failures ∙ c.reads.invariant.failures;
      no_reads = λ none. absurd (omega arith);
      reads = λ _. one-more-read _ _ _ c.reads._read c.reads.invariant.no_reads c.reads.invariant.reads read;
      briefly = more-reads _ _ _ c.reads._read c.reads.invariant.briefly read;
      ends = c.in-Ok.ensures.ends ∙ no-end Failed _ c.in-Ok.count _ c.if-count-eq0.false ∙ c.reads.invariant.ends;
    }
