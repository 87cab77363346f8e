use Rattle.std.proofs.Common.{◌≡◌, ◌<◌, ◌++◌, [], length, take, refl, ap, sym, ◌∙◌, arith, append_assoc}
use Rattle.std.proofs.lemmas.List.{append-nil}
use Rattle.std.proofs.lemmas.Result.{err_from_is_err_and}
use Rattle.streams.specs.Streams.{one_more}
use Rattle.streams.specs.Readers.{reading, IsReadThrough}
use Rattle.streams.specs.declared.failed.Failed.{Failed}
use Rattle.streams.proofs.WholeReadLemmas.{one-more-read, no-end, one-end, consumed, kept-left, nothing-left}
use Rattle.streams.proofs.WholeReadLemmas.{reads-full, more-reads}
use Rattle.scip_query.proofs.ConversationLemmas.{starts, concluded_due, halted_on_the_way, unread_due, concluded_feed}
use Rattle.scip_query.proofs.ConversationLemmas.{halted_feed}
use Rattle.scip_query.proofs.conversation.Answering.answer_all.Goals as goal

pub reads-init : goal.reads-init
reads-init g c = record {
  read = [];
  stands = starts g.W.Sink c.args.self.now c.args.answers.now _ c.new.ensures.items refl;
  behind = λ all e. (all, e, refl);
  failures = refl;
  no_reads = λ _. refl;
  reads = λ none. absurd (omega arith);
  briefly = omega arith;
  ends = refl;
}

-- where a read fails

pub returns-in-Err-clause-replies : goal.returns-in-Err-clause-replies
returns-in-Err-clause-replies g c =
    let sink = g.W.Sink in
    let feed = g.R.Feed in
    let so_far = c.reads.invariant in
    unread_due sink c.args.self.now c.args.answers.now (feed.remaining c.args.commands.now)
    (feed.remaining c.read.new.self) so_far.read c.reads.conversation c.reads.answers
    (λ all e.
    let behind = so_far.behind all e in
    (behind.0, kept-left _ _ behind.0 behind.1 c.in-Err.ensures.bytes, behind.2))
    so_far.stands

-- at the end

pub returns-then-count-eq0-clause-replies : goal.returns-then-count-eq0-clause-replies
returns-then-count-eq0-clause-replies g c =
    let sink = g.W.Sink in
    let feed = g.R.Feed in
    let so_far = c.reads.invariant in
    concluded_due sink c.args.self.now c.args.answers.now (feed.remaining c.args.commands.now)
    (feed.remaining c.read.new.self) so_far.read c.conclude.new.answers c.conclude.result
    (λ all e.
    let behind = so_far.behind all e in
    let after = consumed _ _ behind.0 _ behind.1 c.in-Ok.ensures.bytes.0 in
    let none : take c.in-Ok.count c.read.new.room ≡ [] = ap (λ n. take n c.read.new.room) c.if-count-eq0.true in
    let end : after.0 ≡ [] =
    nothing-left _ after.0 after.1 (c.in-Ok.ensures.bytes.1 c.if-count-eq0.true (omega arith)) in
    behind.2 ∙ ap (λ l. so_far.read ++ l) (after.2 ∙ (ap (λ l. l ++ after.0) none ∙ end)) ∙ append-nil so_far.read)
    (c.conclude.ensures c.args.answers.now so_far.read so_far.stands)

pub returns-then-count-eq0-clause-feed : goal.returns-then-count-eq0-clause-feed
returns-then-count-eq0-clause-feed g c =
    let sink = g.W.Sink in
    let feed = g.R.Feed in
    let so_far = c.reads.invariant in
    let through : IsReadThrough (reading feed c.args.commands.now c.read.new.self) = (
      c.in-Ok.ensures.failures ∙ so_far.failures,
      c.in-Ok.ensures.ends ∙ one-end Failed _ c.in-Ok.count _ c.if-count-eq0.true (omega arith)
          ∙ ap one_more so_far.ends,
    ) in
    concluded_feed sink c.args.self.now c.args.answers.now (reading feed c.args.commands.now c.read.new.self)
    so_far.read c.conclude.new.answers c.conclude.result
    (c.conclude.ensures c.args.answers.now so_far.read so_far.stands) through

-- on the way

pub returns-in_err-take_in_all-clause-replies : goal.returns-in_err-take_in_all-clause-replies
returns-in_err-take_in_all-clause-replies g c =
    let sink = g.W.Sink in
    let feed = g.R.Feed in
    let so_far = c.reads.invariant in
    let p = err_from_is_err_and c.from_residual.result c.from_residual.ensures.1 in
    rw (p.1, p.2) (halted_on_the_way sink c.args.self.now c.args.answers.now
    (feed.remaining c.args.commands.now) (feed.remaining c.read.new.self)
    _ c.take_in_all.new.conversation c.take_in_all.new.answers c.in_err-take_in_all.field-0.0
    (λ all e.
    let behind = so_far.behind all e in
    let after = consumed _ _ behind.0 _ behind.1 c.in-Ok.ensures.bytes.0 in (
      after.0,
      behind.2 ∙ ap (λ l. so_far.read ++ l) after.2
          ∙ sym (append_assoc so_far.read (take c.in-Ok.count c.read.new.room) after.0),
    ))
    (c.in_err-take_in_all.ensures c.args.answers.now so_far.read so_far.stands))

pub returns-in_err-take_in_all-clause-feed : goal.returns-in_err-take_in_all-clause-feed
returns-in_err-take_in_all-clause-feed g c =
    let sink = g.W.Sink in
    let feed = g.R.Feed in
    let so_far = c.reads.invariant in
    let p = err_from_is_err_and c.from_residual.result c.from_residual.ensures.1 in
    rw (p.1, p.2) (halted_feed sink c.args.self.now c.args.answers.now (reading feed c.args.commands.now
    c.read.new.self) _ c.take_in_all.new.conversation c.take_in_all.new.answers
    c.in_err-take_in_all.field-0.0
    (c.in_err-take_in_all.ensures c.args.answers.now so_far.read so_far.stands)
    (c.in-Ok.ensures.failures ∙ so_far.failures))

pub reads-preserved : goal.reads-preserved
reads-preserved g c =
    let so_far = c.reads.invariant in
    let some : 0 < length c.read.new.room = omega arith in
    let read : g.R.Feed.reads c.read.new.self ≡ one_more (g.R.Feed.reads c.reads.commands) =
    c.in-Ok.ensures.reads ∙ reads-full _ _ some in
    let taken = take c.in-Ok.count c.read.new.room in
    record {
      read = so_far.read ++ taken;
      stands = c.in_ok-take_in_all.ensures c.args.answers.now so_far.read so_far.stands;
      behind = λ all e.
          let behind = so_far.behind all e in
          let after = consumed _ _ behind.0 _ behind.1 c.in-Ok.ensures.bytes.0 in (
            after.0,
            after.1,
            behind.2 ∙ ap (λ l. so_far.read ++ l) after.2
                ∙ sym (append_assoc so_far.read taken after.0),
          );
      failures = c.in-Ok.ensures.failures ∙ so_far.failures;
      no_reads = λ none. absurd (omega arith);
      reads = λ _. one-more-read _ _ _ c.reads._read so_far.no_reads so_far.reads read;
      briefly = more-reads _ _ _ c.reads._read so_far.briefly read;
      ends = c.in-Ok.ensures.ends ∙ no-end Failed _ c.in-Ok.count _ c.if-count-eq0.false ∙ so_far.ends;
    }

-- where the end doesn't come

pub returns-clause-replies : goal.returns-clause-replies
returns-clause-replies g c =
    let sink = g.W.Sink in
    let feed = g.R.Feed in
    let so_far = c.reads.invariant in
    unread_due sink c.args.self.now c.args.answers.now (feed.remaining c.args.commands.now)
    (feed.remaining c.reads.commands) so_far.read c.reads.conversation c.reads.answers
    so_far.behind so_far.stands
