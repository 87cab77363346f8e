use Rattle.std.proofs.Common.{◌≡◌, refl, subst, sym, ℕ, Option, None, Result, Ok, Err}
use Rattle.std.specs.Prelude.{IfErr, IfOk, List, MatchResult}
use Rattle.std.specs.Option.{option_map}
use Rattle.std.specs.String.{string_bytes}
use Rattle.streams.specs.Writers.{writing}
use Rattle.proto_parse.specs.dialect.Dialect.{Dialect}
use Rattle.protoscip.specs.Explanations.{explain_in}
use Rattle.protoscip.specs.FaultLines.{HasFilesOf}
use Rattle.protoscip.specs.Indexes.{Indexes, recorded_of}
use Rattle.protoscip.specs.declared.fault.Fault.{Fault}
use Rattle.protoscip.specs.declared.indexing.KeptIndex.{KeptIndex}
use Rattle.protoscip.specs.declared.recorded.Recorded.{Recorded}
use Rattle.programs.specs.Choices.{IsChosenBy}
use Rattle.programs.specs.Indexing.{not_begun, into_part, too_poor}
use Rattle.programs.specs.Limits.{Breaks}
use Rattle.programs.specs.Messages.{SaysOfSuccess}
use Rattle.programs.specs.Placing.{place}
use Rattle.programs.specs.Reporting.{Reports, ran_of, told_by}
use Rattle.programs.specs.TreeRuns.{Ends, IsWholeTextIfAny}
use Rattle.programs.proofs.TreeRunOmissionLemmas.{is_success}
use Rattle.programs.proofs.PlacingLemmas.{fills, forgoes}
use Rattle.programs.proofs.ReportingLemmas.{finished_files, finished_said, reported_by, reported_files, settled_files}
use Rattle.programs.proofs.ReportingLemmas.{settled_said}
use Rattle.programs.proofs.TreeRunLemmas.{part_of, ends_alike}
use Rattle.programs.proofs.indexing.index_over.Goals as goal

pub returns-in-Err : goal.returns-in-Err
returns-in-Err g c = not_begun c.in-Err.fault c.in-Err.ensures.stops refl refl c.report_start.ensures

-- the index breaks a limit

pub returns-in-Some : goal.returns-in-Some
returns-in-Some g c =
    let run = c.args.run.now in
    let asked = c.args.request.now in
    let sink = g.P.Part.Sink in
    let there = place g.P.OutPlace sink c.args.places.now.file c.finish-done.new.out in
    let report = place g.Q.OutPlace g.Q.Part.Sink c.args.places.now.report c.report_run-reported.new.at in
    let messages = writing g.M.Sink c.args.messages.now c.end-status.new.messages in
    let unread = run.unread.items in
    let allows = IsChosenBy (option_map (λ f. string_bytes f.promise.0) run.choices.filter)
    (option_map (λ r. r.promise.0) run.choices.rule) in
    let recorded : KeptIndex → Recorded = λ index. recorded_of index.built.choices index.built.told in
    let ran = c.index_and_tell-ran.result in
    let reported = c.report_run-reported.result in
    let whole = c.index_and_tell-ran.new.out in
    let runs : _ → _ → Result Recorded Fault → Type 0 = λ begun written ended.
    Indexes allows run.settings run.tree run.workers (writing sink begun written) ended in
    let told : Result Recorded Fault → Result (Unit {0}) Fault → Type 0 = λ ended.
    Reports report asked.options.report asked.limits allows run.settings run.workers run.tree unread (told_by ended) in
    let By : ℕ → Type 0 = λ workers. MatchResult ran
    (λ kept. Indexes allows run.settings run.tree workers (writing sink c.in-Ok.part whole) (Ok (recorded kept)))
    (λ fault. Indexes allows run.settings run.tree workers (writing sink c.in-Ok.part whole) (Err fault)) in
    let made = forgoes there whole recorded runs told c.in-Ok.part c.in-Ok.ensures.begun
    (λ r broken. Breaks asked.limits run.tree unread r.told broken) c.in-Some.fault ran reported c.finish-done.result
    (subst By c.over-work.ensures c.index_and_tell-ran.ensures.indexed)
    (reported_by recorded ran _ _ (λ told_is. Reports report asked.options.report asked.limits
    allows run.settings run.workers run.tree unread told_is reported) c.told_in.ensures c.fault_in.ensures
    c.report_run-reported.ensures)
    (rw (c.settle-done.ensures, c.in-Some.is) at c.broken_limit-broken.ensures.made)
    (rw (c.settle-done.ensures, c.in-Some.is) at c.broken_limit-broken.ensures.unmade)
    (rw (c.settle-done.ensures, c.in-Some.is) at c.finish-done.ensures) in
    let Ended : Option Dialect → Result KeptIndex Fault → Type 0 = λ dialect done.
    Ends SaysOfSuccess (λ line. line ≡ option_map string_bytes run.none_found) dialect
    asked.options.is_real run.tree unread
    (λ kept. kept.built.told) done messages c.end-status.result in
    let lacks = made.0.built.told in
    let apart = c.in-Ok.ensures.apart in
    too_poor (recorded made.0) c.in-Some.fault (record { index = apart.index; reported = apart.reported; two = apart.two }) made.2 made.3 (
      c.end-status.new.messages,
      is_success (λ line. line ≡ option_map string_bytes run.none_found)
          (explain_in asked.options.explain run.settings.dialect) asked.options.is_real run.tree messages
          c.end-status.result unread lacks
          (subst (λ dialect. Ended dialect (Ok made.0)) c.explain_in.ensures
          (subst (Ended c.explain_in.result) made.1 c.end-status.ensures)),
      c.report_limit.ensures,
    )

-- it breaks none, or there is none

pub returns-in-None : goal.returns-in-None
returns-in-None g c =
    let run = c.args.run.now in
    let asked = c.args.request.now in
    let sink = g.P.Part.Sink in
    let there = place g.P.OutPlace sink c.args.places.now.file c.finish-done.new.out in
    let report = place g.Q.OutPlace g.Q.Part.Sink c.args.places.now.report c.report_run-reported.new.at in
    let messages = writing g.M.Sink c.args.messages.now c.end-status.new.messages in
    let unread = run.unread.items in
    let allows = IsChosenBy (option_map (λ f. string_bytes f.promise.0) run.choices.filter)
    (option_map (λ r. r.promise.0) run.choices.rule) in
    let recorded : KeptIndex → Recorded = λ index. recorded_of index.built.choices index.built.told in
    let ran = c.index_and_tell-ran.result in
    let reported = c.report_run-reported.result in
    let whole = c.index_and_tell-ran.new.out in
    let runs : _ → _ → Result Recorded Fault → Type 0 = λ begun written ended.
    Indexes allows run.settings run.tree run.workers (writing sink begun written) ended in
    let told : Result Recorded Fault → Result (Unit {0}) Fault → Type 0 = λ ended.
    Reports report asked.options.report asked.limits allows run.settings run.workers run.tree unread (told_by ended) in
    let By : ℕ → Type 0 = λ workers. MatchResult ran
    (λ kept. Indexes allows run.settings run.tree workers (writing sink c.in-Ok.part whole) (Ok (recorded kept)))
    (λ fault. Indexes allows run.settings run.tree workers (writing sink c.in-Ok.part whole) (Err fault)) in
    let done = c.finish-done.result in
    let Ended : Option Dialect → Type 0 = λ dialect.
    Ends SaysOfSuccess (λ line. line ≡ option_map string_bytes run.none_found) dialect
    asked.options.is_real run.tree unread (λ r. r.told)
    (part_of recorded done) messages c.end-status.result in
    let apart = c.in-Ok.ensures.apart in
    into_part (part_of recorded done) (record { index = apart.index; reported = apart.reported; two = apart.two })
    (fills there whole recorded runs told c.in-Ok.part c.in-Ok.ensures.begun
    (λ r. Breaks asked.limits run.tree unread r.told None) ran reported done
    (subst By c.over-work.ensures c.index_and_tell-ran.ensures.indexed)
    (reported_by recorded ran _ _ (λ told_is. Reports report asked.options.report asked.limits
    allows run.settings run.workers run.tree unread told_is reported) c.told_in.ensures c.fault_in.ensures
    c.report_run-reported.ensures)
    (rw (c.settle-done.ensures, c.in-None.is) at c.broken_limit-broken.ensures.made)
    (rw (c.settle-done.ensures, c.in-None.is) at c.finish-done.ensures))
    (subst Ended c.explain_in.ensures
    (ends_alike recorded (λ r. r.told) SaysOfSuccess (λ line. line ≡ option_map string_bytes run.none_found)
    c.explain_in.result asked.options.is_real run.tree unread done messages c.end-status.result c.end-status.ensures))

-- each fault names files of the tree

pub end-status-requires-clause-files : goal.end-status-requires-clause-files
end-status-requires-clause-files g c =
    let run = c.args.run.now in
    let there = place g.P.OutPlace g.P.Part.Sink c.args.places.now.file c.finish-done.new.out in
    let report = place g.Q.OutPlace g.Q.Part.Sink c.args.places.now.report c.report_run-reported.new.at in
    let unread = run.unread.items in
    let allows = IsChosenBy (option_map (λ f. string_bytes f.promise.0) run.choices.filter)
    (option_map (λ r. r.promise.0) run.choices.rule) in
    let reported = c.report_run-reported.result in
    finished_files there c.index_and_tell-ran.new.out run.tree c.settle-done.result c.broken_limit-broken.result
    c.finish-done.result c.finish-done.ensures
    (subst (λ (r : Result KeptIndex Fault). IfErr r (HasFilesOf run.tree)) (sym c.settle-done.ensures)
    (settled_files run.tree c.index_and_tell-ran.result reported c.index_and_tell-ran.ensures.files
    (reported_files report c.args.request.now.options.report c.args.request.now.limits allows run.settings
    run.workers run.tree unread (ran_of c.told_in.result.now c.fault_in.result) reported c.report_run-reported.ensures)))

-- and what is said at the end is the text of what was made

pub end-status-requires-clause-said : goal.end-status-requires-clause-said
end-status-requires-clause-said g c =
    let run = c.args.run.now in
    let there = place g.P.OutPlace g.P.Part.Sink c.args.places.now.file c.finish-done.new.out in
    let ran = c.index_and_tell-ran.result in
    let SaysWith : List _ → KeptIndex → Type 0 = λ unread kept.
    IsWholeTextIfAny c.explain_in.result c.args.request.now.options.is_real run.tree unread
    kept.built.told (option_map string_bytes kept.text) in
    let Says : KeptIndex → Type 0 = SaysWith run.unread.items in
    let Said : List _ → Type 0 = λ unread. IfOk ran (SaysWith unread) in
    let Settled : Result KeptIndex Fault → Type 0 = λ r. IfOk r Says in
    finished_said there c.index_and_tell-ran.new.out Says c.settle-done.result c.broken_limit-broken.result
    c.finish-done.result c.finish-done.ensures
    (subst Settled (sym c.settle-done.ensures)
    (settled_said Says ran c.report_run-reported.result
    (subst Said c.as_slice.ensures.value c.index_and_tell-ran.ensures.said)))
