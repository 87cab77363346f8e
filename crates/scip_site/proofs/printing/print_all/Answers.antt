use Rattle.std.proofs.Common.{◌≡◌, ◌∙◌, ◌<◌, ◌≤◌, ℕ, ap, sym, subst, List, get_or, length, arith}
use Rattle.std.proofs.lemmas.Result.{err_from_is_err_and}
use Rattle.streams.specs.Writers.{IsWritten, writing}
use Rattle.streams.proofs.WholeWriteLemmas.{IsWritten-nil}
use Rattle.scip_records.specs.declared.records.Document.{Document}
use Rattle.scip_site.specs.Snapshots.{printed}
use Rattle.scip_site.specs.Showing.{ArePrinted, AreCutOff}
use Rattle.scip_site.proofs.SnapshotShowLemmas.{printed_more, cut_off_more, none_yet, goes_on, stops, all_are}
use Rattle.scip_site.proofs.printing.print_all.Goals as goal

pub loop-number-init : goal.loop-number-init
loop-number-init g c =
    none_yet g.M.Sink (g.F.ReadFiles.gives c.args.files.now) c.args.root.now
    c.args.queries.now c.args.messages.now
    (ArePrinted (writing g.W.Sink c.args.out.now c.args.out.now))
    (IsWritten-nil g.W.Sink c.args.out.now)

pub loop-number-preserved : goal.loop-number-preserved
loop-number-preserved g c =
    let sink = g.W.Sink in
    let first = c.args.out.now in
    let now = c.loop-number.out in
    let after = c.print_one.new.out in
    let before = c.loop-number.invariant in
    let n : ℕ = c.loop-number.number in
    let document : Document = c.document-item.result in
    let path : c.as_str.result.now ≡ (get_or c.args.queries.now.documents n document).relative_path =
    subst (λ (ds : List Document). c.as_str.result.now ≡ (get_or ds n document).relative_path)
    c.documents-document-items.ensures
    (c.as_str.ensures ∙ ap (λ (d : Document). d.relative_path) c.document-item.is) in
    goes_on g.M.Sink (g.F.ReadFiles.gives c.args.files.now) c.args.root.now
    c.args.queries.now c.args.messages.now c.loop-number.messages c.print_one.new.messages n document
    c.as_str.result.now
    (subst (λ (ds : List Document). n < length ds) c.documents-document-items.ensures c.loop-number-test.true) path
    (ArePrinted (writing sink first now)) before
    (ArePrinted (writing sink first after)) (AreCutOff (writing sink first after))
    (ArePrinted (writing sink now after)) (AreCutOff (writing sink now after))
    (after ≡ now)
    (λ item one. printed_more sink first now after before.shown item before.gone one)
    (λ item one. cut_off_more sink first now after before.shown item before.gone one)
    (λ same. subst (λ o. IsWritten (writing sink first o) (printed before.shown)) (sym same) before.gone)
    c.in_ok-print_one.ensures

pub returns-in_err-print_one : goal.returns-in_err-print_one
returns-in_err-print_one g c =
    let p = err_from_is_err_and c.from_residual.result c.from_residual.ensures.1 in
    let sink = g.W.Sink in
    let first = c.args.out.now in
    let now = c.loop-number.out in
    let after = c.print_one.new.out in
    let before = c.loop-number.invariant in
    let n : ℕ = c.loop-number.number in
    let document : Document = c.document-item.result in
    let path : c.as_str.result.now ≡ (get_or c.args.queries.now.documents n document).relative_path =
    subst (λ (ds : List Document). c.as_str.result.now ≡ (get_or ds n document).relative_path)
    c.documents-document-items.ensures
    (c.as_str.ensures ∙ ap (λ (d : Document). d.relative_path) c.document-item.is) in
    rw (p.1, p.2) (stops g.M.Sink (g.F.ReadFiles.gives c.args.files.now)
    c.args.root.now
    c.args.queries.now c.args.messages.now c.loop-number.messages c.print_one.new.messages n document
    c.as_str.result.now
    (subst (λ (ds : List Document). n < length ds) c.documents-document-items.ensures c.loop-number-test.true) path
    (ArePrinted (writing sink first now)) before
    (ArePrinted (writing sink first after)) (AreCutOff (writing sink first after))
    (ArePrinted (writing sink now after)) (AreCutOff (writing sink now after))
    (after ≡ now)
    (λ item one. printed_more sink first now after before.shown item before.gone one)
    (λ item one. cut_off_more sink first now after before.shown item before.gone one)
    (λ same. subst (λ o. IsWritten (writing sink first o) (printed before.shown)) (sym same) before.gone)
    c.in_err-print_one.field-0.0 c.in_err-print_one.ensures)

pub returns : goal.returns
returns g c =
    let past : length c.documents-document-items.result.now ≤ c.loop-number.number =
    omega (arith, c.loop-number-test.false) in
    all_are g.M.Sink (g.F.ReadFiles.gives c.args.files.now) c.args.root.now
    c.args.queries.now c.args.messages.now c.loop-number.messages c.loop-number.number
    (subst (λ (ds : List Document). length ds ≤ c.loop-number.number) c.documents-document-items.ensures past)
    (ArePrinted (writing g.W.Sink c.args.out.now c.loop-number.out)) c.loop-number.invariant
