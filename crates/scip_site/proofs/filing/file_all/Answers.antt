use Rattle.std.proofs.Common.{◌≡◌, ◌∙◌, ◌<◌, ◌≤◌, ℕ, ap, subst, List, [], get_or, length, arith}
use Rattle.std.proofs.lemmas.Result.{err_from_is_err_and}
use Rattle.source_files.specs.Makers.{making}
use Rattle.scip_records.specs.declared.records.Document.{Document}
use Rattle.scip_site.specs.Showing.{AreFiled, AreFiledButOne}
use Rattle.scip_site.proofs.SnapshotShowLemmas.{makes_none, filed_more, filed_still, filed_but_one}
use Rattle.scip_site.proofs.SnapshotShowLemmas.{none_yet, goes_on, stops, all_are}
use Rattle.scip_site.proofs.filing.file_all.Goals as goal

pub loop-number-init : goal.loop-number-init
loop-number-init g c =
    none_yet g.M.Sink (g.F.ReadFiles.gives c.args.files.now) c.args.folders.now.root.now
    c.args.queries.now c.args.messages.now
    (AreFiled (making g.O.MakeFiles c.args.made.now c.args.made.now) c.args.folders.now.to.now)
    (makes_none (g.O.MakeFiles.made c.args.made.now))

pub loop-number-preserved : goal.loop-number-preserved
loop-number-preserved g c =
    let files = g.O.MakeFiles in
    let folder = c.args.folders.now.to.now in
    let first = c.args.made.now in
    let now = c.loop-number.made in
    let after = c.file_one.new.made in
    let before = c.loop-number.invariant in
    let n : ℕ = c.loop-number.number in
    let document : Document = c.document-item.result in
    let path : c.as_str.result.now ≡ (get_or c.args.queries.now.documents n document).relative_path =
    subst (λ (ds : List Document). c.as_str.result.now ≡ (get_or ds n document).relative_path)
    c.documents-document-items.ensures
    (c.as_str.ensures ∙ ap (λ (d : Document). d.relative_path) c.document-item.is) in
    goes_on g.M.Sink (g.F.ReadFiles.gives c.args.files.now) c.args.folders.now.root.now
    c.args.queries.now c.args.messages.now c.loop-number.messages c.file_one.new.messages n document c.as_str.result.now
    (subst (λ (ds : List Document). n < length ds) c.documents-document-items.ensures c.loop-number-test.true) path
    (AreFiled (making files first now) folder) before
    (AreFiled (making files first after) folder) (AreFiledButOne (making files first after) folder)
    (AreFiled (making files now after) folder) (AreFiledButOne (making files now after) folder)
    (AreFiled (making files now after) folder [])
    (λ item one. filed_more files folder first now after before.shown item before.gone one)
    (λ item one. filed_but_one files folder first now after before.shown item before.gone one)
    (λ none. filed_still files folder first now after before.shown before.gone none)
    c.in_ok-file_one.ensures

pub returns-in_err-file_one : goal.returns-in_err-file_one
returns-in_err-file_one g c =
    let p = err_from_is_err_and c.from_residual.result c.from_residual.ensures.1 in
    let files = g.O.MakeFiles in
    let folder = c.args.folders.now.to.now in
    let first = c.args.made.now in
    let now = c.loop-number.made in
    let after = c.file_one.new.made in
    let before = c.loop-number.invariant in
    let n : ℕ = c.loop-number.number in
    let document : Document = c.document-item.result in
    let path : c.as_str.result.now ≡ (get_or c.args.queries.now.documents n document).relative_path =
    subst (λ (ds : List Document). c.as_str.result.now ≡ (get_or ds n document).relative_path)
    c.documents-document-items.ensures
    (c.as_str.ensures ∙ ap (λ (d : Document). d.relative_path) c.document-item.is) in
    rw (p.1, p.2) (stops g.M.Sink (g.F.ReadFiles.gives c.args.files.now)
    c.args.folders.now.root.now
    c.args.queries.now c.args.messages.now c.loop-number.messages c.file_one.new.messages n document c.as_str.result.now
    (subst (λ (ds : List Document). n < length ds) c.documents-document-items.ensures c.loop-number-test.true) path
    (AreFiled (making files first now) folder) before
    (AreFiled (making files first after) folder) (AreFiledButOne (making files first after) folder)
    (AreFiled (making files now after) folder) (AreFiledButOne (making files now after) folder)
    (AreFiled (making files now after) folder [])
    (λ item one. filed_more files folder first now after before.shown item before.gone one)
    (λ item one. filed_but_one files folder first now after before.shown item before.gone one)
    (λ none. filed_still files folder first now after before.shown before.gone none)
    c.in_err-file_one.field-0.0 c.in_err-file_one.ensures)

pub returns : goal.returns
returns g c =
    let past : length c.documents-document-items.result.now ≤ c.loop-number.number =
    omega (arith, c.loop-number-test.false) in
    all_are g.M.Sink (g.F.ReadFiles.gives c.args.files.now) c.args.folders.now.root.now
    c.args.queries.now c.args.messages.now c.loop-number.messages c.loop-number.number
    (subst (λ (ds : List Document). length ds ≤ c.loop-number.number) c.documents-document-items.ensures past)
    (AreFiled (making g.O.MakeFiles c.args.made.now c.loop-number.made) c.args.folders.now.to.now)
    c.loop-number.invariant
