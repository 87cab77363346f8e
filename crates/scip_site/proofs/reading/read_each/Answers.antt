use Rattle.std.proofs.Common.{◌≡◌, ◌∙◌, ◌<◌, ℕ, ap, subst, refl, List, [], length, Some, Bool, false}
use Rattle.std.proofs.Common.{arith}
use Rattle.std.specs.List.{slice_get}
use Rattle.std.specs.Option.{unwrap_or}
use Rattle.std.proofs.lemmas.Option.{slice_get_read}
use Rattle.std.proofs.lemmas.Result.{err_from_is_err_and}
use Rattle.streams.specs.Writers.{silent, writing}
use Rattle.scip_records.specs.declared.records.Document.{Document}
use Rattle.scip_site.specs.Reading.{AreKept, none}
use Rattle.scip_site.proofs.ReadingLemmas.{none_kept, kept_more, keeps_no_more, flag_is}
use Rattle.scip_site.proofs.reading.read_each.Goals as goal

pub loop-number-init : goal.loop-number-init
loop-number-init g c =
    none_kept g.M.Sink (g.F.ReadFiles.gives c.args.files.now) c.args.root.now
    c.args.documents.now c.args.messages.now c.args.sources.now.items c.requires

pub loop-number-preserved : goal.loop-number-preserved
loop-number-preserved g c =
    let documents : List Document = c.args.documents.now in
    let number : ℕ = c.loop-number.number in
    let document : Document = c.index-documents-number.result in
    let within : number < length documents = omega arith in
    let stands : slice_get documents number ≡ Some document =
    slice_get_read documents (length documents) number document refl within c.index-documents-number.is in
    kept_more g.M.Sink (g.F.ReadFiles.gives c.args.files.now) c.args.root.now
    documents c.args.messages.now c.loop-number.messages c.read_one.new.messages number document c.is_set.result
    c.loop-number.sources.items c.read_one.new.sources.items c.loop-number.invariant stands
    (c.is_set.ensures ∙ ap (λ (l : List Bool). unwrap_or (slice_get l number) false) c.deref.ensures.value
    ∙ flag_is documents c.in_ok-repeats.repeats.items number within c.in_ok-repeats.ensures)
    c.in_ok-read_one.ensures

pub returns-in_err-read_one : goal.returns-in_err-read_one
returns-in_err-read_one g c =
    let r = c.from_residual-in_err-read_one in
    let p = err_from_is_err_and r.result r.ensures.1 in
    let document : Document = c.index-documents-number.result in
    rw (p.1, p.2) (keeps_no_more g.M.Sink (g.F.ReadFiles.gives c.args.files.now)
    c.args.root.now c.args.documents.now c.args.messages.now c.loop-number.messages c.read_one.new.messages
    c.loop-number.number document c.is_set.result c.loop-number.sources.items c.read_one.new.sources.items
    c.loop-number.invariant c.read_one.new.sources.items c.in_err-read_one.field-0.0 c.in_err-read_one.ensures)

pub returns-in_err-repeats : goal.returns-in_err-repeats
returns-in_err-repeats g c =
    let p = err_from_is_err_and c.from_residual.result c.from_residual.ensures.1 in
    rw (p.1, p.2) record { reads = []; are = none; told_are = silent }

pub returns : goal.returns
returns g c =
    let all : c.loop-number.number ≡ length c.args.documents.now = omega arith in
    subst (λ (n : ℕ). AreKept (g.F.ReadFiles.gives c.args.files.now) c.args.root.now c.args.documents.now n
    c.loop-number.sources.items
    (writing g.M.Sink c.args.messages.now c.loop-number.messages)) all c.loop-number.invariant
