use Rattle.std.proofs.Common.{◌≡◌, ◌<◌, Some, length, get_or, refl, ap, sym, ◌∙◌, arith, not}
use Rattle.std.specs.List.{slice_get}
use Rattle.std.proofs.lemmas.Option.{slice_get_read}
use Rattle.proto_visibility.specs.Tables.ImportTables.{is_present, is_present_at}
use Rattle.proto_visibility.proofs.SeeingReachableLemmas.{filter_skip, filter_next}
use Rattle.proto_visibility.proofs.seeing.present_among.Goals as goal

pub loop-number-preserved-then-is_left_out : goal.loop-number-preserved-then-is_left_out
loop-number-preserved-then-is_left_out c =
    let files = c.args.files.now in
    let numbers = c.args.numbers.now in
    let index = c.loop-number.number-index in
    let file = c.index-files-number.result in
    let within : get_or numbers index 0 < length files = c.requires index 0 (omega arith) in
    let stands : slice_get files (get_or numbers index 0) ≡ Some file =
    slice_get_read files (length files) (get_or numbers index 0) file refl within c.index-files-number.is in
    filter_skip (is_present_at files) numbers index c.loop-number.present.items (omega arith)
    (ap is_present stands ∙ ap not (sym c.is_left_out.ensures ∙ c.if-is_left_out.true)) c.loop-number.invariant

pub loop-number-preserved : goal.loop-number-preserved
loop-number-preserved c =
    let files = c.args.files.now in
    let numbers = c.args.numbers.now in
    let index = c.loop-number.number-index in
    let file = c.index-files-number.result in
    let within : get_or numbers index 0 < length files = c.requires index 0 (omega arith) in
    let stands : slice_get files (get_or numbers index 0) ≡ Some file =
    slice_get_read files (length files) (get_or numbers index 0) file refl within c.index-files-number.is in
    filter_next (is_present_at files) numbers index c.loop-number.present.items c.push.new.self.items (omega arith)
    (ap is_present stands ∙ ap not (sym c.is_left_out.ensures ∙ c.if-is_left_out.false)) c.loop-number.invariant
    c.in_ok-push.ensures.items
