use Rattle.std.proofs.Common.{◌≡◌, ◌<◌, Some, length, get_or, refl, ap, sym, ◌∙◌, arith}
use Rattle.std.specs.List.{slice_get}
use Rattle.std.proofs.lemmas.Option.{slice_get_read}
use Rattle.proto_visibility.specs.Tables.ImportTables.{is_other, is_other_at}
use Rattle.proto_visibility.proofs.SeeingReachableLemmas.{filter_skip, filter_next}
use Rattle.proto_visibility.proofs.omissions.others_among.Goals as goal

pub loop-number-preserved-then-not-is_other : goal.loop-number-preserved-then-not-is_other
loop-number-preserved-then-not-is_other c =
    let files = c.args.files.now in
    let numbers = c.args.numbers.now in
    let index = c.loop-number.number-index in
    let file = c.index-files-number.result in
    let within : get_or numbers index 0 < length files = c.requires index 0 (omega arith) in
    let stands : slice_get files (get_or numbers index 0) ≡ Some file =
    slice_get_read files (length files) (get_or numbers index 0) file refl within c.index-files-number.is in
    filter_skip (is_other_at files) numbers index c.loop-number.others.items (omega arith)
    (ap is_other stands ∙ (sym c.is_other.ensures ∙ c.if-not-is_other.true)) c.loop-number.invariant

pub loop-number-preserved : goal.loop-number-preserved
loop-number-preserved c =
    let files = c.args.files.now in
    let numbers = c.args.numbers.now in
    let index = c.loop-number.number-index in
    let file = c.index-files-number.result in
    let within : get_or numbers index 0 < length files = c.requires index 0 (omega arith) in
    let stands : slice_get files (get_or numbers index 0) ≡ Some file =
    slice_get_read files (length files) (get_or numbers index 0) file refl within c.index-files-number.is in
    filter_next (is_other_at files) numbers index c.loop-number.others.items c.push.new.self.items (omega arith)
    (ap is_other stands ∙ (sym c.is_other.ensures ∙ c.if-not-is_other.false)) c.loop-number.invariant
    c.in_ok-push.ensures.items
