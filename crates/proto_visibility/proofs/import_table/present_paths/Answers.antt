use Rattle.std.proofs.Common.{◌≡◌, ◌<◌, Some, length, cond, refl, ap, sym, ◌∙◌, subst, arith}
use Rattle.std.specs.List.{slice_get}
use Rattle.std.specs.Str.{bytes_eq}
use Rattle.std.proofs.lemmas.Option.{slice_get_read}
use Rattle.std.proofs.lemmas.Map.Text.{hash_map_updates_str}
use Rattle.proto_visibility.specs.Files.{File}
use Rattle.proto_visibility.specs.Tables.ImportTables.{number_in}
use Rattle.proto_visibility.proofs.ImportTableLemmas.{paths_skip, paths_more, paths_all}
use Rattle.proto_visibility.proofs.import_table.present_paths.Goals as goal

pub loop-number-preserved-then-is_left_out : goal.loop-number-preserved-then-is_left_out
loop-number-preserved-then-is_left_out c =
    let files = c.args.files.now in
    let file = c.index-files-number.result in
    let number = c.loop-number.number in
    let within : number < length files = omega arith in
    let stands : slice_get files number ≡ Some file =
    slice_get_read files (length files) number file refl within c.index-files-number.is in
    paths_skip files c.loop-number.paths number file stands (sym c.is_left_out.ensures ∙ c.if-is_left_out.true)
    c.loop-number.invariant

pub loop-number-preserved : goal.loop-number-preserved
loop-number-preserved c =
    let files = c.args.files.now in
    let file = c.index-files-number.result in
    let number = c.loop-number.number in
    let old = c.loop-number.paths in
    let new = c.insert.new.self in
    let within : number < length files = omega arith in
    let stands : slice_get files number ≡ Some file =
    slice_get_read files (length files) number file refl within c.index-files-number.is in
    let path = ap (λ (f : File). f.path) c.file.view_is in
    paths_more files old new number file c.requires stands (sym c.is_left_out.ensures ∙ c.if-is_left_out.false)
    (λ q. subst (λ p. number_in new q ≡ cond (bytes_eq p q) (Some number) (number_in old q)) path
    (hash_map_updates_str c.file.inside.path.now old new (Some number) c.in_ok-insert.ensures.updates q))
    c.loop-number.invariant

pub returns : goal.returns
returns c = paths_all c.args.files.now c.loop-number.paths c.loop-number.number (omega arith) c.loop-number.invariant
