use Rattle.std.proofs.Common.{◌≡◌, Some, length, refl, ap, sym, ◌∙◌}
use Rattle.std.specs.List.{slice_get}
use Rattle.std.proofs.lemmas.Option.{same_Some, slice_get_read}
use Rattle.proto_visibility.specs.Files.{File}
use Rattle.proto_visibility.proofs.files.unless_left_out.Goals as goal

pub returns-then-is_left_out : goal.returns-then-is_left_out
returns-then-is_left_out c = λ file at.
    let files = c.args.files.now in
    let its = c.index-files-number.result in
    let stands : slice_get files c.args.number ≡ Some its =
    slice_get_read files (length files) c.args.number its refl c.requires c.index-files-number.is in
    ap (λ (f : File). f.is_left_out) (same_Some file its (sym at ∙ stands))
    ∙ (sym c.is_left_out.ensures ∙ c.if-is_left_out.true)

pub returns-else-is_left_out : goal.returns-else-is_left_out
returns-else-is_left_out c =
    let files = c.args.files.now in
    let its = c.index-files-number.result in
    let stands : slice_get files c.args.number ≡ Some its =
    slice_get_read files (length files) c.args.number its refl c.requires c.index-files-number.is in (
      refl,
      record { file = its; numbered = stands; present = sym c.is_left_out.ensures ∙ c.if-is_left_out.false },
    )
