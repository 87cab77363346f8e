use Rattle.std.proofs.Common.{◌≡◌, ◌<◌, [], Some, length, refl, arith}
use Rattle.std.specs.List.{slice_get}
use Rattle.std.proofs.lemmas.Option.{slice_get_read}
use Rattle.proto_visibility.specs.Tables.GivenNames.{owned_at, IsDeclaredBy}
use Rattle.proto_visibility.proofs.NameLemmas.{up_to_more, up_to_all, from_nothing, declared_by, declared_by_within}
use Rattle.proto_visibility.proofs.names.declared_names.Goals as goal

pub loop-number-preserved : goal.loop-number-preserved
loop-number-preserved c =
    let files = c.args.files.now in
    let file = c.index-files-number.result in
    let number = c.loop-number.number in
    let now = owned_at c.loop-number.names in
    let new = owned_at c.add_file.new.names in
    let within : number < length files = omega arith in
    let stands : slice_get files number ≡ Some file =
    slice_get_read files (length files) number file refl within c.index-files-number.is in
    up_to_more (λ name. []) (IsDeclaredBy files) now new number
    (declared_by files number file now new stands c.in_ok-add_file.ensures) c.loop-number.invariant

pub returns : goal.returns
returns c =
    let files = c.args.files.now in
    let now = owned_at c.loop-number.names in
    from_nothing now (IsDeclaredBy files)
    (up_to_all (λ name. []) (IsDeclaredBy files) now c.loop-number.number (length files) (omega arith)
    (declared_by_within files) c.loop-number.invariant)
