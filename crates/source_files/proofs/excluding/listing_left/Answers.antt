use Rattle.std.proofs.Common.{map, string_bytes, refl}
use Rattle.source_files.specs.Unread.{Unread, unread_of}
use Rattle.source_files.specs.Exclusions.{some}
use Rattle.source_files.proofs.ExclusionLemmas.{names_stay}
use Rattle.source_files.proofs.excluding.listing_left.Goals as goal

pub returns : goal.returns
returns c =
    some c.in_ok-entries.ensures
    (names_stay unread_of (λ (named : Unread). named.shown) (map string_bytes c.args.patterns.now) c.args.folder.now c.in_ok-unnamed.ensures) refl
