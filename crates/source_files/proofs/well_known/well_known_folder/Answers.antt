use Rattle.std.proofs.Common.{◌∙◌, List, ℕ, ap, map, string_bytes}
use Rattle.std.specs.Borrow.{Bor}
use Rattle.std.specs.Option.{option_map}
use Rattle.source_files.proofs.WellKnownLemmas.{known_among, two_more}
use Rattle.source_files.proofs.well_known.well_known_folder.Goals as goal

pub returns : goal.returns
returns g c =
    let path = option_map (λ (p : Bor (List ℕ)). p.now) c.args.path in
    known_among (g.F.FindFiles.finds c.args.files.now) string_bytes path (map string_bytes c.in_ok-folders.folders.items)
    (map string_bytes c.deref.result.now) c.first_known.result c.in_ok-folders.ensures
    (ap (map string_bytes) c.deref.ensures.value
    ∙ two_more string_bytes c.in_ok-folders.folders.items c.push.new.self.items c.push-2.new.self.items
    c.in_ok-from_str.field-0 c.in_ok-from_str-2.field-0 _ _ c.in_ok-push.ensures.items c.in_ok-push-2.ensures.items
    c.in_ok-from_str.ensures.ok c.in_ok-from_str-2.ensures.ok)
    c.first_known.ensures
