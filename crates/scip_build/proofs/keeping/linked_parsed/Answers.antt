use Rattle.std.proofs.Common.{◌≡◌, ◌⊎◌, ◌++◌, inl, inr, List, length, map, ap, sym, ◌∙◌}
use Rattle.std.specs.Vec.Iter.{into_iter_items}
use Rattle.std.specs.Iterator.Adapters.{zip_first, zip_second}
use Rattle.proto_visibility.specs.Kept.{kept_of, left_of}
use Rattle.scip_build.specs.Files.{ReadFile}
use Rattle.scip_build.specs.Keeping.{as_left_out}
use Rattle.scip_build.proofs.KeptTreeLemmas.{kept_end, left_end}
use Rattle.scip_build.proofs.keeping.linked_parsed.Goals as goal

pub returns : goal.returns
returns c =
    let files = into_iter_items (zip_first c.loop-parsed_file.parsed_file-iterator) in
    let omissions = into_iter_items (zip_second c.loop-parsed_file.parsed_file-iterator) in
    let (_, _, _, first, second, whole, others) = c.loop-parsed_file.invariant in
    let ended : (length files ≡ 0) ⊎ (length omissions ≡ 0) = elim c.in-None.ensures.steps [
      | inl u ↦ inl (sym first ∙ u.1.0)
      | inr u ↦ inr (sym second ∙ u.1.0)
    ] in
    let parsed = c.loop-parsed_file.parsed.items in
    let left = c.loop-parsed_file.left.items in
    let kept = kept_of c.args.omissions.items c.args.all.items in
    let behind = map as_left_out (left_of c.args.omissions.items c.args.all.items) in
    let front = kept_end parsed omissions files kept ended whole in
    let back = left_end left omissions files behind ended others in
    c.in_ok-append.ensures.items
    ∙ (ap (λ (rs : List ReadFile). rs ++ left) front ∙ ap (λ (rs : List ReadFile). kept ++ rs) back)
