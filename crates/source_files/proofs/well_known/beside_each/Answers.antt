use Rattle.std.proofs.Common.{List, ℕ, map, string_bytes}
use Rattle.std.specs.Borrow.{Bor}
use Rattle.source_files.specs.WellKnown.{folder_named}
use Rattle.source_files.proofs.WellKnownLemmas.{next_beside, done_beside}
use Rattle.source_files.proofs.well_known.beside_each.Goals as goal

pub loop-rest-preserved : goal.loop-rest-preserved
loop-rest-preserved g c =
    let f : Bor (List ℕ) → List ℕ = λ name. folder_named name.now in
    next_beside (g.F.FindFiles.finds c.args.files.now) f (map f c.args.names.now) c.loop-rest.rest.now _
    c.folder_named.result.now (map string_bytes c.loop-rest.beside.items)
    (map string_bytes c.add_beside.new.beside.items) c.in-len1-up.len_at_least c.folder_named.ensures
    c.loop-rest.invariant c.in_ok-add_beside.ensures

pub returns : goal.returns
returns g c =
    let f : Bor (List ℕ) → List ℕ = λ name. folder_named name.now in
    done_beside (g.F.FindFiles.finds c.args.files.now) f (map f c.args.names.now) c.loop-rest.rest.now
    (map string_bytes c.loop-rest.beside.items) c.in_default.len_below c.loop-rest.invariant
