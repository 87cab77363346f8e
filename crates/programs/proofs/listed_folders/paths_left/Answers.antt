use Rattle.std.proofs.Common.{◌≡◌, ◌++◌, ◌∷◌, [], List, ℕ, map, string_bytes, subst}
use Rattle.source_files.specs.Exclusions.{PathsStay, no_path_stays}
use Rattle.source_files.specs.SourceLists.{Listed}
use Rattle.programs.proofs.ListedFolderLemmas.{stays_next}
use Rattle.programs.proofs.listed_folders.paths_left.Goals as goal

pub loop-one-init : goal.loop-one-init
loop-one-init c = rw (c.new-paths.ensures.items) no_path_stays

pub loop-one-preserved : goal.loop-one-preserved
loop-one-preserved c =
    let excluded = map string_bytes c.args.excluded.now in
    let old = map string_bytes c.loop-one.paths.items in
    let new = map string_bytes c.add_left.new.paths.items in
    let Adds : List ℕ → Type 0 = λ path. (more : List (List ℕ)) × PathsStay excluded (path ∷ []) more
    × (new ≡ old ++ more) in
    stays_next (λ (named : Listed). named.path) excluded c.args.listed.now c.loop-one.one-index c.one-item.result old
    new
    c.loop-one-test.true c.one-item.is c.loop-one.invariant
    (subst Adds c.path_in.ensures c.in_ok-add_left.ensures)
