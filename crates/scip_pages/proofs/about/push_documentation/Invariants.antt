use Rattle.std.proofs.Common.{◌≡◌, ◌++◌, take}
use Rattle.std.specs.List.{flat_map}
use Rattle.scip_pages.specs.Snapshot.{documentation_note}
use Rattle.scip_pages.proofs.about.push_documentation.Given as goal

-- the texts so far
abbrev pub invariant-loop-documentation : goal.invariant-loop-documentation
invariant-loop-documentation l =
    l.text.items ≡ l.fn.text.items ++ flat_map (documentation_note l.before) (take l.documentation-index l.texts)
