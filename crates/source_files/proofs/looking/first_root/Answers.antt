use Rattle.std.proofs.Common.{◌∙◌, ap, map, string_bytes}
use Rattle.source_files.proofs.LookLemmas.{found_at, goes_on}
use Rattle.source_files.proofs.looking.first_root.Goals as goal

pub returns-then-branch : goal.returns-then-branch
returns-then-branch g c =
    let item = ap string_bytes c.root-item.is in
    found_at (g.F.ReadFiles.finds c.args.files.now) c.args.path.now string_bytes (map string_bytes c.args.roots.now)
    c.loop-rest.rest.now _ _ _ c.in_ok-is_below.field-0 c.loop-rest.number c.in-len1-up.len_at_least
    (c.as_str.ensures.value ∙ item) c.in_ok-is_below.ensures c.if-branch.true
    (c.as_str-then-branch.ensures.value ∙ item) c.loop-rest.invariant

pub loop-rest-preserved : goal.loop-rest-preserved
loop-rest-preserved g c =
    goes_on (g.F.ReadFiles.finds c.args.files.now) c.args.path.now string_bytes (map string_bytes c.args.roots.now)
    c.loop-rest.rest.now _ _ c.in_ok-is_below.field-0 c.loop-rest.number c.in-len1-up.len_at_least
    (c.as_str.ensures.value ∙ ap string_bytes c.root-item.is) c.in_ok-is_below.ensures c.if-branch.false
    c.loop-rest.invariant
