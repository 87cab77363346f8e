use Rattle.std.proofs.Common.{◌∙◌, ap, sym, None, string_bytes}
use Rattle.source_files.proofs.WellKnownLemmas.{found_first, not_first, nowhere_left}
use Rattle.source_files.proofs.well_known.first_known.Goals as goal

pub returns-then-branch : goal.returns-then-branch
returns-then-branch g c =
    c.loop-rest.invariant _
    (found_first (g.F.FindFiles.finds c.args.files.now) string_bytes c.loop-rest.rest.now _ c.as_str.result.now
    (string_bytes c.in_ok-from_str.field-0) c.in_ok-has.field-0 c.in-len1-up.len_at_least
    (c.as_str.ensures.value ∙ ap string_bytes c.folder-item.is) c.in_ok-has.ensures c.if-branch.true
    (c.in_ok-from_str.ensures.ok ∙ c.as_str-then-branch.ensures.value ∙ sym c.as_str.ensures.value))

pub loop-rest-preserved : goal.loop-rest-preserved
loop-rest-preserved g c = λ found is.
    c.loop-rest.invariant found
    (not_first (g.F.FindFiles.finds c.args.files.now) string_bytes c.loop-rest.rest.now _ c.as_str.result.now
    c.in_ok-has.field-0 found c.in-len1-up.len_at_least (c.as_str.ensures.value ∙ ap string_bytes c.folder-item.is)
    c.in_ok-has.ensures c.if-branch.false is)

pub returns : goal.returns
returns g c =
    c.loop-rest.invariant None
    (nowhere_left (g.F.FindFiles.finds c.args.files.now) string_bytes c.loop-rest.rest.now c.in_default.len_below)
