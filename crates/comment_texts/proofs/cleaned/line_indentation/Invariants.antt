use Rattle.std.proofs.Common.{◌≡◌, None, map, drop}
use Rattle.std.specs.List.{flat_map, fold}
use Rattle.comment_texts.specs.Cleaned.{Written, written_in, own_line}
use Rattle.comment_texts.specs.Steps.{least_with}
use Rattle.comment_texts.proofs.cleaned.line_indentation.Given as goal

-- the least so far, and then that of the rest
abbrev pub invariant-loop-comment : goal.invariant-loop-comment
invariant-loop-comment l =
    fold least_with l.least (flat_map (λ (c : Written). own_line c.kind c.between)
    (map (written_in l.text) (drop l.comment-index l.comments)))
    ≡ fold least_with None (flat_map (λ (c : Written). own_line c.kind c.between) (map (written_in l.text) l.comments))
