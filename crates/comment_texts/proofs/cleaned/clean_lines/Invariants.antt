use Rattle.std.proofs.Common.{◌≡◌, map, take}
use Rattle.std.specs.List.{flat_map}
use Rattle.comment_texts.specs.Lines.{without_last_blanks}
use Rattle.comment_texts.specs.Cleaned.{Written, written_in, lines_with}
use Rattle.comment_texts.proofs.cleaned.clean_lines.Given as goal

-- the lines of the comments so far
abbrev pub invariant-loop-comment : goal.invariant-loop-comment
invariant-loop-comment l = l.lines.items
    ≡ flat_map (λ (c : Written). map without_last_blanks (lines_with l.shared c.kind c.between))
    (map (written_in l.text) (take l.comment-index l.comments))
