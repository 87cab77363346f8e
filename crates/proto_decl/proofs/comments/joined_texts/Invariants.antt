use Rattle.std.proofs.Common.{◌≡◌, ◌∷◌, map, take, string_bytes}
use Rattle.std.specs.List.{join_with_byte}
use Rattle.proto_decl.specs.Comments.{text_of}
use Rattle.proto_decl.proofs.comments.joined_texts.Given as goal

-- the texts so far
abbrev pub invariant-loop-comment : goal.invariant-loop-comment
invariant-loop-comment l =
    string_bytes l.joined ≡ join_with_byte 10 (map (text_of l.lexed) (l.fn.first ∷ take l.comment-index l.others))
