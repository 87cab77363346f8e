-- The marks of comments, behind and before which they may be cut.
use Rattle.std.proofs.Common.{◌≡◌, refl, ℕ, suc, ◌-◌, ◌≤◌, List, ◌∷◌, length, get_or}
use Rattle.std.proofs.Common.{arith, IsUtf8, IsCharBoundary}
use Rattle.std.proofs.lemmas.Str.{IsCharBoundary-before_ascii, IsCharBoundary-after_ascii}
use Rattle.proto_lex.specs.Comments.{IsComment, EndsBlock}
use Rattle.proto_lex.specs.Comments.IsComment.{line, block}
use Rattle.proto_lex.specs.Comments.EndsBlock.{close, inside}
use Rattle.proto_lex.specs.declared.token.CommentKind.{CommentKind}
use Rattle.proto_lex.specs.declared.token.CommentKind.TheVariants.{Block}

-- a comment may be cut behind its first mark
pub behind_mark : {k : CommentKind} {spelling rest : List ℕ} → IsComment k spelling rest → IsUtf8 spelling
    → IsCharBoundary spelling 2
behind_mark (line {inside = others} e f) utf8 =
    IsCharBoundary-after_ascii (47 ∷ (47 ∷ others)) 1 utf8 (omega arith) (omega arith)
behind_mark (block {inside = others} e) utf8 =
    IsCharBoundary-after_ascii (47 ∷ (42 ∷ others)) 1 utf8 (omega arith) (omega arith)

-- what stands between a block comment's first mark and its last ends two bytes before its end
record EndsInMark (others : List ℕ) : Type 0 where
  some : 2 ≤ length others
  mark : get_or others (length others - 2) 0 ≡ 42

ends_in_mark : {others : List ℕ} → EndsBlock others → EndsInMark others
ends_in_mark close = record { some = omega arith; mark = refl }
ends_in_mark (inside {b} {others} e ends) =
    let later = ends_in_mark ends in
    let one : length (b ∷ others) - 2 ≡ suc (length others - 2) = omega (arith, later.some) in
    record { some = omega (arith, later.some); mark = rw one later.mark }

-- a block comment may be cut before its last mark, which stands behind the first one
pub before_mark : {k : CommentKind} {spelling rest : List ℕ} → IsComment k spelling rest → k ≡ Block
    → (2 ≤ length spelling - 2) × IsCharBoundary spelling (length spelling - 2)
before_mark (line e f) is = absurd (cc)
before_mark (block {inside = others} e) is =
    let ends = ends_in_mark e in
    let two : length (47 ∷ (42 ∷ others)) - 2 ≡ suc (suc (length others - 2)) = omega (arith, ends.some) in
    let mark : get_or (47 ∷ (42 ∷ others)) (length (47 ∷ (42 ∷ others)) - 2) 0 ≡ 42 = rw two ends.mark in (
      omega (arith, ends.some),
      IsCharBoundary-before_ascii (47 ∷ (42 ∷ others)) (length (47 ∷ (42 ∷ others)) - 2) (omega arith)
          (omega (arith, mark)),
    )
