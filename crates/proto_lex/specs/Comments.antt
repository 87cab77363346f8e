use Rattle.std.specs.Prelude.{◌≡◌, ℕ, Bool, true, false, ◌&&◌, not, List, [], ◌∷◌, nat_eq}
use Rattle.std.specs.List.{list_all}
use Rattle.proto_lex.specs.Bytes.{starts}
use Rattle.proto_lex.specs.declared.token.CommentKind.{CommentKind}
use Rattle.proto_lex.specs.declared.token.CommentKind.TheVariants.{Line, Block}
use Rattle.proto_lex.specs.Ascii as ascii

-- Comments (proto3 language guide, Adding Comments).

-- whether these bytes begin with `*/`
abbrev pub begins_close : List ℕ → Bool
begins_close [] = false
begins_close (b ∷ others) = nat_eq b ascii.star && starts (nat_eq ascii.slash) others

-- what is after the `/*` of a block comment: it ends with its first `*/`
pub data EndsBlock : List ℕ → Type 0 where
  close : EndsBlock (ascii.star ∷ (ascii.slash ∷ []))
  inside : {b : ℕ} {others : List ℕ} → begins_close (b ∷ others) ≡ false → EndsBlock others → EndsBlock (b ∷ others)

-- the comment of this kind, before the rest of the text
pub data IsComment : CommentKind → (comment rest : List ℕ) → Type 0 where
  -- `//`, and all that follows up to the next \n or the end
  line : {inside rest : List ℕ} → list_all (λ b. not (nat_eq b ascii.line_feed)) inside ≡ true
      → starts (λ b. not (nat_eq b ascii.line_feed)) rest ≡ false
      → IsComment Line (ascii.slash ∷ (ascii.slash ∷ inside)) rest
  -- `/*`, and all that follows up to and with the next `*/`; a `/*` in it is plain text (the profile's)
  block : {inside rest : List ℕ} → EndsBlock inside → IsComment Block (ascii.slash ∷ (ascii.star ∷ inside)) rest
