-- What the definition of what is read of bytes says.
use Rattle.std.specs.Prelude.{◌≡◌, ℕ, ◌<◌, ◌≤◌, List, Contains, IsUtf8, length}
use Rattle.proto_lex.specs.Lexes.{LexesWith}
use Rattle.proto_lex.specs.declared.hashes.Hashes.{Hashes}
use Rattle.proto_lex.specs.declared.token.Token.{Token}
use Rattle.proto_lex.specs.declared.token.Comment.{Comment}
use Rattle.source_tree.specs.Mending.{SameAt, IsMended}

-- an offset in one of these comments
pub record IsInComment (comments : List Comment) (at : ℕ) : Type 0 where
  pub comment : Comment
  pub listed : Contains comments comment
  pub begun : comment.span.start ≤ at
  pub before_end : at < comment.span.end

-- If what is read of bytes is UTF-8 and lexes, another byte than there is is read in comments alone.
abbrev pub OtherBytesAreInComments : Type 0
OtherBytesAreInComments =
    (hashes : Hashes) (bytes text : List ℕ) (tokens : List Token) (comments : List Comment)
    → IsMended bytes text → IsUtf8 text → LexesWith hashes text tokens comments
    → (at : ℕ) → (SameAt bytes text at → ⊥) → IsInComment comments at

-- Of bytes that are UTF-8 just these are read.
abbrev pub Utf8IsReadAsItIs : Type 0
Utf8IsReadAsItIs = (bytes text : List ℕ) → IsMended bytes text → IsUtf8 bytes → text ≡ bytes

-- Of bytes one text is read,
abbrev pub OneReading : Type 0
OneReading = (bytes text other : List ℕ) → IsMended bytes text → IsMended bytes other → text ≡ other

-- which is as long.
abbrev pub ReadsAsMany : Type 0
ReadsAsMany = (bytes text : List ℕ) → IsMended bytes text → length text ≡ length bytes
