-- String literals with gaps between them, which are read as one. (Protocol Buffers Version 3 Language Specification,
-- String literals)
use Rattle.std.specs.Prelude.{ℕ, zero, suc, List, [], ◌∷◌, ◌++◌, length, nat_eq, if◌then◌else◌}
use Rattle.std.specs.List.{after_first, before_first}
use Rattle.proto_lex.specs.Bytes.{is_quote}
use Rattle.diagnostics.specs.Gaps.{behind_gap}

-- what is between the quotes of the literal that bytes begin with, and the texts behind it
abbrev pub texts_at : (behind : List ℕ → List ℕ) → List ℕ → List ℕ
texts_at behind [] = []
texts_at behind (quote ∷ bytes) =
    if is_quote quote then before_first (nat_eq quote) bytes ++ behind (after_first (nat_eq quote) bytes) else []

-- the texts of so many literals at most, one after another, with gaps before them
abbrev pub texts_of : ℕ → List ℕ → List ℕ
texts_of zero bytes = []
texts_of (suc count) bytes = texts_at (texts_of count) (behind_gap bytes)

-- what the literals spell together that the bytes begin with. Escapes aren't read: the path of an import has none.
abbrev pub joined : List ℕ → List ℕ
joined bytes = texts_of (length bytes) bytes
