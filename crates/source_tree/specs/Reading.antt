-- What is kept of a source's bytes.
use Rattle.std.specs.Prelude.{ℕ, ◌+◌, List, take}
use Rattle.proto_lex.specs.Text.{max_text_length}

-- the most that is kept: one byte more than a text may have, so that a source that is too long is known to be
abbrev pub max_kept_length : ℕ
max_kept_length = max_text_length + 1

abbrev pub kept_bytes : List ℕ → List ℕ
kept_bytes bytes = take max_kept_length bytes
