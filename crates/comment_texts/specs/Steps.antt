-- What the code has at a step of a search for the common indentation.
use Rattle.std.specs.Prelude.{ℕ, min, List, cond, Option, None, Some}
use Rattle.comment_texts.specs.Lines.{indentation, has_words}

-- the lesser of a number, if there is one, and another
abbrev pub lesser : Option ℕ → ℕ → Option ℕ
lesser None other = Some other
lesser (Some least) other = Some (min least other)

-- the least indentation so far, and one line more
abbrev pub least_with : Option ℕ → List ℕ → Option ℕ
least_with least line = cond (has_words line) (lesser least (indentation line)) least
