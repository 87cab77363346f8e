-- The command of a line, as a function: that which the grammar gives the line, if any (a law of the crate).
use Rattle.std.specs.Prelude.{ℕ, ◌==◌, Bool, nat_le, nat_lt, ◌&&◌, cond, List, [], ◌∷◌, ◌++◌, length, codes, Option}
use Rattle.std.specs.Prelude.{None, Some}
use Rattle.std.specs.List.{list_all}
use Rattle.std.specs.Option.{option_and_then, option_map}
use Rattle.std.specs.Str.{bytes_eq, is_utf8}
use Rattle.scip_query.specs.declared.command.Question.{Question}
use Rattle.scip_query.specs.declared.command.Question.TheVariants.{Definitions, References, Documentation}
use Rattle.scip_query.specs.Commands.{Command, Ask, Symbols, is_digit, value_of, max_number, max_digits}

infixl 10 ◌>>=◌
abbrev pub ◌>>=◌ : {A B : Type 0} → Option A → (A → Option B) → Option B
o >>= f = option_and_then f o

-- what comes before the first space, and after it
pub record Parts : Type 0 where
  pub word : List ℕ
  pub behind : List ℕ

-- with more before the word
abbrev pub with_front : List ℕ → Parts → Parts
with_front front parts = record { word = front ++ parts.word; behind = parts.behind }

abbrev pub with_first : ℕ → Parts → Parts
with_first b parts = record { word = b ∷ parts.word; behind = parts.behind }

abbrev pub parts_of : List ℕ → Option Parts
parts_of [] = None
parts_of (b ∷ line) = cond (b == 32) (Some (record { word = []; behind = line }))
    (option_map (with_first b) (parts_of line))

abbrev pub is_written : List ℕ → Bool
is_written word = list_all is_digit word && (nat_lt 0 (length word) && nat_le (length word) max_digits)

abbrev pub at_most : ℕ → Option ℕ
at_most n = cond (nat_le n max_number) (Some n) None

unfoldable pub number_of : List ℕ → Option ℕ
number_of word = cond (is_written word) (at_most (value_of word)) None

unfoldable pub path_of : List ℕ → Option (List ℕ)
path_of path = cond (nat_lt 0 (length path) && is_utf8 path) (Some path) None

unfoldable pub question_of : List ℕ → Option Question
question_of word =
    cond (bytes_eq word (codes "def")) (Some Definitions)
    (cond (bytes_eq word (codes "ref")) (Some References)
    (cond (bytes_eq word (codes "doc")) (Some Documentation) None))

-- `L C PATH` of a question
unfoldable pub ask_of : Question → List ℕ → Option Command
ask_of question line =
    parts_of line >>= λ (first : Parts).
    number_of first.word >>= λ n.
    parts_of first.behind >>= λ (second : Parts).
    number_of second.word >>= λ m.
    option_map (Ask question (record { line = n; column = m })) (path_of second.behind)

unfoldable pub command_of : List ℕ → Option Command
command_of line =
    parts_of line >>= λ (parts : Parts).
    cond (bytes_eq parts.word (codes "sym")) (option_map Symbols (path_of parts.behind))
    (question_of parts.word >>= λ question. ask_of question parts.behind)
