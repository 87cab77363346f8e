-- Commands: one a line. (The grammar is this project's own.)
use Rattle.std.specs.Prelude.{◌≡◌, ℕ, ◌-◌, ◌<◌, ◌≤◌, ◌==◌, Bool, nat_le, ◌&&◌, cond, List, [], ◌∷◌, ◌++◌, length, map}
use Rattle.std.specs.Prelude.{codes}
use Rattle.std.specs.List.{AllPass, onto_first}
use Rattle.std.specs.Str.{IsUtf8}
use Rattle.std.specs.Int.Digits.{number_from_digits}
use Rattle.scip_query.specs.declared.position.Position.{Position}
use Rattle.scip_query.specs.declared.command.Question.{Question}
use Rattle.scip_query.specs.declared.command.Question.TheVariants.{Definitions, References, Documentation}

-- the greatest line and column: that of a SCIP int32
abbrev pub max_number : ℕ
max_number = 2147483647

-- the most digits of a line or column
abbrev pub max_digits : ℕ
max_digits = 10

-- the most bytes of a command, without its line's end
abbrev pub max_command_length : ℕ
max_command_length = 65536

abbrev pub word_of : Question → List ℕ
word_of Definitions = codes "def"
word_of References = codes "ref"
word_of Documentation = codes "doc"

-- a question about a position of the document that a path names; or that document's symbols
pub data Command : Type 0 where
  Ask : (question : Question) (position : Position) (path : List ℕ) → Command
  Symbols : (path : List ℕ) → Command

abbrev pub space : List ℕ
space = 32 ∷ []

-- the ASCII digits
abbrev pub is_digit : ℕ → Bool
is_digit b = nat_le 48 b && nat_le b 57

abbrev pub value_of : List ℕ → ℕ
value_of digits = number_from_digits 10 (map (λ d. d - 48) digits)

-- a line or column: some digits, leading zeros among them
pub record IsNumber (word : List ℕ) (n : ℕ) : Type 0 where
  pub digits : AllPass is_digit word
  pub some : 0 < length word
  pub few : length word ≤ max_digits
  pub value : value_of word ≡ n
  pub small : n ≤ max_number

-- a path: any text but the empty one
pub record IsPath (path : List ℕ) : Type 0 where
  pub some : 0 < length path
  pub text : IsUtf8 path

-- `def L C PATH`, `ref L C PATH`, `doc L C PATH` and `sym PATH`, with one space between parts
pub data IsCommand : List ℕ → Command → Type 0 where
  ask : {question : Question} {line column path : List ℕ} {p : Position}
      → IsNumber line p.line → IsNumber column p.column → IsPath path
      → IsCommand (word_of question ++ space ++ line ++ space ++ column ++ space ++ path) (Ask question p path)
  symbols : {path : List ℕ} → IsPath path → IsCommand (codes "sym" ++ space ++ path) (Symbols path)

-- the lines of bytes, each without the `\n` that ends it. The last may lack it, and is a line if it isn't empty
abbrev pub command_lines : List ℕ → List (List ℕ)
command_lines [] = []
command_lines (b ∷ bytes) = cond (b == 10) ([] ∷ command_lines bytes) (onto_first b (command_lines bytes))
