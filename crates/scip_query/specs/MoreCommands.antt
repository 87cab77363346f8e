-- More commands. (The grammar is this project's own.)
use Rattle.std.specs.Prelude.{ℕ, ◌+◌, List, ◌++◌, codes}
use Rattle.scip_query.specs.declared.position.Position.{Position}
use Rattle.scip_query.specs.declared.command.Question.{Question}
use Rattle.scip_query.specs.declared.command.Question.TheVariants.{Definitions}
use Rattle.scip_query.specs.Commands.{Command, Ask, IsCommand, IsNumber, IsPath, space}

-- one of the commands; or the signature of the symbol at a position, the outline of a document, the definitions that a
-- text finds, or what commands there are. And what no line spells: the entry of the symbol at a position, and a question
-- about all symbols with a name
pub data MoreCommand : Type 0 where
  Known : (command : Command) → MoreCommand
  Signature : (position : Position) (path : List ℕ) → MoreCommand
  Outline : (path : List ℕ) → MoreCommand
  Find : (text : List ℕ) → MoreCommand
  Help : MoreCommand
  Entry : (position : Position) (path : List ℕ) → MoreCommand
  Named : (question : Question) (name : List ℕ) → MoreCommand

-- the commands, `sig L C PATH`, `out PATH`, `find TEXT`, `pos PATH:LINE:COL`, which asks what `def` does, counting from
-- 1, and `help`. A text is any but the empty one, as a path is
pub data IsMoreCommand : List ℕ → MoreCommand → Type 0 where
  known : {line : List ℕ} {command : Command} → IsCommand line command → IsMoreCommand line (Known command)
  signature : {line column path : List ℕ} {p : Position}
      → IsNumber line p.line → IsNumber column p.column → IsPath path
      → IsMoreCommand (codes "sig" ++ space ++ line ++ space ++ column ++ space ++ path) (Signature p path)
  outline : {path : List ℕ} → IsPath path → IsMoreCommand (codes "out" ++ space ++ path) (Outline path)
  finding : {text : List ℕ} → IsPath text → IsMoreCommand (codes "find" ++ space ++ text) (Find text)
  place : {path line column : List ℕ} {p : Position}
      → IsPath path → IsNumber line (p.line + 1) → IsNumber column (p.column + 1)
      → IsMoreCommand (codes "pos" ++ space ++ path ++ codes ":" ++ line ++ codes ":" ++ column)
      (Known (Ask Definitions p path))
  help : IsMoreCommand (codes "help") Help
