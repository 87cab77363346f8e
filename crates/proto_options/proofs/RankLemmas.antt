-- What braces may be inside what other braces, as ranks: the walk over statements ends.
use Rattle.std.proofs.Common.{◌≡◌, ◌≤◌, ℕ, Bool, cond}
use Rattle.proto_lex.proofs.ReadingTestLemmas.{chosen}
use Rattle.proto_options.specs.declared.statements.Within.{Within}
use Rattle.proto_options.specs.declared.statements.Within.TheVariants.{File, Message, Oneof, Extend, Enum, Service}
use Rattle.proto_options.specs.declared.statements.Within.TheVariants.{Method}
use Rattle.proto_options.specs.declared.statements.Statement.{Statement}
use Rattle.proto_options.specs.declared.statements.Statement.TheVariants as is_a

-- of what is between braces: a message may hold all others, and a service its methods
abbrev pub rank_inside : Within → ℕ
rank_inside File = 3
rank_inside Message = 3
rank_inside Oneof = 1
rank_inside Extend = 1
rank_inside Enum = 1
rank_inside Service = 2
rank_inside Method = 1

-- of braces: those of a message take up a level, which counts for more
abbrev pub rank_of : Within → ℕ
rank_of File = 0
rank_of Message = 0
rank_of Oneof = 1
rank_of Extend = 1
rank_of Enum = 1
rank_of Service = 2
rank_of Method = 1

-- one of two statements, neither of which it is
neither : (test : Bool) (x y wanted : Statement) → cond test x y ≡ wanted → (x ≡ wanted → ⊥) → (y ≡ wanted → ⊥) → ⊥
neither test x y wanted e first second = chosen test {z = wanted} e (λ _. first) (λ _. second)
