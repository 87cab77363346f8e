use Rattle.std.proofs.Common.{◌≡◌, ◌++◌, [], map, length}
use Rattle.proto_options.specs.declared.messages.MessageClause.TheVariants.{Reserves}
use Rattle.proto_options.specs.Messages.{fact_of, names_in}
use Rattle.proto_options.proofs.messages.add_names.Given as goal

-- what is found so far, and the names left, are all
abbrev pub invariant-parts : goal.invariant-parts
invariant-parts l =
    l.facts.items ++ map (fact_of l.name) (map Reserves (names_in l.joined.items l.cursor.left))
    ≡ l.fn.facts.items ++ map (fact_of l.name) (map Reserves (names_in [] l.fn.first.left))

abbrev pub decreases-parts : goal.decreases-parts
decreases-parts l = length l.cursor.left
