-- What is known of files beside their facts, where it may lack.
use Rattle.std.specs.Prelude.{Option, None, Some, []}
use Rattle.option_link.specs.declared.facts.OptionFacts.{OptionFacts}
use denote.Ref.{Bor}

-- Nothing is known of a file that wasn't read.
abbrev pub nothing_beside : OptionFacts
nothing_beside = record { options = []; fields = []; messages = [] }

abbrev pub beside_of : Option (Bor OptionFacts) → OptionFacts
beside_of None = nothing_beside
beside_of (Some beside) = beside.now
