-- The lists so far.
use Rattle.std.proofs.Common.{◌≡◌, map, take}
use Rattle.scip_build.specs.Linking.{choices_of}
use Rattle.scip_build.proofs.chosen.chosen_lists.Given as goal

abbrev pub invariant-loop-parsed_file : goal.invariant-loop-parsed_file
invariant-loop-parsed_file l = map (λ list. list.items) l.lists.items
    ≡ map choices_of (take l.parsed_file-index l.parsed)
