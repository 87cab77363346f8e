use Rattle.std.proofs.Common.{◌≡◌, ◌++◌, take}
use Rattle.std.specs.Prelude.{All, IsTrue}
use Rattle.std.specs.List.{flat_map}
use Rattle.std.specs.String.{string_bytes}
use Rattle.scip_survey.specs.Records.{OfOccurrence, ReadsBack, record_text}
use Rattle.scip_survey.proofs.records.push_occurrences.Given as goal

-- the lines of those so far, each of which is read back in JSON
abbrev pub invariant-loop-occurrence : goal.invariant-loop-occurrence
invariant-loop-occurrence l =
    (string_bytes l.text ≡ string_bytes l.fn.text
    ++ flat_map (λ o. record_text l.json (OfOccurrence l.path o)) (take l.occurrence-index l.occurrences))
    × (IsTrue l.json → All (λ o. ReadsBack (OfOccurrence l.path o)) (take l.occurrence-index l.occurrences))
