use Rattle.std.proofs.Common.{◌≡◌, ◌++◌, take}
use Rattle.std.specs.Prelude.{All, IsTrue}
use Rattle.std.specs.List.{flat_map}
use Rattle.std.specs.String.{string_bytes}
use Rattle.scip_survey.specs.Records.{OfExternal, ReadsBack, record_text}
use Rattle.scip_survey.proofs.records.push_externals.Given as goal

-- the lines of those so far, each of which is read back in JSON
abbrev pub invariant-loop-entry : goal.invariant-loop-entry
invariant-loop-entry l =
    (string_bytes l.text ≡ string_bytes l.fn.text
    ++ flat_map (λ entry. record_text l.json (OfExternal entry)) (take l.entry-index l.entries))
    × (IsTrue l.json → All (λ entry. ReadsBack (OfExternal entry)) (take l.entry-index l.entries))
