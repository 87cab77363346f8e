use Rattle.std.proofs.Common.{◌≡◌, take}
use Rattle.std.specs.Prelude.{All, IsTrue}
use Rattle.std.specs.List.{flat_map}
use Rattle.std.specs.String.{string_bytes}
use Rattle.scip_survey.specs.FlawForms.{ReadsBack, flaw_text}
use Rattle.scip_survey.specs.Views.{flawed_view}
use Rattle.scip_survey.proofs.flaw_forms.flaws_text.Given as goal

-- the lines of those so far, each of which is read back in JSON
abbrev pub invariant-loop-flawed : goal.invariant-loop-flawed
invariant-loop-flawed l =
    (string_bytes l.text ≡ flat_map (λ flawed. flaw_text l.json (flawed_view flawed)) (take l.flawed-index l.flaws))
    × (IsTrue l.json → All (λ flawed. ReadsBack (flawed_view flawed)) (take l.flawed-index l.flaws))
