use Rattle.std.proofs.Common.{◌∙◌, ◌++◌, ℕ, List, ap, codes, sym}
use Rattle.source_files.proofs.WellKnownLemmas.{known_name, no_known_name}
use Rattle.source_files.proofs.with_well_known.is_well_known.Goals as goal

pub returns-in-Some : goal.returns-in-Some
returns-in-Some c =
    let cut = c.in-Some.ensures.cases in
    known_name c.args.path.now c.in-Some.name.now c.has_no_slash.result
    (cut.1.1 ∙ ap (λ (l : List ℕ). codes "google/protobuf/" ++ l) (sym cut.2)) c.has_no_slash.ensures

pub returns-in-None : goal.returns-in-None
returns-in-None c = no_known_name c.args.path.now c.in-None.ensures.cases
