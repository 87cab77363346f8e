use Rattle.std.proofs.Common.{◌↔◌, IsTrue, List, ℕ, subst}
use Rattle.proto_visibility.specs.Files.{HasPath}
use Rattle.scip_model.proofs.ConditionLemmas.{found_is, good_path}
use Rattle.scip_model.proofs.occurrences.has_file.Goals as goal

pub returns-clause-found : goal.returns-clause-found
returns-clause-found c =
    let files = c.args.linker.now in
    let path = c.args.imported.now.path in
    found_is files path c.has_path.result
    (subst (λ (p : List ℕ). IsTrue c.has_path.result ↔ HasPath files p) c.as_str.ensures c.has_path.ensures)

pub returns-clause-good : goal.returns-clause-good
returns-clause-good c = λ there.
    let files = c.args.linker.now in
    let path = c.args.imported.now.path in
    good_path files path c.requires (subst (HasPath files) c.as_str.ensures (c.has_path.ensures.0 there))
