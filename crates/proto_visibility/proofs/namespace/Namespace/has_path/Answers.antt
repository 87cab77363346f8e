use Rattle.std.proofs.Common.{◌↔◌, IsTrue, List, subst}
use Rattle.proto_visibility.specs.Files.{File, HasPath}
use Rattle.proto_visibility.specs.Tables.ImportTables.{number_in}
use Rattle.proto_visibility.proofs.AbsentLemmas.{path_iff}
use Rattle.proto_visibility.proofs.namespace.Namespace.has_path.Goals as goal

pub returns : goal.returns
returns c =
    subst (λ (fs : List File). IsTrue c.is_path_of_one.result ↔ HasPath fs c.args.path.now) c.self.view_is
    (path_iff c.self.inside.files.now
    (number_in c.self.inside.paths) c.self.invariant.checked.paths_are c.args.path.now c.is_path_of_one.result
    c.is_path_of_one.ensures)
