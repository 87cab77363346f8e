use Rattle.std.proofs.Common.{◌<◌, List, length, sym, subst}
use Rattle.proto_visibility.specs.Files.{File}
use Rattle.scip_model.specs.Conditions.{IsFound}
use Rattle.scip_model.proofs.use_occurrences.add_use.Goals as goal

pub target_of-requires : goal.target_of-requires
target_of-requires c =
    subst (λ (files : List File). c.args.maker.now.source < length files) (sym c.linker.ensures.files) c.requires.source

pub add_found-requires-clause-nameable : goal.add_found-requires-clause-nameable
add_found-requires-clause-nameable c = λ target is.
    c.requires.nameable c.in_ok-found.found target
    (subst (λ (files : List File). IsFound files c.args.maker.now.source c.args.type_use.now c.in_ok-found.found)
    c.linker.ensures.files c.in_ok-found.ensures) is

pub returns-clause-added : goal.returns-clause-added
returns-clause-added c = (
  c.in_ok-found.found,
  subst (λ (files : List File). IsFound files c.args.maker.now.source c.args.type_use.now c.in_ok-found.found)
      c.linker.ensures.files c.in_ok-found.ensures,
  c.in_ok-add_found.ensures.added,
  c.in_ok-add_unresolved.ensures,
)
