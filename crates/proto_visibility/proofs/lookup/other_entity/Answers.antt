use Rattle.std.proofs.Common.{position, sym, ◌∙◌, ap}
use Rattle.proto_visibility.proofs.LookupEntityLemmas.{has_name, package_entity}
use Rattle.proto_visibility.proofs.lookup.other_entity.Goals as goal

pub returns-in-None : goal.returns-in-None
returns-in-None c =
    let none = sym (ap (position (has_name c.args.name.now)) c.declarations.ensures)
    ∙ (sym c.first_with.ensures ∙ c.in-None.is) in
    package_entity c.args.number c.args.facts.now c.args.name.now c.args.count none c.requires
