use Rattle.proto_link.proofs.CertainLemmas.{certain_alike}
use Rattle.proto_link.proofs.laws.certain_resolves_alike.Goals as goal

pub returns : goal.returns
returns c = λ files mended are origins file source facts has type_use listed target is certain nothing.
    certain_alike files mended are origins c.facts_are_filled.ensures.names c.prefixes_are_entities.ensures
    c.scopes_are_known.ensures.package_name c.scopes_are_known.ensures.declarations
    c.scopes_are_known.ensures.uses file source facts has type_use
    listed target is certain nothing
