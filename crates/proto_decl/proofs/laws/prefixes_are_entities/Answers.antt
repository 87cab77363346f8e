use Rattle.std.proofs.lemmas.List.Elements.{Contains-get_or}
use Rattle.proto_decl.proofs.NamePrefixLemmas.{prefixes}
use Rattle.proto_decl.proofs.laws.prefixes_are_entities.Goals as goal

pub returns : goal.returns
returns c = λ facts origin.
    let scopes = c.scopes_are_known.ensures.declarations facts origin in
    let components = c.scopes_are_known.ensures.package_name facts origin in
    let filled = c.facts_are_filled.ensures.names facts origin in
    λ k d h. prefixes facts scopes components _ (Contains-get_or facts.declarations k d h) (filled k d h)
