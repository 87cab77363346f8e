use Rattle.option_link.proofs.CertainLemmas.{certain_alike}
use Rattle.option_link.proofs.laws.certain_option_names_alike.Goals as goal

pub returns : goal.returns
returns c = λ files mended are origins known mended_known stays file facts has text option scope alike nothing types
    items.
    certain_alike files mended are origins c.facts_are_filled.ensures.names c.prefixes_are_entities.ensures
    c.scopes_are_known.ensures.package_name c.scopes_are_known.ensures.declarations known mended_known stays file facts
    has text option scope alike nothing types items
