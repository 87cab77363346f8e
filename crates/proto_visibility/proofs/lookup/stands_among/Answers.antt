use Rattle.std.proofs.Common.{sym, ◌∙◌}
use Rattle.proto_visibility.proofs.LookupListedLemmas.{decides_among}
use Rattle.proto_visibility.proofs.lookup.stands_among.Goals as goal

pub returns : goal.returns
returns c =
    let found = decides_among c.args.others.now c.args.number c.binary_search.result c.requires
    c.binary_search.ensures.position in
    (λ t. found.0 (sym c.is_ok.ensures.value ∙ t), λ there. c.is_ok.ensures.value ∙ found.1 there)
