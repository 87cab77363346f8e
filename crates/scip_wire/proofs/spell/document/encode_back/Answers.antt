use Rattle.std.proofs.Common.{◌≡◌, ◌∙◌, rules, to_z, of_z, w32}
use Rattle.scip_wire.proofs.OutputLemmas.{joined, same_int}
use Rattle.scip_wire.proofs.spell.document.encode_back.Goals as goal

pub returns : goal.returns
returns g c =
    let number = c.position_encoding.result in
    let same : to_z w32 (of_z w32 number) ≡ number = search rules in
    let language = rw c.language.ensures at c.encode_ref.ensures in
    joined _ _ (joined _ _ c.encode_entries.ensures language)
    (same_int 6 (same ∙ c.position_encoding.ensures) c.encode_int.ensures)
