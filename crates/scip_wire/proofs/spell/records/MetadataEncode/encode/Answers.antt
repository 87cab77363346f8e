use Rattle.std.proofs.Common.{◌≡◌, rules, to_z, of_z, w32}
use Rattle.scip_wire.proofs.OutputLemmas.{joined, same_int}
use Rattle.scip_wire.proofs.spell.records.MetadataEncode.encode.Goals as goal

pub returns : goal.returns
returns g c =
    let m = c.args.self.now in
    let same_version : to_z w32 (of_z w32 m.version) ≡ m.version = search rules in
    let same_encoding : to_z w32 (of_z w32 m.text_document_encoding) ≡ m.text_document_encoding = search rules in
    let two = joined _ _ (same_int 1 same_version c.encode_int.ensures) c.encode_optional_message.ensures in
    joined _ _ (joined _ _ two c.encode_text.ensures) (same_int 4 same_encoding c.encode_int-2.ensures)
