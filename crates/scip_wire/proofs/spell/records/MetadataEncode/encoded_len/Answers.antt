use Rattle.std.proofs.Common.{◌≡◌, rules, to_z, of_z, w32}
use Rattle.scip_wire.proofs.SpellingEncodeLemmas.{added, int_len-same}
use Rattle.scip_wire.proofs.spell.records.MetadataEncode.encoded_len.Goals as goal

pub returns-clause-value : goal.returns-clause-value
returns-clause-value c =
    let m = c.args.self.now in
    let same_version : to_z w32 (of_z w32 m.version) ≡ m.version = search rules in
    let same_encoding : to_z w32 (of_z w32 m.text_document_encoding) ≡ m.text_document_encoding = search rules in
    let two = added _ _ _ _ _
    (int_len-same 1 _ _ _ same_version c.int_len-version.ensures) c.optional_message_len-tool_info.ensures.value
    c.saturating_add.ensures in
    let three = added _ _ _ _ _ two c.text_len-project_root.ensures.value c.saturating_add-2.ensures in
    added _ _ _ _ _ three (int_len-same 4 _ _ _ same_encoding c.int_len-encoding.ensures) c.saturating_add-3.ensures
