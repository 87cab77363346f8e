use Rattle.std.proofs.Common.{◌≡◌, ◌∙◌, rules, subst, to_z, of_z, w32, FitsSigned, IsUtf8}
use Rattle.scip_wire.proofs.SpellingEncodeLemmas.{added, int_len-same}
use Rattle.scip_wire.proofs.spell.document.DocumentMessageEncode.encoded_len.Goals as goal

pub returns-clause-value : goal.returns-clause-value
returns-clause-value g c =
    let number = c.position_encoding.result in
    let same : to_z w32 (of_z w32 number) ≡ number = search rules in
    let one = rw c.relative_path.ensures at c.ref_len-relative_path.ensures.value in
    let two = added _ _ _ _ _ one c.occurrences_len-occurrences.ensures.value c.saturating_add.ensures in
    let three = added _ _ _ _ _ two c.entries_len-symbols.ensures.value c.saturating_add-2.ensures in
    let four = added _ _ _ _ _ three (rw c.language.ensures at c.ref_len-language.ensures.value)
    c.saturating_add-3.ensures in
    added _ _ _ _ _ four (int_len-same 6 _ _ _ (same ∙ c.position_encoding.ensures) c.int_len-encoding.ensures)
    c.saturating_add-4.ensures

pub returns-clause-fit : goal.returns-clause-fit
returns-clause-fit g c = record {
  relative_path = subst IsUtf8 c.relative_path.ensures c.ref_len-relative_path.ensures.fit;
  occurrences = c.occurrences_len-occurrences.ensures.fit;
  symbols = c.entries_len-symbols.ensures.fit;
  language = subst IsUtf8 c.language.ensures c.ref_len-language.ensures.fit;
  position_encoding = subst (FitsSigned w32) c.position_encoding.ensures (search rules);
}
