use Rattle.std.proofs.Common.{◌≡◌, ◌++◌, ◌∷◌, [], rules, subst, to_z, of_z, w32}
use Rattle.scip_records.specs.declared.records.Occurrence.{Occurrence}
use Rattle.scip_wire.specs.Saturated.{saturated, fields_len}
use Rattle.scip_wire.specs.Spelling.{range_field, text_fields, int_fields, optional_range_fields, occurrence_fields}
use Rattle.scip_wire.proofs.SpellingEncodeLemmas.{added, int_len-same}
use Rattle.scip_wire.proofs.spell.records.OccurrenceRefEncode.encoded_len.Goals as goal

pub returns-clause-value : goal.returns-clause-value
returns-clause-value c =
    let o = c.self.inside in
    let same : to_z w32 (of_z w32 o.symbol_roles) ≡ o.symbol_roles = search rules in
    let range = range_field 1 o.range ∷ [] in
    let symbol = text_fields 2 o.symbol in
    let two = added range symbol _ _ _ c.range_len-range.ensures.value c.symbol_len-symbol.ensures.value
    c.saturating_add.ensures in
    let roles = int_fields 3 o.symbol_roles in
    let three = added (range ++ symbol) roles _ _ _ two (int_len-same 3 _ _ _ same c.int_len-roles.ensures)
    c.saturating_add-2.ensures in
    subst (λ (one : Occurrence). c.saturating_add-3.result ≡ saturated (fields_len (occurrence_fields one)))
    c.self.view_is
    (added ((range ++ symbol) ++ roles) (optional_range_fields 7 o.enclosing_range) _ _ _ three c.optional_range_len-enclosing_range.ensures.value c.saturating_add-3.ensures)
