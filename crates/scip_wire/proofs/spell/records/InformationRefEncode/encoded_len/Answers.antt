use Rattle.std.proofs.Common.{◌≡◌, ◌++◌, subst}
use Rattle.scip_records.specs.Details.{details_if_any}
use Rattle.scip_records.specs.declared.records.SymbolInformation.{SymbolInformation}
use Rattle.scip_wire.specs.Saturated.{saturated, fields_len}
use Rattle.scip_wire.specs.Spelling.{bytes_of, text_fields, int_fields, repeated_text_fields, signature_fields}
use Rattle.scip_wire.specs.Spelling.{info_fields}
use Rattle.scip_wire.specs.WellFormed.{IsFitInfo}
use Rattle.scip_wire.proofs.SpellingEncodeLemmas.{added}
use Rattle.scip_wire.proofs.spell.records.InformationRefEncode.encoded_len.Goals as goal

pub returns-clause-value : goal.returns-clause-value
returns-clause-value c =
    let i = c.self.inside in
    let details = details_if_any i.details in
    let symbol = text_fields 1 i.symbol in
    let texts = repeated_text_fields 3 i.documentation in
    let kind = int_fields 5 details.kind in
    let name = text_fields 6 i.display_name.now in
    let signature = text_fields 7 (bytes_of (signature_fields details.signature)) in
    let enclosing = text_fields 8 details.enclosing_symbol in
    let two = added symbol texts _ _ _ c.symbol_len-symbol.ensures.value c.texts_ref_len-documentation.ensures.value
    c.saturating_add.ensures in
    let three = added (symbol ++ texts) kind _ _ _ two c.kind_len-kind.ensures.value c.saturating_add-2.ensures in
    let four = added ((symbol ++ texts) ++ kind) name _ _ _ three c.ref_len-display_name.ensures.value
    c.saturating_add-3.ensures in
    let five = added (((symbol ++ texts) ++ kind) ++ name) signature _ _ _ four c.signature_len-signature.ensures.value
    c.saturating_add-4.ensures in
    subst (λ (one : SymbolInformation). c.saturating_add-5.result ≡ saturated (fields_len (info_fields one)))
    c.self.view_is
    (added ((((symbol ++ texts) ++ kind) ++ name) ++ signature) enclosing _ _ _ five
    c.enclosing_symbol_len-enclosing_symbol.ensures.value c.saturating_add-5.ensures)

pub returns-clause-fit : goal.returns-clause-fit
returns-clause-fit c =
    subst IsFitInfo c.self.view_is (record {
      symbol = c.symbol_len-symbol.ensures.fit;
      documentation = c.texts_ref_len-documentation.ensures.fit;
      display_name = c.ref_len-display_name.ensures.fit;
      details = record {
        kind = c.kind_len-kind.ensures.fit;
        signature = c.signature_len-signature.ensures.fit;
        enclosing_symbol = c.enclosing_symbol_len-enclosing_symbol.ensures.fit;
      };
    })
