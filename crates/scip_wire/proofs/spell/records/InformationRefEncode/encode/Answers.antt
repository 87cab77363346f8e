use Rattle.std.proofs.Common.{◌<◌, ◌^◌, ◌++◌, length, subst, sym}
use Rattle.scip_records.specs.Details.{details_if_any}
use Rattle.scip_records.specs.declared.records.SymbolInformation.{SymbolInformation}
use Rattle.scip_wire.specs.Outputs.{IsPut}
use Rattle.scip_wire.specs.Saturated.{fields_len}
use Rattle.scip_wire.specs.Spelling.{bytes_of, text_fields, int_fields, repeated_text_fields, signature_fields}
use Rattle.scip_wire.specs.Spelling.{info_fields}
use Rattle.scip_wire.proofs.SpellingRefLemmas.{info_symbol, info_signature, info_enclosing}
use Rattle.scip_wire.proofs.OutputLemmas.{joined}
use Rattle.scip_wire.proofs.spell.records.InformationRefEncode.encode.Goals as goal

pub returns : goal.returns
returns g c =
    let i = c.self.inside in
    let details = details_if_any i.details in
    let symbol = text_fields 1 i.symbol in
    let texts = repeated_text_fields 3 i.documentation in
    let kind = int_fields 5 details.kind in
    let name = text_fields 6 i.display_name.now in
    let signature = text_fields 7 (bytes_of (signature_fields details.signature)) in
    let enclosing = text_fields 8 details.enclosing_symbol in
    let two = joined symbol texts c.encode_symbol.ensures c.encode_texts_ref.ensures in
    let three = joined (symbol ++ texts) kind two c.encode_kind.ensures in
    let four = joined ((symbol ++ texts) ++ kind) name three c.encode_ref.ensures in
    let five = joined (((symbol ++ texts) ++ kind) ++ name) signature four c.encode_signature.ensures in
    subst (λ (one : SymbolInformation). IsPut g.O.Output.holds c.args.sink.now c.args.out.now
    c.encode_enclosing_symbol.new.sink c.encode_enclosing_symbol.new.out (bytes_of (info_fields one))) c.self.view_is
    (joined ((((symbol ++ texts) ++ kind) ++ name) ++ signature) enclosing five c.encode_enclosing_symbol.ensures)

pub encode_symbol-requires-clause-short : goal.encode_symbol-requires-clause-short
encode_symbol-requires-clause-short g c =
    subst (λ (one : SymbolInformation). length one.symbol < 2 ^ 64) (sym c.self.view_is) (info_symbol c.args.self.now c.requires)

pub encode_signature-requires-clause-short : goal.encode_signature-requires-clause-short
encode_signature-requires-clause-short g c =
    subst (λ (one : SymbolInformation). fields_len (signature_fields one.details.signature) < 2 ^ 64)
    (sym c.self.view_is) (info_signature c.args.self.now c.requires)

pub encode_enclosing_symbol-requires-clause-short : goal.encode_enclosing_symbol-requires-clause-short
encode_enclosing_symbol-requires-clause-short g c =
    subst (λ (one : SymbolInformation). length one.details.enclosing_symbol < 2 ^ 64) (sym c.self.view_is)
    (info_enclosing c.args.self.now c.requires)
