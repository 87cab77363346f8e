use Rattle.std.proofs.Common.{◌≡◌, ◌<◌, ◌^◌, ◌++◌, ◌∷◌, [], length, rules, subst, sym, to_z, of_z, w32}
use Rattle.scip_records.specs.declared.records.Occurrence.{Occurrence}
use Rattle.scip_wire.specs.Outputs.{IsPut}
use Rattle.scip_wire.specs.Spelling.{bytes_of, range_field, text_fields, int_fields, optional_range_fields}
use Rattle.scip_wire.specs.Spelling.{occurrence_fields}
use Rattle.scip_wire.proofs.SpellingRefLemmas.{occurrence_symbol}
use Rattle.scip_wire.proofs.OutputLemmas.{joined, same_int}
use Rattle.scip_wire.proofs.spell.records.OccurrenceRefEncode.encode.Goals as goal

pub returns : goal.returns
returns g c =
    let o = c.self.inside in
    let same : to_z w32 (of_z w32 o.symbol_roles) ≡ o.symbol_roles = search rules in
    let range = range_field 1 o.range ∷ [] in
    let symbol = text_fields 2 o.symbol in
    let two = joined range symbol c.encode_range.ensures c.encode_symbol.ensures in
    let roles = int_fields 3 o.symbol_roles in
    let three = joined (range ++ symbol) roles two (same_int 3 same c.encode_int.ensures) in
    subst (λ (one : Occurrence). IsPut g.O.Output.holds c.args.sink.now c.args.out.now c.encode_optional_range.new.sink
    c.encode_optional_range.new.out (bytes_of (occurrence_fields one))) c.self.view_is
    (joined ((range ++ symbol) ++ roles) (optional_range_fields 7 o.enclosing_range) three
    c.encode_optional_range.ensures)

pub encode_symbol-requires-clause-short : goal.encode_symbol-requires-clause-short
encode_symbol-requires-clause-short g c =
    subst (λ (one : Occurrence). length one.symbol < 2 ^ 64) (sym c.self.view_is)
    (occurrence_symbol c.args.self.now c.requires)
