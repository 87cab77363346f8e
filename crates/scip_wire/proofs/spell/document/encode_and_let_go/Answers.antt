use Rattle.std.proofs.Common.{◌<◌, ◌^◌, ap, subst, sym}
use Rattle.scip_records.specs.declared.records.Document.{Document}
use Rattle.scip_wire.specs.Spelling.{bytes_of, varint}
use Rattle.scip_wire.specs.Halves.{back_fields}
use Rattle.scip_wire.specs.Saturated.{fields_len}
use Rattle.scip_wire.proofs.OutputLemmas.{alike, both}
use Rattle.scip_wire.proofs.SpellingHalfLemmas.{halves_joined, front_short, back_short}
use Rattle.scip_wire.proofs.spell.document.encode_and_let_go.Goals as goal

pub encode_front-requires : goal.encode_front-requires
encode_front-requires g c = front_short (g.D.DocumentParts.document c.args.document.now) c.requires.short

pub encode_back-requires : goal.encode_back-requires
encode_back-requires g c =
    subst (λ (d : Document). fields_len (back_fields d) < 2 ^ 64) (sym c.let_occurrences_go.ensures)
    (back_short (g.D.DocumentParts.document c.args.document.now) c.requires.short)

pub returns-clause-put : goal.returns-clause-put
returns-clause-put g c =
    let document = g.D.DocumentParts.document c.args.document.now in
    let back = alike (ap (λ (d : Document). bytes_of (back_fields d)) c.let_occurrences_go.ensures)
    c.encode_back.ensures in
    let body = alike (halves_joined document) (both c.encode_front.ensures back) in
    both c.encode_varint.ensures (both (alike (ap varint c.requires.len) c.encode_varint-2.ensures) body)
