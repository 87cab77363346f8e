use Rattle.std.proofs.Common.{◌≡◌, ◌∙◌, ◌↔◌, ℕ, ◌<◌, List, length, ap, subst}
use Rattle.std.proofs.lemmas.Result.{err_from_is_err_and}
use Rattle.scip_wire.specs.Spelling.{joined_pieces, max_index_len}
use Rattle.scip_wire.specs.Writing.{Leaves}
use Rattle.scip_wire.specs.declared.write_fault.WriteFault.TheVariants as refusal
use Rattle.streams.specs.Writers.{writing, IsWritten}
use Rattle.protoscip.specs.Writing.WritesIndex.{index_is_written}
use Rattle.protoscip.proofs.IndexingLemmas.{stopped, not_written, spelled_unless, pieces_are, known_whole}
use Rattle.protoscip.proofs.indexing.write_spelled.Goals as goal

pub returns-in_err-write_pieces : goal.returns-in_err-write_pieces
returns-in_err-write_pieces g c index are =
    let parts = c.args.parts.now in
    let p = err_from_is_err_and c.from_residual.result c.from_residual.ensures.1 in
    let done = c.in_err-write_pieces.ensures in
    let fault = c.in_err-write_pieces.field-0.0 in
    let pieces = ap (λ (documents : List (List ℕ)). joined_pieces parts.metadata documents parts.external_symbols)
    c.as_slice.ensures ∙ pieces_are index parts are c.spelling_is_of_pieces.ensures in
    let Large : List ℕ → Type 0 = λ due. (stopped fault ≡ stopped refusal.TooLarge) ↔ (max_index_len < length due) in
    let Left : List ℕ → Type 0 =
    λ due. Leaves (writing g.W.Sink c.args.out.now c.write_pieces.new.sink) due fault in
    rw (p.1, p.2)
    (not_written c.spelling_decodes_to_its_index.ensures c.bytes_decode_to_one_index.ensures index
    (known_whole index parts are done.known done.known_externals)
    (writing g.W.Sink c.args.out.now c.write_pieces.new.sink) fault (subst Large pieces done.too_large)
    (subst Left pieces done.refused))

pub returns : goal.returns
returns g c index are =
    let parts = c.args.parts.now in
    let done = c.in_ok-write_pieces.ensures in
    let pieces = ap (λ (documents : List (List ℕ)). joined_pieces parts.metadata documents parts.external_symbols)
    c.as_slice.ensures ∙ pieces_are index parts are c.spelling_is_of_pieces.ensures in
    let Sent : List ℕ → Type 0 =
    λ due. IsWritten (writing g.W.Sink c.args.out.now c.write_pieces.new.sink) due in
    let large = rw pieces at done.too_large in
    index_is_written (spelled_unless c.spelling_decodes_to_its_index.ensures c.bytes_decode_to_one_index.ensures index
    (known_whole index parts are done.known done.known_externals) _ large (λ same. cc)) (subst Sent pieces done.ok)
