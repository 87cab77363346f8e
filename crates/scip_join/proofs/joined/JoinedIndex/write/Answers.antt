use Rattle.std.proofs.Common.{◌∙◌, ap, List, ℕ}
use Rattle.scip_wire.specs.Spelling.{joined_pieces}
use Rattle.scip_join.proofs.JoinedLemmas.{pieces_join}
use Rattle.scip_join.proofs.joined.JoinedIndex.write.Goals as goal

pub returns-clause-ok : goal.returns-clause-ok
returns-clause-ok g c index are =
    let whole = c.args.self.now in
    let pieces = ap (λ (documents : List (List ℕ)). joined_pieces whole.metadata documents whole.external_symbols)
    c.as_slice.ensures ∙ pieces_join c.spelling_is_of_pieces.ensures whole index are in
    rw pieces at c.write_pieces.ensures.ok

pub returns-clause-too_large : goal.returns-clause-too_large
returns-clause-too_large g c index are =
    let whole = c.args.self.now in
    let pieces = ap (λ (documents : List (List ℕ)). joined_pieces whole.metadata documents whole.external_symbols)
    c.as_slice.ensures ∙ pieces_join c.spelling_is_of_pieces.ensures whole index are in
    rw pieces at c.write_pieces.ensures.too_large

pub returns-clause-refused : goal.returns-clause-refused
returns-clause-refused g c index are =
    let whole = c.args.self.now in
    let pieces = ap (λ (documents : List (List ℕ)). joined_pieces whole.metadata documents whole.external_symbols)
    c.as_slice.ensures ∙ pieces_join c.spelling_is_of_pieces.ensures whole index are in
    rw pieces at c.write_pieces.ensures.refused
