use Rattle.std.proofs.Common.{◌∙◌, ◌++◌, ◌∷◌, [], ap, sym, append_assoc, List}
use Rattle.std.proofs.lemmas.List.{map-append}
use Rattle.std.proofs.lemmas.List.Elements.{All-push}
use Rattle.scip_records.specs.declared.records.Document.{Document}
use Rattle.scip_wire.specs.WellFormed.{IsFitDocument}
use Rattle.scip_join.specs.declared.piece.Piece.{Piece}
use Rattle.scip_join.specs.Gathered.{piece_of, pieces_in}
use Rattle.scip_join.proofs.gathered.push_pieces.Goals as goal

pub loop-document-preserved : goal.loop-document-preserved
loop-document-preserved c =
    let begun = c.args.pieces.now.items in
    let index = c.args.index in
    let so_far = c.loop-document.yielded in
    let document = c.in-Some.document in record {
      kept = c.in_ok-push_piece.ensures.kept
          ∙ ap (λ (l : List Piece). l ++ piece_of (index, document) ∷ []) c.loop-document.invariant.kept
          ∙ append_assoc begun (pieces_in index so_far) (piece_of (index, document) ∷ [])
          ∙ ap (λ (l : List Piece). begun ++ l)
          (sym (map-append (λ (d : Document). piece_of (index, d)) so_far (document ∷ [])));
      known = All-push IsFitDocument so_far document c.loop-document.invariant.known
          c.in_ok-push_piece.ensures.known;
    }
