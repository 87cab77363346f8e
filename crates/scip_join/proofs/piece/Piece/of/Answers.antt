use Rattle.std.proofs.Common.{◌∙◌, ap}
use Rattle.scip_records.specs.declared.records.Document.{Document}
use Rattle.scip_join.specs.Gathered.{symbols_in}
use Rattle.scip_join.proofs.piece.Piece.of.Goals as goal

pub returns-clause-kept : goal.returns-clause-kept
returns-clause-kept c =
    let gone = c.in_ok-bytes.ensures.let_go in
    let path = ap (λ (d : Document). d.relative_path) gone in
    let symbols = c.in_ok-symbols.ensures
    ∙ ap symbols_in (c.into_vec.ensures ∙ ap (λ (d : Document). d.symbols) gone) in
    λ i. record {
      index = c.args.index;
      path = path i;
      symbols = symbols i;
      bytes = c.in_ok-bytes.ensures.bytes i;
    }
