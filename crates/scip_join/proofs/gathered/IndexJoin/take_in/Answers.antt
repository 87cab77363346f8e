use Rattle.std.proofs.Common.{◌∙◌, ◌++◌, List, All, subst, sym}
use Rattle.scip_records.specs.declared.records.Document.{Document}
use Rattle.scip_wire.specs.WellFormed.{IsFitDocument}
use Rattle.scip_join.specs.Gathered.{Gathered, pieces_in}
use Rattle.scip_join.specs.Steps.{IsCounted}
use Rattle.scip_join.proofs.gathered.IndexJoin.take_in.Goals as goal

pub returns-clause-added : goal.returns-clause-added
returns-clause-added c =
    let number = c.in_ok-number.number in
    let counted = subst (λ (g : Gathered). IsCounted c.args.self.now c.args.index.metadata g number)
    (sym c.self.view_is) c.in_ok-number.ensures in
    record {
      choices = counted.choices;
      count = counted.count;
      metadata = counted.first;
      pieces = c.in_ok-push_pieces.ensures.kept
          ∙ (λ i. counted.pieces i ++ pieces_in (counted.number_is i) (c.into_vec.ensures i));
      externals = c.in_ok-push_entries.ensures ∙ (λ i. counted.externals i ++ c.into_vec-2.ensures i);
    }

pub returns-clause-known : goal.returns-clause-known
returns-clause-known c =
    subst (λ (documents : List Document). All IsFitDocument documents) c.into_vec.ensures
    c.in_ok-push_pieces.ensures.known
