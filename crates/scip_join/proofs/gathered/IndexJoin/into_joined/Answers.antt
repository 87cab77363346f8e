use Rattle.scip_join.proofs.gathered.IndexJoin.into_joined.Goals as goal

pub returns : goal.returns
returns c =
    rw (← c.self.view_is) (record {
      metadata = c.metadata_with.ensures;
      documents = c.in_ok-documents.ensures;
      external_symbols = c.from_vec.ensures;
    })
