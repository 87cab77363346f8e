use Rattle.proto_decl.proofs.detail.end_of.Goals as goal

pub returns : goal.returns
returns c = record {
  index = c.tokens_begun-index.result;
  closes = c.at_begun.ensures.at;
  end_from = c.end_from.ensures;
}
