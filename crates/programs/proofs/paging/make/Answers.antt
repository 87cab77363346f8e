use Rattle.programs.proofs.paging.make.Goals as goal

pub returns : goal.returns
returns g c = record {
  now = c.fill-done.new.messages;
  done = c.fill-done.result;
  fills = c.fill-done.ensures;
  ends = c.end.ensures;
}
