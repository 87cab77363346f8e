use Rattle.std.proofs.Common.{refl}
use Rattle.programs.proofs.snapshotting.show.Goals as goal

pub returns-in-Some : goal.returns-in-Some
returns-in-Some g c = record {
  now = c.file_all-done.new.messages;
  done = c.file_all-done.result;
  shows =
      rw c.in-Some.is
      (refl, rw (c.as_str-root.ensures.value, c.as_str.ensures.value) at c.file_all-done.ensures);
  ends = rw c.in-Some.is c.end.ensures;
}

pub returns-in-None : goal.returns-in-None
returns-in-None g c = record {
  now = c.print_all-done.new.messages;
  done = c.print_all-done.result;
  shows = rw c.in-None.is (refl, rw c.as_str-root.ensures.value at c.print_all-done.ensures);
  ends = rw c.in-None.is c.end_printed.ensures;
}
