use Rattle.std.proofs.Common.{List, sym, subst}
use Rattle.proto_visibility.specs.Files.{File}
use Rattle.option_link.specs.Messages.{AreOptionsMessages}
use Rattle.option_link.proofs.table.DeclarationTable.keep_messages.Goals as goal

pub invariant_of-self : goal.invariant_of-self
invariant_of-self c = record {
  lists = c.self.invariant.lists;
  found = c.self.invariant.found;
  told = c.self.invariant.told;
  packaged = c.self.invariant.packaged;
  marked = c.self.invariant.marked;
  kept = subst (λ (fs : List File). AreOptionsMessages fs c.args.messages) (sym c.self.view_is) c.requires;
}
