use Rattle.std.proofs.Common.{List, sym, subst}
use Rattle.proto_visibility.specs.Files.{File}
use Rattle.option_link.specs.Typed.{AreTypesFound}
use Rattle.option_link.proofs.table.DeclarationTable.keep_types.Goals as goal

pub invariant_of-self : goal.invariant_of-self
invariant_of-self c = record {
  lists = c.self.invariant.lists;
  found = subst (λ (fs : List File). AreTypesFound fs c.args.types.items) (sym c.self.view_is) c.requires;
  told = c.self.invariant.told;
  packaged = c.self.invariant.packaged;
  marked = c.self.invariant.marked;
  kept = c.self.invariant.kept;
}
