use Rattle.std.proofs.Common.{subst}
use Rattle.option_link.specs.Marks.{AreListedMarked}
use Rattle.option_link.proofs.TypeListLemmas.{no_types}
use Rattle.option_link.proofs.table.DeclarationTable.of.Goals as goal

pub invariant_of-result : goal.invariant_of-result
invariant_of-result c = record {
  lists = c.in_ok-listed.ensures;
  found = no_types c.args.linker.now c.new.result.items c.new.ensures.items;
  told = c.in_ok-present.ensures;
  packaged = c.in_ok-packages.ensures;
  marked = subst (λ xs. AreListedMarked xs c.in_ok-declared.declared.items) c.as_slice.ensures.value
      c.in_ok-declared.ensures;
  kept = tt;
}
