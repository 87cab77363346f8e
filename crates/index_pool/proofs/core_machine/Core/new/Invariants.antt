use Rattle.std.proofs.Common.{◌≡◌, length, All}
use Rattle.index_pool.specs.CoreMachine.{idle}
use Rattle.index_pool.specs.CoreFields.{worker_state, HasRoom}
use Rattle.index_pool.proofs.core_machine.Core.new.Given as goal

abbrev pub invariant-loop : goal.invariant-loop
invariant-loop l = record {
  count : length l.all.items ≡ l.counter;
  idles : All (λ w. worker_state w ≡ idle) l.all.items;
  roomy : All (HasRoom l.inputs) l.all.items;
}
