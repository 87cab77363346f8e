use Rattle.std.proofs.Common.{◌<◌, ℕ, List, length, sym, subst}
use Rattle.std.specs.List.{Contains}
use Rattle.proto_visibility.specs.declared.import_table.Steps.{Steps}
use Rattle.proto_visibility.proofs.leading.led_files.Goals as goal

pub learn-requires-clause-all : goal.learn-requires-clause-all
learn-requires-clause-all c = λ number few.
    subst (λ (order : List ℕ). Contains order number) (sym c.loop-file.invariant.order)
    (c.requires.all number
    (subst (λ (table : List Steps). number < length table) c.loop-file.invariant.table few))
