use Rattle.std.proofs.Common.{get_or, arith}
use Rattle.std.proofs.lemmas.Option.{slice_get-get_or}
use Rattle.option_link.specs.declared.table.Listed.{Listed}
use Rattle.option_link.specs.Lookups.{admits}
use Rattle.option_link.specs.Tables.{IsSought}
use Rattle.option_link.proofs.LoopLemmas.{one_more, all_of, fails}
use Rattle.option_link.proofs.OwnerLemmas.{none_sought, nothing}
use Rattle.option_link.proofs.table.DeclarationTable.first_sought.Goals as goal

pub returns-then-is_sought : goal.returns-then-is_sought
returns-then-is_sought c = c.is_sought.ensures.0 c.if-is_sought.true

pub loop-one-preserved : goal.loop-one-preserved
loop-one-preserved c =
    let listed = c.args.listed.now in
    let index = c.loop-one.one-index in
    one_more (λ (one : Listed). IsSought c.args.self.now c.args.file (admits c.args.sought) c.args.name.now one.place
    → ⊥) listed index (get_or listed index nothing) (slice_get-get_or listed index nothing (omega arith))
    (fails c.is_sought.result _ c.is_sought.ensures c.if-is_sought.false) c.loop-one.invariant

pub returns : goal.returns
returns c =
    let files = c.args.self.now in
    let file = c.args.file in
    let role = admits c.args.sought in
    let name = c.args.name.now in
    none_sought files file role name c.args.listed.now c.requires.near
    (all_of (λ (one : Listed). IsSought files file role name one.place → ⊥) c.args.listed.now c.loop-one.one-index
    (omega arith) c.loop-one.invariant)
