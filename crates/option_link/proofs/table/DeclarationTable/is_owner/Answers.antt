use Rattle.std.proofs.Common.{◌≡◌, get_or, arith}
use Rattle.std.proofs.lemmas.Option.{slice_get-get_or}
use Rattle.option_link.specs.declared.table.Listed.{Listed}
use Rattle.option_link.specs.Lookups.{admits}
use Rattle.option_link.specs.Tables.{IsSought}
use Rattle.option_link.proofs.LoopLemmas.{one_more, not_all, all_hold, fails}
use Rattle.option_link.proofs.OwnerLemmas.{all_sought, nothing}
use Rattle.option_link.proofs.table.DeclarationTable.is_owner.Goals as goal

pub returns-then-not-is_of_owner : goal.returns-then-not-is_of_owner
returns-then-not-is_of_owner c =
    let files = c.args.self.now in
    let role = admits c.args.sought in
    let listed = c.args.listed.now in
    let index = c.loop-one.one-index in
    all_sought files c.args.file role c.args.name.now listed c.requires.near c.args.owner _
    (not_all (λ (one : Listed). IsSought files c.args.file role c.args.name.now one.place
    → one.place.file ≡ c.args.owner) listed index (get_or listed index nothing)
    (slice_get-get_or listed index nothing (omega arith))
    (fails c.is_of_owner.result _ c.is_of_owner.ensures c.if-not-is_of_owner.true))

pub loop-one-preserved : goal.loop-one-preserved
loop-one-preserved c =
    let listed = c.args.listed.now in
    let index = c.loop-one.one-index in
    one_more (λ (one : Listed). IsSought c.args.self.now c.args.file (admits c.args.sought) c.args.name.now one.place
    → one.place.file ≡ c.args.owner) listed index (get_or listed index nothing)
    (slice_get-get_or listed index nothing (omega arith))
    (c.is_of_owner.ensures.0 c.if-not-is_of_owner.false) c.loop-one.invariant

pub returns : goal.returns
returns c =
    let files = c.args.self.now in
    let role = admits c.args.sought in
    all_sought files c.args.file role c.args.name.now c.args.listed.now c.requires.near c.args.owner _
    (all_hold (λ (one : Listed). IsSought files c.args.file role c.args.name.now one.place
    → one.place.file ≡ c.args.owner) c.args.listed.now c.loop-one.one-index (omega arith) c.loop-one.invariant)
