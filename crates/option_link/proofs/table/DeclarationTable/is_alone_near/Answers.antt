use Rattle.std.proofs.Common.{◌≡◌, get_or, arith}
use Rattle.std.proofs.lemmas.Option.{slice_get-get_or}
use Rattle.option_link.specs.declared.table.Listed.{Listed}
use Rattle.option_link.specs.Tables.{HasName}
use Rattle.option_link.proofs.LoopLemmas.{none_yet, one_more, not_all, all_hold, fails}
use Rattle.option_link.proofs.OwnerLemmas.{alone_by_near, nothing}
use Rattle.option_link.proofs.table.DeclarationTable.is_alone_near.Goals as goal

pub loop-one-init : goal.loop-one-init
loop-one-init c =
    none_yet (λ (one : Listed). one.place.file ≡ c.args.place.file
    → HasName c.args.self.now c.args.name.now one.place → one.place ≡ c.args.place)
    c.args.listed.now

pub returns-then-not-is_apart_in : goal.returns-then-not-is_apart_in
returns-then-not-is_apart_in c =
    let files = c.args.self.now in
    let name = c.args.name.now in
    let place = c.args.place in
    let near = c.args.listed.now in
    let index = c.loop-one.one-index in
    alone_by_near files name near place _ c.requires
    (not_all (λ (one : Listed). one.place.file ≡ place.file
    → HasName files name one.place → one.place ≡ place) near index (get_or near index nothing)
    (slice_get-get_or near index nothing (omega arith))
    (fails c.is_apart_in.result _ c.is_apart_in.ensures c.if-not-is_apart_in.true))

pub loop-one-preserved : goal.loop-one-preserved
loop-one-preserved c =
    let near = c.args.listed.now in
    let index = c.loop-one.one-index in
    one_more (λ (one : Listed). one.place.file ≡ c.args.place.file
    → HasName c.args.self.now c.args.name.now one.place → one.place ≡ c.args.place) near index
    (get_or near index nothing) (slice_get-get_or near index nothing (omega arith))
    (c.is_apart_in.ensures.0 c.if-not-is_apart_in.false) c.loop-one.invariant

pub returns : goal.returns
returns c =
    let files = c.args.self.now in
    let name = c.args.name.now in
    let place = c.args.place in
    let near = c.args.listed.now in
    alone_by_near files name near place _ c.requires
    (all_hold (λ (one : Listed). one.place.file ≡ place.file
    → HasName files name one.place → one.place ≡ place) near c.loop-one.one-index
    (omega arith) c.loop-one.invariant)
