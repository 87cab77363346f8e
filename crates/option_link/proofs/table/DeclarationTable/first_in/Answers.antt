use Rattle.std.proofs.Common.{◌≡◌, get_or, arith}
use Rattle.std.proofs.lemmas.Option.{slice_get-get_or}
use Rattle.option_link.specs.declared.place.DeclaredPlace.{DeclaredPlace}
use Rattle.option_link.specs.declared.table.Listed.{Listed}
use Rattle.option_link.specs.Tables.{HasName}
use Rattle.option_link.proofs.LoopLemmas.{one_more, all_of, fails}
use Rattle.option_link.proofs.OwnerLemmas.{each_near, nothing}
use Rattle.option_link.proofs.table.DeclarationTable.first_in.Goals as goal

pub returns-then-is_in : goal.returns-then-is_in
returns-then-is_in c = c.is_in.ensures.0 c.if-is_in.true

pub loop-one-preserved : goal.loop-one-preserved
loop-one-preserved c =
    let listed = c.args.listed.now in
    let index = c.loop-one.one-index in
    one_more (λ (one : Listed). (one.place.file ≡ c.args.file) × HasName c.args.self.now c.args.name.now one.place → ⊥)
    listed index (get_or listed index nothing) (slice_get-get_or listed index nothing (omega arith))
    (fails c.is_in.result _ c.is_in.ensures c.if-is_in.false) c.loop-one.invariant

pub returns : goal.returns
returns c =
    let files = c.args.self.now in
    let name = c.args.name.now in
    let listed = c.args.listed.now in
    λ place has in_file. each_near files name listed c.requires
    (λ (p : DeclaredPlace). (p.file ≡ c.args.file) × HasName files name p → ⊥)
    (all_of (λ (one : Listed). (one.place.file ≡ c.args.file) × HasName files name one.place → ⊥) listed
    c.loop-one.one-index (omega arith) c.loop-one.invariant) place has (in_file, has)
