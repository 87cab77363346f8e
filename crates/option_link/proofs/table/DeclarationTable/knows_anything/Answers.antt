use Rattle.std.proofs.Common.{refl}
use Rattle.proto_visibility.specs.Knows.{KnowsAs, is_aggregate}
use Rattle.option_link.specs.Lookups.{is_any}
use Rattle.option_link.proofs.KnownLemmas.{known_any}
use Rattle.option_link.proofs.LoopLemmas.{fails}
use Rattle.option_link.proofs.SoughtLemmas.{known_by_place}
use Rattle.option_link.proofs.table.DeclarationTable.knows_anything.Goals as goal

pub returns-then-knows_aggregate : goal.returns-then-knows_aggregate
returns-then-knows_aggregate c = (
  λ t. known_any c.args.self.now c.args.file c.args.name.now
      (c.knows_aggregate.ensures.0 c.if-knows_aggregate.true),
  λ known. refl,
)

pub returns : goal.returns
returns c =
    let none = fails c.knows_aggregate.result (KnowsAs c.args.self.now c.args.file is_aggregate c.args.name.now)
    c.knows_aggregate.ensures c.if-knows_aggregate.false in
    known_by_place c.args.self.now c.args.file is_any c.args.name.now c.is_seen.result (λ packaged. none)
    c.is_seen.ensures
