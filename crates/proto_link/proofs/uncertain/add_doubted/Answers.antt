use Rattle.std.proofs.Common.{◌≡◌, Some, List, take, length, refl, sym, subst, arith}
use Rattle.std.specs.List.{slice_get}
use Rattle.std.proofs.lemmas.List.{take_all}
use Rattle.std.proofs.lemmas.Option.{slice_get_read}
use Rattle.proto_decl.specs.declared.uses.Use.{Use}
use Rattle.basics.proofs.FirstLemmas.{take_next}
use Rattle.proto_link.specs.Tables.Doubts.{Adds, IsDoubted}
use Rattle.proto_link.proofs.DoubtLemmas.{doubted_first, doubted_more}
use Rattle.proto_link.proofs.uncertain.add_doubted.Goals as goal

pub loop-type_use-init : goal.loop-type_use-init
loop-type_use-init c = doubted_first c.args.namespace.now c.args.file c.args.behind c.args.doubted.now.items

pub loop-type_use-preserved : goal.loop-type_use-preserved
loop-type_use-preserved c =
    let files = c.args.namespace.now in
    let file = c.args.file in
    let behind = c.args.behind in
    let uses = c.args.uses.now in
    let index = c.loop-type_use.type_use-index in
    let type_use = c.type_use-item.result in
    let first = c.args.doubted.now.items in
    let old = c.loop-type_use.doubted.items in
    let new = c.add_if_doubted.new.doubted.items in
    let there : slice_get uses index ≡ Some type_use =
    slice_get_read uses (length uses) index type_use refl c.loop-type_use-test.true c.type_use-item.is in
    subst (λ (its : List Use). Adds (IsDoubted files file behind its) first new)
    (sym (take_next uses index type_use there))
    (doubted_more files file behind (take index uses) type_use first old new c.loop-type_use.invariant
    c.in_ok-add_if_doubted.ensures)

pub returns : goal.returns
returns c =
    let uses = c.args.uses.now in
    subst (λ (its : List Use). Adds (IsDoubted c.args.namespace.now c.args.file c.args.behind its)
    c.args.doubted.now.items c.loop-type_use.doubted.items)
    (take_all c.loop-type_use.type_use-index uses (omega (arith, c.loop-type_use-test.false)))
    c.loop-type_use.invariant
