use Rattle.std.proofs.Common.{◌≡◌, [], Some, List, take, length, refl, sym, subst, arith}
use Rattle.std.specs.List.{slice_get}
use Rattle.std.proofs.lemmas.List.{take_all}
use Rattle.std.proofs.lemmas.Option.{slice_get_read}
use Rattle.proto_decl.specs.declared.uses.Use.{Use}
use Rattle.basics.proofs.FirstLemmas.{take_next}
use Rattle.proto_link.proofs.UseFaultLemmas.{AreFaultsOf, adds_by, no_uses, one_use_more}
use Rattle.proto_link.proofs.use_faults.faults_of.Goals as goal

pub loop-type_use-init : goal.loop-type_use-init
loop-type_use-init c =
    subst (AreFaultsOf c.args.namespace.now c.args.file []) (sym c.new-faults.ensures.items)
    (no_uses c.args.namespace.now c.args.file)

pub loop-type_use-preserved : goal.loop-type_use-preserved
loop-type_use-preserved c =
    let files = c.args.namespace.now in
    let file = c.args.file in
    let uses = c.args.uses.now in
    let index = c.loop-type_use.type_use-index in
    let type_use = c.type_use-item.result in
    let old = c.loop-type_use.faults.items in
    let new = c.add_fault.new.faults.items in
    let there : slice_get uses index ≡ Some type_use =
    slice_get_read uses (length uses) index type_use refl c.loop-type_use-test.true c.type_use-item.is in
    subst (λ (its : List Use). AreFaultsOf files file its new) (sym (take_next uses index type_use there))
    (one_use_more files file (take index uses) type_use old new c.loop-type_use.invariant
    (adds_by files file type_use c.target_of.result c.in_ok-fault.fault c.target_of.ensures.target
    c.target_of.ensures.refused c.in_ok-fault.ensures old new c.in_ok-add_fault.ensures))

pub returns : goal.returns
returns c =
    let uses = c.args.uses.now in
    subst (λ (its : List Use). AreFaultsOf c.args.namespace.now c.args.file its c.loop-type_use.faults.items)
    (take_all c.loop-type_use.type_use-index uses (omega (arith, c.loop-type_use-test.false)))
    c.loop-type_use.invariant
