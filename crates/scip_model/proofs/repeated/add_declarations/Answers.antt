use Rattle.std.proofs.Common.{◌∷◌, [], List, refl, sym, subst, length, map, take, arith}
use Rattle.std.specs.String.{string_bytes}
use Rattle.std.proofs.lemmas.List.{take_all}
use Rattle.std.proofs.lemmas.Option.{slice_get_read}
use Rattle.basics.proofs.FirstLemmas.{take_next}
use Rattle.basics.proofs.ListLemmas.{in_nothing}
use Rattle.proto_decl.specs.declared.declaration.Declaration.{Declaration}
use Rattle.scip_model.specs.Tables.Repeats.{AreTakenFrom}
use Rattle.scip_model.proofs.RepeatedLemmas.{taken-none, taken-both}
use Rattle.scip_model.proofs.repeated.add_declarations.Goals as goal

pub loop-declaration-init : goal.loop-declaration-init
loop-declaration-init c =
    taken-none c.args.number [] c.args.holders.now (map string_bytes c.args.names.now.keys)
    (λ name is. in_nothing is.declaration is.listed)

pub loop-declaration-preserved : goal.loop-declaration-preserved
loop-declaration-preserved c =
    let items = c.args.declarations.now in
    let index = c.loop-declaration.declaration-index in
    let declaration = c.declaration-item.result in
    let there = slice_get_read items (length items) index declaration refl c.loop-declaration-test.true
    c.declaration-item.is in
    subst (λ (ds : List Declaration). AreTakenFrom c.args.number ds c.args.holders.now c.add_declaration.new.holders
    (map string_bytes c.args.names.now.keys) (map string_bytes c.add_declaration.new.names.keys))
    (sym (take_next items index declaration there))
    (taken-both c.args.number (take index items) (declaration ∷ []) c.args.holders.now c.loop-declaration.holders
    c.add_declaration.new.holders (map string_bytes c.args.names.now.keys)
    (map string_bytes c.loop-declaration.names.keys) (map string_bytes c.add_declaration.new.names.keys)
    c.loop-declaration.invariant c.in_ok-add_declaration.ensures)

pub returns : goal.returns
returns c =
    let items = c.args.declarations.now in
    let index = c.loop-declaration.declaration-index in
    subst (λ (ds : List Declaration). AreTakenFrom c.args.number ds c.args.holders.now c.loop-declaration.holders
    (map string_bytes c.args.names.now.keys) (map string_bytes c.loop-declaration.names.keys))
    (take_all index items (omega (arith, c.loop-declaration-test.false))) c.loop-declaration.invariant
