use Rattle.std.proofs.Common.{List, length, sym, subst}
use Rattle.std.specs.List.{All}
use Rattle.std.proofs.lemmas.Result.{on_ok_weaker}
use Rattle.proto_visibility.specs.declared.lookup.Entity.{Entity}
use Rattle.scip_model.specs.Tables.ExternalLists.{Adds, FromFront, IsKnownPart, IsOfPart}
use Rattle.scip_model.proofs.ExternalSymbolLemmas.{found-parts, of-found}
use Rattle.scip_model.proofs.external_symbols.push_use.Goals as goal

pub push_parts-requires : goal.push_parts-requires
push_parts-requires c =
    let files = c.args.linker.now in
    let chosen = c.args.choices.now in
    subst (λ (parts : List Entity). All (IsKnownPart files chosen) parts) (sym c.parts_of.ensures)
    (found-parts files chosen c.args.source c.args.type_use.now c.in_ok-found.found c.requires.choices
    c.in_ok-found.ensures)

pub returns : goal.returns
returns c =
    let files = c.args.linker.now in
    let chosen = c.args.choices.now in
    let old = c.args.named.now.items in
    let new = c.push_parts.new.named.items in
    on_ok_weaker c.push_parts.result
    (λ adds. of-found files chosen c.one_target_a_use.ensures.targets c.linked.ensures.origins
    c.linked.ensures.clear.clear c.args.source c.args.type_use.now c.in_ok-found.found old new c.requires.source
    c.in_ok-found.ensures
    (subst (λ (parts : List Entity). Adds (FromFront (IsOfPart files chosen) parts (length parts)) old new)
    c.parts_of.ensures adds))
    c.push_parts.ensures
