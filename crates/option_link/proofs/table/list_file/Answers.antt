use Rattle.std.proofs.Common.{◌≡◌, ◌<◌, ℕ, length, refl, ap, ◌∙◌, subst, arith}
use Rattle.std.proofs.lemmas.Option.{slice_get_read}
use Rattle.proto_decl.specs.Names.{hash64}
use Rattle.option_link.specs.Tables.{AddsUpTo, name_hash}
use Rattle.option_link.proofs.TableLemmas.{adds_none, adds_more}
use Rattle.option_link.proofs.table.list_file.Goals as goal

pub loop-index-init : goal.loop-index-init
loop-index-init c = adds_none name_hash c.args.file c.args.declarations.now c.args.listed.now.items

pub loop-index-preserved : goal.loop-index-preserved
loop-index-preserved c =
    let declarations = c.args.declarations.now in
    let index = c.loop-index.index in
    let declaration = c.index-declarations-index.result in
    let within : index < length declarations = omega arith in
    adds_more name_hash c.args.file declarations index declaration c.args.listed.now.items c.loop-index.listed.items
    c.push.new.self.items c.hash64.result
    (slice_get_read declarations (length declarations) index declaration refl within c.index-declarations-index.is)
    (c.hash64.ensures ∙ ap hash64 c.full_name.ensures) c.in_ok-push.ensures.items c.loop-index.invariant

pub returns : goal.returns
returns c =
    let declarations = c.args.declarations.now in
    let all : c.loop-index.index ≡ length declarations = omega arith in
    subst (λ (n : ℕ). AddsUpTo name_hash c.args.file declarations n c.args.listed.now.items c.loop-index.listed.items)
    all
    c.loop-index.invariant
