use Rattle.std.proofs.Common.{◌≡◌, ◌∙◌, List, ℕ, length, map, ap, subst, arith}
use Rattle.std.specs.Option.{option_map}
use Rattle.std.proofs.lemmas.Option.{slice_get-get_or, slice_get-map}
use denote.Ref.{Bor}
use Rattle.scip_model.specs.Tables.Additions.{Adds}
use Rattle.scip_model.specs.Tables.OptionListing.{IsOptionExternal}
use Rattle.scip_model.proofs.OptionExternalLemmas.{option-none, option-more}
use Rattle.scip_model.proofs.external_options.push_files.Goals as goal

pub loop-file-init : goal.loop-file-init
loop-file-init c = option-none c.args.linker.now c.args.options.now.known c.args.choices.now
    (map (λ (text : Bor (List ℕ)). text.now) c.args.texts.now) c.args.named.now.items

pub loop-file-preserved : goal.loop-file-preserved
loop-file-preserved c =
    let now : Bor (List ℕ) → List ℕ = λ text. text.now in
    let texts = c.args.texts.now in
    option-more c.args.linker.now c.args.options.now.known c.args.choices.now (map now texts) c.loop-file.file
    c.args.named.now.items c.loop-file.named.items c.push_file.new.named.items c.loop-file.invariant
    (c.in_ok-push_file.ensures (map now texts) (slice_get-map now texts c.loop-file.file
    ∙ ap (option_map now) (slice_get-get_or texts c.loop-file.file _ c.loop-file-test.true)))

pub returns : goal.returns
returns c =
    let texts = c.args.texts.now in
    let same : c.loop-file.file ≡ length texts = omega (arith, c.loop-file-test.false, c.loop-file.auto.file-end) in
    subst (λ (count : ℕ). Adds (IsOptionExternal c.args.linker.now c.args.options.now.known c.args.choices.now
    (map (λ (text : Bor (List ℕ)). text.now) texts) count) c.args.named.now.items c.loop-file.named.items) same
    c.loop-file.invariant
