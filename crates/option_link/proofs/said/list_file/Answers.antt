use Rattle.std.proofs.Common.{◌≡◌, ◌<◌, ℕ, length, refl, ap, ◌∙◌, subst, arith}
use Rattle.std.proofs.lemmas.Option.{slice_get_read}
use Rattle.option_link.specs.Said.{fact_hash, said_hash}
use Rattle.option_link.specs.Tables.{AddsUpTo}
use Rattle.option_link.proofs.TableLemmas.{adds_none, adds_more}
use Rattle.option_link.proofs.said.list_file.Goals as goal

pub loop-index-init : goal.loop-index-init
loop-index-init c = adds_none (fact_hash c.args.file) c.args.file c.args.facts.now c.args.listed.now.items

pub loop-index-preserved : goal.loop-index-preserved
loop-index-preserved c =
    let facts = c.args.facts.now in
    let index = c.loop-index.index in
    let fact = c.index-facts-index.result in
    let within : index < length facts = omega arith in
    adds_more (fact_hash c.args.file) c.args.file facts index fact c.args.listed.now.items c.loop-index.listed.items
    c.push.new.self.items c.said_hash.result
    (slice_get_read facts (length facts) index fact refl within c.index-facts-index.is)
    (c.said_hash.ensures ∙ ap (said_hash c.args.file fact.name.start) c.word_of.ensures)
    c.in_ok-push.ensures.items c.loop-index.invariant

pub returns : goal.returns
returns c =
    let facts = c.args.facts.now in
    let all : c.loop-index.index ≡ length facts = omega arith in
    subst (λ (n : ℕ). AddsUpTo (fact_hash c.args.file) c.args.file facts n c.args.listed.now.items
    c.loop-index.listed.items) all c.loop-index.invariant
