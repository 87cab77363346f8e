use Rattle.std.proofs.Common.{rules, ◌≡◌, ◌∙◌, ◌++◌, ◌∷◌, [], List, ℕ, ap, sym, refl, length, take, arith}
use Rattle.std.specs.String.{string_bytes}
use Rattle.std.proofs.lemmas.List.{append_assoc, take_all}
use Rattle.std.proofs.lemmas.Option.{slice_get_read}
use Rattle.basics.proofs.FirstLemmas.{take_next}
use Rattle.scip_model.proofs.RepeatedNameLemmas.{before-last, before-none, before-more, outermost-is}
use Rattle.scip_model.proofs.naming.outermost_text.Goals as goal

pub loop-component-init : goal.loop-component-init
loop-component-init c = rw before-none (search rules)

pub loop-component-preserved : goal.loop-component-preserved
loop-component-preserved c =
    let items = c.package_name-component-items.result.now in
    let index = c.loop-component.component-index in
    let component = c.component-item.result in
    let front = take index items in
    let old = string_bytes c.loop-component.text in
    let there = slice_get_read items (length items) index component refl c.loop-component-test.true
    c.component-item.is in
    c.in_ok-push_str-2.ensures.bytes
    ∙ (ap (λ (t : List ℕ). t ++ (46 ∷ [])) (c.in_ok-push_str.ensures.bytes
    ∙ (ap (λ (t : List ℕ). old ++ t) c.as_str.ensures
    ∙ ap (λ (t : List ℕ). t ++ component.name) c.loop-component.invariant))
    ∙ (append_assoc (before-last front) component.name (46 ∷ [])
    ∙ (sym (before-more front component) ∙ ap before-last (sym (take_next items index component there)))))

pub returns : goal.returns
returns c =
    let items = c.package_name-component-items.result.now in
    let index = c.loop-component.component-index in
    let facts = c.args.facts.now in
    let step = c.first_step.result.now in
    let old = string_bytes c.loop-component.text in
    let whole : take index items ≡ items = take_all index items (omega (arith, c.loop-component-test.false)) in
    c.in_ok-push_str-3.ensures.bytes
    ∙ (ap (λ (t : List ℕ). old ++ t) c.as_str-2.ensures
    ∙ (ap (λ (t : List ℕ). t ++ step.name) (c.loop-component.invariant
    ∙ ap before-last (whole ∙ c.package_name-component-items.ensures))
    ∙ outermost-is facts c.args.declaration.now step c.first_step.ensures))
