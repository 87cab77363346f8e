use Rattle.std.proofs.Common.{◌∙◌, ◌++◌, ◌∷◌, [], ◌+◌, List, ℕ, ap, sym, arith, append_assoc}
use Rattle.std.proofs.lemmas.List.FromFn.{map-range_with_len_more}
use Rattle.scip_model.specs.Named.{text_of, package_at}
use Rattle.scip_model.specs.Tables.Plans.{package_texts_up_to}
use Rattle.scip_model.proofs.symbol_texts.push_package_texts.Goals as goal

pub loop-index-preserved : goal.loop-index-preserved
loop-index-preserved c =
    let id = c.args.id.now in
    let facts = c.args.facts.now in
    let index = c.loop-index.index in
    let old = c.args.texts.now.items in
    let so_far = package_texts_up_to id facts index in
    c.in_ok-push.ensures.items
    ∙ (ap (λ (texts : List (List ℕ)). texts ++ c.in_ok-text.text ∷ []) c.loop-index.invariant
    ∙ (append_assoc old so_far (c.in_ok-text.text ∷ [])
    ∙ (ap (λ (text : List ℕ). old ++ (so_far ++ text ∷ [])) c.in_ok-text.ensures
    ∙ ap (λ (texts : List (List ℕ)). old ++ texts)
    (sym (map-range_with_len_more (λ i. text_of id (package_at facts (i + 1))) 0 index index (omega arith))))))
