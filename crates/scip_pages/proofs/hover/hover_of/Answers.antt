use Rattle.std.proofs.Common.{◌∙◌, ◌++◌, ℕ, List, [], ap}
use Rattle.std.specs.List.{flat_map}
use Rattle.scip_records.specs.Texts.{unless_empty}
use Rattle.std.specs.Prelude.{option_copied}
use Rattle.scip_query.specs.Entries.{signature_in}
use Rattle.scip_pages.specs.Hover.{shortened}
use Rattle.scip_pages.specs.Shown.{shown_symbol}
use Rattle.scip_pages.specs.Targets.{below}
use Rattle.scip_pages.proofs.hover.hover_of.Goals as goal

pub returns : goal.returns
returns c =
    let shown : List ℕ = c.shown_symbol-shown.result.now in
    let signature : List ℕ = flat_map below (unless_empty c.signature_in.result.now) in
    let texts : List ℕ = flat_map below c.texts_of.result.now in
    let one = c.in_ok-push_enough.ensures [] c.in_ok-text.ensures.items in
    let two = c.in_ok-push_enough_signature.ensures shown one in
    let three = c.in_ok-push_enough_documentation.ensures (shown ++ signature) two in
    c.in_ok-shorten.ensures ((shown ++ signature) ++ texts) three
    ∙ ap shortened (ap (λ (s : List ℕ). (s ++ signature) ++ texts)
    (c.shown_symbol-shown.ensures ∙ ap shown_symbol c.as_bytes.ensures.value)
    ∙ (ap (λ (s : List ℕ). (shown_symbol c.args.symbol.now ++ flat_map below (unless_empty s)) ++ texts)
    c.signature_in.ensures
    ∙ ap (λ (s : List (List ℕ)). (shown_symbol c.args.symbol.now ++ flat_map below (unless_empty
    (signature_in (option_copied c.args.entry)))) ++ flat_map below s) c.texts_of.ensures))
