use Rattle.std.proofs.Common.{◌∙◌, ◌++◌, ◌∷◌, [], List, ℕ, ap, sym}
use Rattle.std.proofs.lemmas.List.{map_push}
use Rattle.std.proofs.lemmas.Result.{on_ok_weaker}
use Rattle.scip_model.specs.Tables.OwnTexts.{behind}
use Rattle.scip_model.proofs.SymbolTableOrderLemmas.{stripped}
use Rattle.scip_model.proofs.symbol_texts.push_rest.Goals as goal

pub returns-in-Some : goal.returns-in-Some
returns-in-Some c =
    let front = c.args.front.now in
    let rest = c.in-Some.rest.now in
    on_ok_weaker c.push.result
    (λ added.
    ap (λ (rests : List (List ℕ)). behind front rests) added
    ∙ (map_push (λ (its : List ℕ). front ++ its) c.args.rests.now rest
    ∙ ap (λ (its : List ℕ). behind front c.args.rests.now ++ its ∷ [])
    (sym (stripped front c.as_str.result.now rest c.in-Some.ensures.cases)
    ∙ (c.as_str.ensures ∙ c.in_ok-text.ensures))))
    c.push.ensures

pub returns : goal.returns
returns c =
    let begins = c.requires.front.begins c.args.declaration.now in
    absurd (c.in-None.ensures.cases begins.0 (c.as_str.ensures ∙ (c.in_ok-text.ensures ∙ begins.1)))
