use Rattle.std.proofs.Common.{◌∙◌, ◌++◌, ◌∷◌, [], ap, sym, refl, subst, length, map, take, List, ℕ}
use Rattle.std.specs.Prelude.{Contains}
use Rattle.std.proofs.lemmas.List.{append_assoc, map_more}
use Rattle.std.proofs.lemmas.Option.{slice_get_read}
use Rattle.basics.proofs.FirstLemmas.{contained}
use Rattle.proto_decl.specs.declared.declaration.Declaration.{Declaration}
use Rattle.scip_model.specs.Named.{text_of, declaration_in}
use Rattle.scip_model.specs.Tables.OwnTexts.{behind}
use Rattle.scip_model.proofs.symbol_texts.push_rests.Goals as goal

pub push_rest-requires-clause-listed : goal.push_rest-requires-clause-listed
push_rest-requires-clause-listed c =
    let items = c.declarations-declaration-items.result.now in
    let index = c.loop-declaration.declaration-index in
    let declaration = c.declaration-item.result in
    subst (λ (ds : List Declaration). Contains ds declaration) c.declarations-declaration-items.ensures
    (contained items index declaration
    (slice_get_read items (length items) index declaration refl c.loop-declaration-test.true c.declaration-item.is))

pub loop-declaration-preserved : goal.loop-declaration-preserved
loop-declaration-preserved c =
    let facts = c.args.facts.now in
    let home = c.args.home.now in
    let old = behind c.args.front.now c.args.rests.now in
    let items = c.declarations-declaration-items.result.now in
    let declaration = c.declaration-item.result in
    let index = c.loop-declaration.declaration-index in
    let text : Declaration → List ℕ = λ one. text_of home.id (declaration_in home facts one) in
    c.in_ok-push_rest.ensures
    ∙ (ap (λ (texts : List (List ℕ)). texts ++ text declaration ∷ []) c.loop-declaration.invariant
    ∙ (append_assoc old (map text (take index items)) (text declaration ∷ [])
    ∙ ap (λ (texts : List (List ℕ)). old ++ texts)
    (ap (λ (one : Declaration). map text (take index items) ++ text one ∷ []) c.declaration-item.is
    ∙ sym (map_more text items index declaration c.loop-declaration-test.true))))
