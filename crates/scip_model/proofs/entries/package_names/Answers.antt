use Rattle.std.proofs.Common.{◌∙◌, ◌++◌, ◌∷◌, [], ◌+◌, ℕ, List, ap, sym, arith}
use Rattle.std.proofs.lemmas.List.FromFn.{map-range_with_len_more}
use Rattle.proto_decl.specs.Names.{package_of}
use Rattle.scip_model.specs.Tables.EntryLists.{package_names_up_to}
use Rattle.scip_model.proofs.entries.package_names.Goals as goal

pub loop-index-preserved : goal.loop-index-preserved
loop-index-preserved c =
    let components = c.args.components.now in
    let index = c.loop-index.index in
    c.in_ok-push.ensures.items
    ∙ (ap (λ (names : List (List ℕ)). names ++ c.in_ok-name.name ∷ []) c.loop-index.invariant
    ∙ (ap (λ (name : List ℕ). package_names_up_to components index ++ name ∷ []) c.in_ok-name.ensures
    ∙ sym (map-range_with_len_more (λ (i : ℕ). package_of components (i + 1)) 0 index index (omega arith))))
