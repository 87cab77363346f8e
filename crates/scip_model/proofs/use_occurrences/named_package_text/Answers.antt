use Rattle.std.proofs.Common.{sym, ◌∙◌, ap, map, List, ℕ, length}
use denote.Ref.{Bor}
use Rattle.proto_decl.specs.Names.{components_of}
use Rattle.scip_symbol.specs.Entities.{OfPackage, symbol_in}
use Rattle.scip_symbol.specs.SymbolText.{symbol_text}
use Rattle.scip_model.specs.Named.{text_of}
use Rattle.scip_model.proofs.NamedLemmas.{front_names}
use Rattle.scip_model.proofs.use_occurrences.named_package_text.Goals as goal

pub returns : goal.returns
unfolding text_of
returns c =
    let parts = c.as_slice-2.result.now in
    let whole = ap (map (λ (part : Bor (List ℕ)). part.now)) c.as_slice-2.ensures.value ∙ c.in_ok-parts.ensures in
    let names = front_names parts c.split_at.result.0.now
    (components_of c.args.name.now) c.at_most-few.result c.args.count c.split_at.ensures.front whole
    (λ found e. c.at_most-few.ensures.same found
    (e ∙ ap (λ (names : List (Bor (List ℕ))). length names)
    (c.as_slice-2.ensures.value ∙ sym c.as_slice.ensures.value))) in
    c.from_string.ensures ∙ (c.in_ok-printed.ensures
    ∙ ap (λ (components : List (List ℕ)). symbol_text (symbol_in c.args.id.now (OfPackage components))) names)
