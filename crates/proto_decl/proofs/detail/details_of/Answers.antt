use Rattle.std.proofs.Common.{◌∙◌, ℕ, List, sym, subst}
use Rattle.std.specs.List.{All}
use Rattle.proto_parse.specs.tree.FileItem.{FileItem}
use Rattle.proto_decl.specs.Signatures.{HasTokenAt}
use Rattle.proto_decl.specs.Spans.{OfHeading}
use Rattle.proto_decl.specs.Walked.{in_item}
use Rattle.proto_decl.specs.declared.declaration.Outline.{Outline}
use Rattle.proto_decl.specs.declared.surrounding.Surrounding.{Surrounding as Around}
use Rattle.proto_decl.proofs.detail.details_of.Goals as goal

pub details_in-requires-clause-tokens : goal.details_in-requires-clause-tokens
details_in-requires-clause-tokens c =
    let P : Outline → Type 0 = λ outline. OfHeading (HasTokenAt c.args.lexed.now) outline.heading in
    let Headed : List ℕ → List FileItem → Type 0 =
    λ text items. (around : Around) → All (λ (item : FileItem). All P (in_item text around item)) items in
    subst (λ (text : List ℕ). Headed text c.as_slice.result.now) (sym (c.as_str-text.ensures.same ∙ c.text.ensures))
    (subst (Headed c.args.lexed.now.text) (sym c.as_slice.ensures) c.headings_of_tree.ensures)
