use Rattle.std.proofs.Common.{◌∙◌, ◌++◌, ◌∷◌, [], ap, sym, ℕ, List, string_bytes}
use Rattle.proto_decl.specs.declared.uses.Component.{Component}
use Rattle.proto_decl.proofs.CommentTextLemmas.{joined_more}
use Rattle.scip_build.proofs.option_reading.joined_names.Goals as goal

pub loop-component-preserved : goal.loop-component-preserved
loop-component-preserved c =
    let old = string_bytes c.loop-component.joined in
    joined_more 46 (λ (component : Component). component.name) c.args.first.now c.component-item.result
    c.args.others.now c.loop-component.component-index c.component-item.result old
    (string_bytes c.push_str-in-loop-component.new.self) c.loop-component-test.true (sym c.component-item.is)
    c.loop-component.invariant
    (c.in_ok-push_str-2.ensures.bytes
    ∙ (ap (λ (t : List ℕ). t ++ c.as_str-in-loop-component.result.now) c.in_ok-push_str.ensures.bytes
    ∙ ap (λ (t : List ℕ). (old ++ 46 ∷ []) ++ t) c.as_str-in-loop-component.ensures))
