use Rattle.std.proofs.Common.{◌∙◌, ◌++◌, ◌∷◌, [], ap, refl, ℕ, List, string_bytes}
use Rattle.proto_lex.specs.declared.span.Span.{Span}
use Rattle.proto_lex.specs.Lexed.{part_of}
use Rattle.proto_decl.proofs.CommentTextLemmas.{joined_more}
use Rattle.proto_decl.proofs.package.joined_components.Goals as goal

pub loop-component-preserved : goal.loop-component-preserved
loop-component-preserved c =
    let default : Span = record { start = 0; end = 0 } in
    let old = string_bytes c.loop-component.joined in
    joined_more 46 (part_of c.args.text.now) c.args.first _ c.args.others.now c.loop-component.component-index default
    old (string_bytes c.push_str-in-loop-component.new.self) c.loop-component-test.true refl
    c.loop-component.invariant
    (c.in_ok-push_str-2.ensures.bytes
    ∙ (ap (λ (t : List ℕ). t ++ c.spelling_at-in-loop-component.result.now) c.in_ok-push_str.ensures.bytes
    ∙ ap (λ (t : List ℕ). (old ++ 46 ∷ []) ++ t) c.spelling_at-in-loop-component.ensures))
