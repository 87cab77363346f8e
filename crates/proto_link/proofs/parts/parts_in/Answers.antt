use Rattle.std.proofs.Common.{◌≡◌, ◌+◌, ◌-◌, ◌++◌, ◌∷◌, [], ℕ, List, Vec, Global, map, sym, ◌∙◌, ap, subst}
use Rattle.std.specs.String.{string_bytes}
use denote.Ref.{Bor}
use Rattle.proto_decl.specs.Names.{components_of, prefix_of}
use Rattle.proto_visibility.specs.declared.lookup.Entity.{Entity}
use Rattle.proto_link.proofs.TargetLemmas.{AreParts, prefix_longer, prefix_is_entity, parts_skip, parts_more}
use Rattle.proto_link.proofs.parts.parts_in.Goals as goal
use Rattle.proto_link.proofs.parts.parts_in.Goals.{then-index-skipped+in_ok-push, else-index-skipped}

pub entity_of-requires-clause-entity : goal.entity_of-requires-clause-entity
entity_of-requires-clause-entity c =
    let name = c.args.name.now in
    let items = c.deref-component-items.result.now in
    let are : map (λ (x : Bor (List ℕ)). x.now) items ≡ components_of name =
    ap (map (λ (x : Bor (List ℕ)). x.now)) c.deref-component-items.ensures.value ∙ c.in_ok-components.ensures in
    let prefix = prefix_longer name items c.loop-index.index _ (string_bytes c.loop-index.prefix)
    (string_bytes c.lengthen.new.prefix) are c.loop-index-test.true c.loop-index.invariant.prefix
    c.in_ok-lengthen.ensures in
    prefix_is_entity c.args.facts.now name c.as_str.result.now items c.loop-index.index
    (c.prefixes_are_entities.ensures c.args.facts.now c.origin.ensures) c.requires.declared are
    c.loop-index-test.true (c.as_str.ensures.value ∙ prefix)

pub loop-index-preserved : goal.loop-index-preserved
loop-index-preserved c =
    let name = c.args.name.now in
    let items = c.deref-component-items.result.now in
    let index = c.loop-index.index in
    let skipped = c.len.result - c.args.count in
    let parts = c.loop-index.parts.items in
    let are : map (λ (x : Bor (List ℕ)). x.now) items ≡ components_of name =
    ap (map (λ (x : Bor (List ℕ)). x.now)) c.deref-component-items.ensures.value ∙ c.in_ok-components.ensures in
    let prefix : string_bytes c.lengthen.new.prefix ≡ prefix_of name (index + 1) =
    prefix_longer name items index _ (string_bytes c.loop-index.prefix)
    (string_bytes c.lengthen.new.prefix) are c.loop-index-test.true c.loop-index.invariant.prefix
    c.in_ok-lengthen.ensures in
    record {
      prefix = prefix;
      parts = elim c.if-index-skipped.branch [
        | then-index-skipped+in_ok-push w ↦ (
            let pushed : c.if-index-skipped.parts.items ≡ parts ++ w.entity_of.result ∷ [] =
            ap (λ (ps : Vec Entity Global). ps.items) w.parts-is ∙ w.in_ok-push.ensures.items in
            subst (AreParts c.args.number c.args.facts.now name skipped (index + 1)) (sym pushed)
            (parts_more c.args.number c.args.facts.now name skipped index parts w.as_str.result.now w.entity_of.result
            w.if-index-skipped.true (w.as_str.ensures.value ∙ prefix) w.entity_of.ensures
            c.loop-index.invariant.parts))
        | else-index-skipped w ↦ subst
            (λ (ps : Vec Entity Global). AreParts c.args.number c.args.facts.now name skipped (index + 1) ps.items)
            (sym w.parts-is)
            (parts_skip c.args.number c.args.facts.now name skipped index parts w.if-index-skipped.false
            c.loop-index.invariant.parts)
      ];
    }
