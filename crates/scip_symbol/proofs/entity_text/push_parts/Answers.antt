use Rattle.std.proofs.Common.{◌≡◌, ◌∙◌, ◌++◌, ℕ, List, codes}
use Rattle.std.specs.String.{string_bytes}
use Rattle.std.proofs.lemmas.List.{append_assoc}
use Rattle.std.proofs.lemmas.Result.{on_ok_weaker}
use Rattle.scip_symbol.specs.Names.{doubled, space}
use Rattle.scip_symbol.specs.SymbolText.{part_text}
use Rattle.scip_symbol.specs.Entities.{scheme_text}
use Rattle.scip_symbol.proofs.entity_text.push_parts.Goals as goal

joined : (old scheme blank m n v d s p q : List ℕ) → d ≡ old ++ scheme → s ≡ d ++ blank → p ≡ s ++ (m ++ blank)
    → q ≡ p ++ (n ++ blank)
    → q ++ (v ++ blank) ≡ old ++ (scheme ++ blank ++ m ++ blank ++ n ++ blank ++ v ++ blank)
joined old scheme blank m n v d s p q first second third fourth = rw (fourth, third, second, first) (simp append_assoc)

pub returns : goal.returns
returns c =
    on_ok_weaker c.push_part-3.result
    (λ fifth. fifth
    ∙ joined (string_bytes c.args.out.now) (doubled space scheme_text) (codes " ") (part_text c.args.manager.now)
    (part_text c.args.name.now) (part_text c.args.version.now)
    (string_bytes c.push_doubled.new.out) (string_bytes c.push_str.new.self) (string_bytes c.push_part.new.out)
    (string_bytes c.push_part-2.new.out)
    c.in_ok-push_doubled.ensures c.in_ok-push_str.ensures.bytes c.in_ok-push_part.ensures c.in_ok-push_part-2.ensures)
    c.push_part-3.ensures
