use Rattle.std.proofs.Common.{◌∙◌, ◌++◌, ◌∷◌, [], ℕ, List, ap, map, string_bytes, sym, take}
use Rattle.std.specs.List.{flat_map}
use Rattle.std.proofs.lemmas.List.{flat_map_more, map_more}
use Rattle.programs.specs.Missing.{group_text}
use Rattle.programs.proofs.missing.push_groups.Goals as goal

pub loop-path-preserved : goal.loop-path-preserved
loop-path-preserved c =
    let group = group_text (map string_bytes c.args.paths.now) in
    let line = string_bytes c.args.line.now in
    let named = c.args.named.now in
    let number = c.loop-path.path-index in
    let item = c.path-item.result in
    let before = map string_bytes (take number named) in
    let next = map_more string_bytes named number item c.loop-path-test.true
    ∙ ap (λ one. before ++ string_bytes one ∷ []) (sym c.path-item.is) in
    c.in_ok-push_group.ensures
    ∙ ap (λ (path : List ℕ). string_bytes c.loop-path.line ++ group path) c.as_str.ensures.value
    ∙ ap (λ (l : List ℕ). l ++ group (string_bytes item)) c.loop-path.invariant
    ∙ flat_map_more group line before (string_bytes item)
    ∙ ap (λ (l : List (List ℕ)). line ++ flat_map group l) (sym next)
