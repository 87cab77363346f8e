use Rattle.std.proofs.Common.{◌≡◌, ◌∙◌, ◌<◌, ◌≤◌, ◌-◌, ℕ, List, length, drop, take, ap, sym, subst, arith}
use Rattle.std.specs.List.{prefix_len}
use Rattle.diagnostics.specs.Characters.{characters}
use Rattle.diagnostics.specs.Tables.Steps.{near}
use Rattle.diagnostics.proofs.NearLemmas.{front_is, line_of_front, stays}
use Rattle.diagnostics.proofs.near.front_of_line.Goals as goal

pub returns-clause-marked : goal.returns-clause-marked
returns-clause-marked c =
    let text = c.args.text.now in
    let len = c.args.len in
    let w = c.saturating_add.result in
    let k = length (take w text) - 1 in
    let window : c.cut.result.0.now ≡ take w text = c.cut.ensures.front in
    let few : c.saturating_sub.result ≡ k = omega (arith, c.saturating_sub.ensures, ap length window) in
    let front : c.cut-2.result.0.now ≡ take k text = c.cut-2.ensures.front ∙ ap (λ n. take n text) few in
    let whole : length (take w text) ≤ prefix_len stays (take w text) =
    subst (λ (l : List ℕ). length l ≤ prefix_len stays l) window
    (omega (arith, c.if-line_len-window.false, c.line_len.ensures.value)) in
    let more : near < length (characters (drop len (take k text))) =
    subst (λ (l : List ℕ). near < length (characters l))
    (c.cut-3.ensures.back ∙ ap (drop len) front)
    (omega (arith, c.if-count_characters-le-NEAR.false, c.count_characters.ensures.count)) in
    subst (λ (l : List ℕ). take len l ≡ take len (line_of_front text)) (sym front) (front_is text w len whole more).0

pub returns-clause-behind : goal.returns-clause-behind
returns-clause-behind c =
    let text = c.args.text.now in
    let len = c.args.len in
    let w = c.saturating_add.result in
    let k = length (take w text) - 1 in
    let window : c.cut.result.0.now ≡ take w text = c.cut.ensures.front in
    let few : c.saturating_sub.result ≡ k = omega (arith, c.saturating_sub.ensures, ap length window) in
    let front : c.cut-2.result.0.now ≡ take k text = c.cut-2.ensures.front ∙ ap (λ n. take n text) few in
    let whole : length (take w text) ≤ prefix_len stays (take w text) =
    subst (λ (l : List ℕ). length l ≤ prefix_len stays l) window
    (omega (arith, c.if-line_len-window.false, c.line_len.ensures.value)) in
    let more : near < length (characters (drop len (take k text))) =
    subst (λ (l : List ℕ). near < length (characters l))
    (c.cut-3.ensures.back ∙ ap (drop len) front)
    (omega (arith, c.if-count_characters-le-NEAR.false, c.count_characters.ensures.count)) in
    subst (λ (l : List ℕ). take near (characters (drop len l)) ≡ take near (characters (drop len (line_of_front text))))
    (sym front) (front_is text w len whole more).1
