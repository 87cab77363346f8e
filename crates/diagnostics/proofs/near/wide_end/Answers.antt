use Rattle.std.proofs.Common.{◌≡◌, ◌<◌, ◌≤◌, ℕ, List, length, drop, sym, subst, arith}
use Rattle.std.specs.List.{after_last, suffix_len}
use Rattle.proto_lex.specs.Position.{is_line_end}
use Rattle.diagnostics.specs.Characters.{characters}
use Rattle.diagnostics.specs.Excerpts.{last_of}
use Rattle.diagnostics.specs.Tables.Steps.{near}
use Rattle.diagnostics.proofs.NearLemmas.{stays, wide_is}
use Rattle.diagnostics.proofs.near.wide_end.Goals as goal

pub returns : goal.returns
returns c =
    let text = c.args.text.now in
    let n = c.saturating_sub.result in
    let window = c.cut.result.1.now in
    let is : window ≡ drop n text = c.cut.ensures.back in
    let whole : length window ≤ suffix_len stays window =
    omega (arith, c.if-last_line_len-window.false, c.last_line_len.ensures.value) in
    let more : near < length (characters window) =
    omega (arith, c.if-count_characters-le-NEAR.false, c.count_characters.ensures.count) in
    subst (λ (w : List ℕ). last_of near (characters w) ≡ last_of near (characters (after_last is_line_end text)))
    (sym is)
    (wide_is text n (subst (λ (w : List ℕ). length w ≤ suffix_len stays w) is whole)
    (subst (λ (w : List ℕ). near < length (characters w)) is more))
