use Rattle.std.proofs.Common.{◌≡◌, ◌∙◌, ℕ, ◌+◌, ◌<◌, ◌≤◌, List, ap, get_or, length, subst, arith}
use Rattle.std.proofs.lemmas.Bool.{eqb-true, ltb-true}
use Rattle.proto_lex.specs.Position.{line_starts}
use Rattle.proto_lex.proofs.PositionLineStartLemmas.{IsLineAt, line_by_next}
use Rattle.proto_lex.proofs.text.Text.is_on_line.Goals as goal

-- by the starts that are kept
on_line : (text starts : List ℕ) (offset line : ℕ) → starts ≡ line_starts text → line < length starts
    → get_or starts line 0 ≤ offset → (line + 1 < length starts → offset < get_or starts (line + 1) 0)
    → IsLineAt text offset line
on_line text starts offset line same within low next =
    line_by_next text offset line (subst (λ (xs : List ℕ). line < length xs) same within)
    (subst (λ (xs : List ℕ). get_or xs line 0 ≤ offset) same low)
    (subst (λ (xs : List ℕ). line + 1 < length xs → offset < get_or xs (line + 1) 0) same next)

pub returns-then-line-starts-2-clause-parted : goal.returns-then-line-starts-2-clause-parted
returns-then-line-starts-2-clause-parted c = λ is.
    let same = c.as_slice-starts.ensures.value ∙ (c.self.invariant.1 ∙ ap line_starts c.self.view_is) in
    (on_line c.args.self.now c.as_slice-starts.result.now c.args.offset c.args.line same (omega arith) (omega arith)
    (λ further. absurd (omega (arith, eqb-true _ _ is, further)))).parted

pub returns-else-line-starts-2-clause-parted : goal.returns-else-line-starts-2-clause-parted
returns-else-line-starts-2-clause-parted c = λ is.
    let same = c.as_slice-starts.ensures.value ∙ (c.self.invariant.1 ∙ ap line_starts c.self.view_is) in
    (on_line c.args.self.now c.as_slice-starts.result.now c.args.offset c.args.line same (omega arith) (omega arith)
    (λ further. ltb-true _ _ is)).parted
