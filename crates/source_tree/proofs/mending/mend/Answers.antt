use Rattle.std.proofs.Common.{Some, None, refl, sym, subst, List, ℕ}
use Rattle.std.proofs.lemmas.Bool.{false≢true}
use Rattle.std.proofs.lemmas.Result.{IfOk-weaker}
use Rattle.source_tree.specs.Mending.{SameAt}
use Rattle.source_tree.specs.Marks.{IsFirstBadByte}
use Rattle.source_tree.proofs.MendingLemmas.{mended_at_same, mended_at_other, mended_at_none}
use Rattle.source_tree.proofs.mending.mend.Goals as goal

pub returns-then-is_same_at : goal.returns-then-is_same_at
returns-then-is_same_at c =
    let bytes = c.args.bytes.now in
    let text = c.in_ok-text.text.items in
    let at = c.in-Some.at in
    let first = subst (λ (t : List ℕ). IsFirstBadByte t (Some at)) c.deref.ensures.value
    (subst (IsFirstBadByte c.deref.result.now) c.in-Some.is c.in_ok-at.ensures) in
    mended_at_same c.one_first_fault.ensures.one bytes text at c.requires c.in_ok-text.ensures first
    (subst (λ (t : List ℕ). SameAt bytes t at) c.deref-in-Some.ensures.value (c.if-is_same_at.ensures.0 refl))

pub returns-else-is_same_at : goal.returns-else-is_same_at
returns-else-is_same_at c =
    let bytes = c.args.bytes.now in
    let text = c.in_ok-text.text.items in
    let at = c.in-Some.at in
    let first = subst (λ (t : List ℕ). IsFirstBadByte t (Some at)) c.deref.ensures.value
    (subst (IsFirstBadByte c.deref.result.now) c.in-Some.is c.in_ok-at.ensures) in
    IfOk-weaker c.with_tail.result _ _ (λ whole is.
    mended_at_other bytes text whole.items at c.requires c.in_ok-text.ensures first
    (λ same. false≢true (c.if-is_same_at.ensures.1
    (subst (λ (t : List ℕ). SameAt bytes t at) (sym c.deref-in-Some.ensures.value) same))) is)
    c.with_tail.ensures

pub returns-in-None : goal.returns-in-None
returns-in-None c =
    let bytes = c.args.bytes.now in
    let text = c.in_ok-text.text.items in
    mended_at_none bytes text c.requires c.in_ok-text.ensures
    (subst (λ (t : List ℕ). IsFirstBadByte t None) c.deref.ensures.value
    (subst (IsFirstBadByte c.deref.result.now) c.in-None.is c.in_ok-at.ensures))
