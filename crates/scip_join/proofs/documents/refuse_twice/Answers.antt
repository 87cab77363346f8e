use Rattle.std.proofs.Common.{◌∙◌, inl, inr, sym}
use Rattle.scip_join.proofs.documents.refuse_twice.Goals as goal

pub returns-then-replace-clause-none : goal.returns-then-replace-clause-none
returns-then-replace-clause-none c = inl c.if-replace.true

pub returns-in_default-clause-none : goal.returns-in_default-clause-none
returns-in_default-clause-none c = inr (sym c.in_default.ensures)

pub returns-clause-refused : goal.returns-clause-refused
returns-clause-refused c =
    let later = c.in-Some.later.now in
    let earlier = c.in-Some.earlier.now in
    let path = c.in_ok-path.ensures ∙ c.as_str.ensures in (
      c.if-replace.false,
      later,
      earlier,
      sym c.in-Some.ensures,
      λ i. record { path = path i; earlier = earlier.index; later = later.index },
    )
