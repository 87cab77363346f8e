use Rattle.std.proofs.Common.{◌≡◌, ◌++◌, arith, append_assoc, rules, sym, ap, ◌∙◌, List, ℕ, [], ◌∷◌}
use Rattle.std.proofs.lemmas.Grind.{common_steps}
use Rattle.std.proofs.lemmas.Str.Pattern.{split_once_first}
use Rattle.std.specs.String.{string_bytes}
use Rattle.scip_symbol.specs.Names.{doubled}
use Rattle.scip_symbol.proofs.NameDoubledLemmas.{doubled-clean, doubled-cut}
use Rattle.scip_symbol.proofs.printer.push_doubled.Goals as goal

-- what stands before the mark, two marks, and what is left
joined : (m : ℕ) (out a b d front rest whole mark : List ℕ) → a ≡ out ++ front → b ≡ a ++ mark → d ≡ b ++ mark
    → mark ≡ m ∷ []
    → whole ≡ front ++ (m ∷ m ∷ rest) → d ++ rest ≡ out ++ whole
joined m out a b d front rest whole mark p q r e w = rw (r, q, p, e, w) (simp append_assoc)

pub marks-preserved : goal.marks-preserved
marks-preserved c =
    let m = c.args.mark in
    let cut = rw c.in-Some.is at
    (split_once_first m c.marks.rest.now c.split_once.result c.split_once.ensures.cases c.requires) in (
      joined m (string_bytes c.marks.out) _ _ _ c.in-Some.front.now (doubled m c.in-Some.after.now) _ _
          c.in_ok-push_str.ensures.bytes c.in_ok-push.ensures.bytes c.in_ok-push-2.ensures.bytes
          (c.in_ok-push.ensures.ascii c.requires)
          (doubled-cut m c.marks.rest.now c.in-Some.front.now c.in-Some.after.now cut.0 cut.1 cut.2)
          ∙ c.marks.invariant.0,
      search rules,
    )

pub returns : goal.returns
returns c =
    let m = c.args.mark in
    let none = rw c.in_default.is at
    (split_once_first m c.marks.rest.now c.split_once.result c.split_once.ensures.cases c.requires) in
    let whole = ap (λ l. string_bytes c.marks.out ++ l) (sym (doubled-clean m c.marks.rest.now none))
    ∙ c.marks.invariant.0 in
    grind (arith, common_steps, whole)
