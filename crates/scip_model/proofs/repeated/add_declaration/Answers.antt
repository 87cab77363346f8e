use Rattle.std.proofs.Common.{◌≡◌, ◌∙◌, ◌⊎◌, ◌↔◌, inl, inr, Some, List, ℕ, map, cond, ap, subst, arith}
use Rattle.std.specs.Prelude.{Contains}
use Rattle.std.specs.String.{string_bytes}
use Rattle.std.specs.Str.{bytes_eq}
use Rattle.std.specs.Option.{unwrap_or}
use Rattle.std.specs.HashMap.{get_by_text}
use Rattle.std.proofs.lemmas.Bool.{cases_lt}
use Rattle.std.proofs.lemmas.Result.{on_ok_weaker}
use Rattle.scip_model.proofs.RepeatedLemmas.{taken-one, whatever-comes}
use Rattle.scip_model.proofs.repeated.add_declaration.Goals as goal

pub returns : goal.returns
returns c =
    let d = c.args.declaration.now in
    let number = c.args.number in
    let first = c.in_ok-first.first in
    let holders = c.args.holders.now in
    let more = c.first_holder.new.holders in
    let old = map string_bytes c.args.names.now.keys in
    let new = map string_bytes c.add_if_earlier.new.names.keys in
    let outermost = c.is_outermost.ensures.0 c.if-not-is_outermost.false in
    let named = c.in_ok-name.ensures ∙ c.full_name.ensures in
    let text = c.as_str.ensures ∙ named in
    let bytes = c.into_string.ensures ∙ named in
    let found = c.in_ok-first.ensures.found ∙ ap (λ (t : List ℕ). unwrap_or (get_by_text holders t) number) text in
    let kept = λ (other : List ℕ). c.in_ok-first.ensures.kept other
    ∙ ap (λ (t : List ℕ). cond (bytes_eq t other) (Some first) (get_by_text holders other)) text in
    elim (cases_lt first number) [
      | inl less ↦ on_ok_weaker c.add_if_earlier.result
          (λ added. taken-one number d outermost holders more old new first found kept
          (λ _. subst (λ (t : List ℕ). (other : List ℕ) → Contains new other ↔ (Contains old other ⊎ (other ≡ t)))
          bytes added)
          (λ behind. absurd (omega (arith, less, behind)))) (c.add_if_earlier.ensures.added less)
      | inr behind ↦ whatever-comes c.add_if_earlier.result
          (taken-one number d outermost holders more old new first found kept
          (λ less. absurd (omega (arith, less, behind)))
          (λ _. ap (map string_bytes) (c.add_if_earlier.ensures.kept behind)))
    ]
