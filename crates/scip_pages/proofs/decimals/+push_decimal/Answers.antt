use Rattle.std.proofs.Common.{◌∙◌, ◌++◌, ◌+◌, ◌%◌, ◌/◌, ◌∷◌, [], ap, sym, ℕ, List, arith, append_assoc}
use Rattle.std.specs.Fmt.{decimal}
use Rattle.std.proofs.lemmas.Result.{on_ok_weaker}
use Rattle.std.proofs.lemmas.Fmt.{decimal_digit, decimal_step}
use Rattle.scip_pages.proofs.decimals.+push_decimal.Goals as goal

pub returns-then-number-lt10 : goal.returns-then-number-lt10
returns-then-number-lt10 t c =
    on_ok_weaker c.push_digit.result
    (λ e. e ∙ ap (λ (l : List ℕ). c.args.text.now.items ++ l) (sym (decimal_digit c.args.number (omega arith))))
    c.push_digit.ensures

pub returns-in_ok-push_decimal : goal.returns-in_ok-push_decimal
returns-in_ok-push_decimal t c =
    let number : ℕ = c.args.number in
    on_ok_weaker c.push_digit-else-number-lt10.result
    (λ e. e ∙ ap (λ (l : List ℕ). l ++ (48 + number % 10) ∷ []) c.in_ok-push_decimal.ensures
    ∙ append_assoc c.args.text.now.items (decimal (number / 10)) ((48 + number % 10) ∷ [])
    ∙ ap (λ (l : List ℕ). c.args.text.now.items ++ l) (sym (decimal_step number (omega arith) (omega arith))))
    c.push_digit-else-number-lt10.ensures
