use Rattle.std.proofs.Common.{◌++◌, ◌∙◌, ap, List, ℕ, Option}
use Rattle.std.proofs.lemmas.Int.{to_z-of_z}
use Rattle.std.proofs.lemmas.Result.{on_ok_weaker}
use Rattle.std.specs.Fmt.{signed_decimal}
use Rattle.std.specs.Int.{w32}
use Rattle.std.specs.Option.{unwrap_or}
use Rattle.std.specs.String.{string_bytes}
use Rattle.scip_query.specs.Kinds.{kind_name}
use Rattle.scip_query.specs.MoreAnswers.{definition_line}
use Rattle.scip_query.proofs.more_answer.push_definition.Goals as goal

pub returns-in-Some : goal.returns-in-Some
returns-in-Some c =
    let line : Option (List ℕ) → List ℕ = λ name. string_bytes c.args.text.now
    ++ definition_line c.args.range (unwrap_or name (signed_decimal c.args.kind)) c.args.symbol.now in
    let is = c.in-Some.ensures ∙ ap kind_name (to_z-of_z w32 c.args.kind c.ranges.kind) in
    on_ok_weaker c.push_named.result (λ e. e ∙ ap line is) c.push_named.ensures

pub returns-in-None : goal.returns-in-None
returns-in-None c =
    let line : Option (List ℕ) → List ℕ = λ name. string_bytes c.args.text.now
    ++ definition_line c.args.range (unwrap_or name (signed_decimal c.args.kind)) c.args.symbol.now in
    let numbered : _ → List ℕ = λ kind. string_bytes c.args.text.now
    ++ definition_line c.args.range (signed_decimal kind) c.args.symbol.now in
    let same = to_z-of_z w32 c.args.kind c.ranges.kind in
    let is = c.in-None.ensures ∙ ap kind_name same in
    on_ok_weaker c.push_numbered.result (λ e. e ∙ ap numbered same ∙ ap line is) c.push_numbered.ensures
