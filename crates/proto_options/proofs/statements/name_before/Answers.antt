use Rattle.std.proofs.Common.{◌≡◌, ◌∙◌, true, false, ◌||◌, sym}
use Rattle.proto_grammar.specs.Terminal.{first_is, of_kind, others, is_end}
use Rattle.proto_options.proofs.NameLemmas.{before_goes_on, before_stops, before_named, left_or, right_or}
use Rattle.proto_options.proofs.statements.name_before.Goals as goal
use Rattle.proto_options.proofs.statements.name_before.Goals.{then-tokens-test+else-not-is_before, else-tokens-test}

pub tokens-preserved : goal.tokens-preserved
tokens-preserved c =
    let some : is_end c.tokens.cursor.left ≡ false = cc in
    let isnt : first_is (of_kind c.args.kind) (others c.tokens.cursor.left) ≡ false = cc in
    let none : first_is (of_kind c.args.other) (others c.tokens.cursor.left) ≡ false = cc in
    rw (c.advance.ensures) (before_goes_on c.args.kind c.args.other c.tokens.cursor some isnt none) ∙ c.tokens.invariant

pub returns-then-is_at_end : goal.returns-then-is_at_end
returns-then-is_at_end c =
    let none : is_end c.tokens.cursor.left ≡ true = cc in
    rw (c.offset.ensures)
    (sym c.tokens.invariant ∙ before_stops c.args.kind c.args.other c.tokens.cursor none)

pub returns : goal.returns
returns c =
    let found : (first_is (of_kind c.args.kind) (others c.tokens.cursor.left)
    || first_is (of_kind c.args.other) (others c.tokens.cursor.left)) ≡ true =
    elim c.tokens-test.branch [
      | then-tokens-test+else-not-is_before w ↦
          right_or _ _ (let is : first_is (of_kind c.args.other) (others c.tokens.cursor.left) ≡ true = cc in is)
      | else-tokens-test w ↦
          left_or _ _ (let is : first_is (of_kind c.args.kind) (others c.tokens.cursor.left) ≡ true = cc in is)
    ] in
    rw (← c.tokens.invariant, before_named c.args.kind c.args.other c.tokens.cursor found) c.one_token.ensures
