-- Aggregates, token by token.
use Rattle.std.proofs.Common.{◌≡◌, ℕ, ◌+◌, ◌-◌, ◌==◌, ◌<◌, ◌≤◌, Bool, true, false, cond, Ok, Err, List, [], ◌∷◌}
use Rattle.std.proofs.Common.{length, suc, refl, sym, ◌∙◌, ap, arith}
use Rattle.std.proofs.lemmas.Bool.Decides.{nat_tests}
use Rattle.proto_lex.specs.declared.token.TokenKind.TheVariants.{OpenBrace, CloseBrace}
use Rattle.proto_grammar.specs.Lexeme.{Lexeme, Place, place_of}
use Rattle.proto_grammar.specs.Terminal.{of_kind}
use Rattle.proto_grammar.specs.declared.fault.SyntaxFault.{SyntaxFault}
use Rattle.proto_grammar.specs.declared.fault.SyntaxFault.TheVariants.{Grammar}
use Rattle.proto_grammar.proofs.RepetitionStepLemmas.{read_as, same_ok, same_stop}
use Rattle.proto_grammar.specs.Reading.Options.{depth_behind, deeper_at, closed_by, closed_at}

not_zero : (depth : ℕ) → 0 < depth → (depth == 0) ≡ false
not_zero depth h = grind (arith, nat_tests)

-- a token more
goes_on_by : (depth : ℕ) (left : List Lexeme) (end : ℕ) (next : ℕ) (rest : Place) → 0 < depth
    → deeper_at depth (place_of end left) ≡ Ok (next, rest)
    → closed_by depth left end ≡ closed_by next rest.left rest.end
unfolding deeper_at
goes_on_by depth [] end next rest h e = absurd (let none : Err (Grammar end) ≡ read_as (next, rest) = e in cc)
goes_on_by depth (t ∷ left) end next rest h e =
    let step : closed_by depth (t ∷ left) end ≡ closed_by (depth_behind t depth) left end = rw (not_zero depth h) refl
    in
    step ∙ ap (λ (x : ℕ × Place). closed_by x.0 x.1.left x.1.end)
    (same_ok (depth_behind t depth, place_of end left) (next, rest) e)

pub closed_goes_on : (depth : ℕ) (tokens : Place) (next : ℕ) (rest : Place) → 0 < depth
    → deeper_at depth tokens ≡ Ok (next, rest) → closed_at depth tokens ≡ closed_at next rest
unfolding closed_at
closed_goes_on depth tokens next rest h e = goes_on_by depth tokens.left tokens.end next rest h e

-- a fault where a token has to be
stops_by : (depth : ℕ) (left : List Lexeme) (end : ℕ) (fault : SyntaxFault) → 0 < depth
    → deeper_at depth (place_of end left) ≡ Err fault → closed_by depth left end ≡ Err fault
unfolding deeper_at
stops_by depth [] end fault h e =
    let none : closed_by depth [] end ≡ Err (Grammar end) = rw (not_zero depth h) refl in none ∙ same_stop
    (Grammar end) fault e
stops_by depth (t ∷ left) end fault h e =
    absurd (let some : read_as (depth_behind t depth, place_of end left) ≡ Err fault = e in cc)

pub closed_stops : (depth : ℕ) (tokens : Place) → 0 < depth → (fault : SyntaxFault)
    → deeper_at depth tokens ≡ Err fault → closed_at depth tokens ≡ Err fault
unfolding closed_at
closed_stops depth tokens h fault e = stops_by depth tokens.left tokens.end fault h e

done_by : (depth : ℕ) (left : List Lexeme) (end : ℕ) → depth ≡ 0
    → closed_by depth left end ≡ Ok (tt, place_of end left)
done_by depth [] end e = rw e refl
done_by depth (t ∷ left) end e = rw e refl

pub closed_is_done : (depth : ℕ) (tokens : Place) → depth ≡ 0 → closed_at depth tokens ≡ Ok (tt, tokens)
unfolding closed_at
closed_is_done depth tokens e = done_by depth tokens.left tokens.end e

depth_behind_le : (t : Lexeme) (depth : ℕ) → depth_behind t depth ≤ depth + 1
depth_behind_le t depth = by_tests (of_kind OpenBrace t) (of_kind CloseBrace t)
  where
    by_tests : (opens closes : Bool) → cond opens (depth + 1) (cond closes (depth - 1) depth) ≤ depth + 1
    by_tests true closes = omega arith
    by_tests false true = omega arith
    by_tests false false = omega arith

deeper_left : (depth : ℕ) (left : List Lexeme) (end : ℕ) (next : ℕ) (rest : Place)
    → deeper_at depth (place_of end left) ≡ Ok (next, rest)
    → (t : Lexeme) × (left ≡ t ∷ rest.left) × (next ≡ depth_behind t depth)
unfolding deeper_at
deeper_left depth [] end next rest e = absurd (let none : Err (Grammar end) ≡ read_as (next, rest) = e in cc)
deeper_left depth (t ∷ left) end next rest e =
    let here = same_ok (depth_behind t depth, place_of end left) (next, rest) e in
    (t, ap (λ (x : ℕ × Place). t ∷ x.1.left) here, sym (ap (λ (x : ℕ × Place). x.0) here))

pub deeper_bounded : (depth : ℕ) (tokens : Place) (next : ℕ) (rest : Place) (left : ℕ)
    → deeper_at depth tokens ≡ Ok (next, rest) → depth + length tokens.left ≤ left
    → next + length rest.left ≤ left
deeper_bounded depth tokens next rest left e h =
    let d = deeper_left depth tokens.left tokens.end next rest e in
    let n : length tokens.left ≡ suc (length rest.left) = ap length d.1 in
    rw d.2 (omega (arith, depth_behind_le d.0 depth))

pub deeper_shorter : (depth : ℕ) (tokens : Place) (next : ℕ) (rest : Place)
    → deeper_at depth tokens ≡ Ok (next, rest) → length rest.left < length tokens.left
deeper_shorter depth tokens next rest e =
    let d = deeper_left depth tokens.left tokens.end next rest e in
    let n : length tokens.left ≡ suc (length rest.left) = ap length d.1 in
    omega arith
