-- A loop up to a `}`: it ends at the text's end as well, where the `}` is missing; the relations' loop tries one more
-- item there, which is missing, too. The fault is the same.
use Rattle.std.proofs.Common.{◌≡◌, ℕ, zero, suc, ◌<◌, Result, Ok, Err, Option, option_to_list, List, [], ◌∷◌, ◌++◌}
use Rattle.std.proofs.Common.{Bool, true, false, cond, length, refl, ap, ◌∙◌, arith}
use Rattle.std.proofs.lemmas.Bool.{lt-ltb}
use Rattle.proto_lex.specs.declared.span.Span.{Span}
use Rattle.proto_lex.specs.declared.token.TokenKind.TheVariants.{CloseBrace}
use Rattle.proto_grammar.specs.declared.fault.SyntaxFault.{SyntaxFault}
use Rattle.proto_grammar.specs.declared.fault.SyntaxFault.TheVariants.{Grammar}
use Rattle.proto_grammar.specs.Lexeme.{Lexeme, Place, place_of}
use Rattle.proto_grammar.specs.Terminal.{of_kind, closes}
use Rattle.proto_grammar.specs.Reading.Repetition.{Read, and_then, token_that, until_at, adding as adding_at}
use Rattle.proto_grammar.proofs.RepetitionUntilLemmas.{Falls, until_at-step}
use Rattle.proto_steps.specs.Step.{Step, While, adding, run}
use Rattle.proto_steps.specs.Terminals.{is_inside}
use Rattle.proto_steps.proofs.TurnLemmas.{by_bool, by_result, first_turn}
use Rattle.proto_steps.proofs.MoveLemmas.{Moves, shorter}

-- what is behind a loop: a `}`, and what is made of both
abbrev pub closed_by : {S B : Type 0} → (S → Span × Place → Result B SyntaxFault) → S × Place → Result B SyntaxFault
closed_by next x = and_then (token_that (of_kind CloseBrace) x.1) (λ y. next x.0 y)

none_closes : (end : ℕ) → token_that (of_kind CloseBrace) (place_of end []) ≡ Err (Grammar end)
unfolding token_that
none_closes end = refl

module _ {S B : Type 0} (step : S → Step S) (old : S → Read S) (next : S → Span × Place → Result B SyntaxFault)
    (agree : (s : S) (place : Place) → run (step s) place ≡ old s place) (moving : (s : S) → Moves (step s))
    (missing : (s : S) (end : ℕ) → old s (place_of end []) ≡ Err (Grammar end))
  where
    falls : Falls old
    falls s place x e = shorter (step s) (moving s) place x.1 x.0 (agree s place ∙ e)

    braced_by : (n : ℕ) (s : S) (left : List Lexeme) (end : ℕ) → length left < n
        → and_then (run (While is_inside step s) (place_of end left)) (closed_by next)
        ≡ and_then (until_at closes old s (place_of end left)) (closed_by next)
    unfolding run
    braced_by zero s left end l = absurd (omega arith)
    braced_by (suc n) s [] end l =
        rw (
          first_turn is_inside (λ t. run (step t)) s (place_of end []),
          until_at-step closes old falls s (place_of end []),
          missing s end,
          none_closes end,
        )
        refl
    braced_by (suc n) s (t ∷ rest) end l =
        by_bool (of_kind CloseBrace t)
        (λ over.
        rw (
          first_turn is_inside (λ u. run (step u)) s (place_of end (t ∷ rest)),
          until_at-step closes old falls s (place_of end (t ∷ rest)),
          over,
        )
        refl)
        (λ go.
        by_result (old s (place_of end (t ∷ rest)))
        (λ x e.
        let less = falls s (place_of end (t ∷ rest)) x e in
        rw (
          first_turn is_inside (λ u. run (step u)) s (place_of end (t ∷ rest)),
          until_at-step closes old falls s (place_of end (t ∷ rest)),
          go,
          agree s (place_of end (t ∷ rest)),
          e,
          lt-ltb _ _ less,
        )
        (braced_by n x.0 x.1.left x.1.end (omega (arith, less))))
        (λ fault e.
        rw (
          first_turn is_inside (λ u. run (step u)) s (place_of end (t ∷ rest)),
          until_at-step closes old falls s (place_of end (t ∷ rest)),
          go,
          agree s (place_of end (t ∷ rest)),
          e,
        )
        refl))

    pub braced_agree : (s : S) (place : Place)
        → and_then (run (While is_inside step s) place) (closed_by next)
        ≡ and_then (until_at closes old s place) (closed_by next)
    braced_agree s place = braced_by (suc (length place.left)) s place.left place.end (omega arith)

-- ---- an item behind those before it

abbrev behind_them : {A : Type 0} → List A → Option A × Place → Result (List A × Place) SyntaxFault
behind_them items x = Ok (items ++ option_to_list x.0, x.1)

pub adding_agrees : {A : Type 0} (item : Step (Option A)) (read : Read (Option A))
    → ((place : Place) → run item place ≡ read place) → (items : List A) (place : Place)
    → run (adding item items) place ≡ adding_at read items place
unfolding run
adding_agrees item read same items place = ap (λ o. and_then o (behind_them items)) (same place)

pub adding_missing : {A : Type 0} (read : Read (Option A))
    → ((end : ℕ) → read (place_of end []) ≡ Err (Grammar end)) → (items : List A) (end : ℕ)
    → adding_at read items (place_of end []) ≡ Err (Grammar end)
adding_missing read missing items end = ap (λ o. and_then o (behind_them items)) (missing end)

-- ---- choices

pub same_cond : {A : Type 0} (b : Bool) {x y u v : A} → x ≡ u → y ≡ v → cond b x y ≡ cond b u v
same_cond true e f = e
same_cond false e f = f
