-- Hooks that are asked one after the other: those before a place, the one there, and those behind it.
use Rattle.std.proofs.Common.{◌≡◌, ℕ, ◌+◌, ◌<◌, ◌≤◌, List, [], ◌∷◌, ◌++◌, length, take, drop, get_or, add-one, ap, sym}
use Rattle.std.proofs.Common.{subst, ◌∙◌, append_assoc, arith, length-take}
use Rattle.std.specs.Prelude.{All}
use Rattle.std.proofs.Math.Seq.{take-suc}
use Rattle.std.proofs.lemmas.List.{take-append-drop, take_all}
use Rattle.std.proofs.lemmas.List.Elements.{All-push}
use Rattle.index_hooks.specs.MayChoose.{FirstOf}
use Rattle.index_hooks.specs.Turns.{IsTurnOf}

module _ {H : Type 0} (hooks : List H) (i : ℕ) (hook : H) (few : i < length hooks)
    (is : hook ≡ get_or hooks i hook) where
  pub one_more : take (i + 1) hooks ≡ take i hooks ++ hook ∷ []
  one_more = rw (add-one i, take-suc hooks i hook few) (ap (λ h. take i hooks ++ h ∷ []) (sym is))

  pub parts : hooks ≡ take i hooks ++ hook ∷ drop (i + 1) hooks
  parts = sym (take-append-drop (i + 1) hooks) ∙ ap (λ front. front ++ drop (i + 1) hooks) one_more
      ∙ append_assoc (take i hooks) (hook ∷ []) (drop (i + 1) hooks)

  -- it has its turn there
  pub is_turn : (first place : ℕ) → place ≡ first + i → IsTurnOf first hooks hook place
  is_turn first place e =
      record {
        before = take i hooks;
        after = drop (i + 1) hooks;
        hooks_are = parts;
        place_is = omega (arith, e, length-take i hooks, few);
      }

  pub all_more : (P : H → Type 0) → All P (take i hooks) → P hook → All P (take (i + 1) hooks)
  all_more P before here = let Q : List H → Type 0 = λ front. All P front in
      subst Q (sym one_more) (All-push P (take i hooks) hook before here)

  pub first_of : (Before Here : H → Type 0) → All Before (take i hooks) → Here hook → FirstOf Before Here hooks
  first_of Before Here before here =
      record {
        before = take i hooks;
        hook = hook;
        after = drop (i + 1) hooks;
        hooks_are = parts;
        before_it = before;
        at_it = here;
      }
