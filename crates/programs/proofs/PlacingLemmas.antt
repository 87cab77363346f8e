-- What becomes of a place, by what a run answered that wrote to a part of it.
use Rattle.std.proofs.Common.{◌≡◌, ◌∙◌, ◌++◌, [], ap, refl, ℕ, List, Option, None, Some, Result, Ok, Err}
use Rattle.std.specs.Prelude.{IfErr, IfOk, MatchResult}
use Rattle.std.specs.Io.KnownBytes.{Appends}
use Rattle.std.proofs.lemmas.Option.{same_Some}
use Rattle.source_files.specs.Places.{IsBegun}
use Rattle.protoscip.specs.declared.fault.Fault.{Fault}
use Rattle.protoscip.specs.declared.recorded.Recorded.{Recorded}
use Rattle.programs.specs.Placing.{Place, Fills, Finishes, Forgoes}
use Rattle.programs.specs.Placing.{filled, refused, unmade, unreported}
use Rattle.programs.specs.Placing.Finishes.{part_is_put, part_is_refused, breaks_limit, part_is_unmade}
use Rattle.programs.specs.Settled.{settled}
use Rattle.programs.specs.declared.limits.LimitFault.{LimitFault}
use Rattle.programs.proofs.TreeRunLemmas.{part_of}

-- what is known to be held is what was written to nothing
pub held_now : (begun whole held : Option (List ℕ)) (bytes : List ℕ) → begun ≡ Some [] → Appends begun whole bytes
    → held ≡ whole → held ≡ Some bytes
held_now None whole held bytes known appends put = absurd cc
held_now (Some some) None held bytes known appends put = absurd appends
held_now (Some some) (Some all) held bytes known appends put =
    put ∙ ap (λ (l : List ℕ). Some l) (appends ∙ ap (λ (l : List ℕ). l ++ bytes) (same_Some some [] known))

module _ {P W A : Type 0} (at : Place P W) (whole : W) (f : A → Recorded)
    (runs : W → W → Result Recorded Fault → Type 0)
    (reports : Result Recorded Fault → (reported : Result (Unit {0}) Fault) → Type 0) (begun : W)
    (nothing : IsBegun at.sink.contents at.sink.failures begun) where
  -- what becomes of the place, if no limit is broken
  pub fills : (keeps : Recorded → Type 0) (ran : Result A Fault) (reported : Result (Unit {0}) Fault)
      (done : Result A Fault) → MatchResult ran (λ a. runs begun whole (Ok (f a))) (λ e. runs begun whole (Err e))
      → reports (part_of f ran) reported → IfOk (settled ran reported) (λ a. keeps (f a))
      → Finishes at whole (settled ran reported) None done → Fills at keeps runs reports (part_of f done)
  fills keeps (Ok made) (Ok one) _ holds told kept_are (part_is_put put) =
      filled begun whole nothing kept_are holds told put
  fills keeps (Ok made) (Ok one) _ holds told kept_are (part_is_refused left) =
      refused {recorded = f made} {count = 0} begun whole nothing kept_are holds told left
  fills keeps (Ok made) (Err stop) _ holds told kept_are (part_is_unmade left) =
      unreported {recorded = f made} begun whole nothing holds told left
  fills keeps (Err fault) reported _ holds told kept_are (part_is_unmade left) =
      unmade {reported = reported} begun whole nothing holds told left

  -- and if one is
  pub forgoes : (breaks : Recorded → Option LimitFault → Type 0) (limit : LimitFault) (ran : Result A Fault)
      (reported : Result (Unit {0}) Fault) (done : Result A Fault)
      → MatchResult ran (λ a. runs begun whole (Ok (f a))) (λ e. runs begun whole (Err e))
      → reports (part_of f ran) reported
      → IfOk (settled ran reported) (λ a. breaks (f a) (Some limit))
      → IfErr (settled ran reported) (λ _. Some limit ≡ None)
      → Finishes at whole (settled ran reported) (Some limit) done
      → (made : A) × (done ≡ Ok made) × Forgoes at runs reports (f made) × breaks (f made) (Some limit)
  forgoes breaks limit (Ok made) (Ok one) _ holds told broken none (breaks_limit left) = (
    made,
    refl,
    record {
      begun = begun;
      whole = whole;
      nothing = nothing;
      ran = holds;
      reported = told;
      given_up = left;
    },
    broken,
  )
  forgoes breaks limit (Ok made) (Err stop) done holds told broken none finishes = absurd cc
  forgoes breaks limit (Err fault) reported done holds told broken none finishes = absurd cc
