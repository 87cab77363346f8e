-- What a phase answers of folders, folder by folder, and the parts in which folders are listed.
use Rattle.std.proofs.Common.{◌≡◌, ◌∙◌, ℕ, suc, List, [], ◌∷◌, ◌++◌, map, length, Option, Result, refl, sym, ap}
use Rattle.std.proofs.Common.{append_assoc, subst, arith}
use Rattle.std.specs.List.{AllZip, slice_get}
use Rattle.std.specs.Option.{IfSome}
use Rattle.std.specs.Prelude.{IfOk}
use Rattle.std.proofs.lemmas.List.{map-append}
use Rattle.basics.proofs.ListLemmas.{zip_append}
use Rattle.index_pool.specs.Phase.{AnswersEach}
use Rattle.source_files.specs.declared.found.Found.{Found}
use Rattle.source_files.specs.Listings.{Listing}
use Rattle.source_files.specs.Walks.{Has}
use Rattle.source_files.specs.WalkSteps.{HaveEach, had_of}

module _ (lists : List ℕ → Option Listing → Type 0) where
  module _ {S : Type 0} (E : Type 0) (text : S → List ℕ) where
    -- an answer for each folder
    pub have_each : (folders : List S) (all : List Found)
        → AnswersEach (λ number (result : Result Found E). IfSome (slice_get folders number) (λ folder. IfOk result
        (λ found. Has lists (text folder) (had_of found)))) (length folders) all
        → HaveEach lists (map text folders) all
    have_each [] [] answers = tt
    have_each [] (found ∷ all) answers = absurd (omega (arith, answers.0))
    have_each (folder ∷ folders) [] answers = absurd (omega (arith, answers.0))
    have_each (folder ∷ folders) (found ∷ all) answers = (
      answers.1 0 found refl,
      have_each folders all (omega (arith, answers.0), λ number out at. answers.1 (suc number) out at),
    )

  -- what the folders before those that are left have
  pub record HaveBut (folders rest : List (List ℕ)) (all : List Found) : Type 0 where
    pub front : List (List ℕ)
    pub parts : front ++ rest ≡ folders
    pub have : HaveEach lists front all

  pub none_had : (folders : List (List ℕ)) → HaveBut folders folders []
  none_had folders = record { front = []; parts = refl; have = tt }

  pub part_had : (folders rest part behind : List (List ℕ)) (all more whole : List Found) → part ++ behind ≡ rest
      → whole ≡ all ++ more → HaveBut folders rest all → HaveEach lists part more → HaveBut folders behind whole
  part_had folders rest part behind all more whole parts are had here = record {
    front = had.front ++ part;
    parts = append_assoc had.front part behind ∙ (ap (λ l. had.front ++ l) parts ∙ had.parts);
    have = subst (HaveEach lists (had.front ++ part)) (sym are)
        (subst (AllZip (Has lists) (had.front ++ part)) (sym (map-append had_of all more))
        (zip_append (Has lists) had.front part (map had_of all) (map had_of more) had.have here));
  }
