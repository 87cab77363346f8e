-- The facts of files are those of texts.
use Rattle.std.proofs.Common.{◌≡◌, inl, inr, ℕ, ◌+◌, ◌<◌, ◌≤◌, List, length, Some, ap, sym, ◌∙◌, arith}
use Rattle.std.specs.List.{slice_get}
use Rattle.std.proofs.lemmas.Bool.{cases_lt}
use Rattle.std.proofs.lemmas.Option.{slice_get_within, same_Some}
use Rattle.proto_decl.specs.Facts.{Facts, AreOfSomeFile}
use Rattle.proto_visibility.specs.Files.{File, HasFacts, HaveOrigins}

-- so are those of the first so many files
abbrev pub HaveOriginsUpTo : List File → (count : ℕ) → Type 0
HaveOriginsUpTo files count = (number : ℕ) (facts : Facts) → number < count → HasFacts files number facts
    → AreOfSomeFile facts

pub origins_more : (files : List File) (count : ℕ) (file : File) → slice_get files count ≡ Some file
    → ((facts : Facts) → file.facts ≡ Some facts → AreOfSomeFile facts) → HaveOriginsUpTo files count
    → HaveOriginsUpTo files (count + 1)
origins_more files count file stands its so_far number facts within has = elim (cases_lt number count) [
  | inl before ↦ so_far number facts before has
  | inr last ↦ (
      let here : number ≡ count = omega arith in
      let one : has.file ≡ file = same_Some has.file file (sym has.numbered ∙ (ap (slice_get files) here ∙ stands)) in
      its facts (ap (λ (f : File). f.facts) (sym one) ∙ has.known))
]

pub origins_all : (files : List File) (count : ℕ) → length files ≤ count → HaveOriginsUpTo files count
    → HaveOrigins files
origins_all files count all so_far number facts has =
    so_far number facts (omega (arith, all, slice_get_within files number has.file has.numbered)) has
