-- The facts of the file with a number.
use Rattle.std.proofs.Common.{◌≡◌, ℕ, List, Some, None, Option, MatchOption, ap, sym, ◌∙◌}
use Rattle.std.specs.List.{slice_get}
use Rattle.std.specs.Option.{option_map}
use Rattle.std.proofs.lemmas.Option.{none-some, same_Some}
use denote.Ref.{Bor}
use Rattle.proto_decl.specs.Facts.{Facts}
use Rattle.proto_visibility.specs.Files.{File, HasFacts}

pub one_list_of_facts : (files : List File) (number : ℕ) (facts other : Facts) → HasFacts files number facts
    → HasFacts files number other → facts ≡ other
one_list_of_facts files number facts other has its =
    same_Some facts other (sym has.known
    ∙ (ap (λ (f : File). f.facts) (same_Some has.file its.file (sym has.numbered ∙ its.numbered)) ∙ its.known))

pub facts_at : (files : List File) (number : ℕ) (file : File) (facts : Option (Bor Facts))
    → slice_get files number ≡ Some file → option_map (λ its. its.now) facts ≡ file.facts
    → MatchOption facts ((other : Facts) → HasFacts files number other → ⊥) (λ its. HasFacts files number its.now)
facts_at files number file None stands is =
    λ other has. none-some other
    (is ∙ (ap (λ (f : File). f.facts) (same_Some file has.file (sym stands ∙ has.numbered)) ∙ has.known))
facts_at files number file (Some its) stands is = record { file = file; numbered = stands; known = sym is }
