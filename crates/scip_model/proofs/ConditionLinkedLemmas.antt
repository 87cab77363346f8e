-- Sources of files that can be linked: they are reachable, and have facts.
use Rattle.std.proofs.Common.{◌≡◌, ◌∙◌, ℕ, Bool, true, not, Option, Some, None, List, refl, sym}
use Rattle.std.proofs.lemmas.Bool.{and_parts, not-true}
use Rattle.std.specs.List.{slice_get}
use Rattle.proto_decl.specs.Facts.{Facts}
use Rattle.proto_visibility.specs.Files.{File, HasFacts, IsSource, IsSourceAt}
use Rattle.proto_visibility.specs.Reaches.{IsReachable}
use Rattle.proto_visibility.specs.Reaches.Reaches.{sees}
use Rattle.proto_visibility.specs.Sees.SeesBy.{itself}
use Rattle.proto_visibility.specs.Reaches.IsReachable.{reached}
use Rattle.proto_visibility.specs.Absences.{NoneBroken}

pub source-reachable : (files : List File) (source : ℕ) → IsSource files source → IsReachable files source
source-reachable files source is =
    reached is (sees itself) (record { file = is.file; numbered = is.numbered; present = is.present })

-- what is said to be a source is one
pub source-at : (files : List File) (number : ℕ) (source : Bool) → IsSourceAt files number source → source ≡ true
    → IsSource files number
source-at files number source of is =
    let file = of.0 in
    let parts = and_parts (not file.is_included) (not file.is_left_out) (sym of.2 ∙ is) in
    record {
      file = file;
      numbered = of.1;
      source = not-true file.is_included parts.0;
      present = not-true file.is_left_out parts.1;
    }

-- a reachable file has facts
pub reachable-facts : (files : List File) (number : ℕ) (file : File) → NoneBroken files → IsReachable files number
    → slice_get files number ≡ Some file → (facts : Facts) × HasFacts files number facts
reachable-facts files number file read is_reachable at = by file.facts refl
  where
    by : (o : Option Facts) → file.facts ≡ o → (facts : Facts) × HasFacts files number facts
    by None none = absurd (read number (record {
      file = file;
      counts = is_reachable;
      numbered = at;
      unread = none;
    }))
    by (Some facts) some = (facts, record { file = file; numbered = at; known = some })

pub source-facts : (files : List File) (source : ℕ) → NoneBroken files → IsSource files source
    → (facts : Facts) × HasFacts files source facts
source-facts files source read is =
    reachable-facts files source is.file read (source-reachable files source is) is.numbered
