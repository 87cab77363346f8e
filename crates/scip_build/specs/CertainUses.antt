-- What a use of a kept file names that isn't told as uncertain, however files that can't be read are mended.
use Rattle.std.specs.Prelude.{ℕ, Bool, List, Contains}
use Rattle.proto_decl.specs.Facts.{Facts}
use Rattle.proto_decl.specs.declared.uses.Use.{Use}
use Rattle.proto_visibility.specs.declared.clash.Duplicates.{Duplicates}
use Rattle.proto_visibility.specs.declared.files.FilePlace.{FilePlace}
use Rattle.proto_visibility.specs.Files.{File, HasFacts, HaveOrigins, HaveOwnPaths, IsSource}
use Rattle.proto_visibility.specs.Kept.{number_among_all}
use Rattle.proto_link.specs.declared.target.Target.{Target}
use Rattle.proto_link.specs.Certain.{NothingClashes}
use Rattle.proto_link.specs.Mended.{AreMended}
use Rattle.proto_link.specs.Targets.{IsTarget}
use Rattle.scip_build.specs.declared.omission.Omission.{Omission}
use Rattle.scip_build.specs.declared.omission.Omission.TheVariants.{Uncertain}
use Rattle.scip_build.specs.Files.{ReadFile}
use Rattle.scip_build.specs.Linking.{linked_files}
use Rattle.scip_build.specs.Ready.{ArePresent}
use Rattle.scip_build.specs.Kept.{AreKept}
use Rattle.scip_build.specs.KeptUses.{target_among_all}

-- that the use at this place is uncertain isn't told
abbrev pub IsNotUncertain : (told : List Omission) → FilePlace → Type 0
IsNotUncertain told place = (behind : ℕ) → Contains told (Uncertain place behind) → ⊥

-- Then, if the use names something, it names the same in the whole tree once files that can't be read are mended, in any
-- way in which nothing clashes.
abbrev pub CertainUsesResolveAlike : Type 0
CertainUsesResolveAlike = (duplicates : Duplicates) (asks : Bool) (all parsed : List ReadFile) (told : List Omission)
    → HaveOwnPaths (linked_files all) → ArePresent all → (kept : AreKept duplicates asks all parsed told)
    → (mended : List File) → AreMended (linked_files all) mended → HaveOrigins mended
    → (number : ℕ) → IsSource (linked_files parsed) number
    → (facts : Facts) → HasFacts (linked_files parsed) number facts
    → (type_use : Use) → Contains facts.uses type_use
    → (target : Target) → IsTarget (linked_files parsed) number type_use target
    → IsNotUncertain told
    (record { file = number_among_all kept.omissions number; span = type_use.span })
    → NothingClashes (linked_files all) mended (number_among_all kept.omissions number) type_use target.name
    → IsTarget mended (number_among_all kept.omissions number) type_use (target_among_all kept.omissions target)
