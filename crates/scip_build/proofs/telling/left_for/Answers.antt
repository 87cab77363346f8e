use Rattle.std.proofs.Common.{subst, ℕ, List, Some}
use Rattle.proto_visibility.specs.declared.omissions.FileOmission.{FileOmission}
use Rattle.proto_visibility.specs.declared.omissions.FileOmission.TheVariants.{Broken}
use Rattle.scip_build.specs.Files.{ReadFile}
use Rattle.scip_build.specs.Linking.{linked_files, IsUnreadAt}
use Rattle.scip_build.specs.Telling.{IsSomeOmission}
use Rattle.scip_build.proofs.telling.left_for.Goals as goal

-- a file that is left out as broken has no facts
broken_is_unread : (parsed : List ReadFile) (number : ℕ) → IsSomeOmission (linked_files parsed) number (Some Broken)
    → IsUnreadAt parsed number
broken_is_unread parsed number some =
    let its = some.2 in
    record { file = its.file; counts = tt; numbered = its.numbered; unread = its.unread }

pub fault_at-requires : goal.fault_at-requires
fault_at-requires c =
    let parsed = c.args.parsed.now in
    let Is : FileOmission → Type 0 = λ omission. IsSomeOmission (linked_files parsed) c.args.number (Some omission) in
    record { unread = broken_is_unread parsed c.args.number (subst Is c.in-Broken.is c.requires) }
