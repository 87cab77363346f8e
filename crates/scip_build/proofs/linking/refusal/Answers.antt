use Rattle.std.proofs.Common.{subst, ℕ, List}
use Rattle.proto_visibility.specs.declared.clash.Duplicates.{Duplicates}
use Rattle.proto_visibility.specs.Linked.{MayRefuse}
use Rattle.proto_visibility.specs.Linked.MayRefuse.{broken_file}
use Rattle.proto_visibility.specs.declared.fault.LinkFault.TheVariants.{Broken}
use Rattle.scip_build.specs.Files.{ReadFile}
use Rattle.scip_build.specs.Linking.{linked_files, IsUnreadAt}
use Rattle.scip_build.proofs.linking.refusal.Goals as goal

-- a file that is said to be broken is one without facts
broken_is_unread : (duplicates : Duplicates) (parsed : List ReadFile) (number : ℕ)
    → MayRefuse duplicates (linked_files parsed) (Broken number) → IsUnreadAt parsed number
broken_is_unread duplicates parsed number (broken_file broken) =
    let its = broken.unread in
    record { file = its.file; counts = tt; numbered = its.numbered; unread = its.unread }

pub fault_at-requires : goal.fault_at-requires
fault_at-requires c =
    let parsed = c.args.parsed.now in
    let duplicates = c.requires.0 in
    record {
      unread = broken_is_unread duplicates parsed c.in-Broken.number
          (subst (MayRefuse duplicates (linked_files parsed)) c.in-Broken.is c.requires.1);
    }
