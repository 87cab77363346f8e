-- The kept files with those that are left out are clear, whatever several of them may declare.
use Rattle.std.proofs.Common.{◌≡◌, ◌∙◌, sym, subst}
use Rattle.proto_visibility.specs.Files.{HaveOwnPaths}
use Rattle.proto_visibility.specs.Kept.{linked_of}
use Rattle.proto_visibility.specs.Linked.{HaveClearNames}
use Rattle.proto_link_tests.proofs.kept.are_omitted_as_scanned.Goals as goal

pub are_linked_as_scanned-requires-clause-own : goal.are_linked_as_scanned-requires-clause-own
are_linked_as_scanned-requires-clause-own c =
    let omissions = c.args.omissions.now in
    let files = c.args.files.now in
    let is : c.as_slice-then-eq.result.now ≡ linked_of omissions files =
    c.as_slice-then-eq.ensures.value ∙ rw (c.in_ok-linked.ensures) at c.in_ok-add_left_out.ensures in
    subst HaveOwnPaths (sym is)
    (c.kept_files_are_clear.ensures c.args.duplicates files omissions c.requires.omissions c.requires.own).0

pub are_linked_as_scanned-requires-clause-clear : goal.are_linked_as_scanned-requires-clause-clear
are_linked_as_scanned-requires-clause-clear c =
    let omissions = c.args.omissions.now in
    let files = c.args.files.now in
    let is : c.as_slice-then-eq.result.now ≡ linked_of omissions files =
    c.as_slice-then-eq.ensures.value ∙ rw (c.in_ok-linked.ensures) at c.in_ok-add_left_out.ensures in
    subst (HaveClearNames c.args.duplicates) (sym is)
    (c.kept_files_are_clear.ensures c.args.duplicates files omissions c.requires.omissions c.requires.own).1
