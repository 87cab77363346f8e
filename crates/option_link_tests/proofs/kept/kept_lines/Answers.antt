-- The kept files with those that are left out are clear, whatever several of them may declare.
use Rattle.std.proofs.Common.{◌≡◌, ◌∙◌, sym, subst}
use Rattle.proto_visibility.specs.Files.{HaveOwnPaths}
use Rattle.proto_visibility.specs.Kept.{linked_of}
use Rattle.proto_visibility.specs.Linked.{HaveClearNames}
use Rattle.option_link_tests.proofs.kept.kept_lines.Goals as goal

pub of_kept-requires-clause-own : goal.of_kept-requires-clause-own
of_kept-requires-clause-own c =
    let omissions = c.in_ok-omissions.omissions.items in
    let files = c.args.files.now in
    let is : c.as_slice-kept.result.now ≡ linked_of omissions files =
    c.as_slice-kept.ensures.value ∙ rw (c.as_slice-2.ensures.value, c.in_ok-linked.ensures, c.as_slice.ensures.value)
    at c.in_ok-add_left_out.ensures in
    subst HaveOwnPaths (sym is)
    (c.kept_files_are_clear.ensures c.args.duplicates files omissions c.in_ok-omissions.ensures c.requires).0

pub of_kept-requires-clause-clear : goal.of_kept-requires-clause-clear
of_kept-requires-clause-clear c =
    let omissions = c.in_ok-omissions.omissions.items in
    let files = c.args.files.now in
    let is : c.as_slice-kept.result.now ≡ linked_of omissions files =
    c.as_slice-kept.ensures.value ∙ rw (c.as_slice-2.ensures.value, c.in_ok-linked.ensures, c.as_slice.ensures.value)
    at c.in_ok-add_left_out.ensures in
    subst (HaveClearNames c.args.duplicates) (sym is)
    (c.kept_files_are_clear.ensures c.args.duplicates files omissions c.in_ok-omissions.ensures c.requires).1
