use Rattle.std.proofs.Common.{false}
use Rattle.std.specs.String.{string_bytes}
use Rattle.programs.proofs.ImportLemmas.{one_file}
use Rattle.programs.proofs.imports.tree_of.Goals as goal

pub returns-in-Ok : goal.returns-in-Ok
returns-in-Ok c =
    one_file c.args.dialect
    (record { path = string_bytes c.in_ok-path.path; bytes = c.args.bytes.now; is_unread = false }) c.in-Ok.tree
    c.in_ok-read-in-Ok.read
    (rw (c.in_ok-files.ensures.items, c.in_ok-bytes.ensures.items) at c.in-Ok.ensures.tree)
    c.in_ok-read-in-Ok.ensures
