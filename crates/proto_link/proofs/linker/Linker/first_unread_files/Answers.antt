use Rattle.std.proofs.Common.{IfOk, List, length, subst}
use Rattle.proto_visibility.specs.Files.{File}
use Rattle.proto_link.specs.Uncertain.{AreFirstUnread}
use Rattle.proto_link.proofs.linker.Linker.first_unread_files.Goals as goal

pub returns : goal.returns
returns c =
    subst (λ (files : List File). IfOk c.first_unread_files.result
    (λ firsts. AreFirstUnread files (length files) firsts.items)) c.self.view_is c.first_unread_files.ensures
