use Rattle.std.specs.Bool.{⊤}
use Rattle.std.proofs.Common.{List, MatchOption, subst}
use Rattle.proto_visibility.specs.Files.{File}
use Rattle.option_link.specs.Messages.{AreOptionsMessages}
use Rattle.option_link.proofs.MessageKindLemmas.{kept_by}
use Rattle.option_link.proofs.table.DeclarationTable.known_messages.Goals as goal

pub returns : goal.returns
returns c =
    kept_by c.args.self.now c.as_ref.result c.self.inside.messages c.as_ref.ensures.value
    (subst (λ (fs : List File). MatchOption c.self.inside.messages ⊤ (AreOptionsMessages fs)) c.self.view_is
    c.self.invariant.kept)
