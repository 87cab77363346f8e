use Rattle.std.proofs.Common.{[], map, arith}
use Rattle.std.specs.String.{string_bytes}
use Rattle.proto_decl.specs.Names.{dotted}
use Rattle.option_link.proofs.JoinLemmas.{joined_none, joined_by, qualified_as}
use Rattle.option_link.proofs.WordLemmas.{now}
use Rattle.option_link.proofs.lookup.joined_under.Goals as goal

pub returns-in-empty : goal.returns-in-empty
returns-in-empty c =
    qualified_as string_bytes c.args.scope.now [] (dotted (map now c.args.words.now)) c.under.result
    (joined_none c.args.words.now (omega arith)) c.under.ensures

pub returns-in-len1-up : goal.returns-in-len1-up
returns-in-len1-up c =
    joined_by string_bytes c.args.scope.now c.args.words.now _ c.joined_behind.result (omega arith)
    c.joined_behind.ensures
