use Rattle.std.proofs.Common.{◌∷◌, map, ◌∙◌, ap, arith}
use Rattle.std.specs.String.{string_bytes}
use Rattle.std.proofs.lemmas.List.{take_all}
use Rattle.proto_decl.specs.Names.{qualified, dotted}
use Rattle.option_link.proofs.JoinLemmas.{joined_more}
use Rattle.option_link.proofs.WordLemmas.{now}
use Rattle.option_link.proofs.lookup.joined_behind.Goals as goal

pub loop-word-preserved : goal.loop-word-preserved
loop-word-preserved c =
    joined_more c.args.scope.now c.args.first.now c.args.others.now c.loop-word.word-index _
    (string_bytes c.loop-word.text)
    (string_bytes c.push_str.new.self) (string_bytes c.push_str-in-loop-word.new.self) (omega arith)
    c.loop-word.invariant c.in_ok-push_str.ensures.bytes c.in_ok-push_str-2.ensures.bytes

pub returns : goal.returns
returns c =
    c.loop-word.invariant
    ∙ ap (λ ws. qualified c.args.scope.now (dotted (c.args.first.now ∷ map now ws))) (take_all c.loop-word.word-index c.args.others.now
    (omega arith))
