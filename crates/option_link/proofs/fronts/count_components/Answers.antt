use Rattle.std.proofs.Common.{◌∙◌, ap, count_by}
use Rattle.std.proofs.lemmas.List.{take_all}
use Rattle.proto_decl.proofs.NameComponentLemmas.{is_dot}
use Rattle.option_link.proofs.FrontLemmas.{counted_components}
use Rattle.option_link.proofs.fronts.count_components.Goals as goal

pub returns : goal.returns
returns c =
    counted_components c.args.name.now c.loop-byte.dots (c.loop-byte.invariant
    ∙ ap (count_by is_dot) (take_all c.loop-byte.byte-index c.as_bytes-byte-items.result.now c.loop-byte-test.false
    ∙ c.as_bytes-byte-items.ensures.value))
