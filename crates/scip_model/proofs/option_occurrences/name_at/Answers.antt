use Rattle.std.proofs.Common.{◌≡◌, List, Some, None, MatchOption, subst}
use Rattle.std.specs.List.{slice_get}
use Rattle.proto_options.specs.declared.names.OptionName.{OptionName}
use Rattle.option_link.proofs.LoopLemmas.{at_get}
use Rattle.scip_model.proofs.option_occurrences.name_at.Goals as goal

pub returns : goal.returns
returns c =
    subst (λ (names : List OptionName). MatchOption c.get.result (slice_get names c.args.number ≡ None)
    (λ name. slice_get names c.args.number ≡ Some name.now)) c.as_slice.ensures
    (at_get c.as_slice.result.now c.args.number c.get.result c.get.ensures.lookup)
