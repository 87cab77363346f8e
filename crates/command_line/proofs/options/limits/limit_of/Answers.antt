use Rattle.std.proofs.Common.{◌∙◌, ap, List, ℕ, Option}
use Rattle.std.specs.Option.{option_and_then}
use Rattle.std.specs.Str.Parse.{ParsesUnsigned, ExplainsUnsignedError, HasUnsignedDigitsIfOk}
use Rattle.clap.specs.Words.{found_of}
use Rattle.clap.proofs.WalkLemmas.{one_text-rows}
use Rattle.command_line.specs.Options.Limits.{limit_in}
use Rattle.command_line.proofs.ValueLimitLemmas.{in_limit_is}
use Rattle.command_line.proofs.options.limits.limit_of.Goals as goal

pub returns : goal.returns
returns c = c.in_limit.ensures
    ∙ in_limit_is _ (λ bs r. ParsesUnsigned 64 10 bs r × ExplainsUnsignedError 10 bs r × HasUnsignedDigitsIfOk bs r)
    (λ u x g. g.0) _ c.get_one.result
    c.get_one.ensures.none c.get_one.ensures.value
    ∙ ap (λ (o : Option (List ℕ)). option_and_then limit_in o) (one_text-rows (found_of c.args.given.now) _)
