use Rattle.std.proofs.Common.{◌∙◌, ap, List, ℕ, Option}
use Rattle.std.specs.Option.{option_map_or}
use Rattle.std.specs.Str.Parse.{ParsesUnsigned, ExplainsUnsignedError, HasUnsignedDigitsIfOk}
use Rattle.clap.specs.Words.{found_of}
use Rattle.clap.proofs.WalkLemmas.{one_text-rows}
use Rattle.command_line.specs.Options.Workers.{workers_in}
use Rattle.command_line.proofs.ValueWorkersLemmas.{fitting_is}
use Rattle.command_line.proofs.options.workers.workers_of.Goals as goal

pub returns : goal.returns
returns c = c.fitting.ensures
    ∙ fitting_is _ (λ bs r. ParsesUnsigned 64 10 bs r × ExplainsUnsignedError 10 bs r × HasUnsignedDigitsIfOk bs r)
    (λ u x g. g.0) _ c.get_one.result
    c.get_one.ensures.none c.get_one.ensures.value
    ∙ ap (λ (o : Option (List ℕ)). option_map_or workers_in o 1) (one_text-rows (found_of c.args.given.now) _)
