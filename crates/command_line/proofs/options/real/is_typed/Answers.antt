use Rattle.std.proofs.Common.{◌∙◌, ap}
use Rattle.clap.specs.Words.{found_of}
use Rattle.command_line.specs.Options.Real.{is_of_words}
use Rattle.command_line.proofs.ValueRealLemmas.{source-rows}
use Rattle.command_line.proofs.options.real.is_typed.Goals as goal

pub returns : goal.returns
returns c = c.is_of_words.ensures
    ∙ ap is_of_words (c.value_source.ensures ∙ source-rows (found_of c.args.given.now) c.args.id.now)
