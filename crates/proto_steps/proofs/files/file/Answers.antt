use Rattle.proto_steps.specs.Step.{run}
use Rattle.proto_steps.specs.Grammar.Definitions.{file}
use Rattle.proto_steps.proofs.FileLemmas.{syntax_custom}
use Rattle.proto_steps.proofs.files.file.Goals as goal

pub returns : goal.returns
unfolding run file
returns c =
    let custom =
    syntax_custom c.args.dialect c.args.parser.now c.syntax.new.parser c.in_ok-syntax.syntax c.in_ok-syntax.ensures in
    rw (c.in_ok-syntax.ensures, ← custom) c.statements.ensures
