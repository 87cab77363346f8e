use Rattle.proto_visibility.specs.Files.{IsPresent}
use Rattle.option_link.specs.Tables.{TellsOf}
use Rattle.option_link.proofs.present.present_files.Given as goal

abbrev pub invariant-loop-file : goal.invariant-loop-file
invariant-loop-file l = TellsOf (IsPresent l.linker) l.file l.told.items
