-- The texts so far.
use Rattle.std.proofs.Common.{◌≡◌, map, take}
use Rattle.scip_build.specs.Documents.{texts_of}
use Rattle.scip_build.proofs.linked_options.texts_of.Given as goal

abbrev pub invariant-loop-parsed_file : goal.invariant-loop-parsed_file
invariant-loop-parsed_file l = map (λ text. text.now) l.texts.items ≡ texts_of (take l.parsed_file-index l.parsed)
