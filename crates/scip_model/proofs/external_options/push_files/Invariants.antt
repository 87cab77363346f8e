use Rattle.std.proofs.Common.{List, ℕ, map}
use denote.Ref.{Bor}
use Rattle.scip_model.specs.Tables.Additions.{Adds}
use Rattle.scip_model.specs.Tables.OptionListing.{IsOptionExternal}
use Rattle.scip_model.proofs.external_options.push_files.Given as goal

abbrev pub invariant-loop-file : goal.invariant-loop-file
invariant-loop-file l =
    Adds (IsOptionExternal l.linker l.options.known l.choices (map (λ (text : Bor (List ℕ)). text.now) l.texts) l.file)
    l.fn.named.items l.named.items
