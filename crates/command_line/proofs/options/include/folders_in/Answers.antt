use Rattle.std.proofs.Common.{◌∙◌, ◌++◌, ap, map, sym}
use Rattle.std.proofs.lemmas.List.{append-nil}
use Rattle.command_line.specs.Options.Include.{folder_of}
use Rattle.command_line.proofs.ValueLemmas.{few_are_none}
use Rattle.command_line.proofs.options.include.folders_in.Goals as goal

pub returns : goal.returns
returns c =
    let folders = map folder_of c.loop-rest.folders.items in
    sym (append-nil folders)
    ∙ ap (λ l. folders ++ l) (sym (few_are_none c.loop-rest.rest.now c.in_default.len_below))
    ∙ c.loop-rest.invariant
