use Rattle.std.proofs.Common.{string_bytes, subst}
use Rattle.streams.specs.Writers.{AreTold, writing}
use Rattle.programs.specs.WellKnown.{is_new, is_old}
use Rattle.programs.proofs.WellKnownLemmas.{lines_of}
use Rattle.programs.proofs.well_known.include_folder.Goals as goal

pub returns-then-is_new-clause-included : goal.returns-then-is_new-clause-included
returns-then-is_new-clause-included g c =
    let folder = string_bytes c.args.folder in
    let old = c.args.options.now in
    let told = AreTold (writing g.M.Sink c.args.messages.now c.say_if.new.messages) in
    is_new (rw (c.as_str-2.ensures.value, c.if-is_new.true) at c.in_ok-is_new.ensures)
    (subst told (lines_of old.explain folder _ (rw c.as_str.ensures.value at c.in_ok-line.ensures))
    (rw c.as_str-3.ensures.value at c.say_if.ensures))

pub returns-else-is_new-clause-included : goal.returns-else-is_new-clause-included
returns-else-is_new-clause-included g c =
    let folder = string_bytes c.args.folder in
    let old = c.args.options.now in
    let told = AreTold (writing g.M.Sink c.args.messages.now c.say_if.new.messages) in
    is_old (rw (c.as_str-2.ensures.value, c.if-is_new.false) at c.in_ok-is_new.ensures)
    (subst told (lines_of old.explain folder _ (rw c.as_str.ensures.value at c.in_ok-line.ensures))
    (rw c.as_str-3.ensures.value at c.say_if.ensures))
