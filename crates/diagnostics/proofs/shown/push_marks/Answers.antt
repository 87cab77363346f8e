use Rattle.std.proofs.Common.{sym, take}
use Rattle.diagnostics.specs.Characters.{characters}
use Rattle.diagnostics.proofs.CharacterJoinLemmas.{ones, taken}
use Rattle.diagnostics.proofs.ExcerptMarkLemmas.{signs_are_marks}
use Rattle.diagnostics.proofs.shown.push_marks.Goals as goal

pub returns : goal.returns
returns c =
    let cs = characters c.args.bytes.now in
    rw (sym (signs_are_marks c.args.sign.now (take c.args.most cs) (taken c.args.most cs (ones c.args.bytes.now))))
    c.push_all_signs.ensures
