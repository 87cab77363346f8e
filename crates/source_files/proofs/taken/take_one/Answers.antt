use Rattle.std.proofs.Common.{◌∙◌, map, sym}
use Rattle.std.proofs.lemmas.Bool.{false≢true}
use Rattle.source_files.specs.Unread.{unread_of}
use Rattle.source_files.proofs.TakenLemmas.{left_out, one_bad, one_taken}
use Rattle.source_files.proofs.taken.take_one.Goals as goal

pub returns-in_ok-push : goal.returns-in_ok-push
returns-in_ok-push c =
    one_taken c.args.leaves_out c.args.file c.args.taken.now.items _ (map unread_of c.args.unread.now.items)
    (c.is_taken.ensures.0 c.if-is_taken.true) c.in_ok-push.ensures.items

pub returns-in_ok-tell_bad : goal.returns-in_ok-tell_bad
returns-in_ok-tell_bad c =
    let left = left_out c.args.leaves_out c.args.file.path
    (λ taken. false≢true (sym c.if-is_taken.false ∙ c.is_taken.ensures.1 taken)) in
    one_bad c.args.leaves_out c.args.file c.args.taken.now.items (map unread_of c.args.unread.now.items) _ left.0
    left.1 c.in_ok-tell_bad.ensures
