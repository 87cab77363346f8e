use Rattle.std.proofs.Common.{◌++◌, ℕ, List, append_assoc, codes, subst, sym}
use Rattle.streams.specs.Writers.{IsCutOff, IsSaid, IsWritten, writing}
use Rattle.programs.proofs.CauseLemmas.{cut_before, said_behind}
use Rattle.programs.proofs.causes.say_of.Goals as goal

pub returns-in-Ok : goal.returns-in-Ok
returns-in-Ok g c =
    let sink = g.M.Sink in
    let before = c.args.messages.now in
    let words = c.args.words.now in
    let Said : List ℕ → Type 0 = λ line. IsSaid (writing sink before c.say_words.new.messages) line in
    subst Said (sym (append_assoc c.args.name.now (codes ": ") words))
    (said_behind sink c.args.name.now (codes ": " ++ words) before c.write_all.new.sink
    c.say_words.new.messages
    (subst (IsWritten (writing sink before c.write_all.new.sink)) c.as_bytes.ensures.value c.in-Ok.ensures.ok)
    c.say_words.ensures)

pub returns-in-Err : goal.returns-in-Err
returns-in-Err g c =
    let sink = g.M.Sink in
    let before = c.args.messages.now in
    let count = c.in-Err.field-0.written in
    let words = c.args.words.now in
    let Said : List ℕ → Type 0 = λ line. IsSaid (writing sink before c.write_all.new.sink) line in
    subst Said (sym (append_assoc c.args.name.now (codes ": ") words))
    (cut_before sink c.args.name.now (codes ": " ++ words) before c.write_all.new.sink count
    (subst (λ text. IsCutOff (writing sink before c.write_all.new.sink) text count) c.as_bytes.ensures.value
    c.in-Err.ensures.err))
