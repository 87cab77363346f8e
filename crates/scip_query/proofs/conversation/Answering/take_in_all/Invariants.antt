use Rattle.std.proofs.Common.{List, ℕ, ◌++◌, take}
use Rattle.scip_query.specs.Tables.ConversingSteps.{Stands}
use Rattle.scip_query.proofs.conversation.Answering.take_in_all.Given as goal

-- the bytes so far are taken in, behind any that were read before
abbrev pub invariant-loop-byte : goal.invariant-loop-byte
invariant-loop-byte g l =
    (first : g.row.W.Denot) (read : List ℕ)
    → Stands g.W.Sink l.self first read l.fn.conversation l.fn.answers
    → Stands g.W.Sink l.self first
    (read ++ take l.byte-index l.bytes) l.conversation l.answers
