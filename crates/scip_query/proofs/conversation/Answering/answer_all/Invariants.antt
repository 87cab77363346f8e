use Rattle.std.proofs.Common.{◌≡◌, ℕ, ◌+◌, ◌<◌, ◌≤◌, ◌++◌, List, Some}
use Rattle.streams.specs.Streams.{more_by}
use Rattle.scip_query.specs.Tables.ConversingSteps.{Stands}
use Rattle.scip_query.proofs.conversation.Answering.answer_all.Given as goal

-- some bytes were read and taken in, of which the known ones left are behind; and no read failed or met the end
abbrev pub invariant-reads : goal.invariant-reads
invariant-reads g l =
    let feed = g.R.Feed in
    record {
      read : List ℕ;
      stands : Stands g.W.Sink l.self l.fn.answers read l.conversation l.answers;
      behind : (all : List ℕ) → feed.remaining l.fn.commands ≡ Some all
          → (rest : List ℕ) × (feed.remaining l.commands ≡ Some rest) × (all ≡ read ++ rest);
      failures : feed.failures l.commands ≡ feed.failures l.fn.commands;
      no_reads : l._read ≡ 0 → feed.reads l.commands ≡ feed.reads l.fn.commands;
      reads : 0 < l._read → feed.reads l.commands ≡ more_by l._read (feed.reads l.fn.commands);
      briefly : feed.reads l.commands ≤ feed.reads l.fn.commands + l._read;
      ends : feed.ends l.commands ≡ feed.ends l.fn.commands;
    }
