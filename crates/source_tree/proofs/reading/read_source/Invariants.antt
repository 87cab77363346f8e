use Rattle.std.proofs.Common.{◌≡◌, ℕ, ◌+◌, ◌<◌, ◌≤◌, ◌++◌, List, Some, length}
use Rattle.streams.specs.Streams.{more_by}
use Rattle.source_tree.specs.Reading.{kept_bytes, max_kept_length}
use Rattle.source_tree.proofs.reading.read_source.Given as goal

-- what was read so far is kept, and no read failed or met the end
abbrev pub invariant-reads : goal.invariant-reads
invariant-reads g l =
    let feed = g.R.Feed in
    record {
      bytes : (all : List ℕ) → feed.remaining l.fn.source ≡ Some all →
          (given : List ℕ) × (left : List ℕ) × (feed.remaining l.source ≡ Some left) × (all ≡ given ++ left)
          × (l.bytes.items ≡ kept_bytes given);
      few : length l.bytes.items ≤ max_kept_length;
      failures : feed.failures l.source ≡ feed.failures l.fn.source;
      no_reads : l._read ≡ 0 → feed.reads l.source ≡ feed.reads l.fn.source;
      reads : 0 < l._read → feed.reads l.source ≡ more_by l._read (feed.reads l.fn.source);
      briefly : feed.reads l.source ≤ feed.reads l.fn.source + l._read;
      ends : feed.ends l.source ≡ feed.ends l.fn.source;
    }
