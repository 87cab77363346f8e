-- Streams that are read from: what their counts say of reading them to their end, by reads into room for bytes.
use Rattle.std.specs.Prelude.{◌≡◌, ℕ, ◌+◌, ◌≤◌, ◌⊎◌, List, Option}
use Rattle.std.specs.Borrow.{MutBor}
use Rattle.streams.specs.Streams.{one_more, more_by}
use denote.Triple.Both.{Both}
use Rattle.streams.specs.declared.feed.Feed.{Ghosts}

-- what the trait says of a stream of a type
abbrev pub FeedOf : Type 0 → Type 1
FeedOf R = Ghosts R

-- a stream before and after a call, and what its trait says of it: the bytes that remain, and how many reads failed,
-- were made, and gave the end
pub record Reader (R : Type 0) : Type 1 where
  pub feed : FeedOf R
  pub before : R
  pub after : R

-- between two moments, and around the call to which a clause belongs: `reader R.Feed source` of its parameter `source`
abbrev pub reading : {R : Type 0} → FeedOf R → (before after : R) → Reader R
reading feed before after = record { feed = feed; before = before; after = after }

abbrev pub reader : {R : Type 0} → FeedOf R → Both (MutBor R) (MutBor R) → Reader R
reader feed source = reading feed source.entry.now source.exit.now

-- the most reads: the end has to come within them
abbrev pub max_reads : ℕ
max_reads = 16777216

-- the bytes that remain before the call, if they are known
abbrev pub known_before : {R : Type 0} → Reader R → Option (List ℕ)
known_before source = source.feed.remaining source.before

-- and after it
abbrev pub known_after : {R : Type 0} → Reader R → Option (List ℕ)
known_after source = source.feed.remaining source.after

-- nothing is read
abbrev pub IsUnread : {R : Type 0} → Reader R → Type 0
IsUnread source = source.after ≡ source.before

-- no read failed
abbrev pub IsUnfailed : {R : Type 0} → Reader R → Type 0
IsUnfailed source = source.feed.failures source.after ≡ source.feed.failures source.before

-- it was read to its end: no read failed, and one met the end
abbrev pub IsReadThrough : {R : Type 0} → Reader R → Type 0
IsReadThrough source = IsUnfailed source × (source.feed.ends source.after ≡ one_more (source.feed.ends source.before))

-- why it wasn't: a read failed, or `max_reads` reads met no end
abbrev pub IsReadFault : {R : Type 0} → Reader R → Type 0
IsReadFault source =
    (source.feed.failures source.after ≡ one_more (source.feed.failures source.before))
    ⊎ ((source.feed.reads source.after ≡ more_by max_reads (source.feed.reads source.before))
    × (source.feed.ends source.after ≡ source.feed.ends source.before))

-- whatever came of it, there were at most `max_reads` reads
abbrev pub IsReadBriefly : {R : Type 0} → Reader R → Type 0
IsReadBriefly source = source.feed.reads source.after ≤ source.feed.reads source.before + max_reads
