-- Streams that are written to: what comes of a text, by any number of writes, and of lines.
use Rattle.std.specs.Prelude.{◌≡◌, ℕ, ◌<◌, List, [], ◌∷◌, ◌++◌, length, take, codes}
use Rattle.std.specs.Io.KnownBytes.{Appends}
use Rattle.std.specs.Borrow.{MutBor}
use Rattle.streams.specs.Streams.{one_more}
use denote.Triple.Both.{Both}
use Rattle.streams.specs.declared.sink.Sink.{Ghosts}

-- what the trait says of a stream of a type
abbrev pub SinkOf : Type 0 → Type 1
SinkOf W = Ghosts W

-- a stream before and after a call, and what its trait says of it: the bytes that it holds, and how many writes failed
pub record Writer (W : Type 0) : Type 1 where
  pub sink : SinkOf W
  pub before : W
  pub after : W

-- between two moments, and around the call to which a clause belongs: `writer W.Sink out` of its parameter `out`
abbrev pub writing : {W : Type 0} → SinkOf W → (before after : W) → Writer W
writing sink before after = record { sink = sink; before = before; after = after }

abbrev pub writer : {W : Type 0} → SinkOf W → Both (MutBor W) (MutBor W) → Writer W
writer sink out = writing sink out.entry.now out.exit.now

-- nothing is written
abbrev pub IsUntouched : {W : Type 0} → Writer W → Type 0
IsUntouched out = out.after ≡ out.before

-- the whole text was written, and no write failed
pub record IsWritten {W : Type 0} (out : Writer W) (due : List ℕ) : Type 0 where
  pub written : Appends (out.sink.contents out.before) (out.sink.contents out.after) due
  pub unfailed : out.sink.failures out.after ≡ out.sink.failures out.before

-- the first `count` bytes of the text were written, which isn't all of it, and then a write failed
pub record IsCutOff {W : Type 0} (out : Writer W) (due : List ℕ) (count : ℕ) : Type 0 where
  pub short : count < length due
  pub written : Appends (out.sink.contents out.before) (out.sink.contents out.after) (take count due)
  pub failed : out.sink.failures out.after ≡ one_more (out.sink.failures out.before)

-- ---- lines

-- a line is said, with its end; or it is cut off by a write that fails, and the rest of it is lost
pub data IsSaid {M : Type 0} (messages : Writer M) (line : List ℕ) : Type 0 where
  entire : IsWritten messages (line ++ codes "\n") → IsSaid messages line
  cut_short : {count : ℕ} → IsCutOff messages (line ++ codes "\n") count → IsSaid messages line

-- lines are said, one after another; nothing else is
pub data AreSaid {M : Type 0} (sink : SinkOf M) : List (List ℕ) → M → M → Type 0 where
  silent : {now : M} → AreSaid sink [] now now
  said : {line : List ℕ} {others : List (List ℕ)} {before now after : M} → IsSaid (writing sink before now) line
      → AreSaid sink others now after → AreSaid sink (line ∷ others) before after

-- to a stream
abbrev pub AreTold : {M : Type 0} → Writer M → List (List ℕ) → Type 0
AreTold messages lines = AreSaid messages.sink lines messages.before messages.after
