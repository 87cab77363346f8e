-- What comes of bytes that are put into a buffer in front of a sink. `sink` is what its trait says of it.
use Rattle.std.specs.Prelude.{◌≡◌, ℕ, ◌+◌, ◌<◌, List, [], ◌++◌, length}
use Rattle.std.specs.Io.KnownBytes.{Appends}
use Rattle.streams.specs.Streams.{one_more}
use Rattle.streams.specs.Writers.{SinkOf, writing, IsWritten}
use Rattle.streams.specs.declared.whole_writes.CutOff.{CutOff}
use Rattle.scip_wire.specs.Saturated.{saturated}
use Rattle.scip_wire.specs.declared.spell.buffer.Buffer.{Buffer}
use Rattle.scip_wire.specs.declared.spell.buffer.Progress.{Progress}
use Rattle.scip_wire.specs.declared.spell.buffer.Progress.TheVariants.{Going, Stopped}

-- Bytes were put behind those that were waiting: of a sink, what waits for it and how many bytes went out to it, before
-- and after.
pub data Passes {W : Type 0} (sink : SinkOf W)
    : W → List ℕ → Progress → W → List ℕ → Progress → List ℕ → Type 0 where
  -- a front of them all was written, and the others wait
  goes_on : {before after : W} {waiting left bytes : List ℕ} {count now : ℕ} (front : List ℕ)
      → IsWritten (writing sink before after) front → waiting ++ bytes ≡ front ++ left
      → saturated now ≡ saturated (count + length front)
      → Passes sink before waiting (Going count) after left (Going now) bytes
  -- a front of them all was written, which isn't all of them, and then a write failed
  stops : {before after : W} {waiting left bytes : List ℕ} {count now : ℕ} (front back : List ℕ)
      → Appends (sink.contents before) (sink.contents after) front
      → sink.failures after ≡ one_more (sink.failures before)
      → waiting ++ bytes ≡ front ++ back → 0 < length back → saturated now ≡ saturated (count + length front)
      → Passes sink before waiting (Going count) after left (Stopped now) bytes
  -- a write had failed before
  stays : {now : W} {waiting left bytes : List ℕ} {count : ℕ}
      → Passes sink now waiting (Stopped count) now left (Stopped count) bytes

-- the bytes that wait
abbrev pub waiting_of : Buffer → List ℕ
waiting_of out = out.waiting.items

-- bytes were put into a buffer
abbrev pub ArePassed : {W : Type 0} → SinkOf W → W → Buffer → W → Buffer → List ℕ → Type 0
ArePassed sink before out after now bytes =
    Passes sink before (waiting_of out) out.progress after (waiting_of now) now.progress bytes

-- what was left in a buffer went out, and no write has failed
abbrev pub EndsWhole : {W : Type 0} → SinkOf W → W → Buffer → W → Type 0
EndsWhole sink before out after =
    (count : ℕ) × Passes sink before (waiting_of out) out.progress after [] (Going count) []

-- or a write has failed, behind so many of all the bytes
abbrev pub EndsCutOff : {W : Type 0} → SinkOf W → W → Buffer → W → CutOff → Type 0
EndsCutOff sink before out after cut_off =
    Passes sink before (waiting_of out) out.progress after [] (Stopped cut_off.written) []
