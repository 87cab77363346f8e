-- Whole writes (`Writers`): of one text behind another, and by the loop of `write_all`.
use Rattle.std.proofs.Common.{zero, suc, [], ◌∷◌, ◌<◌, Ok, refl, ◌≡◌, ℕ, ◌≤◌, ◌+◌, ◌-◌, List, length, take, drop, ◌++◌}
use Rattle.std.proofs.Common.{arith, length-drop, sym, ap, subst, ◌∙◌, take-add}
use Rattle.std.proofs.Math.Seq.{take-append-add}
use Rattle.std.proofs.lemmas.List.{drop-drop, length-append}
use Rattle.std.proofs.KnownBytes.{Appends-nil, Appends-trans}
use Rattle.std.specs.Io.KnownBytes.{Appends}
use Rattle.streams.specs.Streams.{one_more, failures_after_write}
use Rattle.streams.specs.Writers.{SinkOf, writing, IsWritten, IsCutOff}
use Rattle.streams.specs.declared.failed.Failed.{Failed}

-- ---- one text behind another

module _ {W : Type 0} (sink : SinkOf W) where
  pub IsWritten-nil : (a : W) → IsWritten (writing sink a a) []
  IsWritten-nil a = record { written = Appends-nil (sink.contents a); unfailed = refl }

  pub IsWritten-trans : (a b c : W) (first second : List ℕ) → IsWritten (writing sink a b) first
      → IsWritten (writing sink b c) second
      → IsWritten (writing sink a c) (first ++ second)
  IsWritten-trans a b c first second p q = record {
    written = Appends-trans (sink.contents a) (sink.contents b) (sink.contents c) first second p.written q.written;
    unfailed = q.unfailed ∙ p.unfailed;
  }

  pub IsCutOff-after : (a b c : W) (first second : List ℕ) (count : ℕ) → IsWritten (writing sink a b) first
      → IsCutOff (writing sink b c) second count
      → IsCutOff (writing sink a c) (first ++ second) (length first + count)
  IsCutOff-after a b c first second count p q = record {
    short = omega (arith, length-append first second, q.short);
    written = rw (take-append-add first second count)
        (Appends-trans (sink.contents a) (sink.contents b) (sink.contents c) first (take count second) p.written
        q.written);
    failed = q.failed ∙ ap one_more p.unfailed;
  }

-- ---- the steps of `write_all`, of which `rest` is what is left

-- after n more bytes, what is left begins n further on
pub rest_further : (bytes rest : List ℕ) (n : ℕ) → length rest ≤ length bytes
    → rest ≡ drop (length bytes - length rest) bytes → n ≤ length rest
    → drop n rest ≡ drop (length bytes - length (drop n rest)) bytes
rest_further bytes rest n fits suffix bound =
    let count : length bytes - length (drop n rest) ≡ length bytes - length rest + n =
    omega (arith, length-drop n rest) in
    rw count (ap (drop n) suffix ∙ drop-drop n (length bytes - length rest) bytes)

-- and what went out ends n further on
pub sent_further : (bytes rest : List ℕ) (n : ℕ) → length rest ≤ length bytes
    → rest ≡ drop (length bytes - length rest) bytes → n ≤ length rest
    → take (length bytes - length rest) bytes ++ take n rest ≡ take (length bytes - length (drop n rest)) bytes
sent_further bytes rest n fits suffix bound =
    let sent = length bytes - length rest in
    let count : length bytes - length (drop n rest) ≡ sent + n = omega (arith, length-drop n rest) in
    rw count (sym (take-add sent n bytes ∙ ap (λ l. take sent bytes ++ take n l) (sym suffix)))

-- a write that took some bytes is no failure
pub unfailed_write : (failures n : ℕ) (bytes : List ℕ) → 0 < n
    → failures_after_write {E = Failed} failures (Ok n) bytes ≡ failures
unfailed_write failures zero bytes p = absurd (omega arith)
unfailed_write failures (suc n) bytes p = refl
