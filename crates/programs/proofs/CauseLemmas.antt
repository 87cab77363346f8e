-- Lines that say why the system refused what it was asked for.
use Rattle.std.proofs.Common.{◌≡◌, ◌+◌, ◌≤◌, ℕ, List, [], ◌++◌, length, refl, sym, subst, arith, append_assoc}
use Rattle.std.specs.Prelude.{Option, None, Some, IfSome, codes, unwrap_or}
use Rattle.std.proofs.lemmas.List.{take-append-le, length-append}
use Rattle.streams.specs.Writers.{IsCutOff, IsSaid, IsWritten, SinkOf, cut_short, entire, writing}
use Rattle.streams.proofs.WholeWriteLemmas.{IsWritten-trans, IsCutOff-after}

module _ {M : Type 0} (sink : SinkOf M) (front line : List ℕ) where
  abbrev joined : (front ++ line) ++ codes "\n" ≡ front ++ (line ++ codes "\n")
  joined = append_assoc front line (codes "\n")

  -- a line whose first part is written, and the rest of which is said
  pub said_behind : (before now after : M) → IsWritten (writing sink before now) front
      → IsSaid (writing sink now after) line → IsSaid (writing sink before after) (front ++ line)
  said_behind before now after written (entire rest) =
      entire (subst (IsWritten (writing sink before after)) (sym joined)
      (IsWritten-trans sink before now after front (line ++ codes "\n") written rest))
  said_behind before now after written (cut_short {count} cut) =
      cut_short (subst (λ text. IsCutOff (writing sink before after) text (length front + count)) (sym joined)
      (IsCutOff-after sink before now after front (line ++ codes "\n") count written cut))

  -- or whose first part is cut off
  pub cut_before : (before after : M) (count : ℕ) → IsCutOff (writing sink before after) front count
      → IsSaid (writing sink before after) (front ++ line)
  cut_before before after count cut =
      let within : count ≤ length front = omega (arith, cut.short) in
      let Cut : List ℕ → Type 0 = λ text. IsCutOff (writing sink before after) text count in
      cut_short {count = count} (subst Cut (sym joined) (record {
        short = omega (arith, length-append front (line ++ codes "\n"), cut.short);
        written = rw (take-append-le count front (line ++ codes "\n") within) cut.written;
        failed = cut.failed;
      }))

-- ---- the path of a report

named_so : (path : Option (List ℕ)) (is : List ℕ) → IfSome path (λ p. is ≡ p) → (path ≡ None → is ≡ [])
    → is ≡ unwrap_or path []
named_so None is some none = none refl
named_so (Some p) is some none = some
