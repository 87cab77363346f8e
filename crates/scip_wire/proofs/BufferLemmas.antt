-- Bytes that are put into a buffer (`Buffered`): one text behind another, and what has gone out at the end.
use Rattle.std.proofs.Common.{◌≡◌, ℕ, ◌+◌, ◌-◌, ◌^◌, ◌≤◌, min, List, [], ◌++◌, length, take, drop, refl, sym, ap, ◌∙◌}
use Rattle.std.proofs.Common.{arith, subst, append_assoc, append-nil, length-append, length-drop}
use Rattle.std.proofs.Common.{take-append-drop, true, false, Result, Ok, Err, is_ok, OnOk, OnErr, IfErr}
use Rattle.std.proofs.Math.Seq.{take-append_seam}
use Rattle.std.proofs.lemmas.List.{length-take-le}
use Rattle.std.proofs.KnownBytes.{Appends-trans}
use Rattle.streams.specs.Streams.{one_more}
use Rattle.streams.specs.Writers.{SinkOf, writing, IsWritten, IsCutOff}
use Rattle.streams.proofs.WholeWriteLemmas.{IsWritten-nil, IsWritten-trans}
use Rattle.streams.specs.declared.whole_writes.CutOff.{CutOff}
use Rattle.scip_wire.specs.Spelling.{max_index_len}
use Rattle.scip_wire.specs.Saturated.{saturated}
use Rattle.scip_wire.specs.Outputs.{IsPut, put}
use Rattle.scip_wire.specs.Buffered.{Passes, goes_on, stops, stays, ArePassed, waiting_of}
use Rattle.scip_wire.specs.declared.spell.buffer.Buffer.{Buffer}
use Rattle.scip_wire.specs.declared.spell.buffer.Progress.{Progress}
use Rattle.scip_wire.specs.declared.spell.buffer.Progress.TheVariants.{Going, Stopped}

-- what is put behind what has gone out and what waits
seam : (u x f v y g w : List ℕ) → u ++ x ≡ f ++ v → v ++ y ≡ g ++ w → u ++ (x ++ y) ≡ (f ++ g) ++ w
seam u x f v y g w p q =
    sym (append_assoc u x y) ∙ ap (λ l. l ++ y) p ∙ append_assoc f v y ∙ ap (λ l. f ++ l) q ∙ sym (append_assoc f g w)

behind : (u x f v y : List ℕ) → u ++ x ≡ f ++ v → u ++ (x ++ y) ≡ f ++ (v ++ y)
behind u x f v y p = sym (append_assoc u x y) ∙ ap (λ l. l ++ y) p ∙ append_assoc f v y

counted : (m n k : ℕ) (f g : List ℕ) → saturated n ≡ saturated (m + length f) → saturated k ≡ saturated (n + length g)
    → saturated k ≡ saturated (m + length (f ++ g))
counted m n k f g p q = omega (arith, length-append f g, p, q)

module _ {W : Type 0} (sink : SinkOf W) where
  pub Passes-trans : (a b c : W) (u v w : List ℕ) (p q r : Progress) (x y : List ℕ)
      → Passes sink a u p b v q x → Passes sink b v q c w r y
      → Passes sink a u p c w r (x ++ y)
  Passes-trans a b c u v w (Going m) (Going n) (Going k) x y (goes_on f s e l) (goes_on g t d o) =
      goes_on (f ++ g) (IsWritten-trans sink a b c f g s t) (seam u x f v y g w e d)
      (counted m n k f g l o)
  Passes-trans a b c u v w (Going m) (Going n) (Stopped k) x y (goes_on f s e l) (stops g back t i d some o) =
      stops (f ++ g) back (Appends-trans (sink.contents a) (sink.contents b) (sink.contents c) f g s.written t)
      (i ∙ ap one_more s.unfailed) (seam u x f v y g back e d) some (counted m n k f g l o)
  Passes-trans a b c u v w (Going m) (Stopped n) (Stopped k) x y (stops f back s i e some l) stays =
      stops f (back ++ y) s i (behind u x f back y e) (omega (arith, length-append back y, some)) l
  Passes-trans a b c u v w (Stopped m) (Stopped n) (Stopped k) x y stays stays = stays
  Passes-trans a b c u v w (Going m) (Stopped n) (Going k) x y s t = elim t [ ]
  Passes-trans a b c u v w (Stopped m) (Going n) r x y s t = elim s [ ]
  Passes-trans a b c u v w (Stopped m) (Stopped n) (Going k) x y s t = elim t [ ]

  -- a buffer that has room takes bytes in
  pub Passes-in : (a : W) (u v x : List ℕ) (p : Progress) → v ≡ u ++ x → Passes sink a u p a v p x
  Passes-in a u v x (Going m) e = goes_on [] (IsWritten-nil sink a) (sym e) (omega arith)
  Passes-in a u v x (Stopped m) e = stays

  -- the whole text was sent, or a front of it, or nothing is sent any more
  pub sent_all : (a b : W) (count now : ℕ) (x : List ℕ) → IsWritten (writing sink a b) x
      → now ≡ min (count + length x) (2 ^ 64 - 1) → Passes sink a [] (Going count) b [] (Going now) x
  sent_all a b count now x s e = goes_on x s (sym (append-nil x)) (omega (arith, e))

  pub sent_part : (a b : W) (count now written : ℕ) (x : List ℕ) → IsCutOff (writing sink a b) x written
      → now ≡ min (count + written) (2 ^ 64 - 1) → Passes sink a [] (Going count) b [] (Stopped now) x
  sent_part a b count now written x s e =
      stops (take written x) (drop written x) s.written s.failed (sym (take-append-drop written x))
      (omega (arith, length-drop written x, s.short))
      (omega (arith, length-take-le written x (omega (arith, s.short)), e))

  pub sent_none : (a : W) (u v x : List ℕ) (p : Progress) (n : ℕ) → p ≡ Stopped n
      → Passes sink a u p a v p x
  sent_none a u v x p n e = subst (λ q. Passes sink a u q a v q x) (sym e) stays

  -- what waited went out
  pub Passes-out : (a b : W) (u v : List ℕ) (p q : Progress) → v ≡ [] → Passes sink a [] p b [] q u
      → Passes sink a u p b v q []
  Passes-out a b u v (Going m) (Going n) none (goes_on f s e l) =
      goes_on f s (append-nil u ∙ e ∙ ap (λ l. f ++ l) (sym none)) l
  Passes-out a b u v (Going m) (Stopped n) none (stops f back s i e some l) = stops f back s i (append-nil u ∙ e) some l
  Passes-out a b u v (Stopped m) (Stopped n) none stays = stays
  Passes-out a b u v (Stopped m) (Going n) none s = elim s [ ]

  -- a buffer without room for a text is emptied, and then has room
  pub Passes-flushed : (a b : W) (u waits v w : List ℕ) (p q : Progress) (x : List ℕ) → waits ≡ u → v ≡ [] → w ≡ v ++ x
      → Passes sink a waits p b v q [] → Passes sink a u p b w q x
  Passes-flushed a b u waits v w p q x same none e s =
      Passes-trans a b b u v w p q q [] x (subst (λ l. Passes sink a l p b v q []) same s)
      (Passes-in b v w x q e)

  -- or still has none, and the text goes out
  pub Passes-past : (a b c : W) (u waits v w : List ℕ) (p q r : Progress) (x : List ℕ) → waits ≡ u → v ≡ [] → w ≡ v
      → Passes sink a waits p b v q [] → Passes sink b [] q c [] r x
      → Passes sink a u p c w r x
  Passes-past a b c u waits v w p q r x same none e s t =
      let emptied : Passes sink a u p b [] q [] =
      subst (λ l. Passes sink a u p b l q []) none
      (subst (λ l. Passes sink a l p b v q []) same s) in
      subst (λ l. Passes sink a u p c l r x) (sym (e ∙ none))
      (Passes-trans a b c u [] [] p q r [] x emptied t)

  -- at the end nothing waits: all went out, or a front of it
  pub all_out : (a b : W) (u v : List ℕ) (n : ℕ) (x : List ℕ) → u ≡ [] → v ≡ []
      → Passes sink a u (Going 0) b v (Going n) x → IsWritten (writing sink a b) x
  all_out a b u v n x none done (goes_on f s e l) =
      let whole : f ≡ x = sym (append-nil f) ∙ ap (λ l. f ++ l) (sym done) ∙ sym e ∙ ap (λ l. l ++ x) none in
      subst (IsWritten (writing sink a b)) whole s

  pub cut_off : (a b : W) (u v : List ℕ) (n : ℕ) (x : List ℕ) → u ≡ [] → length x ≤ max_index_len
      → Passes sink a u (Going 0) b v (Stopped n) x → IsCutOff (writing sink a b) x n
  cut_off a b u v n x none short (stops f back s i e some l) =
      let whole : x ≡ f ++ back = ap (λ l. l ++ x) (sym none) ∙ e in
      let size : length x ≡ length f + length back = ap length whole ∙ length-append f back in
      let count : n ≡ length f = omega (arith, l, size, some, short) in
      record {
        short = omega (arith, size, some, count);
        written = rw (count, whole, take-append_seam f back) s;
        failed = i;
      }

-- ---- the whole of what is put

module _ {W : Type 0} {sink : SinkOf W} where
  -- a text in place of an equal one, and what waits in place of what is equal
  pub alike : {a b : W} {u v : List ℕ} {p q : Progress} {x y : List ℕ} → x ≡ y → Passes sink a u p b v q x
      → Passes sink a u p b v q y
  alike {a} {b} {u} {v} {p} {q} e s = subst (Passes sink a u p b v q) e s

  pub kept : {a b : W} {u w v : List ℕ} {p q : Progress} {x : List ℕ} → w ≡ u → Passes sink a w p b v q x
      → Passes sink a u p b v q x
  kept {a} {b} {u} {w} {v} {p} {q} {x} e s = subst (λ l. Passes sink a l p b v q x) e s

  -- a text, and what was left behind it
  whole : {a b c : W} {u v : List ℕ} {p q r : Progress} {x : List ℕ} → Passes sink a u p b v q x
      → Passes sink b v q c [] r [] → Passes sink a u p c [] r x
  whole {a} {b} {c} {u} {v} {p} {q} {r} {x} s t =
      alike (append-nil x) (Passes-trans sink a b c u v [] p q r x [] s t)

  -- a text was put into an empty buffer, and what then waited went out: all of it, or a front
  pub all_written : {a b : W} {u v : List ℕ} {p q : Progress} (c : W) (x : List ℕ)
      (result : Result (Unit {0}) CutOff)
      → u ≡ [] → p ≡ Going 0 → Passes sink a u p b v q x
      → OnOk result ((n : ℕ) × Passes sink b v q c [] (Going n) [])
      → OnOk result (IsWritten (writing sink a c) x)
  all_written {a} {b} {u} {v} {p} {q} c x (Ok done) none start s t =
      let n = t.0 in
      all_out sink a c u [] n x none refl
      (subst (λ o. Passes sink a u o c [] (Going n) x) start (whole s t.1))
  all_written {a} {b} {u} {v} {p} {q} c x (Err e) none start s t = tt

  pub part_written : {a b : W} {u v : List ℕ} {p q : Progress} (c : W) (x : List ℕ)
      (result : Result (Unit {0}) CutOff)
      → u ≡ [] → p ≡ Going 0 → length x ≤ max_index_len → Passes sink a u p b v q x
      → IfErr result (λ e. Passes sink b v q c [] (Stopped e.written) [])
      → IfErr result (λ e. IsCutOff (writing sink a c) x e.written)
  part_written {a} {b} {u} {v} {p} {q} c x (Ok done) none start short s t = tt
  part_written {a} {b} {u} {v} {p} {q} c x (Err e) none start short s t =
      cut_off sink a c u [] e.written x none short
      (subst (λ o. Passes sink a u o c [] (Stopped e.written) x) start (whole s t))

  -- the end of a buffer in which nothing waits any more
  pub ended : {a b : W} {u v : List ℕ} {p q r : Progress} → v ≡ [] → q ≡ r → Passes sink a u p b v q []
      → Passes sink a u p b [] r []
  ended {a} {b} {u} {v} {p} {q} {r} none is s =
      subst (λ o. Passes sink a u p b [] o []) is
      (subst (λ l. Passes sink a u p b l q []) none s)

-- ---- a buffer as an output

module _ {W : Type 0} (sink : SinkOf W) where
  pub put_of : (a b : W) (old new : Buffer) (x : List ℕ)
      → Passes sink a (waiting_of old) old.progress b (waiting_of new) new.progress x
      → IsPut (ArePassed sink) a old b new x
  put_of a b old new x s =
      put (λ first begun earlier h.
      Passes-trans sink first a b (waiting_of begun) (waiting_of old) (waiting_of new) begun.progress
      old.progress new.progress earlier x h s)

  pub passed : (a b : W) (old new : Buffer) (x : List ℕ) → IsPut (ArePassed sink) a old b new x
      → Passes sink a (waiting_of old) old.progress b (waiting_of new) new.progress x
  passed a b old new x (put f) =
      f a old [] (Passes-in sink a (waiting_of old) (waiting_of old) [] old.progress
      (sym (append-nil (waiting_of old))))

-- ---- results

pub tried : {X E : Type 0} (P : Type 0) (r : Result X E) → is_ok r ≡ true → OnOk r P → P
tried P (Ok x) is p = p
tried P (Err e) is p = absurd cc

pub refused : {X E : Type 0} (P : Type 0) (r : Result X E) → is_ok r ≡ false → OnErr r P → P
refused P (Ok x) is p = absurd cc
refused P (Err e) is p = p
