-- A text that ends too early can be finished: tokens that are missing stand behind it, one by one. So what stands in
-- front of a fault begins some sentence, for each step whose examples are examples, as `Steady` says.
use Rattle.std.proofs.Common.{◌≡◌, ℕ, zero, suc, ◌<◌, Bool, true, false, List, [], ◌∷◌, ◌++◌, length, ◌⊎◌, inl, inr}
use Rattle.std.proofs.Common.{refl, sym, ap, subst, ◌∙◌, append_assoc, arith}
use Rattle.std.proofs.lemmas.List.{length-append}
use Rattle.proto_grammar.specs.declared.fault.SyntaxFault.{SyntaxFault}
use Rattle.proto_grammar.specs.Lexeme.{Lexeme}
use Rattle.proto_grammar.specs.Terminal.{first_is}
use Rattle.proto_steps.specs.Step.{Step, Done, Never, Take, Peek, Then, If, While, Count, Kept}
use Rattle.proto_steps.specs.Step.{Derives, Refused, Turns, Counts, Breaks, Lacks}
use Rattle.proto_steps.specs.Step.Turns.{ended, turn}
use Rattle.proto_steps.specs.Step.Counts.{at_zero, past}
use Rattle.proto_steps.specs.Step.Breaks.{here, idle, later}
use Rattle.proto_steps.specs.Step.Lacks.{at_end, beyond}
use Rattle.proto_steps.proofs.TurnLemmas.{either}
use Rattle.proto_steps.proofs.StepLaws.{IsTaken, turns_taken, taken, one_of_both}
use Rattle.proto_steps.proofs.FirstLemmas.{stays}

-- ---- what is missing, and what would go on with a step

-- what a step comes to where the text ends in front of it: a value, a token that is missing, or a ban
pub data Ahead (A : Type 0) : Type 0 where
  Reads : A → Ahead A
  Misses : Lexeme → Ahead A
  Banned : Ahead A

abbrev pub then_ahead : {A B : Type 0} → Ahead A → (A → Ahead B) → Ahead B
then_ahead (Reads x) next = next x
then_ahead (Misses t) next = Misses t
then_ahead Banned next = Banned

abbrev pub count_ahead : Lexeme → ℕ → Ahead (Unit {0})
count_ahead example zero = Reads tt
count_ahead example (suc n) = Misses example

abbrev pub ahead : {A : Type 0} → Step A → Ahead A
ahead (Done v) = Reads v
ahead (Never fault) = Banned
ahead (Take terminal) = Misses terminal.example
ahead (Peek example next) = Misses example
ahead (Then p next) = then_ahead (ahead p) (λ x. ahead (next x))
ahead (If test p q) = ahead q
ahead (While goes step s) = Reads s
ahead (Count example next n) = count_ahead example n
ahead (Kept p) = then_ahead (ahead p) (λ x. Reads (x, []))

-- a fact, if nothing is missing
abbrev pub IfReads : {A : Type 0} → Ahead A → Type 0 → Type 0
IfReads (Reads x) Fact = Fact
IfReads (Misses t) Fact = Unit {0}
IfReads Banned Fact = Unit {0}

-- At its end the step doesn't go on with the token.
abbrev pub Unseen : {A : Type 0} → Step A → Lexeme → Type 0
Unseen (Done v) t = Unit {0}
Unseen (Never fault) t = Unit {0}
Unseen (Take terminal) t = Unit {0}
Unseen (Peek example next) t = (u : Lexeme) → Unseen (next u) t
Unseen (Then {A} p next) t = (x : A) → Unseen (next x) t × IfReads (ahead (next x)) (Unseen p t)
Unseen (If test p q) t = IfReads (ahead q) (test t ≡ false) × Unseen p t × Unseen q t
Unseen (While {S} goes step s) t = (goes t ≡ false) × ((u : S) → Unseen (step u) t)
Unseen (Count example next n) t = Unit {0}
Unseen (Kept p) t = Unseen p t

abbrev pub UnseenNext : {A : Type 0} → Step A → List Lexeme → Type 0
UnseenNext p [] = Unit {0}
UnseenNext p (t ∷ k) = Unseen p t

-- it is no ban
abbrev pub Sound : {A : Type 0} → Ahead A → Type 0
Sound (Reads x) = Unit {0}
Sound (Misses t) = Unit {0}
Sound Banned = ⊥

-- what comes then doesn't go on with the step in front of it
abbrev pub Apart : {A B : Type 0} → Step A → Ahead B → Type 0
Apart p (Reads y) = Unit {0}
Apart p (Misses t) = Unseen p t
Apart p Banned = ⊥

-- what is missing doesn't pass the test
abbrev pub Unmet : {A : Type 0} → (Lexeme → Bool) → Ahead A → Type 0
Unmet test (Reads x) = Unit {0}
Unmet test (Misses t) = test t ≡ false
Unmet test Banned = Unit {0}

-- one token is read, or is not enough
abbrev pub Begins : {A : Type 0} → Step A → Lexeme → Type 0
Begins {A} p t =
    ((x : A) × Derives p (t ∷ []) x []) ⊎ ((end : ℕ) × (e : SyntaxFault) × Refused p end (t ∷ []) e [])

-- Each example is one, and goes on with nothing in front of it.
abbrev pub Steady : {A : Type 0} → Step A → Type 0
Steady (Done v) = Unit {0}
Steady (Never fault) = Unit {0}
Steady (Take terminal) = terminal.is terminal.example ≡ true
Steady (Peek example next) = ((t : Lexeme) → Steady (next t)) × Begins (next example) example
Steady (Then {A} p next) =
    Steady p × ((x : A) → Steady (next x) × Apart p (ahead (next x)))
Steady (If test p q) = Steady p × Steady q × Unmet test (ahead q)
Steady (While {S} goes step s) = (u : S) → Steady (step u)
Steady (Count example next n) = (m : ℕ) → next example (suc m) ≡ m
Steady (Kept p) = Steady p

-- ---- tests at the seam

first_more : (test : Lexeme → Bool) (l k : List Lexeme) → first_is test l ≡ true → first_is test (l ++ k) ≡ true
first_more test [] k h = absurd cc
first_more test (t ∷ l) k h = h

first_none : (test : Lexeme → Bool) (l k : List Lexeme) → first_is test l ≡ false
    → (l ≡ [] → first_is test k ≡ false) → first_is test (l ++ k) ≡ false
first_none test [] k h g = g refl
first_none test (t ∷ l) k h g = h

not_empty : {P : Type 0} (test : Lexeme → Bool) (l : List Lexeme) → first_is test l ≡ true → l ≡ [] → P
not_empty test [] h e = absurd cc
not_empty test (t ∷ l) h e = absurd (let none : t ∷ l ≡ [] = e in cc)

pub nothing_behind : {a b : List Lexeme} → IsTaken a b → a ≡ [] → b ≡ []
nothing_behind {b = []} f e = refl
nothing_behind {a = a} {b = t ∷ b} f e =
    absurd (omega (arith, length-append f.0 (t ∷ b), ap length f.1, ap length e))

unseen_peek : {A : Type 0} (example : Lexeme) (next : Lexeme → Step A) (k : List Lexeme)
    → UnseenNext (Peek example next) k → (t : Lexeme) → UnseenNext (next t) k
unseen_peek example next [] u t = tt
unseen_peek example next (v ∷ k) u t = u t

unseen_first : {A B : Type 0} (p : Step A) (next : A → Step B) (k : List Lexeme) → UnseenNext (Then p next) k → (x : A)
    (y : B) → ahead (next x) ≡ Reads y → UnseenNext p k
unseen_first p next [] u x y reads = tt
unseen_first p next (v ∷ k) u x y reads = subst (λ o. IfReads o (Unseen p v)) reads (u x).1

unseen_next : {A B : Type 0} (p : Step A) (next : A → Step B) (k : List Lexeme) → UnseenNext (Then p next) k
    → (x : A) → UnseenNext (next x) k
unseen_next p next [] u x = tt
unseen_next p next (v ∷ k) u x = (u x).0

unseen_test : {A : Type 0} (test : Lexeme → Bool) (p q : Step A) (k : List Lexeme) → UnseenNext (If test p q) k
    → (y : A) → ahead q ≡ Reads y → first_is test k ≡ false
unseen_test test p q [] u y reads = refl
unseen_test test p q (v ∷ k) u y reads = subst (λ o. IfReads o (test v ≡ false)) reads u.0

unseen_then : {A : Type 0} (test : Lexeme → Bool) (p q : Step A) (k : List Lexeme) → UnseenNext (If test p q) k
    → UnseenNext p k
unseen_then test p q [] u = tt
unseen_then test p q (v ∷ k) u = u.1

unseen_else : {A : Type 0} (test : Lexeme → Bool) (p q : Step A) (k : List Lexeme) → UnseenNext (If test p q) k
    → UnseenNext q k
unseen_else test p q [] u = tt
unseen_else test p q (v ∷ k) u = u.2

unseen_goes : {S : Type 0} (goes : Lexeme → Bool) (step : S → Step S) (s : S) (k : List Lexeme)
    → UnseenNext (While goes step s) k → first_is goes k ≡ false
unseen_goes goes step s [] u = refl
unseen_goes goes step s (v ∷ k) u = u.0

unseen_step : {S : Type 0} (goes : Lexeme → Bool) (step : S → Step S) (s : S) (k : List Lexeme)
    → UnseenNext (While goes step s) k → (t : S) → UnseenNext (step t) k
unseen_step goes step s [] u t = tt
unseen_step goes step s (v ∷ k) u t = u.1 t

unseen_turn : {S : Type 0} (goes : Lexeme → Bool) (step : S → Step S) (s t : S) (k : List Lexeme)
    → UnseenNext (While goes step s) k → UnseenNext (While goes step t) k
unseen_turn goes step s t [] u = tt
unseen_turn goes step s t (v ∷ k) u = u

-- ---- what a step comes to in front of the end

sound_first : {A B : Type 0} (o : Ahead A) (next : A → Ahead B) → Sound (then_ahead o next) → Sound o
sound_first (Reads x) next h = tt
sound_first (Misses t) next h = tt
sound_first Banned next h = h

apart_sound : {A B : Type 0} (p : Step A) (o : Ahead B) → Apart p o → Sound o
apart_sound p (Reads x) h = tt
apart_sound p (Misses t) h = tt
apart_sound p Banned h = h

turns_from : {S : Type 0} {goes : Lexeme → Bool} {One : S → List Lexeme → S → List Lexeme → Type 0} {s x : S}
    {l r : List Lexeme} → Turns goes One s l x r → l ≡ [] → s ≡ x
turns_from (ended over) e = refl
turns_from {goes = goes} (turn {a = a} go one less rest) e = not_empty goes a go e

counts_from : {next : Lexeme → ℕ → ℕ} {n : ℕ} {l r : List Lexeme} (example : Lexeme) → Counts next n l r → l ≡ []
    → count_ahead example n ≡ Reads tt
counts_from example at_zero e = refl
counts_from example (past {t = t} {a = a} d) e = absurd (let none : t ∷ a ≡ [] = e in cc)

nothing_kept : (front b : List Lexeme) → [] ≡ front ++ b → front ≡ []
nothing_kept [] b e = refl
nothing_kept (t ∷ front) b e = absurd (let none : [] ≡ t ∷ (front ++ b) = e in cc)

pub ahead_reads : {A : Type 0} (p : Step A) (x : A) (r : List Lexeme) → Derives p [] x r → ahead p ≡ Reads x
ahead_reads (Done v) x r d = ap (λ z. Reads z) (sym d.0)
ahead_reads (Never fault) x r d = absurd d
ahead_reads (Take terminal) x r d = absurd (let none : [] ≡ d.0 ∷ r = d.1 in cc)
ahead_reads (Peek example next) x r d = absurd (let none : [] ≡ d.0 ∷ d.1 = d.2 in cc)
ahead_reads (Then p next) x r d =
    let none : d.1 ≡ [] = nothing_behind (taken p [] d.1 d.0 d.2) refl in
    rw (ahead_reads p d.0 d.1 d.2)
    (ahead_reads (next d.0) x r (subst (λ z. Derives (next d.0) z x r) none d.3))
ahead_reads (If test p q) x r (inl d) = absurd (let none : false ≡ true = d.0 in cc)
ahead_reads (If test p q) x r (inr d) = ahead_reads q x r d.1
ahead_reads (While goes step s) x r d = ap (λ z. Reads z) (turns_from d refl)
ahead_reads (Count example next n) x r d = counts_from example d refl
ahead_reads (Kept p) x r d =
    rw (ahead_reads p x.0 r d.0) (ap (λ z. Reads (x.0, z)) (sym (nothing_kept x.1 r d.1)))

lacks_ahead : {next : Lexeme → ℕ → ℕ} {n : ℕ} {a : List Lexeme} (example : Lexeme) → Lacks next n a
    → count_ahead example n ≡ Misses example
lacks_ahead example at_end = refl
lacks_ahead example (beyond d) = refl

-- ---- what derives, derives with more behind it

turns_extend : {S : Type 0} (goes : Lexeme → Bool) (One : S → List Lexeme → S → List Lexeme → Type 0)
    (k : List Lexeme) (Next : Type 0) → (Next → first_is goes k ≡ false)
    → ((s : S) (l r : List Lexeme) (x : S) → One s l x r → (r ≡ [] → Next) → One s (l ++ k) x (r ++ k))
    → ((s : S) (l r : List Lexeme) (x : S) → One s l x r → IsTaken l r)
    → {s x : S} {l r : List Lexeme} → Turns goes One s l x r → (r ≡ [] → Next) → Turns goes One s (l ++ k) x (r ++ k)
turns_extend goes One k Next over h g (ended {a = a} e) after =
    ended (first_none goes a k e (λ z. over (after z)))
turns_extend goes One k Next over h g (turn {s = s} {t = t} {a = a} {b = b} {c = c} go one less rest) after =
    let more = h s a b t one (λ z. after (nothing_behind (turns_taken g rest) z)) in
    let shorter : length (b ++ k) < length (a ++ k) = omega (arith, less, length-append a k, length-append b k) in
    turn (first_more goes a k go) more shorter (turns_extend goes One k Next over h g rest after)

count_extend : {next : Lexeme → ℕ → ℕ} {n : ℕ} {l r : List Lexeme} (k : List Lexeme) → Counts next n l r
    → Counts next n (l ++ k) (r ++ k)
count_extend k at_zero = at_zero
count_extend k (past d) = past (count_extend k d)

pub extend : {A : Type 0} (p : Step A) (l r : List Lexeme) (x : A) (k : List Lexeme) → Derives p l x r
    → (r ≡ [] → UnseenNext p k) → Derives p (l ++ k) x (r ++ k)
extend (Done v) l r x k d after = (d.0, ap (λ z. z ++ k) d.1)
extend (Never fault) l r x k d after = absurd d
extend (Take terminal) l r x k d after = (d.0, ap (λ z. z ++ k) d.1, d.2, d.3)
extend (Peek example next) l r x k d after = (
  d.0,
  d.1 ++ k,
  ap (λ z. z ++ k) d.2,
  extend (next d.0) l r x k d.3 (λ z. unseen_peek example next k (after z) d.0),
)
extend (Then p next) l r x k d after = (
  d.0,
  d.1 ++ k,
  extend p l d.1 d.0 k d.2
      (λ z.
      unseen_first p next k (after (nothing_behind (taken (next d.0) d.1 r x d.3) z)) d.0 x
      (ahead_reads (next d.0) x r (subst (λ w. Derives (next d.0) w x r) z d.3))),
  extend (next d.0) d.1 r x k d.3 (λ z. unseen_next p next k (after z) d.0),
)
extend (If test p q) l r x k (inl d) after =
    inl (first_more test l k d.0, extend p l r x k d.1 (λ z. unseen_then test p q k (after z)))
extend (If test p q) l r x k (inr d) after =
    inr (
      first_none test l k d.0 (λ z.
          unseen_test test p q k (after (nothing_behind (taken q l r x d.1) z)) x
          (ahead_reads q x r (subst (λ w. Derives q w x r) z d.1))),
      extend q l r x k d.1 (λ z. unseen_else test p q k (after z)),
    )
extend (While goes step s) l r x k d after =
    turns_extend goes (λ u. Derives (step u)) k (UnseenNext (While goes step s) k) (unseen_goes goes step s k)
    (λ t a b y one more. extend (step t) a b y k one (λ z. unseen_step goes step s k (more z) t))
    (λ t. taken (step t)) d after
extend (Count example next n) l r x k d after = count_extend k d
extend (Kept p) l r x k d after =
    (extend p l r x.0 k d.0 after, ap (λ z. z ++ k) d.1 ∙ append_assoc x.1 r k)

-- ---- what ends too early can be finished

-- these tokens are missing, whatever stands behind them that goes on with nothing
abbrev pub Finishes : {A : Type 0} → Step A → List Lexeme → Type 0
Finishes {A} p l =
    (t : Lexeme) × (w : List Lexeme) × (x : A) × (l ≡ [] → ahead p ≡ Misses t)
    × ((k : List Lexeme) → UnseenNext p k → Derives p (l ++ t ∷ (w ++ k)) x k)

abbrev closers : Lexeme → ℕ → List Lexeme
closers example zero = []
closers example (suc n) = example ∷ closers example n

closers_count : (next : Lexeme → ℕ → ℕ) (example : Lexeme) → ((m : ℕ) → next example (suc m) ≡ m) → (n : ℕ)
    (k : List Lexeme) → Counts next n (closers example n ++ k) k
closers_count next example h zero k = at_zero
closers_count next example h (suc n) k =
    past
    (subst (λ z. Counts next z (closers example n ++ k) k) (sym (h n)) (closers_count next example h n k))

lacks_finish : {next : Lexeme → ℕ → ℕ} (example : Lexeme) → ((m : ℕ) → next example (suc m) ≡ m) → {n : ℕ}
    {l : List Lexeme} → Lacks next n l
    → (w : List Lexeme) × ((k : List Lexeme) → Counts next n (l ++ example ∷ (w ++ k)) k)
lacks_finish {next} example h (at_end {n}) = (
  closers example n,
  λ k. past
      (subst (λ z. Counts next z (closers example n ++ k) k) (sym (h n)) (closers_count next example h n k)),
)
lacks_finish example h (beyond d) = let f = lacks_finish example h d in (f.0, λ k. past (f.1 k))

breaks_next : {S : Type 0} {goes : Lexeme → Bool} {One : S → List Lexeme → S → List Lexeme → Type 0}
    {Fault : S → List Lexeme → SyntaxFault → List Lexeme → Type 0} {end : ℕ} {s : S} {a l : List Lexeme}
    {e : SyntaxFault} → Breaks goes One Fault end s a e l → first_is goes a ≡ true
breaks_next (here go r) = go
breaks_next (idle go one no_less) = go
breaks_next (later go one less r) = go

breaks_finish : {S : Type 0} (goes : Lexeme → Bool) (step : S → Step S) (end : ℕ)
    → ((u : S) (l : List Lexeme) (e : SyntaxFault) → (l ≡ [] → Sound (ahead (step u))) → Refused (step u) end l e []
    → Finishes (step u) l)
    → {s : S} {l o : List Lexeme} {e : SyntaxFault}
    → Breaks goes (λ u. Derives (step u)) (λ u b. Refused (step u) end b) end s l e o → [] ≡ o
    → Finishes (While goes step s) l
breaks_finish goes step end h (here {s = s} {a = a} {e = e} go r) same =
    let f = h s a e (λ z. not_empty goes a go z) (subst (λ z. Refused (step s) end a e z) (sym same) r) in (
      f.0,
      f.1,
      f.2,
      λ z. not_empty goes a go z,
      λ k u.
          let shorter : length k < length (a ++ f.0 ∷ (f.1 ++ k)) =
          omega (arith, length-append a (f.0 ∷ (f.1 ++ k)), length-append f.1 k) in
          turn (first_more goes a (f.0 ∷ (f.1 ++ k)) go) (f.4 k (unseen_step goes step s k u s)) shorter
          (ended (unseen_goes goes step s k u)),
    )
breaks_finish goes step end h (idle {a = a} go one no_less) same = not_empty goes a go (sym same)
breaks_finish goes step end h (later {s = s} {t = t} {a = a} {b = b} go one less r) same =
    let f = breaks_finish goes step end h r same in (
      f.0,
      f.1,
      f.2,
      λ z. not_empty goes a go z,
      λ k u.
          let k' = f.0 ∷ (f.1 ++ k) in
          let shorter : length (b ++ k') < length (a ++ k') = omega
          (arith, less, length-append a k', length-append b k')
          in
          turn (first_more goes a k' go)
          (extend (step s) a b t k' one (λ z. not_empty goes b (breaks_next r) z)) shorter
          (f.4 k (unseen_turn goes step s t k u)),
    )

pub finish : {A : Type 0} (p : Step A) → Steady p → (end : ℕ) (l : List Lexeme) (e : SyntaxFault)
    → (l ≡ [] → Sound (ahead p))
    → Refused p end l e [] → Finishes p l
finish (Done v) steady end l e live r = absurd r
finish (Never fault) steady end l e live r = absurd (live (sym r.0))
finish (Take terminal) steady end [] e live r =
    (terminal.example, [], terminal.example.span, λ z. refl, λ k u. (terminal.example, refl, steady, refl))
finish (Take terminal) steady end (t ∷ l) e live r = absurd (let none : [] ≡ t ∷ l = r.1 in cc)
finish (Peek example next) steady end [] e live (inl r) =
    either steady.1
    (λ f. (
      example,
      [],
      f.0,
      λ z. refl,
      λ k u. (
        example,
        k,
        refl,
        extend (next example) (example ∷ []) [] f.0 k f.1 (λ z. unseen_peek example next k u example),
      ),
    ))
    (λ g.
    let f = finish (next example) (steady.0 example) g.0 (example ∷ []) g.1
    (λ z. absurd (let none : example ∷ [] ≡ [] = z in cc)) g.2 in (
      example,
      f.0 ∷ f.1,
      f.2,
      λ z. refl,
      λ k u. (example, f.0 ∷ (f.1 ++ k), refl, f.4 k (unseen_peek example next k u example)),
    ))
finish (Peek example next) steady end (t ∷ l) e live (inl r) = absurd (let none : t ∷ l ≡ [] = r.0 in cc)
finish (Peek example next) steady end l e live (inr r) =
    let f = finish (next r.0) (steady.0 r.0) end l e
    (λ z. absurd (let none : r.0 ∷ r.1 ≡ [] = sym r.2 ∙ z in cc)) r.3 in (
      f.0,
      f.1,
      f.2,
      λ z. absurd (let none : r.0 ∷ r.1 ≡ [] = sym r.2 ∙ z in cc),
      λ k u. (
        r.0,
        r.1 ++ f.0 ∷ (f.1 ++ k),
        ap (λ z. z ++ f.0 ∷ (f.1 ++ k)) r.2,
        f.4 k (unseen_peek example next k u r.0),
      ),
    )
finish (Then p next) steady end l e live (inl r) =
    let f = finish p steady.0 end l e (λ z. sound_first (ahead p) (λ x. ahead (next x)) (live z)) r in
    let s = steady.1 f.2 in
    either (one_of_both (next f.2) end [])
    (λ d.
    let none : d.1 ≡ [] = nothing_behind (taken (next f.2) [] d.1 d.0 d.2) refl in
    let read = subst (λ z. Derives (next f.2) [] d.0 z) none d.2 in (
      f.0,
      f.1,
      d.0,
      λ z. ap (λ o. then_ahead o (λ x. ahead (next x))) (f.3 z),
      λ k u. (
        f.2,
        k,
        f.4 k (unseen_first p next k u f.2 d.0 (ahead_reads (next f.2) d.0 [] read)),
        extend (next f.2) [] [] d.0 k read (λ z. unseen_next p next k u f.2),
      ),
    ))
    (λ d.
    let none : d.1 ≡ [] = nothing_behind (stays (next f.2) end [] d.0 d.1 d.2) refl in
    let g = finish (next f.2) s.0 end [] d.0 (λ z. apart_sound p (ahead (next f.2)) s.1)
    (subst (λ z. Refused (next f.2) end [] d.0 z) none d.2) in (
      f.0,
      f.1 ++ g.0 ∷ g.1,
      g.2,
      λ z. ap (λ o. then_ahead o (λ x. ahead (next x))) (f.3 z),
      λ k u. (
        f.2,
        g.0 ∷ (g.1 ++ k),
        subst (λ z. Derives p (l ++ f.0 ∷ z) f.2 (g.0 ∷ (g.1 ++ k))) (sym (append_assoc f.1 (g.0 ∷ g.1) k))
            (f.4 (g.0 ∷ (g.1 ++ k)) (subst (λ o. Apart p o) (g.3 refl) s.1)),
        g.4 k (unseen_next p next k u f.2),
      ),
    ))
finish (Then p next) steady end l e live (inr r) =
    let s = steady.1 r.0 in
    let f = finish (next r.0) s.0 end r.1 e (λ z. apart_sound p (ahead (next r.0)) s.1) r.3 in (
      f.0,
      f.1,
      f.2,
      λ z.
          let none : r.1 ≡ [] = nothing_behind (taken p l r.1 r.0 r.2) z in
          ap (λ o. then_ahead o (λ x. ahead (next x)))
          (ahead_reads p r.0 r.1 (subst (λ a. Derives p a r.0 r.1) z r.2)) ∙ f.3 none,
      λ k u. (
        r.0,
        r.1 ++ f.0 ∷ (f.1 ++ k),
        extend p l r.1 r.0 (f.0 ∷ (f.1 ++ k)) r.2 (λ z. subst (λ o. Apart p o) (f.3 z) s.1),
        f.4 k (unseen_next p next k u r.0),
      ),
    )
finish (If test p q) steady end l e live (inl r) =
    let f = finish p steady.0 end l e (λ z. not_empty test l r.0 z) r.1 in (
      f.0,
      f.1,
      f.2,
      λ z. not_empty test l r.0 z,
      λ k u. inl (first_more test l (f.0 ∷ (f.1 ++ k)) r.0, f.4 k (unseen_then test p q k u)),
    )
finish (If test p q) steady end l e live (inr r) =
    let f = finish q steady.1 end l e live r.1 in (
      f.0,
      f.1,
      f.2,
      f.3,
      λ k u. inr (
        first_none test l (f.0 ∷ (f.1 ++ k)) r.0 (λ z. subst (λ o. Unmet test o) (f.3 z) steady.2),
        f.4 k (unseen_else test p q k u),
      ),
    )
finish (While goes step s) steady end l e live r =
    breaks_finish goes step end (λ u a f. finish (step u) (steady u) end a f) r refl
finish (Count example next n) steady end l e live r =
    let f = lacks_finish example steady r.0 in
    (example, f.0, tt, λ z. lacks_ahead example r.0, λ k u. f.1 k)
finish (Kept p) steady end l e live r =
    let f = finish p steady end l e (λ z. sound_first (ahead p) (λ x. Reads (x, [])) (live z)) r in (
      f.0,
      f.1,
      (f.2, l ++ f.0 ∷ f.1),
      λ z. ap (λ o. then_ahead o (λ x. Reads (x, []))) (f.3 z),
      λ k u. (f.4 k u, sym (append_assoc l (f.0 ∷ f.1) k)),
    )
