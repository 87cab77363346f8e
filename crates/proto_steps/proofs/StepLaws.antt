-- What is read is what derives, and what is refused is what meets a fault; for each step.
use Rattle.std.proofs.Common.{◌≡◌, ℕ, zero, suc, ◌-◌, ◌<◌, Bool, true, false, nat_lt, Result, Ok, Err}
use Rattle.std.proofs.Common.{List, [], ◌∷◌, ◌++◌, length, take, ◌⊎◌, inl, inr, refl, sym, ap, subst, ◌∙◌}
use Rattle.std.proofs.Common.{append_assoc, arith}
use Rattle.std.specs.Option.{option_map_or}
use Rattle.std.proofs.lemmas.Bool.{lt-ltb, ltb-true}
use Rattle.std.proofs.lemmas.List.{length-append}
use Rattle.std.proofs.Math.Seq.{take-append_seam}
use Rattle.proto_lex.specs.declared.span.Span.{Span}
use Rattle.proto_lex.proofs.ReadingTestLemmas.{chosen}
use Rattle.proto_grammar.specs.declared.fault.SyntaxFault.{SyntaxFault}
use Rattle.proto_grammar.specs.declared.fault.SyntaxFault.TheVariants.{Grammar}
use Rattle.proto_grammar.specs.Lexeme.{Lexeme, Place, place_of}
use Rattle.proto_grammar.specs.Terminal.{first, first_is}
use Rattle.proto_grammar.specs.Reading.Repetition.{Read, misplaced, token_that}
use Rattle.proto_grammar.proofs.RepetitionStepLemmas.{bind_ok, same_ok, guard_ok}
use Rattle.proto_steps.specs.Step.{Step, Done, Never, Take, Peek, Then, If, While, Count, Kept}
use Rattle.proto_steps.specs.Step.{turns_at, count_at, run, wrong_at, Derives, Refused, Turns, Counts}
use Rattle.proto_steps.specs.Step.{Breaks, Lacks}
use Rattle.proto_steps.specs.Step.Turns.{ended, turn}
use Rattle.proto_steps.specs.Step.Counts.{at_zero, past}
use Rattle.proto_steps.specs.Step.Breaks.{here, idle, later}
use Rattle.proto_steps.specs.Step.Lacks.{at_end, beyond}
use Rattle.proto_steps.proofs.TurnLemmas.{bind_err, same_err, ok_not_err, either, first_turn}

-- ---- a step takes what is in front of what it leaves

abbrev pub IsTaken : List Lexeme → List Lexeme → Type 0
IsTaken a b = (front : List Lexeme) × (a ≡ front ++ b)

pub both_taken : {a b c : List Lexeme} → IsTaken a b → IsTaken b c → IsTaken a c
both_taken {c = c} f g = (f.0 ++ g.0, f.1 ∙ ap (λ z. f.0 ++ z) g.1 ∙ sym (append_assoc f.0 g.0 c))

pub turns_taken : {S : Type 0} {goes : Lexeme → Bool} {One : S → List Lexeme → S → List Lexeme → Type 0}
    → ((s : S) (a b : List Lexeme) (t : S) → One s a t b → IsTaken a b)
    → {s t : S} {a b : List Lexeme} → Turns goes One s a t b → IsTaken a b
turns_taken h (ended e) = ([], refl)
turns_taken h (turn {s} {t} {a = a} {b} e d l r) = both_taken (h s a b t d) (turns_taken h r)

pub count_taken : {next : Lexeme → ℕ → ℕ} {n : ℕ} {a b : List Lexeme} → Counts next n a b → IsTaken a b
count_taken at_zero = ([], refl)
count_taken (past {t = t} d) = let f = count_taken d in (t ∷ f.0, ap (λ z. t ∷ z) f.1)

pub taken : {A : Type 0} (p : Step A) (a b : List Lexeme) (x : A) → Derives p a x b → IsTaken a b
taken (Done v) a b x d = ([], sym d.1)
taken (Never fault) a b x d = absurd d
taken (Take terminal) a b x d = (d.0 ∷ [], d.1)
taken (Peek example next) a b x d = taken (next d.0) a b x d.3
taken (Then p next) a c y d = both_taken (taken p a d.1 d.0 d.2) (taken (next d.0) d.1 c y d.3)
taken (If test p q) a b x (inl d) = taken p a b x d.1
taken (If test p q) a b x (inr d) = taken q a b x d.1
taken (While goes step s) a b x d = turns_taken (λ u. taken (step u)) d
taken (Count example next n) a b x d = count_taken d
taken (Kept p) a b x d = taken p a b x.0 d.0

kept_is : (front b : List Lexeme) → take (length (front ++ b) - length b) (front ++ b) ≡ front
kept_is front b =
    let e : length (front ++ b) - length b ≡ length front = omega (arith, length-append front b) in
    rw e (take-append_seam front b)

kept_front : (a front b : List Lexeme) → a ≡ front ++ b → a ≡ take (length a - length b) a ++ b
kept_front a front b e =
    subst (λ z. z ≡ take (length z - length b) z ++ b) (sym e) (ap (λ z. z ++ b) (sym (kept_is front b)))

-- ---- what derives is read

take_read : (test : Lexeme → Bool) (end : ℕ) (a b : List Lexeme) (t : Lexeme) → a ≡ t ∷ b → test t ≡ true
    → token_that test (place_of end a) ≡ Ok (t.span, place_of end b)
unfolding token_that
take_read test end a b t e h = rw e (rw h refl)

peek_read : {A : Type 0} (next : Lexeme → Read A) (end : ℕ) (a rest : List Lexeme) (t : Lexeme)
    (o : Result (A × Place) SyntaxFault) → a ≡ t ∷ rest → next t (place_of end a) ≡ o
    → option_map_or (λ u. next u (place_of end a)) (first a) (misplaced (place_of end a)) ≡ o
peek_read next end a rest t o e h = rw e (rw e at h)

turns_read : {S : Type 0} {goes : Lexeme → Bool} {One : S → List Lexeme → S → List Lexeme → Type 0}
    (one : S → Read S) (end : ℕ)
    → ((s : S) (a b : List Lexeme) (t : S) → One s a t b → one s (place_of end a) ≡ Ok (t, place_of end b))
    → {s t : S} {a b : List Lexeme} → Turns goes One s a t b
    → turns_at goes one s (place_of end a) ≡ Ok (t, place_of end b)
turns_read {goes = goes} one end h (ended {s} {a} e) = rw (first_turn goes one s (place_of end a), e) refl
turns_read {goes = goes} one end h (turn {s} {t} {u} {a} {b} {c} e d l r) =
    rw (first_turn goes one s (place_of end a), e, h s a b t d, lt-ltb _ _ l, turns_read one end h r) refl

count_read : {next : Lexeme → ℕ → ℕ} {n : ℕ} {a b : List Lexeme} (end : ℕ) → Counts next n a b
    → count_at next n (place_of end a) ≡ Ok (tt, place_of end b)
unfolding count_at
count_read end at_zero = refl
count_read end (past d) = count_read end d

pub read : {A : Type 0} (p : Step A) (end : ℕ) (a b : List Lexeme) (x : A) → Derives p a x b
    → run p (place_of end a) ≡ Ok (x, place_of end b)
unfolding run
read (Done v) end a b x d = rw (d.0, d.1) refl
read (Never fault) end a b x d = absurd d
read (Take terminal) end a b x d = rw d.3 (take_read terminal.is end a b d.0 d.1 d.2)
read (Peek example next) end a b x d =
    peek_read (λ t. run (next t)) end a d.1 d.0 _ d.2 (read (next d.0) end a b x d.3)
read (Then p next) end a c y d = rw (read p end a d.1 d.0 d.2, read (next d.0) end d.1 c y d.3) refl
read (If test p q) end a b x (inl d) = rw d.0 (read p end a b x d.1)
read (If test p q) end a b x (inr d) = rw d.0 (read q end a b x d.1)
read (While goes step s) end a b x d = turns_read (λ t. run (step t)) end (λ t. read (step t) end) d
read (Count example next n) end a b x d = count_read end d
read (Kept p) end a b x d =
    rw (read p end a b x.0 d.0) (ap (λ z. Ok ((x.0, z), place_of end b)) (rw d.1 (kept_is x.1 b)))

pub only_one : {A : Type 0} (p : Step A) (a b c : List Lexeme) (x y : A) → Derives p a x b → Derives p a y c
    → (x ≡ y) × (b ≡ c)
only_one {A} p a b c x y d e =
    let same : (x, place_of 0 b) ≡ (y, place_of 0 c) =
    same_ok _ _ (sym (read p 0 a b x d) ∙ read p 0 a c y e) in
    (ap (λ (z : A × Place). z.0) same, ap (λ (z : A × Place). z.1.left) same)

-- ---- what is read derives

take_found : (test : Lexeme → Bool) (end : ℕ) (a : List Lexeme) (x : Span × Place)
    → token_that test (place_of end a) ≡ Ok x
    → (t : Lexeme) × (a ≡ t ∷ x.1.left) × (test t ≡ true) × (x.0 ≡ t.span)
unfolding token_that
take_found test end [] x e = absurd cc
take_found test end (t ∷ rest) x e =
    let g = guard_ok (test t) _ _ x e in
    subst
    (λ (y : Span × Place). (s : Lexeme) × (t ∷ rest ≡ s ∷ y.1.left) × (test s ≡ true) × (y.0 ≡ s.span))
    (same_ok _ x g.1) (t, refl, g.0, refl)

peek_found : {A : Type 0} (next : Lexeme → Step A) (end : ℕ) (a : List Lexeme) (x : A × Place)
    → option_map_or (λ u. run (next u) (place_of end a)) (first a) (misplaced (place_of end a)) ≡ Ok x
    → ((t : Lexeme) → run (next t) (place_of end a) ≡ Ok x → Derives (next t) a x.0 x.1.left)
    → (t : Lexeme) × (rest : List Lexeme) × (a ≡ t ∷ rest) × Derives (next t) a x.0 x.1.left
peek_found next end [] x e h = absurd cc
peek_found next end (t ∷ rest) x e h = (t, rest, refl, h t e)

turns_found : {S : Type 0} (goes : Lexeme → Bool) (One : S → List Lexeme → S → List Lexeme → Type 0)
    (one : S → Read S)
    → ((s : S) (place : Place) (x : S × Place) → one s place ≡ Ok x → One s place.left x.0 x.1.left)
    → (n : ℕ) (s : S) (place : Place) (x : S × Place) → length place.left < n → turns_at goes one s place ≡ Ok x
    → Turns goes One s place.left x.0 x.1.left
turns_found goes One one h zero s place x l e = absurd (omega arith)
turns_found {S} goes One one h (suc n) s place x l e =
    chosen (first_is goes place.left) (sym (first_turn goes one s place) ∙ e)
    (λ go u.
    let f = bind_ok (one s place) _ x u in
    let g = guard_ok (nat_lt (length f.0.1.left) (length place.left)) _ _ x f.2 in
    turn go (h s place f.0 f.1) (ltb-true _ _ g.0)
    (turns_found goes One one h n f.0.0 f.0.1 x (omega (arith, ltb-true _ _ g.0)) g.1))
    (λ over u. subst (λ (y : S × Place). Turns goes One s place.left y.0 y.1.left) (same_ok _ x u) (ended over))

count_found : (next : Lexeme → ℕ → ℕ) (n : ℕ) (a : List Lexeme) (end : ℕ) (x : Unit {0} × Place)
    → count_at next n (place_of end a) ≡ Ok x → Counts next n a x.1.left
unfolding count_at
count_found next zero a end x e =
    subst (λ (y : Unit {0} × Place). Counts next zero a y.1.left) (same_ok _ x e) at_zero
count_found next (suc n) [] end x e = absurd cc
count_found next (suc n) (t ∷ a) end x e = past (count_found next (next t (suc n)) a end x e)

pub found : {A : Type 0} (p : Step A) (place : Place) (x : A × Place) → run p place ≡ Ok x
    → Derives p place.left x.0 x.1.left
unfolding run
found {A} (Done v) place x e =
    let same = same_ok _ x e in
    (sym (ap (λ (y : A × Place). y.0) same), sym (ap (λ (y : A × Place). y.1.left) same))
found (Never fault) place x e = absurd cc
found (Take terminal) place x e = take_found terminal.is place.end place.left x e
found (Peek example next) place x e =
    peek_found next place.end place.left x e (λ t h. found (next t) place x h)
found (Then p next) place x e =
    let f = bind_ok (run p place) _ x e in
    (f.0.0, f.0.1.left, found p place f.0 f.1, found (next f.0.0) f.0.1 x f.2)
found (If test p q) place x e =
    chosen (first_is test place.left) e (λ h u. inl (h, found p place x u)) (λ h u. inr (h, found q place x u))
found (While goes step s) place x e =
    turns_found goes (λ u. Derives (step u)) (λ t. run (step t)) (λ t. found (step t)) (suc (length place.left)) s place
    x
    (omega arith) e
found (Count example next n) place x e = count_found next n place.left place.end x e
found {A} (Kept p) place x e =
    let f = bind_ok (run p place) _ x e in
    let d = found p place f.0 f.1 in
    let t = taken p place.left f.0.1.left f.0.0 d in
    subst (λ (y : A × Place). Derives (Kept p) place.left y.0 y.1.left) (same_ok _ x f.2)
    (d, kept_front place.left t.0 f.0.1.left t.1)

-- the place behind is one of the same text
pub same_end : {A : Type 0} (p : Step A) (place : Place) (x : A × Place) → run p place ≡ Ok x
    → x ≡ (x.0, place_of place.end x.1.left)
same_end p place x e =
    same_ok _ _ (sym e ∙ read p place.end place.left x.1.left x.0 (found p place x e))

-- ---- what is refused meets its fault

take_stops : (test : Lexeme → Bool) (end : ℕ) (a : List Lexeme) → first_is test a ≡ false
    → token_that test (place_of end a) ≡ Err (wrong_at end a)
unfolding token_that
take_stops test end [] h = refl
take_stops test end (t ∷ rest) h = rw h refl

peek_stops : {A : Type 0} (next : Lexeme → Read A) (end : ℕ) (a : List Lexeme) → a ≡ []
    → option_map_or (λ u. next u (place_of end a)) (first a) (misplaced (place_of end a)) ≡ Err (Grammar end)
peek_stops next end a h = rw h refl

turns_stop : {S : Type 0} {goes : Lexeme → Bool} {One : S → List Lexeme → S → List Lexeme → Type 0}
    {Fault : S → List Lexeme → SyntaxFault → List Lexeme → Type 0} (one : S → Read S) (end : ℕ)
    → ((s : S) (a b : List Lexeme) (t : S) → One s a t b → one s (place_of end a) ≡ Ok (t, place_of end b))
    → ((s : S) (a : List Lexeme) (e : SyntaxFault) (l : List Lexeme) → Fault s a e l → one s (place_of end a) ≡ Err e)
    → {s : S} {a l : List Lexeme} {e : SyntaxFault} → Breaks goes One Fault end s a e l
    → turns_at goes one s (place_of end a) ≡ Err e
turns_stop {goes = goes} one end g h (here {s} {a} {l} {e} c r) =
    rw (first_turn goes one s (place_of end a), c, h s a e l r) refl
turns_stop {goes = goes} one end g h (idle {s} {t} {a} {b} c d n) =
    rw (first_turn goes one s (place_of end a), c, g s a b t d, n) refl
turns_stop {goes = goes} one end g h (later {s} {t} {a} {b} {l} {e} c d n r) =
    rw (first_turn goes one s (place_of end a), c, g s a b t d, lt-ltb _ _ n, turns_stop one end g h r) refl

count_stops : {next : Lexeme → ℕ → ℕ} {n : ℕ} {a : List Lexeme} (end : ℕ) → Lacks next n a
    → count_at next n (place_of end a) ≡ Err (Grammar end)
unfolding count_at
count_stops end at_end = refl
count_stops end (beyond d) = count_stops end d

pub stops : {A : Type 0} (p : Step A) (end : ℕ) (a : List Lexeme) (e : SyntaxFault) (l : List Lexeme)
    → Refused p end a e l → run p (place_of end a) ≡ Err e
unfolding run
stops (Done v) end a e l r = absurd r
stops (Never fault) end a e l r = rw r.1 refl
stops (Take terminal) end a e l r = rw (r.2) (take_stops terminal.is end a r.0)
stops (Peek example next) end a e l (inl r) = rw (r.2) (peek_stops (λ t. run (next t)) end a r.0)
stops (Peek example next) end a e l (inr r) =
    peek_read (λ t. run (next t)) end a r.1 r.0 _ r.2 (stops (next r.0) end a e l r.3)
stops (Then p next) end a e l (inl r) = rw (stops p end a e l r) refl
stops (Then p next) end a e l (inr r) = rw (read p end a r.1 r.0 r.2, stops (next r.0) end r.1 e l r.3) refl
stops (If test p q) end a e l (inl r) = rw r.0 (stops p end a e l r.1)
stops (If test p q) end a e l (inr r) = rw r.0 (stops q end a e l r.1)
stops (While goes step s) end a e l r =
    turns_stop (λ t. run (step t)) end (λ t. read (step t) end) (λ t. stops (step t) end) r
stops (Count example next n) end a e l r = rw r.2 (count_stops end r.0)
stops (Kept p) end a e l r = rw (stops p end a e l r) refl

-- ---- what meets a fault is refused

take_refused : (test : Lexeme → Bool) (end : ℕ) (a : List Lexeme) (e : SyntaxFault)
    → token_that test (place_of end a) ≡ Err e → (first_is test a ≡ false) × (e ≡ wrong_at end a)
unfolding token_that
take_refused test end [] e h = (refl, sym (same_err {A = Span × Place} _ e h))
take_refused test end (t ∷ rest) e h =
    chosen (test t) h (λ is u. absurd (ok_not_err _ e u)) (λ isnt u. (isnt, sym (same_err {A = Span × Place} _ e u)))

-- the fault, and what is left where it is met
abbrev IsRefused : {A : Type 0} → Step A → Place → SyntaxFault → Type 0
IsRefused p place e = (l : List Lexeme) × Refused p place.end place.left e l

peek_refused : {A : Type 0} (next : Lexeme → Step A) (end : ℕ) (a : List Lexeme) (e : SyntaxFault)
    → option_map_or (λ u. run (next u) (place_of end a)) (first a) (misplaced (place_of end a)) ≡ Err e
    → ((t : Lexeme) → run (next t) (place_of end a) ≡ Err e → (l : List Lexeme) × Refused (next t) end a e l)
    → (l : List Lexeme)
    × (((a ≡ []) × (l ≡ []) × (e ≡ Grammar end))
    ⊎ ((t : Lexeme) × (rest : List Lexeme) × (a ≡ t ∷ rest) × Refused (next t) end a e l))
peek_refused {A} next end [] e h g = ([], inl (refl, refl, sym (same_err {A = A × Place} _ e h)))
peek_refused next end (t ∷ rest) e h g = let r = g t h in (r.0, inr (t, rest, refl, r.1))

turns_refused : {S : Type 0} (goes : Lexeme → Bool) (step : S → Step S)
    → ((s : S) (place : Place) (e : SyntaxFault) → run (step s) place ≡ Err e → IsRefused (step s) place e)
    → (n : ℕ) (s : S) (place : Place) (e : SyntaxFault) → length place.left < n
    → turns_at goes (λ t. run (step t)) s place ≡ Err e → IsRefused (While goes step s) place e
turns_refused goes step h zero s place e l k = absurd (omega arith)
turns_refused {S} goes step h (suc n) s place e l k =
    chosen (first_is goes place.left) (sym (first_turn goes (λ t. run (step t)) s place) ∙ k)
    (λ go u.
    either (bind_err (run (step s) place) _ e u)
    (λ v. let r = h s place e v in (r.0, here go r.1))
    (λ f.
    let d = found (step s) place f.0 f.1 in
    let same = ap (λ (y : S × Place). y.1.end) (same_end (step s) place f.0 f.1) in
    chosen (nat_lt (length f.0.1.left) (length place.left)) f.2
    (λ less v.
    let r = turns_refused goes step h n f.0.0 f.0.1 e (omega (arith, ltb-true _ _ less)) v in (
      r.0,
      later go d (ltb-true _ _ less)
          (subst (λ z. Refused (While goes step f.0.0) z f.0.1.left e r.0) same r.1),
    ))
    (λ no_less v. (
      place.left,
      subst (λ z. Refused (While goes step s) place.end place.left z place.left) (same_err {A = S × Place} _ e v)
          (idle go d no_less),
    ))))
    (λ over u. absurd (ok_not_err _ e u))

count_refused : (next : Lexeme → ℕ → ℕ) (n : ℕ) (a : List Lexeme) (end : ℕ) (e : SyntaxFault)
    → count_at next n (place_of end a) ≡ Err e → Lacks next n a × (e ≡ Grammar end)
unfolding count_at
count_refused next zero a end e h = absurd (ok_not_err _ e h)
count_refused next (suc n) [] end e h = (at_end, sym (same_err {A = Unit {0} × Place} _ e h))
count_refused next (suc n) (t ∷ a) end e h =
    let r = count_refused next (next t (suc n)) a end e h in (beyond r.0, r.1)

pub refused : {A : Type 0} (p : Step A) (place : Place) (e : SyntaxFault) → run p place ≡ Err e → IsRefused p place e
unfolding run
refused (Done v) place e h = absurd (ok_not_err _ e h)
refused {A} (Never fault) place e h = (place.left, (refl, sym (same_err {A = A × Place} _ e h)))
refused (Take terminal) place e h =
    let r = take_refused terminal.is place.end place.left e h in (place.left, (r.0, refl, r.1))
refused (Peek example next) place e h =
    peek_refused next place.end place.left e h (λ t k. refused (next t) place e k)
refused {A} (Then p next) place e h =
    either (bind_err (run p place) _ e h)
    (λ v. let r = refused p place e v in (r.0, inl r.1))
    (λ f.
    let r = refused (next f.0.0) f.0.1 e f.2 in
    let same = ap (λ y. y.1.end) (same_end p place f.0 f.1) in (
      r.0,
      inr (f.0.0, f.0.1.left, found p place f.0 f.1, subst (λ z. Refused (next f.0.0) z f.0.1.left e r.0) same r.1),
    ))
refused (If test p q) place e h =
    chosen (first_is test place.left) h
    (λ is u. let r = refused p place e u in (r.0, inl (is, r.1)))
    (λ isnt u. let r = refused q place e u in (r.0, inr (isnt, r.1)))
refused (While goes step s) place e h =
    turns_refused goes step (λ t. refused (step t)) (suc (length place.left)) s place e (omega arith) h
refused (Count example next n) place e h =
    let r = count_refused next n place.left place.end e h in ([], (r.0, refl, r.1))
refused (Kept p) place e h =
    either (bind_err (run p place) _ e h) (λ v. refused p place e v) (λ f. absurd (ok_not_err _ e f.2))

-- ---- exactly one of both

pub one_of_both : {A : Type 0} (p : Step A) (end : ℕ) (a : List Lexeme)
    → ((x : A) × (b : List Lexeme) × Derives p a x b) ⊎ ((e : SyntaxFault) × (l : List Lexeme) × Refused p end a e l)
one_of_both {A} p end a = of_outcome (run p (place_of end a)) refl
  where
    of_outcome : (o : Result (A × Place) SyntaxFault) → run p (place_of end a) ≡ o
        → ((x : A) × (b : List Lexeme) × Derives p a x b) ⊎
        ((e : SyntaxFault) × (l : List Lexeme) × Refused p end a e l)
    of_outcome (Ok x) h = inl (x.0, x.1.left, found p (place_of end a) x h)
    of_outcome (Err e) h = let r = refused p (place_of end a) e h in inr (e, r.0, r.1)

pub not_both : {A : Type 0} (p : Step A) (end : ℕ) (a b l : List Lexeme) (x : A) (e : SyntaxFault) → Derives p a x b
    → Refused p end a e l → ⊥
not_both p end a b l x e d r = ok_not_err _ e (sym (read p end a b x d) ∙ stops p end a e l r)

pub one_fault : {A : Type 0} (p : Step A) (end : ℕ) (a l m : List Lexeme) (e f : SyntaxFault) → Refused p end a e l
    → Refused p end a f m → e ≡ f
one_fault {A} p end a l m e f r s =
    same_err {A = A × Place} e f (sym (stops p end a e l r) ∙ stops p end a f m s)
