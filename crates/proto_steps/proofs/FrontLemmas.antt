-- What stands in front of a fault begins some sentence.
use Rattle.std.proofs.Common.{◌≡◌, ℕ, ◌<◌, Bool, true, false, nat_lt, List, [], ◌∷◌, ◌++◌, length, inl, inr, refl}
use Rattle.std.proofs.Common.{sym, ap, subst, subst₂, ◌∙◌, append_assoc, append-nil, arith}
use Rattle.std.proofs.lemmas.Bool.{lt-ltb}
use Rattle.std.proofs.lemmas.List.{length-append}
use Rattle.proto_grammar.specs.declared.fault.SyntaxFault.{SyntaxFault}
use Rattle.proto_grammar.specs.Lexeme.{Lexeme}
use Rattle.proto_grammar.specs.Terminal.{first_is}
use Rattle.proto_steps.specs.Step.{when, Step, Done, Never, Take, Peek, Then, If, While, Count, Kept}
use Rattle.proto_steps.specs.Step.{Derives, Refused, Breaks}
use Rattle.proto_steps.specs.Step.Breaks.{here, idle, later}
use Rattle.proto_steps.specs.Lawful.{GoesOn, FrontGoesOn}
use Rattle.proto_steps.proofs.FinishLemmas.Ahead.{Reads, Misses}
use Rattle.proto_steps.proofs.TurnLemmas.{either}
use Rattle.proto_steps.proofs.StepLaws.{only_one, one_of_both, not_both}
use Rattle.proto_steps.proofs.FirstLemmas.{Like, like_front, same_fault, stays}
use Rattle.proto_steps.proofs.FinishLemmas.{ahead, Sound, Begins, Steady, extend, finish, nothing_behind, ahead_reads}

-- ---- a fault is met at one place

not_less : (b : Bool) → b ≡ true → b ≡ false → ⊥
not_less true h g = cc
not_less false h g = cc

same_head : (t u : Lexeme) (l m : List Lexeme) → t ∷ l ≡ u ∷ m → t ≡ u
same_head t u l m e = cc

turns_place : {S : Type 0} (goes : Lexeme → Bool) (step : S → Step S) (end : ℕ)
    → ((u : S) (a l m : List Lexeme) (e f : SyntaxFault) → Refused (step u) end a e l → Refused (step u) end a f m
    → l ≡ m)
    → {s : S} {a l m : List Lexeme} {e f : SyntaxFault}
    → Breaks goes (λ u. Derives (step u)) (λ u b. Refused (step u) end b) end s a e l
    → Breaks goes (λ u. Derives (step u)) (λ u b. Refused (step u) end b) end s a f m → l ≡ m
turns_place goes step end h (here {s = s} {a = a} {l = l} {e = e} go r) (here {l = m} {e = f} go' q) = h s a l m e f r q
turns_place goes step end h (here {s = s} {a = a} {l = l} {e = e} go r) (idle {t = t} {b = b} go' one no_less) =
    absurd (not_both (step s) end a b l t e one r)
turns_place goes step end h (here {s = s} {a = a} {l = l} {e = e} go r) (later {t = t} {b = b} go' one less q) =
    absurd (not_both (step s) end a b l t e one r)
turns_place goes step end h (idle {s = s} {t = t} {a = a} {b = b} go one no_less) (here {l = m} {e = f} go' q) =
    absurd (not_both (step s) end a b m t f one q)
turns_place goes step end h (idle go one no_less) (idle go' one' no_less') = refl
turns_place goes step end h (idle {s = s} {t = t} {a = a} {b = b} go one no_less)
    (later {t = u} {b = d} go' other less q) =
    let same = only_one (step s) a b d t u one other in
    absurd
    (not_less (nat_lt (length b) (length a)) (lt-ltb _ _ (subst (λ z. length z < length a) (sym same.1) less)) no_less)
turns_place goes step end h (later {s = s} {t = t} {a = a} {b = b} go one less r) (here {l = m} {e = f} go' q) =
    absurd (not_both (step s) end a b m t f one q)
turns_place goes step end h (later {s = s} {t = t} {a = a} {b = b} go one less r)
    (idle {t = u} {b = d} go' other no_less) =
    let same = only_one (step s) a b d t u one other in
    absurd
    (not_less (nat_lt (length d) (length a)) (lt-ltb _ _ (subst (λ z. length z < length a) same.1 less)) no_less)
turns_place goes step end h (later {s = s} {t = t} {a = a} {b = b} {l = l} {e = e} go one less r)
    (later {t = u} {b = d} {l = m} {e = f} go' other less' q) =
    let same = only_one (step s) a b d t u one other in
    let moved = subst₂
    (λ v z. Breaks goes (λ w. Derives (step w)) (λ w y. Refused (step w) end y) end v z f m) (sym same.0) (sym same.1) q
    in
    turns_place goes step end h r moved

pub only_place : {A : Type 0} (p : Step A) (end : ℕ) (a l m : List Lexeme) (e f : SyntaxFault) → Refused p end a e l
    → Refused p end a f m → l ≡ m
only_place (Done v) end a l m e f r q = absurd r
only_place (Never fault) end a l m e f r q = r.0 ∙ sym q.0
only_place (Take terminal) end a l m e f r q = r.1 ∙ sym q.1
only_place (Peek example next) end a l m e f (inl r) (inl q) = r.1 ∙ sym q.1
only_place (Peek example next) end a l m e f (inl r) (inr q) =
    absurd (let none : q.0 ∷ q.1 ≡ [] = sym q.2 ∙ r.0 in cc)
only_place (Peek example next) end a l m e f (inr r) (inl q) =
    absurd (let none : r.0 ∷ r.1 ≡ [] = sym r.2 ∙ q.0 in cc)
only_place (Peek example next) end a l m e f (inr r) (inr q) =
    let same = same_head q.0 r.0 q.1 r.1 (sym q.2 ∙ r.2) in
    only_place (next r.0) end a l m e f r.3 (subst (λ t. Refused (next t) end a f m) same q.3)
only_place (Then p next) end a l m e f (inl r) (inl q) = only_place p end a l m e f r q
only_place (Then p next) end a l m e f (inl r) (inr q) = absurd (not_both p end a q.1 l q.0 e q.2 r)
only_place (Then p next) end a l m e f (inr r) (inl q) = absurd (not_both p end a r.1 m r.0 f r.2 q)
only_place (Then p next) end a l m e f (inr r) (inr q) =
    let same = only_one p a q.1 r.1 q.0 r.0 q.2 r.2 in
    only_place (next r.0) end r.1 l m e f r.3
    (subst₂ (λ x b. Refused (next x) end b f m) same.0 same.1 q.3)
only_place (If test p q) end a l m e f (inl r) (inl s) = only_place p end a l m e f r.1 s.1
only_place (If test p q) end a l m e f (inl r) (inr s) = absurd (not_less (first_is test a) r.0 s.0)
only_place (If test p q) end a l m e f (inr r) (inl s) = absurd (not_less (first_is test a) s.0 r.0)
only_place (If test p q) end a l m e f (inr r) (inr s) = only_place q end a l m e f r.1 s.1
only_place (While goes step s) end a l m e f r q =
    turns_place goes step end (λ u b k o d g. only_place (step u) end b k o d g) r q
only_place (Count example next n) end a l m e f r q = r.1 ∙ sym q.1
only_place (Kept p) end a l m e f r q = only_place p end a l m e f r q

-- ---- what stands in front of it

module _ {A : Type 0} (p : Step A) (steady : Steady p) (end : ℕ) (front : List Lexeme)
    (live : front ≡ [] → Sound (ahead p))
    (t : Lexeme) (b : List Lexeme) (e : SyntaxFault) (r : Refused p end (front ++ t ∷ b) e (t ∷ b))
  where
    -- the front alone isn't refused before its end
    of_read : (x : A) (l : List Lexeme) → Derives p front x l → GoesOn p front
    of_read x [] d = ([], x, subst (λ z. Derives p z x []) (sym (append-nil front)) d)
    of_read x (u ∷ l) d =
        absurd
        (not_both p end (front ++ t ∷ b) (u ∷ (l ++ t ∷ b)) (t ∷ b) x e
        (extend p front (u ∷ l) x (t ∷ b) d (λ z. absurd (let none : u ∷ l ≡ [] = z in cc))) r)

    of_refused : (f : SyntaxFault) (l : List Lexeme) → Refused p end front f l → GoesOn p front
    of_refused f [] q = let g = finish p steady end front f live q in (g.0 ∷ (g.1 ++ []), g.2, g.4 [] tt)
    of_refused f (u ∷ l) q =
        let pre = stays p end front f (u ∷ l) q in
        let whole : front ++ t ∷ b ≡ pre.0 ++ u ∷ (l ++ t ∷ b) =
        ap (λ z. z ++ t ∷ b) pre.1 ∙ append_assoc pre.0 (u ∷ l) (t ∷ b) in
        let like = subst₂ (λ x y. Like u l (l ++ t ∷ b) x y) (sym pre.1) (sym whole)
        (like_front u l (l ++ t ∷ b) pre.0) in
        let same = only_place p end (front ++ t ∷ b) (u ∷ (l ++ t ∷ b)) (t ∷ b) f e
        (same_fault u l (l ++ t ∷ b) p end front (front ++ t ∷ b) f like q) r in
        absurd (omega (arith, ap length same, length-append l (t ∷ b)))

    pub begins : GoesOn p front
    begins =
        either (one_of_both p end front) (λ d. of_read d.0 d.1 d.2) (λ d. of_refused d.0 d.1 d.2)

-- at a token, or at the end
pub goes_on : {A : Type 0} (p : Step A) → Steady p → Sound (ahead p) → FrontGoesOn p
goes_on p steady sound end front [] e r =
    let g = finish p steady end front e (λ z. sound) (subst (λ z. Refused p end z e []) (append-nil front) r) in
    (g.0 ∷ (g.1 ++ []), g.2, g.4 [] tt)
goes_on p steady sound end front (t ∷ b) e r = begins p steady end front (λ z. sound) t b e r

-- ---- one token, and nothing behind it

misses_nothing : {A : Type 0} (x : A) (t : Lexeme) → Reads x ≡ Misses t → ⊥
misses_nothing x t e = cc

pub ahead_misses : {A : Type 0} (p : Step A) (t : Lexeme) → ahead p ≡ Misses t → (end : ℕ)
    → (e : SyntaxFault) × Refused p end [] e []
ahead_misses p t h end =
    either (one_of_both p end [])
    (λ d. absurd (misses_nothing d.0 t (sym (ahead_reads p d.0 d.1 d.2) ∙ h)))
    (λ d.
    let none : d.1 ≡ [] = nothing_behind (stays p end [] d.0 d.1 d.2) refl in
    (d.0, subst (λ z. Refused p end [] d.0 z) none d.2))

-- one token is read, and another is missing behind it
abbrev pub StopsBehind : {A : Type 0} → Step A → Lexeme → Type 0
StopsBehind p t = (e : SyntaxFault) × Refused p 0 (t ∷ []) e []

pub stops_behind : {A B : Type 0} (p : Step A) (next : A → Step B) (t u : Lexeme) (x : A) → Derives p (t ∷ []) x []
    → ahead (next x) ≡ Misses u → StopsBehind (Then p next) t
stops_behind p next t u x d h = let r = ahead_misses (next x) u h 0 in (r.0, inr (x, [], d, r.1))

pub begins_so : {A : Type 0} (p : Step A) (t : Lexeme) → StopsBehind p t → Begins p t
begins_so p t r = inr (0, r.0, r.1)

pub when_steady : {A : Type 0} (b : Bool) (p q : Step A) → Steady p → Steady q → Steady (when b p q)
when_steady true p q h g = h
when_steady false p q h g = g
