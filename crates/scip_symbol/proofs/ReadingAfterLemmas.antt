-- A text behind a front.
use Rattle.std.proofs.Common.{◌≡◌, ◌≢◌, ℕ, Bool, true, false, not, cond, eqb, Option, Some, None, MatchOption, Ok, Err}
use Rattle.std.proofs.Common.{List, [], ◌∷◌, ◌++◌, length, refl, ap, sym, ◌∙◌, subst}
use Rattle.std.specs.List.{list_all}
use Rattle.std.specs.Str.Pattern.{FindsTextPrefix, StripsPrefix}
use Rattle.std.proofs.lemmas.Bool.{eqb-true}
use denote.Ref.{Bor}
use Rattle.scip_symbol.specs.Reading.{after, expect_at}
use Rattle.std.proofs.Common.{rules}
use Rattle.std.proofs.lemmas.Bool.Decides.{nat_tests}
use Rattle.scip_symbol.proofs.ReadingTestLemmas.{chosen}
use Rattle.proto_lex.proofs.ReadingTestLemmas.{both, chosen as tested}

pub eqb-same : (b : ℕ) → eqb b b ≡ true
eqb-same b = search (rules, nat_tests)

pub after-front : (front rest : List ℕ) → after front (front ++ rest) ≡ Some rest
after-front [] rest = refl
after-front (c ∷ front) rest = rw (eqb-same c) (after-front front rest)

pub after-some : (front text rest : List ℕ) → after front text ≡ Some rest → text ≡ front ++ rest
after-some [] text rest e = cc
after-some (c ∷ front) [] rest e = cc
after-some (c ∷ front) (b ∷ text) rest e =
    tested (eqb b c) e (λ t q. let same = eqb-true b c t in let more = after-some front text rest q in cc)
    (λ f q. absurd cc)

pub after-none : (front text : List ℕ) → ((rest : List ℕ) → text ≢ front ++ rest) → after front text ≡ None
after-none [] text h = absurd (h text refl)
after-none (c ∷ front) [] h = refl
after-none (c ∷ front) (b ∷ text) h =
    elim (eqb b c) as (λ t. eqb b c ≡ t → cond t (after front text) None ≡ None) [
      | true ↦ λ t. after-none front text (λ rest e. h rest (let same = eqb-true b c t in cc))
      | false ↦ λ f. refl
    ] refl

pub stripped : (front text : List ℕ) (r : Option (Bor (List ℕ)))
    → MatchOption r (FindsTextPrefix front text None) (λ x. StripsPrefix (FindsTextPrefix front) text x.now)
    → MatchOption r (after front text ≡ None) (λ x. after front text ≡ Some x.now)
stripped front text None h = after-none front text h
stripped front text (Some x) h =
    let e : text ≡ front ++ x.now = h.1.1 ∙ ap (λ l. front ++ l) (sym h.2) in
    subst (λ t. after front t ≡ Some x.now) (sym e) (after-front front x.now)

tested-not : (t : Bool) → not t ≡ true → (o : Option (List ℕ)) → cond t o None ≡ None
tested-not true h o = absurd cc
tested-not false h o = refl

pub expect-found : (front text rest : List ℕ) → expect_at front text ≡ Ok rest → text ≡ front ++ rest
unfolding expect_at
expect-found front text rest e =
    chosen (after front text) e (λ _ q. absurd cc) (λ x some q. after-some front text rest (cc))

pub expect-exact : (front rest : List ℕ) → expect_at front (front ++ rest) ≡ Ok rest
unfolding expect_at
expect-exact front rest = rw (after-front front rest) refl

-- where it stops, all of the text is left
pub expect-err : (c : ℕ) (text : List ℕ) (left : ℕ) → expect_at (c ∷ []) text ≡ Err left → left ≡ length text
unfolding expect_at
expect-err c text left e = chosen (after (c ∷ []) text) e (λ _ q. cc) (λ x _ q. absurd cc)

-- a text that doesn't begin so doesn't whatever follows a byte that isn't among the front's
pub after-kept : (front p : List ℕ) (c : ℕ) (r other : List ℕ) → list_all (λ x. not (eqb c x)) front ≡ true
    → after front (p ++ (c ∷ r)) ≡ None → after front (p ++ (c ∷ other)) ≡ None
after-kept [] p c r other h e = absurd cc
after-kept (x ∷ front) [] c r other h e = both (not (eqb c x)) _ h (λ t _. tested-not (eqb c x) t (after front other))
after-kept (x ∷ front) (y ∷ p) c r other h e =
    both (not (eqb c x)) _ h (λ _ others.
    elim (eqb y x) as (λ t. cond t (after front (p ++ (c ∷ r))) None ≡ None
    → cond t (after front (p ++ (c ∷ other))) None ≡ None) [
      | true ↦ λ e. after-kept front p c r other others e
      | false ↦ λ e. refl
    ] e)
