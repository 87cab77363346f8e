-- The scopes from the root to one.
use Rattle.std.proofs.Common.{◌≡◌, ◌≢◌, inl, inr, ℕ, zero, suc, ◌+◌, ◌-◌, ◌<◌, ◌≤◌, ◌==◌, Bool, false, List, []}
use Rattle.std.proofs.Common.{◌∷◌, length, take, get_or, refl, ap, sym, ◌∙◌, subst, arith}
use Rattle.std.proofs.Common.{Option, Some, None, MatchOption}
use Rattle.std.proofs.lemmas.Bool.{cases_eq}
use Rattle.std.proofs.lemmas.Bool.Decides.{nat_tests}
use Rattle.std.proofs.lemmas.List.{take_all, take-take, get_or-take, length-take-le}
use denote.Ref.{Bor}
use Rattle.proto_decl.specs.Names.{qualified, IsAround}
use Rattle.proto_decl.proofs.ScopeLemmas.{around_dot, around_none, one_around}
use Rattle.proto_visibility.specs.Files.{File}
use Rattle.proto_visibility.specs.Knows.{NameKind, KnowsAs}
use Rattle.proto_link.specs.Resolves.{Innermost}
use Rattle.proto_link.specs.Resolves.Innermost.{here, farther}
use Rattle.option_link.specs.Outer.{IsNextIn, IsOuter}

-- ---- one scope and the next

pub whole_outer : (scope : List ℕ) → IsOuter scope scope
whole_outer scope = record {
  within = omega arith;
  front = sym (take_all (length scope) scope (omega arith));
  dot = λ some more. absurd (omega (arith, more));
}

-- no byte behind this one and in front of that one is a dot
abbrev pub HasNoDotIn : (scope : List ℕ) → (behind before : ℕ) → Type 0
HasNoDotIn scope behind before = (i : ℕ) → behind < i → i < before → get_or scope i 0 ≢ 46

module _ (scope : List ℕ) (index : ℕ) (within : index ≤ length scope) where
  abbrev pub cut : List ℕ
  cut = take index scope

  long : length cut ≡ index
  long = length-take-le index scope within

  same_byte : (i : ℕ) → i < index → get_or cut i 0 ≡ get_or scope i 0
  same_byte i before = get_or-take index scope i 0 before

  -- behind the last dot of the name there is none
  last : (k : ℕ) → HasNoDotIn scope k index → (i : ℕ) → k < i → i < length cut → get_or cut i 0 ≢ 46
  last k none i after before dot =
      let inside : i < index = omega (arith, before, long) in
      none i after inside (sym (same_byte i inside) ∙ dot)

  by_dot : (outer : List ℕ) (k : ℕ) → outer ≡ take k cut → k < index → get_or scope k 0 ≡ 46
      → HasNoDotIn scope k index → IsAround cut outer
  by_dot outer k is before dot none =
      around_dot cut outer k (is ∙ ap (λ n. take n cut) (whole k)) (
        omega (arith, long, before),
        same_byte k before ∙ dot,
        last k none,
      )
    where
      whole : (n : ℕ) → n ≡ n - 0
      whole n = omega arith

  without : 0 < index → get_or scope 0 0 ≢ 46 → HasNoDotIn scope 0 index → (i : ℕ) → i < length cut
      → get_or cut i 0 ≢ 46
  without some apart none zero before dot = apart (sym (same_byte 0 some) ∙ dot)
  without some apart none (suc i) before dot = last 0 none (suc i) (omega arith) before dot

  filled : 0 < index → (length cut == 0) ≡ false
  filled some = not_none (length cut) (omega (arith, long, some))
    where
      not_none : (n : ℕ) → 0 < n → (n == 0) ≡ false
      not_none zero more = absurd (omega (arith, more))
      not_none (suc n) more = grind (arith, nat_tests)

  pub next_around : (outer : List ℕ) → IsOuter scope outer → length outer < index
      → HasNoDotIn scope (length outer) index → IsAround cut outer
  next_around [] is some none = elim (cases_eq (get_or scope 0 0) 46) [
    | inl dot ↦ by_dot [] 0 refl some dot none
    | inr apart ↦ around_none cut (filled some) (without some apart none)
  ]
  next_around (byte ∷ outer) is some none =
      let k = length (byte ∷ outer) in
      by_dot (byte ∷ outer) k
      (is.front ∙ sym (take-take k index scope (omega (arith, some)))) some
      (is.dot (omega arith) (omega (arith, some, within))) none

  -- the name in front of a dot
  pub next_in : (outer name : List ℕ) → name ≡ cut → get_or scope index 0 ≡ 46 → IsOuter scope outer
      → length outer < index → HasNoDotIn scope (length outer) index → IsNextIn scope outer name
  next_in outer name is dot out some none = subst (IsNextIn scope outer) (sym is) (record {
    also = record {
      within = omega (arith, long, within);
      front = sym (ap (λ n. take n scope) long);
      dot = λ more less. ap (λ n. get_or scope n 0) long ∙ dot;
    };
    around = next_around outer out some none;
    longer = omega (arith, long, some);
  })

-- the whole name
pub last_in : (scope outer : List ℕ) (index : ℕ) → length scope ≤ index → IsOuter scope outer
    → length outer < length scope → HasNoDotIn scope (length outer) index → IsNextIn scope outer scope
last_in scope outer index all out some none =
    let whole : take (length scope) scope ≡ scope = take_all (length scope) scope (omega arith) in
    record {
      also = whole_outer scope;
      around = subst (λ (n : List ℕ). IsAround n outer) whole
          (next_around scope (length scope) (omega arith) outer out some
          (λ i after before. none i after (omega (arith, before, all))));
      longer = some;
    }

-- none is next to the whole name
pub none_next : (scope outer : List ℕ) → IsOuter scope outer → length scope ≤ length outer → outer ≡ scope
none_next scope outer is long = is.front ∙ take_all (length outer) scope long

-- ---- what is known innermost, from the root inwards

module _ (files : List File) (file : ℕ) (admits : NameKind → Bool) (word : List ℕ) where
  abbrev pub In : (scope start : List ℕ) → Type 0
  In scope start = Innermost files file admits word scope start

  -- from this scope on
  abbrev pub Answers : (found : Option (Bor (List ℕ))) → (scope : List ℕ) → Type 0
  Answers found scope = MatchOption found ((start : List ℕ) → In scope start → ⊥) (λ s. In scope s.now)

  -- from the scope around this one on
  abbrev pub AnswersAround : (found : Option (Bor (List ℕ))) → (scope : List ℕ) → Type 0
  AnswersAround found scope = MatchOption found
      ((outer start : List ℕ) → IsAround scope outer → In outer start → ⊥)
      (λ s. (outer : List ℕ) × IsAround scope outer × In outer s.now)

  pub known_here : (scope : List ℕ) (s : Bor (List ℕ)) → s.now ≡ scope → KnowsAs files file admits (qualified scope word)
      → Answers (Some s) scope
  known_here scope s is known = subst (In scope) (sym is) (here known)

  pub known_outside : (scope : List ℕ) (found : Option (Bor (List ℕ)))
      → (KnowsAs files file admits (qualified scope word) → ⊥) → AnswersAround found scope → Answers found scope
  known_outside scope None not none = by
    where
      by : (start : List ℕ) → In scope start → ⊥
      by _ (here known) = not known
      by start (farther {outer = outer} absent is i) = none outer start is i
  known_outside scope (Some s) not its = farther not its.1 its.2

  pub one_inwards : (outer scope : List ℕ) (found : Option (Bor (List ℕ))) → IsAround scope outer
      → Answers found outer → AnswersAround found scope
  one_inwards outer scope None is none = λ other start also i.
      none start (subst (λ (o : List ℕ). In o start) (one_around also is) i)
  one_inwards outer scope (Some s) is its = (outer, is, its)

  -- the scope that is looked at next answers for all that are outside of it, or all are looked at
  abbrev pub GoesOn : (found : Option (Bor (List ℕ))) → (next : Option (List ℕ)) → (scope : List ℕ) → Type 0
  GoesOn found next scope = MatchOption next (Answers found scope)
      (λ outer. IsOuter scope outer × AnswersAround found outer)

  pub goes_on : (found : Option (Bor (List ℕ))) (next : Option (List ℕ)) (outer scope : List ℕ)
      → MatchOption next (outer ≡ scope) (IsNextIn scope outer) → Answers found outer → GoesOn found next scope
  goes_on found None outer scope is its = subst (Answers found) is its
  goes_on found (Some inner) outer scope is its = (is.also, one_inwards outer inner found is.around its)

-- how much is left to look at
abbrev pub left_in : (scope : List ℕ) → Option (List ℕ) → ℕ
left_in scope None = 0
left_in scope (Some outer) = length scope - length outer + 1
