-- Steps up to where they end: what a loop over them keeps, and what they are in the grammar.
use Rattle.std.proofs.Common.{◌≡◌, ℕ, zero, suc, ◌<◌, ◌≤◌, Bool, true, false, cond, Result, Ok, Err, Option}
use Rattle.std.proofs.Common.{option_to_list}
use Rattle.std.proofs.Common.{List, ◌++◌, length, refl, sym, ◌∙◌, ap, subst, arith}
use Rattle.proto_grammar.specs.declared.dialect.CustomOptions.{CustomOptions}
use Rattle.proto_grammar.specs.declared.fault.SyntaxFault.{SyntaxFault}
use Rattle.proto_grammar.specs.declared.fault.SyntaxFault.TheVariants.{CustomOption, Aggregate, Extend, Memory}
use Rattle.proto_grammar.specs.Lexeme.{Lexeme, Place, place_of}
use Rattle.proto_grammar.specs.Gives.{Fails}
use Rattle.proto_grammar.specs.Grammar.Repetition.{Until, Adds, Passes}
use Rattle.proto_grammar.specs.Grammar.Repetition.Until.{done, more}
use Rattle.proto_grammar.specs.Grammar.Repetition.Adds.{adds}
use Rattle.proto_grammar.specs.Grammar.Repetition.Passes.{passes}
use Rattle.proto_grammar.specs.Reading.Repetition.{◌>>=◌, Read, until_by, until_at, adding, passing, passed}
use Rattle.proto_grammar.proofs.RepetitionStepLemmas.{bind_ok, same_ok}
use Rattle.proto_lex.proofs.ReadingTestLemmas.{chosen}

-- a fault of a part is one of the whole
pub Fails-of : {Y Z : Type 0} (custom : CustomOptions) (fault : SyntaxFault) (part : Result Y SyntaxFault)
    (whole : Result Z SyntaxFault)
    → ((met : SyntaxFault) → part ≡ Err met → whole ≡ Err met) → Fails custom fault part → Fails custom fault whole
Fails-of custom (CustomOption offset) part whole stops fails = (fails.0, stops (CustomOption offset) fails.1)
Fails-of custom (Aggregate offset) part whole stops fails = (fails.0, stops (Aggregate offset) fails.1)
Fails-of custom (Extend offset) part whole stops fails = (fails.0, stops (Extend offset) fails.1)
Fails-of custom Memory part whole stops fails = tt
Fails-of custom fault part whole stops fails = stops fault fails

-- each step takes a token
abbrev pub Falls : {S : Type 0} → (S → Read S) → Type 0
Falls {S} step = (s : S) (tokens : Place) (x : S × Place) → step s tokens ≡ Ok x
    → length x.1.left < length tokens.left

module _ {S : Type 0} (ends : List Lexeme → Bool) (step : S → Read S) (falls : Falls step) where
  -- the steps behind the first one
  abbrev following : ℕ → Result (S × Place) SyntaxFault → Result (S × Place) SyntaxFault
  following n o = o >>= λ x. until_by ends step n x.0 x.1

  -- the first step, where no token is left
  abbrev no_more : Result (S × Place) SyntaxFault → Result (S × Place) SyntaxFault
  no_more o = o >>= λ x. Err Memory

  none_follow : (s : S) (tokens : Place) (m : ℕ) (o : Result (S × Place) SyntaxFault) → step s tokens ≡ o
      → length tokens.left ≤ 0 → no_more o ≡ following m o
  none_follow s tokens m (Err fault) e h = refl
  none_follow s tokens m (Ok x) e h = absurd (omega (arith, falls s tokens x e))

  same_follow : (s : S) (tokens : Place) (n m : ℕ)
      → ((t : S) (rest : Place) → length rest.left < length tokens.left
      → until_by ends step n t rest ≡ until_by ends step m t rest)
      → (o : Result (S × Place) SyntaxFault) → step s tokens ≡ o → following n o ≡ following m o
  same_follow s tokens n m same (Err fault) e = refl
  same_follow s tokens n m same (Ok x) e = same x.0 x.1 (falls s tokens x e)

  -- no more steps than tokens
  enough : (n m : ℕ) (s : S) (tokens : Place) → length tokens.left ≤ n → length tokens.left ≤ m
      → until_by ends step n s tokens ≡ until_by ends step m s tokens
  enough zero zero s tokens h k = refl
  enough zero (suc m) s tokens h k =
      ap (λ o. cond (ends tokens.left) (Ok (s, tokens)) o) (none_follow s tokens m (step s tokens) refl h)
  enough (suc n) zero s tokens h k =
      ap (λ o. cond (ends tokens.left) (Ok (s, tokens)) o) (sym (none_follow s tokens n (step s tokens) refl k))
  enough (suc n) (suc m) s tokens h k =
      ap (λ o. cond (ends tokens.left) (Ok (s, tokens)) o)
      (same_follow s tokens n m (λ t rest shorter. enough n m t rest (omega arith) (omega arith)) (step s tokens) refl)

  all_follow : (s : S) (tokens : Place) (o : Result (S × Place) SyntaxFault) → step s tokens ≡ o
      → following (length tokens.left) o ≡ (o >>= λ x. until_at ends step x.0 x.1)
  unfolding until_at
  all_follow s tokens (Err fault) e = refl
  all_follow s tokens (Ok x) e =
      let shorter : length x.1.left < length tokens.left = falls s tokens x e in
      enough (length tokens.left) (length x.1.left) x.0 x.1 (omega arith) (omega arith)

  -- none, or the first step and all others
  pub until_at-step : (s : S) (tokens : Place) → until_at ends step s tokens
      ≡ cond (ends tokens.left) (Ok (s, tokens)) (step s tokens >>= λ x. until_at ends step x.0 x.1)
  unfolding until_at
  until_at-step s tokens =
      enough (length tokens.left) (suc (length tokens.left)) s tokens (omega arith) (omega arith)
      ∙ ap (λ o. cond (ends tokens.left) (Ok (s, tokens)) o) (all_follow s tokens (step s tokens) refl)

  -- at the end the state is what it is
  pub is_done : (s : S) (tokens : Place) (whole : Result (S × Place) SyntaxFault) → until_at ends step s tokens ≡ whole
      → ends tokens.left ≡ true → whole ≡ Ok (s, tokens)
  is_done s tokens whole so_far at_end =
      let none_left : until_at ends step s tokens ≡ Ok (s, tokens) = rw (until_at-step s tokens, at_end) refl in
      sym so_far ∙ none_left

  -- a step more
  pub goes_on : (s t : S) (tokens rest : Place) (whole : Result (S × Place) SyntaxFault)
      → until_at ends step s tokens ≡ whole → ends tokens.left ≡ false → step s tokens ≡ Ok (t, rest)
      → until_at ends step t rest ≡ whole
  goes_on s t tokens rest whole so_far not_at_end first_step =
      let one_more : until_at ends step s tokens ≡ until_at ends step t rest =
      rw (until_at-step s tokens, not_at_end, first_step) refl in
      sym one_more ∙ so_far

  -- a fault where a step has to be
  pub stops : (s : S) (tokens : Place) (whole : Result (S × Place) SyntaxFault) → until_at ends step s tokens ≡ whole
      → ends tokens.left ≡ false → (fault : SyntaxFault) → step s tokens ≡ Err fault → whole ≡ Err fault
  stops s tokens whole so_far not_at_end fault no_step =
      let none_read : until_at ends step s tokens ≡ Err fault =
      rw (until_at-step s tokens, not_at_end, no_step) refl in
      sym so_far ∙ none_read

-- what is read by steps is in the grammar where each step is
module _ {S : Type 0} (ends : List Lexeme → Bool) (step : S → Read S)
    (Step : S → List Lexeme → S → List Lexeme → Type 0)
    (found : (s : S) (tokens : Place) (x : S × Place) → step s tokens ≡ Ok x → Step s tokens.left x.0 x.1.left)
  where
    until_by-found : (n : ℕ) (s : S) (tokens : Place) (x : S × Place) → until_by ends step n s tokens ≡ Ok x
        → Until ends Step s tokens.left x.0 x.1.left
    until_by-found zero s tokens x e =
        chosen (ends tokens.left) {z = Ok x} e
        (λ at_end read. subst (λ (y : S × Place). Until ends Step s tokens.left y.0 y.1.left) (same_ok _ x read)
        (done at_end))
        (λ further read. let t = bind_ok (step s tokens) _ x read in absurd (let no : Err Memory ≡ Ok x = t.2 in cc))
    until_by-found (suc n) s tokens x e =
        chosen (ends tokens.left) {z = Ok x} e
        (λ at_end read. subst (λ (y : S × Place). Until ends Step s tokens.left y.0 y.1.left) (same_ok _ x read)
        (done at_end))
        (λ further read.
        let t = bind_ok (step s tokens) _ x read in
        more further (found s tokens t.0 t.1) (until_by-found n t.0.0 t.0.1 x t.2))

    pub until_at-found : (s : S) (tokens : Place) (x : S × Place) → until_at ends step s tokens ≡ Ok x
        → Until ends Step s tokens.left x.0 x.1.left
    unfolding until_at
    until_at-found s tokens x e = until_by-found (length tokens.left) s tokens x e

-- and the other way round
module _ {S : Type 0} (end : ℕ) (ends : List Lexeme → Bool) (step : S → Read S)
    (Step : S → List Lexeme → S → List Lexeme → Type 0) (falls : Falls step)
    (exact : (s t : S) (a b : List Lexeme) → Step s a t b → step s (place_of end a) ≡ Ok (t, place_of end b)) where
  pub until_at-exact : {s t : S} {a b : List Lexeme} → Until ends Step s a t b
      → until_at ends step s (place_of end a) ≡ Ok (t, place_of end b)
  until_at-exact (done {s} {a} at_end) = rw (until_at-step ends step falls s (place_of end a), at_end) refl
  until_at-exact (more {s} {t} {u} {a} {b} {c} further first behind) =
      rw (until_at-step ends step falls s (place_of end a), further, exact s t a b first) (until_at-exact behind)

-- steps fall where their items do
pub adding-found : {A : Type 0} (item : Read (Option A)) (Item : List Lexeme → Option A → List Lexeme → Type 0)
    → ((tokens : Place) (x : Option A × Place) → item tokens ≡ Ok x → Item tokens.left x.0 x.1.left)
    → (items : List A) (tokens : Place) (x : List A × Place) → adding item items tokens ≡ Ok x
    → Adds Item items tokens.left x.0 x.1.left
adding-found {A} item Item found items tokens x e =
    let t = bind_ok (item tokens) _ x e in
    subst (λ (y : List A × Place). Adds Item items tokens.left y.0 y.1.left) (same_ok _ x t.2)
    (adds (found tokens t.0 t.1))

pub adding-exact : {A : Type 0} (end : ℕ) (item : Read (Option A))
    (Item : List Lexeme → Option A → List Lexeme → Type 0)
    → ((a b : List Lexeme) (x : Option A) → Item a x b → item (place_of end a) ≡ Ok (x, place_of end b))
    → (items all : List A) (a b : List Lexeme) → Adds Item items a all b
    → adding item items (place_of end a) ≡ Ok (all, place_of end b)
adding-exact end item Item exact items all a b (adds {item = x} i) = rw (exact a b x i) refl

pub passing-found : (item : Read (Unit {0})) (Item : List Lexeme → List Lexeme → Type 0)
    → ((tokens : Place) (x : Unit {0} × Place) → item tokens ≡ Ok x → Item tokens.left x.1.left)
    → (s : Unit {0}) (tokens : Place) (x : Unit {0} × Place) → passing item s tokens ≡ Ok x
    → Passes Item s tokens.left x.0 x.1.left
passing-found item Item found s tokens x e = passes (found tokens x e)

pub passing-exact : (end : ℕ) (item : Read (Unit {0})) (Item : List Lexeme → List Lexeme → Type 0)
    → ((a b : List Lexeme) → Item a b → item (place_of end a) ≡ Ok (tt, place_of end b))
    → (s t : Unit {0}) (a b : List Lexeme) → Passes Item s a t b
    → passing item s (place_of end a) ≡ Ok (t, place_of end b)
passing-exact end item Item exact s t a b (passes i) = exact a b i

pub adding-step : {A : Type 0} (item : Read (Option A)) (items : List A) (x : Option A) (tokens rest : Place)
    → item tokens ≡ Ok (x, rest)
    → adding item items tokens ≡ Ok (items ++ option_to_list x, rest)
adding-step item items x tokens rest e = rw e refl

pub adding-stops : {A : Type 0} (item : Read (Option A)) (items : List A) (tokens : Place) (fault : SyntaxFault)
    → item tokens ≡ Err fault → adding item items tokens ≡ Err fault
adding-stops item items tokens fault e = rw e refl

pub adding-falls : {A : Type 0} (item : Read (Option A))
    → ((tokens : Place) (x : Option A × Place) → item tokens ≡ Ok x → length x.1.left < length tokens.left)
    → Falls (adding item)
adding-falls item falls items tokens x e =
    let t = bind_ok (item tokens) _ x e in
    let left : t.0.1.left ≡ x.1.left = ap (λ y. y.1.left) (same_ok _ x t.2) in
    rw (← left) (falls tokens t.0 t.1)

-- what a chain of steps leaves is no more than there was
pub Until-shorter : {S : Type 0} {ends : List Lexeme → Bool} {Step : S → List Lexeme → S → List Lexeme → Type 0}
    → ((s t : S) (a b : List Lexeme) → Step s a t b → length b < length a)
    → (s t : S) (a b : List Lexeme) → Until ends Step s a t b → length b ≤ length a
Until-shorter falls s t a b (done at_end) = omega arith
Until-shorter falls s u a c (more {t = t} {b = b} further first behind) =
    omega (arith, falls s t a b first, Until-shorter falls t u b c behind)

-- steps shorten where their items do
pub Adds-shorter : {A : Type 0} (Item : List Lexeme → Option A → List Lexeme → Type 0)
    → ((a b : List Lexeme) (x : Option A) → Item a x b → length b < length a)
    → (items all : List A) (a b : List Lexeme) → Adds Item items a all b → length b < length a
Adds-shorter Item falls items all a b (adds {item = x} i) = falls a b x i

pub Passes-shorter : (Item : List Lexeme → List Lexeme → Type 0)
    → ((a b : List Lexeme) → Item a b → length b < length a)
    → (s t : Unit {0}) (a b : List Lexeme) → Passes Item s a t b → length b < length a
Passes-shorter Item falls s t a b (passes i) = falls a b i

-- items that are read and not kept
module _ {A : Type 0} (ends : List Lexeme → Bool) (item : Read (Option A))
    (Item : List Lexeme → Option A → List Lexeme → Type 0)
    (found : (tokens : Place) (x : Option A × Place) → item tokens ≡ Ok x → Item tokens.left x.0 x.1.left) where
  passed_by-found : (n : ℕ) (s : Unit {0}) (items : List A) (tokens : Place) (x : Unit {0} × Place)
      → until_by ends (passing (passed item)) n s tokens ≡ Ok x
      → (all : List A) × Until ends (Adds Item) items tokens.left all x.1.left
  passed_by-found zero s items tokens x e =
      chosen (ends tokens.left) {z = Ok x} e
      (λ at_end read. (
        items,
        subst (λ (y : Unit {0} × Place). Until ends (Adds Item) items tokens.left items y.1.left)
            (same_ok _ x read) (done at_end),
      ))
      (λ further read.
      let t = bind_ok (passed item tokens) _ x read in absurd (let no : Err Memory ≡ Ok x = t.2 in cc))
  passed_by-found (suc n) s items tokens x e =
      chosen (ends tokens.left) {z = Ok x} e
      (λ at_end read. (
        items,
        subst (λ (y : Unit {0} × Place). Until ends (Adds Item) items tokens.left items y.1.left)
            (same_ok _ x read) (done at_end),
      ))
      (λ further read.
      let t = bind_ok (passed item tokens) _ x read in
      let i = bind_ok (item tokens) _ t.0 t.1 in
      let left : i.0.1.left ≡ t.0.1.left = ap (λ y. y.1.left) (same_ok _ t.0 i.2) in
      let behind = passed_by-found n t.0.0 (items ++ option_to_list i.0.0) t.0.1 x t.2 in
      let first : Adds Item items tokens.left (items ++ option_to_list i.0.0) t.0.1.left =
      rw (← left) (adds (found tokens i.0 i.1)) in
      (behind.0, more further first behind.1))

  pub passed-found : (items : List A) (tokens : Place) (x : Unit {0} × Place)
      → until_at ends (passing (passed item)) tt tokens ≡ Ok x
      → (all : List A) × Until ends (Adds Item) items tokens.left all x.1.left
  unfolding until_at
  passed-found items tokens x e = passed_by-found (length tokens.left) tt items tokens x e

module _ {A : Type 0} (end : ℕ) (ends : List Lexeme → Bool) (item : Read (Option A))
    (Item : List Lexeme → Option A → List Lexeme → Type 0)
    (falls : Falls (passing (passed item)))
    (exact : (a b : List Lexeme) (x : Option A) → Item a x b → item (place_of end a) ≡ Ok (x, place_of end b)) where
  pub passed-exact : {items all : List A} {a b : List Lexeme} → Until ends (Adds Item) items a all b
      → until_at ends (passing (passed item)) tt (place_of end a) ≡ Ok (tt, place_of end b)
  passed-exact (done {a = a} at_end) =
      rw (until_at-step ends (passing (passed item)) falls tt (place_of end a), at_end) refl
  passed-exact (more {a = a} {b = b} further (adds {item = x} i) behind) =
      rw (
        until_at-step ends (passing (passed item)) falls tt (place_of end a),
        further,
        exact a b x i,
      ) (passed-exact behind)
