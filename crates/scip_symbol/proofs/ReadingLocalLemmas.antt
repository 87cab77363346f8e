-- Readers that look no further than the byte behind what they read: where one stops, it stops whatever follows.
use Rattle.std.proofs.Common.{◌≡◌, ℕ, ◌<◌, true, false, cond, eqb, Some, None, Ok, Err, List, [], ◌∷◌, ◌++◌, length}
use Rattle.std.proofs.Common.{refl, ap, sym, ◌∙◌, subst, arith, append_assoc}
use Rattle.scip_symbol.specs.Reading.{Read, Front, ◌>>=◌, choose, after, expect_at}
use Rattle.scip_symbol.proofs.ReadingTestLemmas.{bind_err, bind_of_ok, bind_of_err, same_ok}

-- it stops at a byte, whatever follows
pub record StopsAt {A : Type 0} (f : List ℕ → Read A) (text : List ℕ) (left : ℕ) : Type 0 where
  pub front : List ℕ
  pub b : ℕ
  pub rest : List ℕ
  pub split : text ≡ front ++ (b ∷ rest)
  pub count : left ≡ length (b ∷ rest)
  pub always : (other : List ℕ) → f (front ++ (b ∷ other)) ≡ Err (length (b ∷ other))

-- it reads a front, whatever follows the next byte
pub record GoesOn {A : Type 0} (f : List ℕ → Front A) (text : List ℕ) (x : A) (b : ℕ) (rest : List ℕ) : Type 0 where
  pub front : List ℕ
  pub split : text ≡ front ++ (b ∷ rest)
  pub always : (other : List ℕ) → f (front ++ (b ∷ other)) ≡ Ok (x, b ∷ other)

pub record IsStuck {A : Type 0} (f : List ℕ → Read A) : Type 0 where
  pub stuck : (text : List ℕ) (left : ℕ) → f text ≡ Err left → 0 < left → StopsAt f text left

pub record IsLocal {A : Type 0} (f : List ℕ → Front A) : Type 0 where
  pub stuck : (text : List ℕ) (left : ℕ) → f text ≡ Err left → 0 < left → StopsAt f text left
  pub goes : (text : List ℕ) (x : A) (b : ℕ) (rest : List ℕ) → f text ≡ Ok (x, b ∷ rest) → GoesOn f text x b rest

pub none-behind : (xs : List ℕ) (b : ℕ) (rest : List ℕ) → [] ≡ xs ++ (b ∷ rest) → ⊥
none-behind [] b rest e = cc
none-behind (x ∷ xs) b rest e = cc

-- a text keeps its first byte where what follows a later byte is changed
pub first-kept : (front : List ℕ) (b : ℕ) (rest : List ℕ) (c : ℕ) (r other : List ℕ) → c ∷ r ≡ front ++ (b ∷ rest)
    → (z : List ℕ) × (c ∷ z ≡ front ++ (b ∷ other))
first-kept [] b rest c r other e = (other, let same : c ≡ b = cc in ap (λ x. x ∷ other) same)
first-kept (y ∷ ys) b rest c r other e =
    (ys ++ (b ∷ other), let same : c ≡ y = cc in ap (λ x. x ∷ (ys ++ (b ∷ other))) same)

-- ---- one reader behind another

module _ {A B : Type 0} (f : List ℕ → Front A) (g : A → List ℕ → Read B) (lf : IsLocal f)
    (sg : (x : A) → IsStuck (g x)) where
  both-of : List ℕ → Read B
  both-of text = f text >>= λ x. g x.0 x.1

  stuck-behind : (text : List ℕ) (left : ℕ) (x : A) (rest : List ℕ) → f text ≡ Ok (x, rest) → g x rest ≡ Err left
      → 0 < left → StopsAt both-of text left
  unfolding both-of
  stuck-behind text left x [] is e pos = let s = (sg x).stuck [] left e pos in
      absurd (none-behind s.front s.b s.rest s.split)
  stuck-behind text left x (c ∷ r) is e pos =
      let s = (sg x).stuck (c ∷ r) left e pos in
      let k = lf.goes text x c r is in
      record {
        front = k.front ++ s.front;
        b = s.b;
        rest = s.rest;
        split = k.split ∙ ap (λ l. k.front ++ l) s.split ∙ sym (append_assoc k.front s.front (s.b ∷ s.rest));
        count = s.count;
        always = λ other.
            let z = first-kept s.front s.b s.rest c r other s.split in
            let goes : f (k.front ++ (s.front ++ (s.b ∷ other))) ≡ Ok (x, s.front ++ (s.b ∷ other)) =
            subst (λ l. f (k.front ++ l) ≡ Ok (x, l)) z.1 (k.always z.0) in
            ap (λ l. f l >>= λ x. g x.0 x.1) (append_assoc k.front s.front (s.b ∷ other))
            ∙ bind_of_ok (λ x. g x.0 x.1) goes ∙ s.always other;
      }

  pub then-stuck : IsStuck (λ text. f text >>= λ x. g x.0 x.1)
  unfolding both-of
  then-stuck = record {
    stuck = λ text left e pos.
        bind_err (f text) (λ x. g x.0 x.1) left e
        (λ q.
        let s = lf.stuck text left q pos in
        record {
          front = s.front;
          b = s.b;
          rest = s.rest;
          split = s.split;
          count = s.count;
          always = λ other. bind_of_err (λ x. g x.0 x.1) (s.always other);
        })
        (λ x is q. stuck-behind text left x.0 x.1 is q pos);
  }

module _ {A B : Type 0} (f : List ℕ → Front A) (g : A → List ℕ → Front B) (lf : IsLocal f)
    (lg : (x : A) → IsLocal (g x)) where
  then-of : List ℕ → Front B
  then-of text = f text >>= λ x. g x.0 x.1

  goes-behind : (text : List ℕ) (y : B) (b : ℕ) (rest : List ℕ) (x : A) (between : List ℕ) → f text ≡ Ok (x, between)
      → g x between ≡ Ok (y, b ∷ rest) → GoesOn then-of text y b rest
  unfolding then-of
  goes-behind text y b rest x [] is e = let k = (lg x).goes [] y b rest e in absurd (none-behind k.front b rest k.split)
  goes-behind text y b rest x (c ∷ r) is e =
      let s = (lg x).goes (c ∷ r) y b rest e in
      let k = lf.goes text x c r is in
      record {
        front = k.front ++ s.front;
        split = k.split ∙ ap (λ l. k.front ++ l) s.split ∙ sym (append_assoc k.front s.front (b ∷ rest));
        always = λ other.
            let z = first-kept s.front b rest c r other s.split in
            let goes : f (k.front ++ (s.front ++ (b ∷ other))) ≡ Ok (x, s.front ++ (b ∷ other)) =
            subst (λ l. f (k.front ++ l) ≡ Ok (x, l)) z.1 (k.always z.0) in
            ap (λ l. f l >>= λ x. g x.0 x.1) (append_assoc k.front s.front (b ∷ other))
            ∙ bind_of_ok (λ x. g x.0 x.1) goes ∙ s.always other;
      }

  pub then-local : IsLocal (λ text. f text >>= λ x. g x.0 x.1)
  unfolding then-of both-of
  then-local = record {
    stuck = (then-stuck f g lf (λ x. record { stuck = (lg x).stuck })).stuck;
    goes = λ text y b rest e.
        elim (f text) as (λ r. f text ≡ r → (r >>= λ x. g x.0 x.1) ≡ Ok (y, b ∷ rest) → GoesOn then-of text y b rest) [
          | Ok x ↦ λ is e. goes-behind text y b rest x.0 x.1 is e
          | Err l ↦ λ is e. absurd cc
        ] refl e;
  }

-- a value, with nothing read
pub value-local : {A : Type 0} (x : A) → IsLocal (λ text. Ok (x, text))
value-local x = record {
  stuck = λ text left e pos. absurd cc;
  goes = λ text y b rest e. let same = same_ok _ refl e in
      record { front = []; split = ap (λ z. z.1) same; always = λ other. ap (λ z. Ok (z.0, b ∷ other)) same };
}

-- ---- signs

module _ {B : Type 0} (c : ℕ) (g : List ℕ → Read B) (sg : IsStuck g) where
  sign-of : List ℕ → Read B
  sign-of text = expect_at (c ∷ []) text >>= g

  sign-stuck : (text : List ℕ) (left : ℕ) → sign-of text ≡ Err left → 0 < left → StopsAt sign-of text left
  unfolding sign-of expect_at
  sign-stuck [] left e pos = let z : left ≡ 0 = cc in absurd (omega arith)
  sign-stuck (b ∷ r) left e pos =
      elim (eqb b c) as (λ t. eqb b c ≡ t
      → (choose (cond t (Some r) None) (Err (length (b ∷ r))) (λ rest. Ok rest) >>= g) ≡ Err left
      → StopsAt sign-of (b ∷ r) left) [
        | true ↦ λ t e. let s = sg.stuck r left e pos in
            record {
              front = b ∷ s.front;
              b = s.b;
              rest = s.rest;
              split = ap (λ l. b ∷ l) s.split;
              count = s.count;
              always = λ other. rw t (s.always other);
            }
        | false ↦ λ f e. record { front = []; b = b; rest = r; split = refl; count = cc; always = λ other. rw f refl }
      ] refl e

  pub expect-then : IsStuck (λ text. expect_at (c ∷ []) text >>= g)
  unfolding sign-of
  expect-then = record { stuck = sign-stuck }

module _ {B : Type 0} (c : ℕ) (g : List ℕ → Front B) (lg : IsLocal g) where
  expect-of : List ℕ → Front B
  expect-of text = expect_at (c ∷ []) text >>= g

  expect-goes : (text : List ℕ) (x : B) (d : ℕ) (rest : List ℕ) → expect-of text ≡ Ok (x, d ∷ rest)
      → GoesOn expect-of text x d rest
  unfolding expect-of expect_at
  expect-goes [] x d rest e = absurd cc
  expect-goes (b ∷ r) x d rest e =
      elim (eqb b c) as (λ t. eqb b c ≡ t
      → (choose (cond t (Some r) None) (Err (length (b ∷ r))) (λ rest. Ok rest) >>= g) ≡ Ok (x, d ∷ rest)
      → GoesOn expect-of (b ∷ r) x d rest) [
        | true ↦ λ t e. let s = lg.goes r x d rest e in
            record { front = b ∷ s.front; split = ap (λ l. b ∷ l) s.split; always = λ other. rw t (s.always other) }
        | false ↦ λ f e. absurd cc
      ] refl e

  pub expect-local : IsLocal (λ text. expect_at (c ∷ []) text >>= g)
  unfolding expect-of
  expect-local = record { stuck = (expect-then c g (record { stuck = lg.stuck })).stuck; goes = expect-goes }

-- one reader where the text begins with a sign, and another where it doesn't
module _ {B : Type 0} (c : ℕ) (f g : List ℕ → Front B) (lf : IsLocal f) (lg : IsLocal g) where
  choice : List ℕ → Front B
  choice text = choose (after (c ∷ []) text) (f text) g

  -- where the first byte is another, only the first reader counts
  other-sign : (b : ℕ) (text : List ℕ) → eqb b c ≡ false → choice (b ∷ text) ≡ f (b ∷ text)
  unfolding choice
  other-sign b text e = rw e refl

  sign : (b : ℕ) (text : List ℕ) → eqb b c ≡ true → choice (b ∷ text) ≡ g text
  unfolding choice
  sign b text e = rw e refl

  nothing : {r : Front B} → choice [] ≡ r → f [] ≡ r
  unfolding choice
  nothing e = e

  choice-stuck : (text : List ℕ) (left : ℕ) → choice text ≡ Err left → 0 < left → StopsAt choice text left
  choice-stuck [] left e pos = let s = lf.stuck [] left (nothing e) pos in
      absurd (none-behind s.front s.b s.rest s.split)
  choice-stuck (b ∷ r) left e pos =
      elim (eqb b c) as (λ t. eqb b c ≡ t → StopsAt choice (b ∷ r) left) [
        | true ↦ λ t.
            let s = lg.stuck r left (sym (sign b r t) ∙ e) pos in
            record {
              front = b ∷ s.front;
              b = s.b;
              rest = s.rest;
              split = ap (λ l. b ∷ l) s.split;
              count = s.count;
              always = λ other. sign b (s.front ++ (s.b ∷ other)) t ∙ s.always other;
            }
        | false ↦ λ n.
            let s = lf.stuck (b ∷ r) left (sym (other-sign b r n) ∙ e) pos in
            record {
              front = s.front;
              b = s.b;
              rest = s.rest;
              split = s.split;
              count = s.count;
              always = λ other.
                  let z = first-kept s.front s.b s.rest b r other s.split in
                  let same : choice (s.front ++ (s.b ∷ other)) ≡ f (s.front ++ (s.b ∷ other)) =
                  subst (λ l. choice l ≡ f l) z.1 (other-sign b z.0 n) in
                  same ∙ s.always other;
            }
      ] refl

  choice-goes : (text : List ℕ) (x : B) (d : ℕ) (rest : List ℕ) → choice text ≡ Ok (x, d ∷ rest)
      → GoesOn choice text x d rest
  choice-goes [] x d rest e = let s = lf.goes [] x d rest (nothing e) in absurd (none-behind s.front d rest s.split)
  choice-goes (b ∷ r) x d rest e =
      elim (eqb b c) as (λ t. eqb b c ≡ t → GoesOn choice (b ∷ r) x d rest) [
        | true ↦ λ t.
            let s = lg.goes r x d rest (sym (sign b r t) ∙ e) in
            record {
              front = b ∷ s.front;
              split = ap (λ l. b ∷ l) s.split;
              always = λ other. sign b (s.front ++ (d ∷ other)) t ∙ s.always other;
            }
        | false ↦ λ n.
            let s = lf.goes (b ∷ r) x d rest (sym (other-sign b r n) ∙ e) in
            record {
              front = s.front;
              split = s.split;
              always = λ other.
                  let z = first-kept s.front d rest b r other s.split in
                  let same : choice (s.front ++ (d ∷ other)) ≡ f (s.front ++ (d ∷ other)) =
                  subst (λ l. choice l ≡ f l) z.1 (other-sign b z.0 n) in
                  same ∙ s.always other;
            }
      ] refl

  pub choice-local : IsLocal (λ text. choose (after (c ∷ []) text) (f text) g)
  unfolding choice
  choice-local = record { stuck = choice-stuck; goes = choice-goes }

-- a value made of what is read
pub map-stuck : {A B : Type 0} (f : List ℕ → Read A) (h : A → B) → IsStuck f
    → IsStuck (λ text. f text >>= λ x. Ok (h x))
map-stuck f h sf = record {
  stuck = λ text left e pos.
      bind_err (f text) (λ x. Ok (h x)) left e
      (λ q.
      let s = sf.stuck text left q pos in
      record {
        front = s.front;
        b = s.b;
        rest = s.rest;
        split = s.split;
        count = s.count;
        always = λ other. bind_of_err (λ x. Ok (h x)) (s.always other);
      })
      (λ _ _ q. absurd cc);
}
