-- Where the reader stops before the end, it stops whatever follows the byte at which it does.
use Rattle.std.proofs.Common.{◌≡◌, ◌≢◌, ℕ, zero, suc, ◌<◌, true, false, eqb, None, Ok, Err, List, [], ◌∷◌, ◌++◌, codes}
use Rattle.std.proofs.Common.{length, refl, ap, sym, ◌∙◌, subst, arith, append_assoc}
use Rattle.std.specs.List.{list_all}
use Rattle.std.proofs.lemmas.Bool.{eqb-true}
use Rattle.proto_lex.specs.Bytes.{starts}
use Rattle.scip_symbol.specs.Names.{is_identifier_character, doubled}
use Rattle.scip_symbol.specs.SpellsSymbol.{descriptor}
use Rattle.scip_symbol.specs.Reading.{Read, ◌>>=◌, after, expect_at, undoubled_at, run_at, some_at, simple_at, name_at}
use Rattle.scip_symbol.specs.Reading.{closed_at, disambiguator_at, suffix_at, enclosed_at, descriptor_at, led}
use Rattle.scip_symbol.specs.Reading.{last_or_led, descriptors_at, spaced_at, part_of, part_at, global_at, local_of}
use Rattle.scip_symbol.specs.Reading.{local_at, symbol_at}
use Rattle.scip_symbol.specs.declared.symbol.Suffix.{Suffix}
use Rattle.scip_symbol.specs.declared.symbol.Suffix.TheVariants as suffix
use Rattle.scip_symbol.specs.declared.symbol.Descriptor.{Descriptor}
use Rattle.scip_symbol.specs.declared.symbol.SymbolParts.{SymbolParts}
use Rattle.scip_symbol.specs.declared.symbol.SymbolParts.TheVariants.{Global}
use Rattle.scip_symbol.proofs.ReadingTestLemmas.{bind_err, bind_of_ok, bind_of_err, same_ok, chosen, choose_none}
use Rattle.scip_symbol.proofs.ReadingTestLemmas.{choose_some}
use Rattle.scip_symbol.proofs.ReadingAfterLemmas.{after-some, after-front, after-kept}
use Rattle.scip_symbol.proofs.ReadingUndoubledLemmas.{undoubled-found, undoubled-exact, undoubled-open}
use Rattle.scip_symbol.proofs.NameLemmas.{run-found, run-exact}
use Rattle.scip_symbol.proofs.ReadingDescriptorLemmas.{descriptor-falls, descriptors-step, led-err}
use Rattle.scip_symbol.proofs.SymbolLemmas.{spaced-found, spaced-exact}
use Rattle.scip_symbol.proofs.ReadingLocalLemmas.{StopsAt, GoesOn, IsStuck, IsLocal, none-behind, first-kept}
use Rattle.scip_symbol.proofs.ReadingLocalLemmas.{then-stuck}
use Rattle.scip_symbol.proofs.ReadingLocalLemmas.{then-local, value-local, expect-then, expect-local, choice-local}
use Rattle.scip_symbol.proofs.ReadingLocalLemmas.{map-stuck}

-- ---- names and descriptors

run-local : IsLocal (λ text. Ok (run_at text))
run-local = record {
  stuck = λ text left e pos. absurd cc;
  goes = λ text x b rest e.
      let same = same_ok _ refl e in
      let run = run-found text in
      record {
        front = x;
        split = run.0 ∙ ap (λ (z : List ℕ × List ℕ). z.0 ++ z.1) same;
        always = λ other. ap (λ (z : List ℕ × List ℕ). Ok z) (run-exact x (b ∷ other)
            (ap (λ (z : List ℕ × List ℕ). list_all is_identifier_character z.0) (sym same) ∙ run.1)
            (ap (λ (z : List ℕ × List ℕ). starts is_identifier_character z.1) (sym same) ∙ run.2));
      };
}

some-stuck : (text : List ℕ) (left : ℕ) → some_at ([], text) ≡ Err left → 0 < left
    → StopsAt (λ text. some_at ([], text)) text left
some-stuck [] left e pos = let z : left ≡ 0 = cc in absurd (omega arith)
some-stuck (b ∷ r) left e pos = record { front = []; b = b; rest = r; split = refl; count = cc; always = λ other. refl }

-- a word that isn't empty
some-local : (word : List ℕ) → IsLocal (λ text. some_at (word, text))
some-local [] = record {
  stuck = λ text left e pos. some-stuck text left e pos;
  goes = λ text x b rest e. absurd cc;
}
some-local (b ∷ word) = value-local (b ∷ word)

undoubled-local : (m : ℕ) → IsLocal (undoubled_at m false)
undoubled-local m = record {
  stuck = λ text left e pos. let z = (undoubled-open m text left e).0 in absurd (omega arith);
  goes = λ text x b rest e.
      let u = undoubled-found m text (x, b ∷ rest) e in
      record {
        front = doubled m x ++ m ∷ [];
        split = u.0 ∙ sym (append_assoc (doubled m x) (m ∷ []) (b ∷ rest));
        always = λ other. ap (undoubled_at m false) (append_assoc (doubled m x) (m ∷ []) (b ∷ other))
            ∙ undoubled-exact m x (b ∷ other) u.1;
      };
}

simple-local : IsLocal simple_at
unfolding simple_at
simple-local = then-local (λ text. Ok (run_at text)) (λ word text. some_at (word, text)) run-local some-local

name-local : IsLocal name_at
unfolding name_at
name-local = choice-local 96 simple_at (λ inside. undoubled_at 96 false inside >>= some_at) simple-local
    (then-local (undoubled_at 96 false) (λ word text. some_at (word, text)) (undoubled-local 96) some-local)

disambiguator-local : IsLocal disambiguator_at
unfolding disambiguator_at
disambiguator-local = then-local (λ text. Ok (run_at text)) (λ word text. closed_at (word, text)) run-local
    (λ word. expect-local 41 (λ rest. expect_at (46 ∷ []) rest >>= λ behind. Ok (word, behind))
    (expect-local 46 (λ behind. Ok (word, behind)) (value-local word)))

method-local : IsLocal (λ text. expect_at (codes "(") text >>= λ rest. disambiguator_at rest >>= λ x. Ok
    (suffix.Method x.0, x.1))
method-local = expect-local 40 (λ rest. disambiguator_at rest >>= λ x. Ok (suffix.Method x.0, x.1))
    (then-local disambiguator_at (λ d rest. Ok (suffix.Method d, rest)) disambiguator-local
    (λ d. value-local (suffix.Method d)))

suffix-local : IsLocal suffix_at
unfolding suffix_at
suffix-local =
    choice-local 47 _ (λ rest. Ok (suffix.Namespace, rest)) (
    choice-local 35 _ (λ rest. Ok (suffix.«Type», rest)) (
    choice-local 46 _ (λ rest. Ok (suffix.Term, rest)) (
    choice-local 58 _ (λ rest. Ok (suffix.Meta, rest)) (
    choice-local 33 _ (λ rest. Ok (suffix.Macro, rest)) method-local (value-local suffix.Macro))
    (value-local suffix.Meta)) (value-local suffix.Term)) (value-local suffix.«Type»))
    (value-local suffix.Namespace)

enclosed-local : (s : Suffix) (closing : ℕ) → IsLocal (enclosed_at s (closing ∷ []))
unfolding enclosed_at
enclosed-local s closing =
    then-local name_at (λ name text. expect_at (closing ∷ []) text >>= λ rest. Ok (descriptor name s, rest)) name-local
    (λ name. expect-local closing (λ rest. Ok (descriptor name s, rest)) (value-local (descriptor name s)))

plain-local : IsLocal (λ text. name_at text >>= λ x. suffix_at x.1 >>= λ y. Ok (descriptor x.0 y.0, y.1))
plain-local = then-local name_at (λ name text. suffix_at text >>= λ y. Ok (descriptor name y.0, y.1)) name-local
    (λ name. then-local suffix_at (λ s rest. Ok (descriptor name s, rest)) suffix-local
    (λ s. value-local (descriptor name s)))

pub descriptor-local : IsLocal descriptor_at
unfolding descriptor_at
descriptor-local = choice-local 91 _ (enclosed_at suffix.TypeParameter (93 ∷ []))
    (choice-local 40 _ (enclosed_at suffix.Parameter (41 ∷ [])) plain-local (enclosed-local suffix.Parameter 41))
    (enclosed-local suffix.TypeParameter 93)

-- ---- one descriptor or more

-- behind a descriptor that others follow
others-stuck : (text : List ℕ) (left : ℕ) (d : Descriptor) (c : ℕ) (r : List ℕ) → descriptor_at text ≡ Ok (d, c ∷ r)
    → StopsAt descriptors_at (c ∷ r) left → StopsAt descriptors_at text left
others-stuck text left d c r is s =
    let k = descriptor-local.goes text d c r is in
    record {
      front = k.front ++ s.front;
      b = s.b;
      rest = s.rest;
      split = k.split ∙ ap (λ l. k.front ++ l) s.split ∙ sym (append_assoc k.front s.front (s.b ∷ s.rest));
      count = s.count;
      always = λ other.
          let z = first-kept s.front s.b s.rest c r other s.split in
          let behind : descriptors_at (c ∷ z.0) ≡ Err (length (s.b ∷ other)) = ap descriptors_at z.1 ∙ s.always other in
          ap descriptors_at (append_assoc k.front s.front (s.b ∷ other) ∙ ap (λ l. k.front ++ l) (sym z.1))
          ∙ descriptors-step (k.front ++ (c ∷ z.0))
          ∙ bind_of_ok (λ x. last_or_led x.0 x.1 (descriptors_at x.1)) (k.always z.0)
          ∙ ap (led d) behind;
    }

others-stop : (text : List ℕ) (left : ℕ) (x : Descriptor × List ℕ) → descriptor_at text ≡ Ok x
    → last_or_led x.0 x.1 (descriptors_at x.1) ≡ Err left
    → (descriptors_at x.1 ≡ Err left → StopsAt descriptors_at x.1 left) → StopsAt descriptors_at text left
others-stop text left (d, []) is e further = absurd cc
others-stop text left (d, c ∷ r) is e further =
    led-err d (descriptors_at (c ∷ r)) left e (λ q. others-stuck text left d c r is (further q))

descriptors-stuck : (n : ℕ) (text : List ℕ) (left : ℕ) → length text < n → descriptors_at text ≡ Err left → 0 < left
    → StopsAt descriptors_at text left
descriptors-stuck zero text left below e pos = absurd (omega arith)
descriptors-stuck (suc n) text left below e pos =
    bind_err (descriptor_at text) (λ x. last_or_led x.0 x.1 (descriptors_at x.1)) left (sym (descriptors-step text) ∙ e)
    (λ q.
    let s = descriptor-local.stuck text left q pos in
    record {
      front = s.front;
      b = s.b;
      rest = s.rest;
      split = s.split;
      count = s.count;
      always = λ other.
          descriptors-step (s.front ++ (s.b ∷ other))
          ∙ bind_of_err (λ x. last_or_led x.0 x.1 (descriptors_at x.1)) (s.always other);
    })
    (λ x is q. others-stop text left x is q
    (λ r. descriptors-stuck n x.1 left (omega (arith, descriptor-falls text x is)) r pos))

descriptors-stop : IsStuck descriptors_at
descriptors-stop = record
    { stuck = λ text left e pos. descriptors-stuck (suc (length text)) text left (omega arith) e pos }

-- ---- parts

spaced-other : (b : ℕ) (text : List ℕ) → eqb b 32 ≡ false → spaced_at (b ∷ text) ≡ undoubled_at 32 false (b ∷ text)
unfolding spaced_at
spaced-other b text f = choose_none (undoubled_at 32 false (b ∷ text)) (λ _. Err (length (b ∷ text))) (rw f refl)

spaced-space : (b : ℕ) (text : List ℕ) → eqb b 32 ≡ true → spaced_at (b ∷ text) ≡ Err (length (b ∷ text))
unfolding spaced_at
spaced-space b text t = rw t refl

spaced-stuck : (text : List ℕ) (left : ℕ) → spaced_at text ≡ Err left → 0 < left → StopsAt spaced_at text left
unfolding spaced_at undoubled_at
spaced-stuck [] left e pos = let z : left ≡ 0 = cc in absurd (omega arith)
spaced-stuck (b ∷ r) left e pos =
    elim (eqb b 32) as (λ t. eqb b 32 ≡ t → StopsAt spaced_at (b ∷ r) left) [
      | true ↦ λ t. let same = sym (spaced-space b r t) ∙ e in
          record { front = []; b = b; rest = r; split = refl; count = cc; always = λ other. spaced-space b other t }
      | false ↦ λ f. let z = (undoubled-open 32 (b ∷ r) left (sym (spaced-other b r f) ∙ e)).0 in absurd (omega arith)
    ] refl

spaced-goes : (text : List ℕ) (x : List ℕ) (d : ℕ) (rest : List ℕ) → spaced_at text ≡ Ok (x, d ∷ rest)
    → GoesOn spaced_at text x d rest
unfolding spaced_at undoubled_at
spaced-goes [] x d rest e = absurd cc
spaced-goes (b ∷ r) x d rest e =
    elim (eqb b 32) as (λ t. eqb b 32 ≡ t → GoesOn spaced_at (b ∷ r) x d rest) [
      | true ↦ λ t. let same = sym (spaced-space b r t) ∙ e in absurd cc
      | false ↦ λ f.
          let s = (undoubled-local 32).goes (b ∷ r) x d rest (sym (spaced-other b r f) ∙ e) in
          record {
            front = s.front;
            split = s.split;
            always = λ other.
                let z = first-kept s.front d rest b r other s.split in
                subst (λ l. spaced_at l ≡ undoubled_at 32 false l) z.1 (spaced-other b z.0 f) ∙ s.always other;
          }
    ] refl

spaced-local : IsLocal spaced_at
spaced-local = record { stuck = spaced-stuck; goes = spaced-goes }

part-local : IsLocal part_at
unfolding part_at
part-local = then-local spaced_at (λ word rest. Ok (part_of word, rest)) spaced-local
    (λ word. value-local (part_of word))

-- ---- symbols

-- what stands behind the scheme
abbrev behind_scheme : List ℕ → List ℕ → Read SymbolParts
behind_scheme s text =
    part_at text >>= λ m. part_at m.1 >>= λ n. part_at n.1 >>= λ v. descriptors_at v.1 >>= λ ds.
    Ok (Global (record { scheme = s; manager = m.0; name = n.0; version = v.0; descriptors = ds }))

behind-stuck : (s : List ℕ) → IsStuck (behind_scheme s)
behind-stuck s =
    then-stuck part_at _ part-local (λ m.
    then-stuck part_at _ part-local (λ n.
    then-stuck part_at _ part-local (λ v.
    map-stuck descriptors_at
    (λ ds. Global (record { scheme = s; manager = m; name = n; version = v; descriptors = ds })) descriptors-stop)))

local-of-stops : (name text : List ℕ) (left : ℕ) → local_of (name, text) ≡ Err left → 0 < left
    → StopsAt (λ rest. local_of (name, rest)) text left
local-of-stops name [] left e pos = absurd cc
local-of-stops name (b ∷ r) left e pos =
    record { front = []; b = b; rest = r; split = refl; count = cc; always = λ other. refl }

local-of-stuck : (name : List ℕ) → IsStuck (λ rest. local_of (name, rest))
local-of-stuck name = record { stuck = λ text left e pos. local-of-stops name text left e pos }

local-stuck : IsStuck local_at
unfolding local_at
local-stuck = expect-then 32 (λ rest. simple_at rest >>= local_of)
    (then-stuck simple_at (λ name rest. local_of (name, rest)) simple-local local-of-stuck)

space-first : (b : ℕ) (r : List ℕ) (left : ℕ) → eqb b 32 ≡ true → left ≡ length (b ∷ r) → StopsAt symbol_at (b ∷ r) left
unfolding symbol_at global_at spaced_at
space-first b r left t count = record {
  front = [];
  b = b;
  rest = r;
  split = refl;
  count = count;
  always = λ other.
      subst (λ c. symbol_at (c ∷ other) ≡ Err (length (c ∷ other))) (sym (eqb-true b 32 t)) refl;
}

scheme-stuck : (text : List ℕ) (left : ℕ) → spaced_at text ≡ Err left → 0 < left → StopsAt symbol_at text left
unfolding spaced_at undoubled_at
scheme-stuck [] left e pos = let z : left ≡ 0 = cc in absurd (omega arith)
scheme-stuck (b ∷ r) left e pos =
    elim (eqb b 32) as (λ t. eqb b 32 ≡ t → StopsAt symbol_at (b ∷ r) left) [
      | true ↦ λ t. let same = sym (spaced-space b r t) ∙ e in space-first b r left t (cc)
      | false ↦ λ f. let z = (undoubled-open 32 (b ∷ r) left (sym (spaced-other b r f) ∙ e)).0 in absurd (omega arith)
    ] refl

scheme-read : (word rest : List ℕ) → word ≢ [] → ((r : List ℕ) → word ≢ 32 ∷ r) → starts (λ b. eqb b 32) rest ≡ false
    → global_at (doubled 32 word ++ (32 ∷ rest)) ≡ behind_scheme word rest
unfolding global_at
scheme-read word rest some h alone = bind_of_ok (λ s. behind_scheme s.0 s.1) (spaced-exact word rest some h alone)

scheme-goes : (text : List ℕ) (left : ℕ) → after (codes "local") text ≡ None → (x : List ℕ × List ℕ)
    → spaced_at text ≡ Ok x
    → behind_scheme x.0 x.1 ≡ Err left → 0 < left → StopsAt symbol_at text left
unfolding symbol_at
scheme-goes text left none (word, []) is e pos = let s = (behind-stuck word).stuck [] left e pos in
    absurd (none-behind s.front s.b s.rest s.split)
scheme-goes text left none (word, c ∷ r) is e pos =
    let s = (behind-stuck word).stuck (c ∷ r) left e pos in
    let f = spaced-found text (word, c ∷ r) is in
    let not_local : after (codes "local") (doubled 32 word ++ (32 ∷ (c ∷ r))) ≡ None =
    subst (λ l. after (codes "local") l ≡ None) f.split none in
    record {
      front = doubled 32 word ++ (32 ∷ s.front);
      b = s.b;
      rest = s.rest;
      split = f.split ∙ ap (λ l. doubled 32 word ++ (32 ∷ l)) s.split
          ∙ sym (append_assoc (doubled 32 word) (32 ∷ s.front) (s.b ∷ s.rest));
      count = s.count;
      always = λ other.
          let z = first-kept s.front s.b s.rest c r other s.split in
          ap symbol_at (append_assoc (doubled 32 word) (32 ∷ s.front) (s.b ∷ other)
          ∙ ap (λ l. doubled 32 word ++ (32 ∷ l)) (sym z.1))
          ∙ choose_none (global_at (doubled 32 word ++ (32 ∷ (c ∷ z.0)))) local_at
          (after-kept (codes "local") (doubled 32 word) 32 (c ∷ r) (c ∷ z.0) refl not_local)
          ∙ scheme-read word (c ∷ z.0) f.some f.no_space_first f.alone
          ∙ ap (behind_scheme word) z.1
          ∙ s.always other;
    }

global-stuck : (text : List ℕ) (left : ℕ) → after (codes "local") text ≡ None → global_at text ≡ Err left → 0 < left
    → StopsAt symbol_at text left
unfolding global_at
global-stuck text left none e pos =
    bind_err (spaced_at text) (λ s. behind_scheme s.0 s.1) left e (λ q. scheme-stuck text left q pos)
    (λ x is q. scheme-goes text left none x is q pos)

pub symbol-stuck : (text : List ℕ) (left : ℕ) → symbol_at text ≡ Err left → 0 < left → StopsAt symbol_at text left
unfolding symbol_at
symbol-stuck text left e pos =
    chosen (after (codes "local") text) e (λ none q. global-stuck text left none q pos)
    (λ rest some q.
    let s = local-stuck.stuck rest left q pos in
    record {
      front = codes "local" ++ s.front;
      b = s.b;
      rest = s.rest;
      split = after-some (codes "local") text rest some ∙ ap (λ l. codes "local" ++ l) s.split;
      count = s.count;
      always = λ other.
          choose_some (global_at (codes "local" ++ (s.front ++ (s.b ∷ other)))) local_at
          (after-front (codes "local") (s.front ++ (s.b ∷ other))) ∙ s.always other;
    })
