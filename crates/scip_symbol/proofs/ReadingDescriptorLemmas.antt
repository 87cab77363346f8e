-- Descriptors: what is read is spelled, and what is spelled is read.
use Rattle.std.proofs.Common.{◌≡◌, ℕ, zero, suc, ◌+◌, ◌<◌, true, false, eqb, Some, Ok, Err, List, [], ◌∷◌, ◌++◌, codes}
use Rattle.std.proofs.Common.{length, refl, ap, sym, ◌∙◌, subst, arith, append_assoc, length-append, append-nil}
use Rattle.std.specs.List.{list_all}
use Rattle.scip_symbol.specs.Names.{is_identifier_character}
use Rattle.scip_symbol.specs.SpellsSymbol.{SpellsName, descriptor, SpellsDescriptor, namespace, type_, term, meta}
use Rattle.scip_symbol.specs.SpellsSymbol.{macro, method, type_parameter, parameter, SpellsDescriptors, last, more}
use Rattle.scip_symbol.specs.Reading.{Read, ◌>>=◌, after, expect_at, run_at, name_at, closed_at, disambiguator_at}
use Rattle.scip_symbol.specs.Reading.{suffix_at, enclosed_at, descriptor_at, led, last_or_led, descriptors_within}
use Rattle.scip_symbol.specs.Reading.{descriptors_at}
use Rattle.scip_symbol.specs.Gives.{Stops}
use Rattle.scip_symbol.specs.declared.fault.SymbolFault.{SymbolFault}
use Rattle.scip_symbol.specs.declared.fault.SymbolFault.TheVariants.{BadSymbol, Memory}
use Rattle.scip_symbol.specs.declared.symbol.Suffix.{Suffix}
use Rattle.scip_symbol.specs.declared.symbol.Suffix.TheVariants as suffix
use Rattle.scip_symbol.specs.declared.symbol.Descriptor.{Descriptor}
use Rattle.scip_symbol.proofs.ReadingTestLemmas.{bind_ok, bind_of_ok, bind_of_err, chosen, same_ok}
use Rattle.scip_symbol.proofs.ReadingAfterLemmas.{after-some, expect-found, expect-exact}
use Rattle.scip_symbol.proofs.NameLemmas.{EndsName, run-found, run-exact, name-found, name-exact, name-starts}

-- ---- a method's disambiguator

disambiguator-found : (text : List ℕ) (y : List ℕ × List ℕ) → disambiguator_at text ≡ Ok y
    → (text ≡ y.0 ++ (41 ∷ 46 ∷ y.1)) × (list_all is_identifier_character y.0 ≡ true)
unfolding disambiguator_at
disambiguator-found text y e =
    let run = run-found text in
    let a = bind_ok (expect_at (codes ")") (run_at text).1)
    (λ rest. expect_at (codes ".") rest >>= λ behind. Ok ((run_at text).0, behind)) y e in
    let b = bind_ok (expect_at (codes ".") a.0) (λ behind. Ok ((run_at text).0, behind)) y a.2 in
    let first = expect-found (codes ")") (run_at text).1 a.0 a.1 in
    let second = expect-found (codes ".") a.0 b.0 b.1 in
    subst (λ (z : List ℕ × List ℕ). (text ≡ z.0 ++ (41 ∷ 46 ∷ z.1)) × (list_all is_identifier_character z.0 ≡ true))
    (same_ok _ refl b.2)
    (run.0 ∙ ap (λ l. (run_at text).0 ++ l) (first ∙ ap (λ l. 41 ∷ l) second), run.1)

disambiguator-exact : (d rest : List ℕ) → list_all is_identifier_character d ≡ true
    → disambiguator_at (d ++ (41 ∷ 46 ∷ rest)) ≡ Ok (d, rest)
unfolding disambiguator_at expect_at
disambiguator-exact d rest h = ap closed_at (run-exact d (41 ∷ 46 ∷ rest) h refl)

-- ---- suffixes

record IsSuffixRead (text : List ℕ) (y : Suffix × List ℕ) : Type 0 where
  sign : List ℕ
  split : text ≡ sign ++ y.1
  spells : (word name : List ℕ) → SpellsName word name → SpellsDescriptor (word ++ sign) (descriptor name y.0)

is-sign : (sign text : List ℕ) (x y : Suffix × List ℕ) → after sign text ≡ Some x.1 → x ≡ y
    → ((word name : List ℕ) → SpellsName word name → SpellsDescriptor (word ++ sign) (descriptor name x.0))
    → IsSuffixRead text y
is-sign sign text x y some e spells =
    subst (IsSuffixRead text) e (record { sign = sign; split = after-some sign text x.1 some; spells = spells })

pub method-sign : (word d : List ℕ) → word ++ codes "(" ++ d ++ codes ")." ≡ word ++ (40 ∷ (d ++ (41 ∷ 46 ∷ [])))
method-sign word d = append_assoc (word ++ codes "(") d (codes ").") ∙ append_assoc word (codes "(") (d ++ codes ").")

is-method : (text : List ℕ) (y : Suffix × List ℕ)
    → (expect_at (codes "(") text >>= λ rest. disambiguator_at rest >>= λ x. Ok (suffix.Method x.0, x.1)) ≡ Ok y
    → IsSuffixRead text y
is-method text y e =
    let a = bind_ok (expect_at (codes "(") text)
    (λ rest. disambiguator_at rest >>= λ x. Ok (suffix.Method x.0, x.1)) y e in
    let b = bind_ok (disambiguator_at a.0) (λ x. Ok (suffix.Method x.0, x.1)) y a.2 in
    let d = disambiguator-found a.0 b.0 b.1 in
    subst (IsSuffixRead text) (same_ok _ refl b.2) (record {
      sign = 40 ∷ (b.0.0 ++ (41 ∷ 46 ∷ []));
      split = expect-found (codes "(") text a.0 a.1
          ∙ ap (λ l. 40 ∷ l) (d.0 ∙ sym (append_assoc b.0.0 (41 ∷ 46 ∷ []) b.0.1));
      spells = λ word name n. subst (λ l. SpellsDescriptor l (descriptor name (suffix.Method b.0.0)))
          (method-sign word b.0.0) (method n d.1);
    })

suffix-found : (text : List ℕ) (y : Suffix × List ℕ) → suffix_at text ≡ Ok y → IsSuffixRead text y
unfolding suffix_at
suffix-found text y e =
    chosen (after (codes "/") text) e (λ _ e.
    chosen (after (codes "#") text) e (λ _ e.
    chosen (after (codes ".") text) e (λ _ e.
    chosen (after (codes ":") text) e (λ _ e.
    chosen (after (codes "!") text) e (λ _ e. is-method text y e)
    (λ rest some q. is-sign (codes "!") text (suffix.Macro, rest) y some (same_ok _ refl q) (λ word name n. macro n)))
    (λ rest some q. is-sign (codes ":") text (suffix.Meta, rest) y some (same_ok _ refl q) (λ word name n. meta n)))
    (λ rest some q. is-sign (codes ".") text (suffix.Term, rest) y some (same_ok _ refl q) (λ word name n. term n)))
    (λ rest some q. is-sign (codes "#") text (suffix.«Type», rest) y some (same_ok _ refl q) (λ word name n. type_ n)))
    (λ rest some q. is-sign (codes "/") text (suffix.Namespace, rest) y some (same_ok _ refl q)
    (λ word name n. namespace n))

-- ---- one descriptor

pub record IsDescriptorRead (text : List ℕ) (y : Descriptor × List ℕ) : Type 0 where
  pub word : List ℕ
  pub split : text ≡ word ++ y.1
  pub spells : SpellsDescriptor word y.0

is-enclosed : (s : Suffix) (opening closing : ℕ) (text inside : List ℕ) (y : Descriptor × List ℕ)
    → after (opening ∷ []) text ≡ Some inside
    → enclosed_at s (closing ∷ []) inside ≡ Ok y
    → ((word name : List ℕ) → SpellsName word name
    → SpellsDescriptor ((opening ∷ word) ++ (closing ∷ [])) (descriptor name s)) → IsDescriptorRead text y
unfolding enclosed_at
is-enclosed s opening closing text inside y some e spells =
    let a = bind_ok (name_at inside) (λ x. expect_at (closing ∷ []) x.1 >>= λ rest. Ok (descriptor x.0 s, rest)) y e in
    let b = bind_ok (expect_at (closing ∷ []) a.0.1) (λ rest. Ok (descriptor a.0.0 s, rest)) y a.2 in
    let n = name-found inside a.0 a.1 in
    let closed = expect-found (closing ∷ []) a.0.1 b.0 b.1 in
    subst (IsDescriptorRead text) (same_ok _ refl b.2) (record {
      word = (opening ∷ n.0) ++ (closing ∷ []);
      split = after-some (opening ∷ []) text inside some ∙ ap (λ l. opening ∷ l) (n.1 ∙ ap (λ l. n.0 ++ l) closed)
          ∙ sym (append_assoc (opening ∷ n.0) (closing ∷ []) b.0);
      spells = spells n.0 a.0.0 n.2;
    })

is-plain : (text : List ℕ) (y : Descriptor × List ℕ)
    → (name_at text >>= λ x. suffix_at x.1 >>= λ z. Ok (descriptor x.0 z.0, z.1)) ≡ Ok y → IsDescriptorRead text y
is-plain text y e =
    let a = bind_ok (name_at text) (λ x. suffix_at x.1 >>= λ z. Ok (descriptor x.0 z.0, z.1)) y e in
    let b = bind_ok (suffix_at a.0.1) (λ z. Ok (descriptor a.0.0 z.0, z.1)) y a.2 in
    let n = name-found text a.0 a.1 in
    let s = suffix-found a.0.1 b.0 b.1 in
    subst (IsDescriptorRead text) (same_ok _ refl b.2) (record {
      word = n.0 ++ s.sign;
      split = n.1 ∙ ap (λ l. n.0 ++ l) s.split ∙ sym (append_assoc n.0 s.sign b.0.1);
      spells = s.spells n.0 a.0.0 n.2;
    })

pub descriptor-found : (text : List ℕ) (y : Descriptor × List ℕ) → descriptor_at text ≡ Ok y → IsDescriptorRead text y
unfolding descriptor_at
descriptor-found text y e =
    chosen (after (codes "[") text) e (λ _ e.
    chosen (after (codes "(") text) e (λ _ e. is-plain text y e)
    (λ inside some q. is-enclosed suffix.Parameter 40 41 text inside y some q (λ word name n. parameter n)))
    (λ inside some q. is-enclosed suffix.TypeParameter 91 93 text inside y some q (λ word name n. type_parameter n))

ends : (b : ℕ) (rest : List ℕ) → is_identifier_character b ≡ false → eqb b 96 ≡ false → EndsName (b ∷ rest)
ends b rest p q = record { plain = p; single = q }

plain-exact : (word name sign rest : List ℕ) (s : Suffix) → SpellsName word name → EndsName (sign ++ rest)
    → suffix_at (sign ++ rest) ≡ Ok (s, rest)
    → descriptor_at (word ++ sign ++ rest) ≡ Ok (descriptor name s, rest)
unfolding descriptor_at
plain-exact word name sign rest s n e q =
    rw (
      append_assoc word sign rest,
      name-starts 91 word name (sign ++ rest) n refl refl,
      name-starts 40 word name (sign ++ rest) n refl refl,
      name-exact word name (sign ++ rest) n e,
      q,
    ) refl

enclosed-exact : (s : Suffix) (closing : ℕ) (word name rest : List ℕ) → SpellsName word name → EndsName (closing ∷ rest)
    → enclosed_at s (closing ∷ []) (word ++ (closing ∷ rest)) ≡ Ok (descriptor name s, rest)
unfolding enclosed_at
enclosed-exact s closing word name rest n e =
    rw (name-exact word name (closing ∷ rest) n e, expect-exact (closing ∷ []) rest) refl

bracketed-exact : (s : Suffix) (opening closing : ℕ) (word name rest : List ℕ) → SpellsName word name
    → EndsName (closing ∷ rest)
    → ((text : List ℕ) → descriptor_at (opening ∷ text) ≡ enclosed_at s (closing ∷ []) text)
    → descriptor_at ((opening ∷ word) ++ (closing ∷ []) ++ rest) ≡ Ok (descriptor name s, rest)
bracketed-exact s opening closing word name rest n e chooses =
    ap descriptor_at (append_assoc (opening ∷ word) (closing ∷ []) rest) ∙ chooses (word ++ (closing ∷ rest))
    ∙ enclosed-exact s closing word name rest n e

type_parameter-chosen : (text : List ℕ) → descriptor_at (91 ∷ text) ≡ enclosed_at suffix.TypeParameter (93 ∷ []) text
unfolding descriptor_at
type_parameter-chosen text = refl

parameter-chosen : (text : List ℕ) → descriptor_at (40 ∷ text) ≡ enclosed_at suffix.Parameter (41 ∷ []) text
unfolding descriptor_at
parameter-chosen text = refl

method-exact : (d rest : List ℕ) → list_all is_identifier_character d ≡ true
    → suffix_at (40 ∷ (d ++ (41 ∷ 46 ∷ rest))) ≡ Ok (suffix.Method d, rest)
unfolding suffix_at expect_at
method-exact d rest h = rw (disambiguator-exact d rest h) refl

pub descriptor-exact : (word : List ℕ) (d : Descriptor) → SpellsDescriptor word d → (rest : List ℕ)
    → descriptor_at (word ++ rest) ≡ Ok (d, rest)
unfolding suffix_at
descriptor-exact word d (namespace {word = w} {name = name} n) rest =
    plain-exact w name (47 ∷ []) rest suffix.Namespace n (ends 47 rest refl refl) refl
descriptor-exact word d (type_ {word = w} {name = name} n) rest =
    plain-exact w name (35 ∷ []) rest suffix.«Type» n (ends 35 rest refl refl) refl
descriptor-exact word d (term {word = w} {name = name} n) rest =
    plain-exact w name (46 ∷ []) rest suffix.Term n (ends 46 rest refl refl) refl
descriptor-exact word d (meta {word = w} {name = name} n) rest =
    plain-exact w name (58 ∷ []) rest suffix.Meta n (ends 58 rest refl refl) refl
descriptor-exact word d (macro {word = w} {name = name} n) rest =
    plain-exact w name (33 ∷ []) rest suffix.Macro n (ends 33 rest refl refl) refl
descriptor-exact word d (method {word = w} {name = name} {disambiguator = m} n h) rest =
    ap (λ l. descriptor_at (l ++ rest)) (method-sign w m)
    ∙ plain-exact w name (40 ∷ (m ++ (41 ∷ 46 ∷ []))) rest (suffix.Method m) n (ends 40 _ refl refl)
    (ap (λ l. suffix_at (40 ∷ l)) (append_assoc m (41 ∷ 46 ∷ []) rest) ∙ method-exact m rest h)
descriptor-exact word d (type_parameter {word = w} {name = name} n) rest =
    bracketed-exact suffix.TypeParameter 91 93 w name rest n (ends 93 rest refl refl) type_parameter-chosen
descriptor-exact word d (parameter {word = w} {name = name} n) rest =
    bracketed-exact suffix.Parameter 40 41 w name rest n (ends 41 rest refl refl) parameter-chosen

-- ---- one descriptor or more

behind-some : (word sign : List ℕ) → 0 < length sign → 0 < length (word ++ sign)
behind-some word sign h = omega (arith, length-append word sign)

pub descriptor-some : (word : List ℕ) (d : Descriptor) → SpellsDescriptor word d → 0 < length word
descriptor-some word d (namespace {word = w} n) = behind-some w _ (omega arith)
descriptor-some word d (type_ {word = w} n) = behind-some w _ (omega arith)
descriptor-some word d (term {word = w} n) = behind-some w _ (omega arith)
descriptor-some word d (meta {word = w} n) = behind-some w _ (omega arith)
descriptor-some word d (macro {word = w} n) = behind-some w _ (omega arith)
descriptor-some word d (method {word = w} {disambiguator = m} n h) = behind-some (w ++ codes "(" ++ m) _ (omega arith)
descriptor-some word d (type_parameter {word = w} n) = behind-some (codes "[" ++ w) _ (omega arith)
descriptor-some word d (parameter {word = w} n) = behind-some (codes "(" ++ w) _ (omega arith)

pub descriptor-falls : (text : List ℕ) (y : Descriptor × List ℕ) → descriptor_at text ≡ Ok y → length y.1 < length text
descriptor-falls text y e =
    let r = descriptor-found text y e in
    omega (arith, descriptor-some r.word y.0 r.spells, length-append r.word y.1, ap length r.split)

-- steps enough don't matter
enough : (n m : ℕ) (text : List ℕ) → length text < n → length text < m
    → descriptors_within n text ≡ descriptors_within m text
unfolding descriptors_within
enough zero m text p q = absurd (omega arith)
enough (suc n) zero text p q = absurd (omega arith)
enough (suc n) (suc m) text p q =
    elim (descriptor_at text) as (λ r. descriptor_at text ≡ r
    → (r >>= λ x. last_or_led x.0 x.1 (descriptors_within n x.1))
    ≡ (r >>= λ x. last_or_led x.0 x.1 (descriptors_within m x.1))) [
      | Ok x ↦ λ e. let falls = descriptor-falls text x e in
          ap (last_or_led x.0 x.1) (enough n m x.1 (omega arith) (omega arith))
      | Err left ↦ λ e. refl
    ] refl

steps : (n : ℕ) (text : List ℕ) → length text < n
    → descriptors_within n text ≡ (descriptor_at text >>= λ x. last_or_led x.0 x.1 (descriptors_at x.1))
unfolding descriptors_within descriptors_at
steps zero text p = absurd (omega arith)
steps (suc n) text p =
    elim (descriptor_at text) as (λ r. descriptor_at text ≡ r
    → (r >>= λ x. last_or_led x.0 x.1 (descriptors_within n x.1))
    ≡ (r >>= λ x. last_or_led x.0 x.1 (descriptors_within (length x.1 + 1) x.1))) [
      | Ok x ↦ λ e. let falls = descriptor-falls text x e in
          ap (last_or_led x.0 x.1) (enough n (length x.1 + 1) x.1 (omega arith) (omega arith))
      | Err left ↦ λ e. refl
    ] refl

pub descriptors-step : (text : List ℕ)
    → descriptors_at text ≡ (descriptor_at text >>= λ x. last_or_led x.0 x.1 (descriptors_at x.1))
unfolding descriptors_at
descriptors-step text = steps (length text + 1) text (omega arith)

led-ok : {P : Type 0} (d : Descriptor) (r : Read (List Descriptor)) (ds : List Descriptor) → led d r ≡ Ok ds
    → ((others : List Descriptor) → r ≡ Ok others → d ∷ others ≡ ds → P) → P
led-ok d (Ok others) ds e p = p others refl (same_ok _ refl e)
led-ok d (Err left) ds e p = absurd cc

pub led-err : {P : Type 0} (d : Descriptor) (r : Read (List Descriptor)) (left : ℕ) → led d r ≡ Err left
    → (r ≡ Err left → P) → P
led-err d (Ok others) left e p = absurd cc
led-err d (Err l) left e p = p (cc)

within-found : (n : ℕ) (text : List ℕ) (ds : List Descriptor) → descriptors_within n text ≡ Ok ds
    → SpellsDescriptors text ds
unfolding descriptors_within
within-found zero text ds e = absurd cc
within-found (suc n) text ds e =
    let a = bind_ok (descriptor_at text) (λ x. last_or_led x.0 x.1 (descriptors_within n x.1)) ds e in
    let r = descriptor-found text a.0 a.1 in
    elim a.0.1 as (λ rest. text ≡ r.word ++ rest → last_or_led a.0.0 rest (descriptors_within n rest) ≡ Ok ds
    → SpellsDescriptors text ds) [
      | [] ↦ λ split e.
          subst (λ l. SpellsDescriptors l ds) (sym (split ∙ append-nil r.word))
          (subst (λ l. SpellsDescriptors r.word l) (same_ok _ refl e) (last r.spells))
      | b ∷ rest ↦ λ split e. led-ok a.0.0 (descriptors_within n (b ∷ rest)) ds e (λ others q same.
          subst (λ l. SpellsDescriptors l ds) (sym split)
          (subst (λ l. SpellsDescriptors (r.word ++ (b ∷ rest)) l) same
          (more r.spells (within-found n (b ∷ rest) others q))))
    ] r.split a.2

pub descriptors-found : (text : List ℕ) (ds : List Descriptor) → descriptors_at text ≡ Ok ds → SpellsDescriptors text ds
unfolding descriptors_at
descriptors-found text ds e = within-found (length text + 1) text ds e

pub descriptors-some : (text : List ℕ) (ds : List Descriptor) → SpellsDescriptors text ds → 0 < length text
descriptors-some text ds (last {word = w} {d = d} p) = descriptor-some w d p
descriptors-some text ds (more {word = w} {words = ws} {d = d} p q) =
    omega (arith, descriptor-some w d p, length-append w ws)

led-others : (d : Descriptor) (rest : List ℕ) (others : List Descriptor) → 0 < length rest
    → last_or_led d rest (Ok others) ≡ Ok (d ∷ others)
led-others d [] others h = absurd (omega arith)
led-others d (b ∷ rest) others h = refl

pub descriptors-exact : (text : List ℕ) (ds : List Descriptor) → SpellsDescriptors text ds → descriptors_at text ≡ Ok ds
descriptors-exact text ds (last {word = w} {d = d} p) =
    descriptors-step w ∙ bind_of_ok (λ x. last_or_led x.0 x.1 (descriptors_at x.1))
    (ap descriptor_at (sym (append-nil w)) ∙ descriptor-exact w d p [])
descriptors-exact text ds (more {word = w} {words = ws} {d = d} {others = others} p q) =
    descriptors-step (w ++ ws)
    ∙ bind_of_ok (λ x. last_or_led x.0 x.1 (descriptors_at x.1)) (descriptor-exact w d p ws)
    ∙ ap (last_or_led d ws) (descriptors-exact ws others q)
    ∙ led-others d ws others (descriptors-some ws others q)

-- ---- the loop

-- so many read already
abbrev pub led-all : List Descriptor → Read (List Descriptor) → Read (List Descriptor)
led-all ds (Ok others) = Ok (ds ++ others)
led-all ds (Err left) = Err left

led-all-led : (ds : List Descriptor) (d : Descriptor) (r : Read (List Descriptor))
    → led-all ds (led d r) ≡ led-all (ds ++ d ∷ []) r
led-all-led ds d (Ok others) = ap (λ l. Ok l) (sym (append_assoc ds (d ∷ []) others))
led-all-led ds d (Err left) = refl

led-rest : (d : Descriptor) (rest : List ℕ) (r : Read (List Descriptor)) → (length rest ≡ 0 → ⊥)
    → last_or_led d rest r ≡ led d r
led-rest d [] r h = absurd (h refl)
led-rest d (b ∷ rest) r h = refl

led-end : (d : Descriptor) (rest : List ℕ) (r : Read (List Descriptor)) → length rest ≡ 0
    → last_or_led d rest r ≡ Ok (d ∷ [])
led-end d [] r h = refl
led-end d (b ∷ rest) r h = absurd (omega arith)

module _ (ds : List Descriptor) (rest : List ℕ) (whole : Read (List Descriptor))
    (kept : led-all ds (descriptors_at rest) ≡ whole) where
  pub loop-last : (x : Descriptor × List ℕ) → descriptor_at rest ≡ Ok x → length x.1 ≡ 0 → whole ≡ Ok (ds ++ x.0 ∷ [])
  loop-last x e h =
      sym kept ∙ ap (led-all ds)
      (descriptors-step rest ∙ bind_of_ok (λ x. last_or_led x.0 x.1 (descriptors_at x.1)) e
      ∙ led-end x.0 x.1 (descriptors_at x.1) h)

  pub loop-next : (x : Descriptor × List ℕ) → descriptor_at rest ≡ Ok x → (length x.1 ≡ 0 → ⊥)
      → led-all (ds ++ x.0 ∷ []) (descriptors_at x.1) ≡ whole
  loop-next x e h =
      sym (led-all-led ds x.0 (descriptors_at x.1))
      ∙ ap (led-all ds) (sym (descriptors-step rest ∙ bind_of_ok (λ x. last_or_led x.0 x.1 (descriptors_at x.1)) e
      ∙ led-rest x.0 x.1 (descriptors_at x.1) h))
      ∙ kept

  pub loop-stops : (fault : SymbolFault) → Stops fault (descriptor_at rest) → Stops fault whole
  loop-stops (BadSymbol left) e =
      sym kept ∙ ap (led-all ds) (descriptors-step rest ∙ bind_of_err (λ x. last_or_led x.0 x.1 (descriptors_at x.1)) e)
  loop-stops Memory e = tt
