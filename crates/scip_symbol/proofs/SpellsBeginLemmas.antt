-- Where the reader of descriptors stops, what it has read begins a spelling.
use Rattle.std.proofs.Common.{◌≡◌, ◌≢◌, ℕ, zero, suc, ◌<◌, false, Ok, Err, List, [], ◌∷◌, ◌++◌}
use Rattle.std.proofs.Common.{codes, length, refl, ap, sym, ◌∙◌, subst, arith, append_assoc, append-nil}
use Rattle.std.specs.Prelude.{IsUtf8}
use Rattle.std.proofs.lemmas.Str.{IsUtf8-append}
use Rattle.scip_symbol.specs.Names.{doubled}
use Rattle.scip_symbol.specs.SpellsSymbol.{SpellsName, simple, quoted}
use Rattle.scip_symbol.specs.SpellsSymbol.{descriptor, SpellsDescriptor, namespace, method, type_parameter, parameter}
use Rattle.scip_symbol.specs.SpellsSymbol.{SpellsDescriptors, last, more}
use Rattle.scip_symbol.specs.Reading.{Front, ◌>>=◌, after, expect_at, undoubled_at, run_at, some_at, simple_at}
use Rattle.scip_symbol.specs.Reading.{name_at, disambiguator_at, suffix_at, enclosed_at, descriptor_at, last_or_led}
use Rattle.scip_symbol.specs.Reading.{descriptors_at}
use Rattle.scip_symbol.specs.declared.symbol.Suffix.{Suffix}
use Rattle.scip_symbol.specs.declared.symbol.Suffix.TheVariants as suffix
use Rattle.scip_symbol.specs.declared.symbol.Descriptor.{Descriptor}
use Rattle.scip_symbol.proofs.ReadingTestLemmas.{bind_err, chosen}
use Rattle.basics.proofs.AsciiLemmas.{ascii}
use Rattle.scip_symbol.proofs.ReadingAfterLemmas.{after-some, expect-found, expect-err}
use Rattle.scip_symbol.proofs.NameDoubledLemmas.{doubled-append}
use Rattle.scip_symbol.proofs.ReadingUndoubledLemmas.{undoubled-found, undoubled-open}
use Rattle.scip_symbol.proofs.NameLemmas.{run-found, name-found}
use Rattle.scip_symbol.proofs.ReadingDescriptorLemmas.{method-sign, descriptor-found, descriptor-falls}
use Rattle.scip_symbol.proofs.ReadingDescriptorLemmas.{descriptors-step}
use Rattle.scip_symbol.proofs.ReadingDescriptorLemmas.{led-err}

-- some text behind it makes it a spelling
pub record Begins {A : Type 0} (Spells : List ℕ → A → Type 0) (front : List ℕ) : Type 0 where
  pub behind : List ℕ
  pub is_text : IsUtf8 behind
  pub value : A
  pub spelled : Spells (front ++ behind) value

-- what stands before so many bytes begins a spelling
pub record StopsIn {A : Type 0} (Spells : List ℕ → A → Type 0) (text : List ℕ) (left : ℕ) : Type 0 where
  pub front : List ℕ
  pub rest : List ℕ
  pub split : text ≡ front ++ rest
  pub count : left ≡ length rest
  pub begins : Begins Spells front

pub at-once : {A : Type 0} (Spells : List ℕ → A → Type 0) (text : List ℕ) (left : ℕ) → left ≡ length text
    → Begins Spells [] → StopsIn Spells text left
at-once Spells text left count b = record { front = []; rest = text; split = refl; count = count; begins = b }

pub at-end : {A : Type 0} (Spells : List ℕ → A → Type 0) (text : List ℕ) (left : ℕ) → left ≡ 0 → Begins Spells text
    → StopsIn Spells text left
at-end Spells text left count b =
    record { front = text; rest = []; split = sym (append-nil text); count = count; begins = b }

-- ---- names

no-run : (x : List ℕ × List ℕ) (left : ℕ) → some_at x ≡ Err left → (x.0 ≡ []) × (left ≡ length x.1)
no-run ([], rest) left e = (refl, cc)
no-run (b ∷ word, rest) left e = absurd cc

pub simple-stops : (text : List ℕ) (left : ℕ) → simple_at text ≡ Err left → left ≡ length text
unfolding simple_at
simple-stops text left e =
    let n = no-run (run_at text) left e in
    n.1 ∙ ap length (sym ((run-found text).0 ∙ ap (λ l. l ++ (run_at text).1) n.0))

one-letter : Begins SpellsName []
one-letter = record { behind = codes "a"; is_text = ascii (codes "a") refl; value = codes "a"; spelled = simple refl }

-- with one letter more a text isn't empty
pub some-behind : (word : List ℕ) (c : ℕ) → word ++ c ∷ [] ≢ []
some-behind [] c = λ e. cc
some-behind (b ∷ word) c = λ e. cc

-- one letter more, and the closing backtick
open-quote : (inside word : List ℕ) → inside ≡ doubled 96 word → Begins SpellsName (96 ∷ inside)
open-quote inside word e =
    let same : (96 ∷ doubled 96 (word ++ codes "a")) ++ codes "`" ≡ (96 ∷ inside) ++ codes "a`" =
    ap (λ l. 96 ∷ (l ++ codes "`")) (doubled-append 96 word (codes "a"))
    ∙ ap (λ l. 96 ∷ l) (append_assoc (doubled 96 word) (codes "a") (codes "`"))
    ∙ ap (λ l. 96 ∷ (l ++ codes "a`")) (sym e) in
    record {
      behind = codes "a`";
      is_text = ascii (codes "a`") refl;
      value = word ++ codes "a";
      spelled = subst (λ l. SpellsName l (word ++ codes "a")) same (quoted (some-behind word 97));
    }

quoted-begins : (text inside : List ℕ) (left : ℕ) → text ≡ 96 ∷ inside
    → (undoubled_at 96 false inside >>= some_at) ≡ Err left → StopsIn SpellsName text left
quoted-begins text inside left opened e =
    bind_err (undoubled_at 96 false inside) some_at left e
    (λ q.
    let o = undoubled-open 96 inside left q in
    at-end SpellsName text left o.0 (subst (Begins SpellsName) (sym opened) (open-quote inside o.1.0 o.1.1)))
    (λ x is q.
    let n = no-run x left q in
    let u = undoubled-found 96 inside x is in
    record {
      front = codes "``";
      rest = x.1;
      split = opened ∙ ap (λ l. 96 ∷ l) (u.0 ∙ ap (λ w. doubled 96 w ++ (96 ∷ x.1)) n.0);
      count = n.1;
      begins = record {
        behind = codes "``";
        is_text = ascii (codes "``") refl;
        value = codes "`";
        spelled = quoted (λ e. cc);
      };
    })

name-begins : (text : List ℕ) (left : ℕ) → name_at text ≡ Err left → StopsIn SpellsName text left
unfolding name_at
name-begins text left e =
    chosen (after (codes "`") text) e
    (λ _ q. at-once SpellsName text left (simple-stops text left q) one-letter)
    (λ inside some q. quoted-begins text inside left (after-some (codes "`") text inside some) q)

-- ---- suffixes

-- behind any name
record SuffixStops (text : List ℕ) (left : ℕ) : Type 0 where
  front : List ℕ
  rest : List ℕ
  split : text ≡ front ++ rest
  count : left ≡ length rest
  behind : List ℕ
  is_text : IsUtf8 behind
  suffix : Suffix
  spelled : (word name : List ℕ) → SpellsName word name
      → SpellsDescriptor (word ++ (front ++ behind)) (descriptor name suffix)

disambiguator-begins : (text inside : List ℕ) (left : ℕ) → text ≡ 40 ∷ inside → disambiguator_at inside ≡ Err left
    → SuffixStops text left
unfolding disambiguator_at
disambiguator-begins text inside left opened e =
    let run = run-found inside in
    let d = (run_at inside).0 in
    bind_err (expect_at (codes ")") (run_at inside).1)
    (λ rest. expect_at (codes ".") rest >>= λ behind. Ok (d, behind)) left e
    (λ q. record {
      front = 40 ∷ d;
      rest = (run_at inside).1;
      split = opened ∙ ap (λ l. 40 ∷ l) run.0;
      count = expect-err 41 (run_at inside).1 left q;
      behind = codes ").";
      is_text = ascii (codes ").") refl;
      suffix = suffix.Method d;
      spelled = λ word name n. subst (λ l. SpellsDescriptor l (descriptor name (suffix.Method d))) (method-sign word d)
          (method n run.1);
    })
    (λ rest is q. bind_err (expect_at (codes ".") rest) (λ behind. Ok (d, behind)) left q
    (λ r. record {
      front = 40 ∷ (d ++ codes ")");
      rest = rest;
      split = opened ∙ ap (λ l. 40 ∷ l)
          (run.0 ∙ ap (λ l. d ++ l) (expect-found (codes ")") (run_at inside).1 rest is)
          ∙ sym (append_assoc d (codes ")") rest));
      count = expect-err 46 rest left r;
      behind = codes ".";
      is_text = ascii (codes ".") refl;
      suffix = suffix.Method d;
      spelled = λ word name n. subst (λ l. SpellsDescriptor l (descriptor name (suffix.Method d)))
          (method-sign word d ∙ ap (λ l. word ++ (40 ∷ l)) (sym (append_assoc d (codes ")") (codes "."))))
          (method n run.1);
    })
    (λ _ _ r. absurd cc))

abbrev method_at : List ℕ → Front Suffix
method_at text = expect_at (codes "(") text >>= λ rest. disambiguator_at rest >>= λ x. Ok (suffix.Method x.0, x.1)

method-begins : (text : List ℕ) (left : ℕ) → method_at text ≡ Err left → SuffixStops text left
method-begins text left e =
    bind_err (expect_at (codes "(") text) _ left e
    (λ q. record {
      front = [];
      rest = text;
      split = refl;
      count = expect-err 40 text left q;
      behind = codes "/";
      is_text = ascii (codes "/") refl;
      suffix = suffix.Namespace;
      spelled = λ word name n. namespace n;
    })
    (λ inside is q. bind_err (disambiguator_at inside) _ left q
    (λ r. disambiguator-begins text inside left (expect-found (codes "(") text inside is) r)
    (λ _ _ r. absurd cc))

suffix-begins : (text : List ℕ) (left : ℕ) → suffix_at text ≡ Err left → SuffixStops text left
unfolding suffix_at
suffix-begins text left e =
    chosen (after (codes "/") text) e (λ _ e.
    chosen (after (codes "#") text) e (λ _ e.
    chosen (after (codes ".") text) e (λ _ e.
    chosen (after (codes ":") text) e (λ _ e.
    chosen (after (codes "!") text) e (λ _ e. method-begins text left e)
    (λ _ _ q. absurd cc))
    (λ _ _ q. absurd cc))
    (λ _ _ q. absurd cc))
    (λ _ _ q. absurd cc))
    (λ _ _ q. absurd cc)

-- ---- descriptors

enclosed-begins : (s : Suffix) (opening closing : ℕ) (text inside : List ℕ) (left : ℕ) → text ≡ opening ∷ inside
    → IsUtf8 (closing ∷ []) → enclosed_at s (closing ∷ []) inside ≡ Err left
    → ((word name : List ℕ) → SpellsName word name
    → SpellsDescriptor ((opening ∷ word) ++ (closing ∷ [])) (descriptor name s)) → StopsIn SpellsDescriptor text left
unfolding enclosed_at
enclosed-begins s opening closing text inside left opened closing_is e spells =
    bind_err (name_at inside) (λ x. expect_at (closing ∷ []) x.1 >>= λ rest. Ok (descriptor x.0 s, rest)) left e
    (λ q.
    let n = name-begins inside left q in
    let b = n.begins in
    record {
      front = opening ∷ n.front;
      rest = n.rest;
      split = opened ∙ ap (λ l. opening ∷ l) n.split;
      count = n.count;
      begins = record {
        behind = b.behind ++ (closing ∷ []);
        is_text = IsUtf8-append b.behind (closing ∷ []) b.is_text closing_is;
        value = descriptor b.value s;
        spelled = subst (λ l. SpellsDescriptor l (descriptor b.value s))
            (append_assoc (opening ∷ n.front) b.behind (closing ∷ [])) (spells (n.front ++ b.behind) b.value b.spelled);
      };
    })
    (λ x is q.
    let n = name-found inside x is in
    bind_err (expect_at (closing ∷ []) x.1) (λ rest. Ok (descriptor x.0 s, rest)) left q
    (λ r. record {
      front = opening ∷ n.0;
      rest = x.1;
      split = opened ∙ ap (λ l. opening ∷ l) n.1;
      count = expect-err closing x.1 left r;
      begins = record {
        behind = closing ∷ [];
        is_text = closing_is;
        value = descriptor x.0 s;
        spelled = spells n.0 x.0 n.2;
      };
    })
    (λ _ _ r. absurd cc))

abbrev plain_at : List ℕ → Front Descriptor
plain_at text = name_at text >>= λ x. suffix_at x.1 >>= λ y. Ok (descriptor x.0 y.0, y.1)

plain-begins : (text : List ℕ) (left : ℕ) → plain_at text ≡ Err left → StopsIn SpellsDescriptor text left
plain-begins text left e =
    bind_err (name_at text) _ left e
    (λ q.
    let n = name-begins text left q in
    let b = n.begins in
    record {
      front = n.front;
      rest = n.rest;
      split = n.split;
      count = n.count;
      begins = record {
        behind = b.behind ++ codes "/";
        is_text = IsUtf8-append b.behind (codes "/") b.is_text (ascii (codes "/") refl);
        value = descriptor b.value suffix.Namespace;
        spelled = subst (λ l. SpellsDescriptor l (descriptor b.value suffix.Namespace))
            (append_assoc n.front b.behind (codes "/")) (namespace b.spelled);
      };
    })
    (λ x is q.
    let n = name-found text x is in
    bind_err (suffix_at x.1) _ left q
    (λ r.
    let s = suffix-begins x.1 left r in
    record {
      front = n.0 ++ s.front;
      rest = s.rest;
      split = n.1 ∙ ap (λ l. n.0 ++ l) s.split ∙ sym (append_assoc n.0 s.front s.rest);
      count = s.count;
      begins = record {
        behind = s.behind;
        is_text = s.is_text;
        value = descriptor x.0 s.suffix;
        spelled = subst (λ l. SpellsDescriptor l (descriptor x.0 s.suffix)) (sym (append_assoc n.0 s.front s.behind))
            (s.spelled n.0 x.0 n.2);
      };
    })
    (λ _ _ r. absurd cc))

descriptor-begins : (text : List ℕ) (left : ℕ) → descriptor_at text ≡ Err left → StopsIn SpellsDescriptor text left
unfolding descriptor_at
descriptor-begins text left e =
    chosen (after (codes "[") text) e (λ _ e.
    chosen (after (codes "(") text) e (λ _ e. plain-begins text left e)
    (λ inside some q. enclosed-begins suffix.Parameter 40 41 text inside left
    (after-some (codes "(") text inside some) (ascii (codes ")") refl) q (λ word name n. parameter n)))
    (λ inside some q. enclosed-begins suffix.TypeParameter 91 93 text inside left
    (after-some (codes "[") text inside some) (ascii (codes "]") refl) q (λ word name n. type_parameter n))

others-begin : (text : List ℕ) (left : ℕ) (x : Descriptor × List ℕ) → descriptor_at text ≡ Ok x
    → last_or_led x.0 x.1 (descriptors_at x.1) ≡ Err left
    → (descriptors_at x.1 ≡ Err left → StopsIn SpellsDescriptors x.1 left) → StopsIn SpellsDescriptors text left
others-begin text left (d, []) is e further = absurd cc
others-begin text left (d, c ∷ r) is e further = led-err d (descriptors_at (c ∷ r)) left e (λ q.
    let o = further q in
    let b = o.begins in
    let w = descriptor-found text (d, c ∷ r) is in
    record {
      front = w.word ++ o.front;
      rest = o.rest;
      split = w.split ∙ ap (λ l. w.word ++ l) o.split ∙ sym (append_assoc w.word o.front o.rest);
      count = o.count;
      begins = record {
        behind = b.behind;
        is_text = b.is_text;
        value = d ∷ b.value;
        spelled = subst (λ l. SpellsDescriptors l (d ∷ b.value)) (sym (append_assoc w.word o.front b.behind))
            (more w.spells b.spelled);
      };
    })

pub descriptors-begin : (n : ℕ) (text : List ℕ) (left : ℕ) → length text < n → descriptors_at text ≡ Err left
    → StopsIn SpellsDescriptors text left
descriptors-begin zero text left below e = absurd (omega arith)
descriptors-begin (suc n) text left below e =
    bind_err (descriptor_at text) (λ x. last_or_led x.0 x.1 (descriptors_at x.1)) left (sym (descriptors-step text) ∙ e)
    (λ q.
    let s = descriptor-begins text left q in
    let b = s.begins in
    record {
      front = s.front;
      rest = s.rest;
      split = s.split;
      count = s.count;
      begins = record { behind = b.behind; is_text = b.is_text; value = b.value ∷ []; spelled = last b.spelled };
    })
    (λ x is q. others-begin text left x is q
    (λ r. descriptors-begin n x.1 left (omega (arith, descriptor-falls text x is)) r))
