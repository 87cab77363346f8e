-- Where the reader of symbols stops, what it has read begins a spelling.
use Rattle.std.proofs.Common.{◌≡◌, ◌≢◌, ℕ, suc, ◌<◌, ◌⊎◌, inl, inr, None, Ok, Err, List, [], ◌∷◌, ◌++◌}
use Rattle.std.proofs.Common.{codes, length, refl, ap, sym, ◌∙◌, subst, arith, append_assoc, append-nil}
use Rattle.std.proofs.lemmas.Str.{IsUtf8-append}
use Rattle.scip_symbol.specs.Names.{doubled}
use Rattle.scip_symbol.specs.SpellsSymbol.{SpellsScheme, scheme, SpellsPart, empty, simple}
use Rattle.scip_symbol.specs.SpellsSymbol.{descriptor, namespace}
use Rattle.scip_symbol.specs.SpellsSymbol.{SpellsDescriptors, last, SpellsSymbol, local, global}
use Rattle.scip_symbol.specs.Reading.{Read, ◌>>=◌, after, expect_at, simple_at}
use Rattle.scip_symbol.specs.Reading.{descriptors_at, spaced_at, part_of, part_at, global_at, local_of, local_at}
use Rattle.scip_symbol.specs.Reading.{symbol_at}
use Rattle.scip_symbol.specs.declared.symbol.Suffix.TheVariants as suffix
use Rattle.scip_symbol.specs.declared.symbol.Descriptor.{Descriptor}
use Rattle.scip_symbol.specs.declared.symbol.SymbolParts.{SymbolParts}
use Rattle.scip_symbol.specs.declared.symbol.SymbolParts.TheVariants.{Local, Global}
use Rattle.scip_symbol.proofs.ReadingTestLemmas.{bind_err, chosen}
use Rattle.basics.proofs.AsciiLemmas.{ascii}
use Rattle.scip_symbol.proofs.ReadingAfterLemmas.{after-some, expect-found, expect-err}
use Rattle.scip_symbol.proofs.NameDoubledLemmas.{doubled-append}
use Rattle.scip_symbol.proofs.ReadingUndoubledLemmas.{undoubled-open}
use Rattle.scip_symbol.proofs.NameLemmas.{simple-found}
use Rattle.scip_symbol.proofs.SymbolLemmas.{not-space, local-there, spells-some, spaced-found, part-found}
use Rattle.scip_symbol.proofs.SpellsBeginLemmas.{Begins, StopsIn, at-once, at-end, simple-stops, some-behind}
use Rattle.scip_symbol.proofs.SpellsBeginLemmas.{descriptors-begin}
use Rattle.proto_decl.proofs.LawAncestorLemmas.{heads, tails}

-- ---- schemes and parts

-- one that begins with a space stops there; another one is read to the end of the text
spaced-stops : (text : List ℕ) (left : ℕ) → spaced_at text ≡ Err left
    → (left ≡ length text) ⊎
    ((left ≡ 0) × ((word : List ℕ) × (text ≡ doubled 32 word) × ((rest : List ℕ) → word ≢ 32 ∷ rest)))
unfolding spaced_at
spaced-stops text left e =
    chosen (after (codes " ") text) e
    (λ none q.
    let o = undoubled-open 32 text left q in
    inr (o.0, (o.1.0, o.1.1, λ rest is. not-space text (32 ∷ doubled 32 rest) none (o.1.1 ∙ ap (doubled 32) is))))
    (λ _ _ q. inl (cc))

-- with one letter more a text is no space and no dot
no-less : (a b : ℕ) → a ≡ b → b < a → ⊥
no-less a b e h = omega arith

letter-behind : (word : List ℕ) → ((rest : List ℕ) → word ≢ 32 ∷ rest) → (rest : List ℕ) → word ++ 97 ∷ [] ≡ 32 ∷ rest
    → ⊥
letter-behind [] h rest e = no-less 97 32 (heads e) (omega arith)
letter-behind (b ∷ word) h rest e = h word (ap (λ c. c ∷ word) (heads e))

no-dot-behind : (word : List ℕ) → word ++ 97 ∷ [] ≡ 46 ∷ [] → ⊥
no-dot-behind [] e = no-less 97 46 (heads e) (omega arith)
no-dot-behind (b ∷ word) e = some-behind word 97 (tails e)

part-open : (text word : List ℕ) → text ≡ doubled 32 word → ((rest : List ℕ) → word ≢ 32 ∷ rest)
    → Begins SpellsPart text
part-open text word e h =
    let same : doubled 32 (word ++ codes "a") ≡ text ++ codes "a" =
    doubled-append 32 word (codes "a") ∙ ap (λ l. l ++ codes "a") (sym e) in
    record {
      behind = codes "a";
      is_text = ascii (codes "a") refl;
      value = word ++ codes "a";
      spelled = subst (λ l. SpellsPart l (word ++ codes "a")) same
          (spells-some (word ++ codes "a") (some-behind word 97)
          (record { no_space_first = letter-behind word h; no_dot = no-dot-behind word }));
    }

one-dot : Begins SpellsPart []
one-dot = record { behind = codes "."; is_text = ascii (codes ".") refl; value = []; spelled = empty }

part-begins : (text : List ℕ) (left : ℕ) → part_at text ≡ Err left → StopsIn SpellsPart text left
unfolding part_at
part-begins text left e =
    bind_err (spaced_at text) (λ x. Ok (part_of x.0, x.1)) left e
    (λ q. elim (spaced-stops text left q) [
      | inl count ↦ at-once SpellsPart text left count one-dot
      | inr o ↦ at-end SpellsPart text left o.0 (part-open text o.1.0 o.1.1 o.1.2)
    ])
    (λ _ _ q. absurd cc)

one-scheme : Begins SpellsScheme []
one-scheme = record {
  behind = codes "a";
  is_text = ascii (codes "a") refl;
  value = codes "a";
  spelled = scheme (record { some = λ e. cc; no_space_first = λ r e. cc; not_local = λ r e. cc });
}

scheme-open : (text word : List ℕ) → after (codes "local") text ≡ None → text ≡ doubled 32 word
    → ((rest : List ℕ) → word ≢ 32 ∷ rest) → Begins SpellsScheme text
scheme-open text [] none e h = subst (Begins SpellsScheme) (sym e) one-scheme
scheme-open text (b ∷ word) none e h = record {
  behind = [];
  is_text = ascii [] refl;
  value = b ∷ word;
  spelled = subst (λ l. SpellsScheme l (b ∷ word)) (sym e ∙ sym (append-nil text)) (scheme (record {
    some = λ e. cc;
    no_space_first = h;
    not_local = λ rest is. local-there text (doubled 32 rest) none (e ∙ ap (doubled 32) is);
  }));
}

scheme-begins : (text : List ℕ) (left : ℕ) → after (codes "local") text ≡ None → spaced_at text ≡ Err left
    → StopsIn SpellsScheme text left
scheme-begins text left none e = elim (spaced-stops text left e) [
  | inl count ↦ at-once SpellsScheme text left count one-scheme
  | inr o ↦ at-end SpellsScheme text left o.0 (scheme-open text o.1.0 none o.1.1 o.1.2)
]

-- ---- symbols

-- what stands before the descriptors, the version, the name and the manager
abbrev BeforeDescriptors : List ℕ → Type 0
BeforeDescriptors p = (text : List ℕ) (ds : List Descriptor) → SpellsDescriptors text ds
    → (s : SymbolParts) × SpellsSymbol (p ++ text) s

abbrev BeforeVersion : List ℕ → Type 0
BeforeVersion p = (word part : List ℕ) → SpellsPart word part → BeforeDescriptors (p ++ (word ++ codes " "))

abbrev BeforeName : List ℕ → Type 0
BeforeName p = (word part : List ℕ) → SpellsPart word part → BeforeVersion (p ++ (word ++ codes " "))

abbrev BeforeManager : List ℕ → Type 0
BeforeManager p = (word part : List ℕ) → SpellsPart word part → BeforeName (p ++ (word ++ codes " "))

grouped : (s m n v ds : List ℕ) → s ++ codes " " ++ m ++ codes " " ++ n ++ codes " " ++ v ++ codes " " ++ ds
    ≡ (((s ++ codes " ") ++ (m ++ codes " ")) ++ (n ++ codes " ")) ++ (v ++ codes " ") ++ ds
grouped s m n v ds = simp append_assoc

behind-scheme : (sc s : List ℕ) → SpellsScheme sc s → BeforeManager (sc ++ codes " ")
behind-scheme sc s of_s m manager of_m n name of_n v version of_v ds descriptors of_ds = (
  Global (record { scheme = s; manager = manager; name = name; version = version; descriptors = descriptors }),
  subst (λ l. SpellsSymbol l
      (Global (record { scheme = s; manager = manager; name = name; version = version; descriptors = descriptors })))
      (grouped sc m n v ds) (global of_s of_m of_n of_v of_ds),
)

no-more : (p : List ℕ) → Begins SpellsSymbol (p ++ []) → Begins SpellsSymbol p
no-more p b = subst (Begins SpellsSymbol) (append-nil p) b

in-descriptors : (p front : List ℕ) → BeforeDescriptors p → Begins SpellsDescriptors front
    → Begins SpellsSymbol (p ++ front)
in-descriptors p front before b =
    let s = before (front ++ b.behind) b.value b.spelled in
    record {
      behind = b.behind;
      is_text = b.is_text;
      value = s.0;
      spelled = subst (λ l. SpellsSymbol l s.0) (sym (append_assoc p front b.behind)) s.1;
    }

gathered : (p front b n : List ℕ) → (p ++ ((front ++ b) ++ codes " ")) ++ n ≡ (p ++ front) ++ (b ++ (32 ∷ n))
gathered p front b n = simp append_assoc

-- a part that begins, of which whatever it becomes may be gone on from
in-part : {A : Type 0} (Spells : List ℕ → A → Type 0) (p front : List ℕ) → Begins Spells front
    → ((word : List ℕ) (x : A) → Spells word x → Begins SpellsSymbol (p ++ (word ++ codes " ")))
    → Begins SpellsSymbol (p ++ front)
in-part Spells p front b next =
    let n = next (front ++ b.behind) b.value b.spelled in
    record {
      behind = b.behind ++ (32 ∷ n.behind);
      is_text = IsUtf8-append b.behind (32 ∷ n.behind) b.is_text
          (IsUtf8-append (codes " ") n.behind (ascii (codes " ") refl) n.is_text);
      value = n.value;
      spelled = subst (λ l. SpellsSymbol l n.value) (gathered p front b.behind n.behind) n.spelled;
    }

one-descriptor : Begins SpellsDescriptors []
one-descriptor = record {
  behind = codes "a/";
  is_text = ascii (codes "a/") refl;
  value = descriptor (codes "a") suffix.Namespace ∷ [];
  spelled = last (namespace (simple refl));
}

to-descriptors : (p : List ℕ) → BeforeDescriptors p → Begins SpellsSymbol p
to-descriptors p before = no-more p (in-descriptors p [] before one-descriptor)

to-version : (p : List ℕ) → BeforeVersion p → Begins SpellsSymbol p
to-version p before = no-more p
    (in-part SpellsPart p [] one-dot (λ word x is. to-descriptors (p ++ (word ++ codes " ")) (before word x is)))

to-name : (p : List ℕ) → BeforeName p → Begins SpellsSymbol p
to-name p before = no-more p
    (in-part SpellsPart p [] one-dot (λ word x is. to-version (p ++ (word ++ codes " ")) (before word x is)))

to-manager : (p : List ℕ) → BeforeManager p → Begins SpellsSymbol p
to-manager p before = no-more p
    (in-part SpellsPart p [] one-dot (λ word x is. to-name (p ++ (word ++ codes " ")) (before word x is)))

spaced-over : (p word rest : List ℕ) → p ++ (word ++ (32 ∷ rest)) ≡ (p ++ (word ++ codes " ")) ++ rest
spaced-over p word rest = simp append_assoc

-- a part: it stops there, or further on
module _ {B : Type 0} (Before : List ℕ → Type 0) (to : (p : List ℕ) → Before p → Begins SpellsSymbol p) where
  in-stage : (g : List ℕ × List ℕ → Read B) (p text behind : List ℕ) (left : ℕ) → text ≡ p ++ behind
      → ((word part : List ℕ) → SpellsPart word part → Before (p ++ (word ++ codes " ")))
      → (part_at behind >>= g) ≡ Err left
      → ((q : List ℕ) (x : List ℕ × List ℕ) → text ≡ q ++ x.1 → Before q → g x ≡ Err left
      → StopsIn SpellsSymbol text left)
      → StopsIn SpellsSymbol text left
  in-stage g p text behind left split before e further =
      bind_err (part_at behind) g left e
      (λ q.
      let s = part-begins behind left q in
      record {
        front = p ++ s.front;
        rest = s.rest;
        split = split ∙ ap (λ l. p ++ l) s.split ∙ sym (append_assoc p s.front s.rest);
        count = s.count;
        begins = in-part SpellsPart p s.front s.begins (λ word x is. to (p ++ (word ++ codes " ")) (before word x is));
      })
      (λ x is q.
      let m = part-found behind x is in
      further (p ++ (m.word ++ codes " ")) x (split ∙ ap (λ l. p ++ l) m.split ∙ spaced-over p m.word x.1)
      (before m.word x.0 m.spells) q)

descriptors-stage : {B : Type 0} (g : List Descriptor → B) (p text behind : List ℕ) (left : ℕ) → text ≡ p ++ behind
    → BeforeDescriptors p
    → (descriptors_at behind >>= λ ds. Ok (g ds)) ≡ Err left → StopsIn SpellsSymbol text left
descriptors-stage g p text behind left split before e =
    bind_err (descriptors_at behind) (λ ds. Ok (g ds)) left e
    (λ q.
    let s = descriptors-begin (suc (length behind)) behind left (omega arith) q in
    record {
      front = p ++ s.front;
      rest = s.rest;
      split = split ∙ ap (λ l. p ++ l) s.split ∙ sym (append_assoc p s.front s.rest);
      count = s.count;
      begins = in-descriptors p s.front before s.begins;
    })
    (λ _ _ q. absurd cc)

global-begins : (text : List ℕ) (left : ℕ) → after (codes "local") text ≡ None → global_at text ≡ Err left
    → StopsIn SpellsSymbol text left
unfolding global_at
global-begins text left none e =
    bind_err (spaced_at text) _ left e
    (λ q.
    let s = scheme-begins text left none q in
    record {
      front = s.front;
      rest = s.rest;
      split = s.split;
      count = s.count;
      begins = in-part SpellsScheme [] s.front s.begins
          (λ sc x is. to-manager (sc ++ codes " ") (behind-scheme sc x is));
    })
    (λ s is q.
    let f = spaced-found text s is in
    let of_s = scheme (record {
      some = f.some;
      no_space_first = f.no_space_first;
      not_local = λ rest is. local-there text (doubled 32 rest ++ (32 ∷ s.1)) none
          (f.split ∙ ap (λ w. doubled 32 w ++ (32 ∷ s.1)) is);
    }) in
    in-stage BeforeName to-name _ (doubled 32 s.0 ++ codes " ") text s.1 left
    (f.split ∙ sym (append_assoc (doubled 32 s.0) (codes " ") s.1)) (behind-scheme (doubled 32 s.0) s.0 of_s) q
    (λ p m split before q.
    in-stage BeforeVersion to-version _ p text m.1 left split before q (λ p n split before q.
    in-stage BeforeDescriptors to-descriptors _ p text n.1 left split before q (λ p v split before q.
    descriptors-stage _ p text v.1 left split before q))))

local-name-begins : (text : List ℕ) (x : List ℕ × List ℕ) (left : ℕ) → text ≡ codes "local " ++ (x.0 ++ x.1)
    → SpellsSymbol (codes "local " ++ x.0) (Local x.0)
    → local_of x ≡ Err left → StopsIn SpellsSymbol text left
local-name-begins text (name, []) left e is q = absurd cc
local-name-begins text (name, b ∷ rest) left e is q = record {
  front = codes "local " ++ name;
  rest = b ∷ rest;
  split = e;
  count = cc;
  begins = record {
    behind = [];
    is_text = ascii [] refl;
    value = Local name;
    spelled = subst (λ l. SpellsSymbol l (Local name)) (sym (append-nil (codes "local " ++ name))) is;
  };
}

local-begins : (text rest : List ℕ) (left : ℕ) → text ≡ codes "local" ++ rest → local_at rest ≡ Err left
    → StopsIn SpellsSymbol text left
unfolding local_at
local-begins text rest left split e =
    bind_err (expect_at (codes " ") rest) (λ rest. simple_at rest >>= local_of) left e
    (λ q. record {
      front = codes "local";
      rest = rest;
      split = split;
      count = expect-err 32 rest left q;
      begins = record {
        behind = codes " a";
        is_text = ascii (codes " a") refl;
        value = Local (codes "a");
        spelled = local {name = codes "a"} refl;
      };
    })
    (λ r is q.
    let opened : text ≡ codes "local " ++ r =
    split ∙ ap (λ l. codes "local" ++ l) (expect-found (codes " ") rest r is) in
    bind_err (simple_at r) local_of left q
    (λ w. record {
      front = codes "local ";
      rest = r;
      split = opened;
      count = simple-stops r left w;
      begins = record {
        behind = codes "a";
        is_text = ascii (codes "a") refl;
        value = Local (codes "a");
        spelled = local {name = codes "a"} refl;
      };
    })
    (λ x found w.
    let s = simple-found r x found in
    local-name-begins text x left (opened ∙ ap (λ l. codes "local " ++ l) s.0) (local s.1) w))

pub symbol-begins : (text : List ℕ) (left : ℕ) → symbol_at text ≡ Err left → StopsIn SpellsSymbol text left
unfolding symbol_at
symbol-begins text left e =
    chosen (after (codes "local") text) e (λ none q. global-begins text left none q)
    (λ rest some q. local-begins text rest left (after-some (codes "local") text rest some) q)
