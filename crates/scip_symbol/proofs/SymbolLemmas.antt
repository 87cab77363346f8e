-- Symbols: what is read is spelled, and what is spelled is read.
use Rattle.std.proofs.Common.{◌≡◌, ◌≢◌, ℕ, true, false, not, cond, eqb, None, Ok, Err, List, [], ◌∷◌, ◌++◌, codes}
use Rattle.std.proofs.Common.{length, refl, ap, sym, ◌∙◌, subst, append_assoc, append-nil}
use Rattle.std.specs.Str.{bytes_eq}
use Rattle.std.proofs.lemmas.Slice.Eq.{bytes_eq-Decides}
use Rattle.std.specs.List.{list_all}
use Rattle.std.proofs.lemmas.Bool.{cond-false}
use Rattle.proto_lex.specs.Bytes.{starts}
use Rattle.proto_lex.proofs.ReadingTestLemmas.{both}
use Rattle.scip_symbol.specs.Names.{is_identifier_character, doubled}
use Rattle.scip_symbol.specs.Parts.{IsScheme, IsPart}
use Rattle.scip_symbol.specs.SpellsSymbol.{SpellsScheme, scheme, SpellsPart, empty, part, SpellsName, simple, quoted}
use Rattle.scip_symbol.specs.SpellsSymbol.{SpellsDescriptor, namespace, type_, term, meta, macro, method}
use Rattle.scip_symbol.specs.SpellsSymbol.{type_parameter, parameter, SpellsDescriptors, last, more, SpellsSymbol}
use Rattle.scip_symbol.specs.SpellsSymbol.{local, global}
use Rattle.scip_symbol.specs.Reading.{◌>>=◌, after, expect_at, undoubled_at, simple_at, spaced_at, part_of, part_at}
use Rattle.scip_symbol.specs.Reading.{descriptors_at, global_at, local_of, local_at, symbol_at}
use Rattle.scip_symbol.specs.declared.symbol.GlobalSymbol.{GlobalSymbol}
use Rattle.scip_symbol.specs.declared.symbol.SymbolParts.{SymbolParts}
use Rattle.scip_symbol.specs.declared.symbol.SymbolParts.TheVariants.{Global}
use Rattle.scip_symbol.proofs.ReadingTestLemmas.{bind_ok, bind_of_ok, chosen, choose_none, same_ok, ne-test}
use Rattle.scip_symbol.proofs.ReadingAfterLemmas.{eqb-same, after-some, after-none, after-front, expect-found}
use Rattle.scip_symbol.proofs.NameDoubledLemmas.{other, mark}
use Rattle.scip_symbol.proofs.ReadingUndoubledLemmas.{undoubled-found, undoubled-exact}
use Rattle.scip_symbol.proofs.NameLemmas.{simple-found, simple-exact}
use Rattle.scip_symbol.proofs.ReadingDescriptorLemmas.{descriptors-found, descriptors-exact}

-- ---- the front of a doubled text

not-same : (c : ℕ) → 32 ≡ c → not (eqb 32 c) ≡ true → ⊥
not-same c e t = let u : not (eqb c c) ≡ true = subst (λ x. not (eqb x c) ≡ true) e t in let v = eqb-same c in
    let w : not true ≡ true = subst (λ x. not x ≡ true) v u in cc

-- a front of a doubled text without spaces is a front of the text
front-of : (word text behind rest : List ℕ) → list_all (λ c. not (eqb 32 c)) word ≡ true
    → doubled 32 text ++ (32 ∷ behind) ≡ word ++ rest
    → (more : List ℕ) × (text ≡ word ++ more)
front-of [] text behind rest h e = (text, refl)
front-of (c ∷ word) [] behind rest h e =
    both (not (eqb 32 c)) _ h (λ t _. let same : 32 ≡ c = cc in absurd (not-same c same t))
front-of (c ∷ word) (b ∷ text) behind rest h e =
    both (not (eqb 32 c)) _ h (λ t ts.
    elim (eqb b 32) as (λ r. eqb b 32 ≡ r → (more : List ℕ) × (b ∷ text ≡ (c ∷ word) ++ more)) [
      | true ↦ λ is. let f : 32 ∷ (32 ∷ (doubled 32 text ++ (32 ∷ behind))) ≡ c ∷ (word ++ rest) =
          ap (λ l. l ++ (32 ∷ behind)) (sym (mark 32 b text is)) ∙ e in
          let same : 32 ≡ c = cc in absurd (not-same c same t)
      | false ↦ λ is. let f : b ∷ (doubled 32 text ++ (32 ∷ behind)) ≡ c ∷ (word ++ rest) =
          ap (λ l. l ++ (32 ∷ behind)) (sym (other 32 b text is)) ∙ e in
          let g : doubled 32 text ++ (32 ∷ behind) ≡ word ++ rest = cc in
          let more = front-of word text behind rest ts g in
          let same : b ≡ c = cc in
          (more.0, ap (λ x. x ∷ text) same ∙ ap (λ l. c ∷ l) more.1)
    ] refl)

-- ---- a text up to a space

pub record IsSpacedRead (text : List ℕ) (y : List ℕ × List ℕ) : Type 0 where
  pub split : text ≡ doubled 32 y.0 ++ (32 ∷ y.1)
  pub alone : starts (λ b. eqb b 32) y.1 ≡ false
  pub some : y.0 ≢ []
  pub no_space_first : (rest : List ℕ) → y.0 ≢ 32 ∷ rest

pub not-space : (text rest : List ℕ) → after (codes " ") text ≡ None → text ≡ 32 ∷ rest → ⊥
not-space text rest e f = let g : after (codes " ") (32 ∷ rest) ≡ None = subst (λ l. after (codes " ") l ≡ None) f e in
    cc

pub spaced-found : (text : List ℕ) (y : List ℕ × List ℕ) → spaced_at text ≡ Ok y → IsSpacedRead text y
unfolding spaced_at
spaced-found text y e =
    chosen (after (codes " ") text) e
    (λ none q.
    let u = undoubled-found 32 text y q in
    record {
      split = u.0;
      alone = u.1;
      some = λ is. not-space text y.1 none (u.0 ∙ ap (λ w. doubled 32 w ++ (32 ∷ y.1)) is);
      no_space_first = λ rest is. not-space text (32 ∷ (doubled 32 rest ++ (32 ∷ y.1))) none
          (u.0 ∙ ap (λ w. doubled 32 w ++ (32 ∷ y.1)) is);
    })
    (λ _ _ q. absurd cc)

pub spaced-exact : (word rest : List ℕ) → word ≢ [] → ((rest : List ℕ) → word ≢ 32 ∷ rest)
    → starts (λ b. eqb b 32) rest ≡ false
    → spaced_at (doubled 32 word ++ (32 ∷ rest)) ≡ Ok (word, rest)
unfolding spaced_at
spaced-exact [] rest some h s = absurd (some refl)
spaced-exact (b ∷ word) rest some h s =
    let f : eqb b 32 ≡ false = ne-test b 32 (λ e. h word (ap (λ x. x ∷ word) e)) in
    choose_none (undoubled_at 32 false (doubled 32 (b ∷ word) ++ (32 ∷ rest)))
    (λ _. Err (length (doubled 32 (b ∷ word) ++ (32 ∷ rest)))) (rw (other 32 b word f, f) refl)
    ∙ undoubled-exact 32 (b ∷ word) rest s

-- ---- a manager, a name or a version

pub record IsPartRead (text : List ℕ) (y : List ℕ × List ℕ) : Type 0 where
  pub word : List ℕ
  pub split : text ≡ word ++ (32 ∷ y.1)
  pub alone : starts (λ b. eqb b 32) y.1 ≡ false
  pub spells : SpellsPart word y.0

pub spells-some : (p : List ℕ) → p ≢ [] → IsPart p → SpellsPart (doubled 32 p) p
spells-some [] some is = absurd (some refl)
spells-some (b ∷ others) some is = part is

is-dot : (w : List ℕ) → bytes_eq w (codes ".") ≡ true → w ≡ codes "."
is-dot w t = (bytes_eq-Decides w (codes ".")).0 t

pub part-found : (text : List ℕ) (y : List ℕ × List ℕ) → part_at text ≡ Ok y → IsPartRead text y
unfolding part_at
part-found text y e =
    let a = bind_ok (spaced_at text) (λ x. Ok (part_of x.0, x.1)) y e in
    let s = spaced-found text a.0 a.1 in
    subst (IsPartRead text) (same_ok _ refl a.2) (
    elim (bytes_eq a.0.0 (codes ".")) as
    (λ t. bytes_eq a.0.0 (codes ".") ≡ t → IsPartRead text (cond t [] a.0.0, a.0.1)) [
      | true ↦ λ t. let dot = is-dot a.0.0 t in record {
        word = codes ".";
        split = s.split ∙ ap (λ w. doubled 32 w ++ (32 ∷ a.0.1)) dot;
        alone = s.alone;
        spells = empty;
      }
      | false ↦ λ f. record {
        word = doubled 32 a.0.0;
        split = s.split;
        alone = s.alone;
        spells = spells-some a.0.0 s.some
            (record {
              no_space_first = s.no_space_first;
              no_dot = λ e. let u : bytes_eq (codes ".") (codes ".") ≡ false =
                  subst (λ w. bytes_eq w (codes ".") ≡ false) e f in cc;
            });
      }
    ] refl)

not-dot : (w : List ℕ) → w ≢ codes "." → bytes_eq w (codes ".") ≡ false
not-dot w h = elim (bytes_eq w (codes ".")) as
    (λ t. bytes_eq w (codes ".") ≡ t → t ≡ false) [ true ↦ λ t. absurd (h (is-dot w t)) | false ↦ λ _. refl ] refl

part-from : (text w rest : List ℕ) → spaced_at text ≡ Ok (w, rest) → part_at text ≡ Ok (part_of w, rest)
unfolding part_at
part-from text w rest e = bind_of_ok (λ x. Ok (part_of x.0, x.1)) e

part-of-other : (w : List ℕ) → bytes_eq w (codes ".") ≡ false → part_of w ≡ w
part-of-other w e = cond-false (bytes_eq w (codes ".")) [] w e

dot-exact : (rest : List ℕ) → starts (λ b. eqb b 32) rest ≡ false → part_at (codes "." ++ (32 ∷ rest)) ≡ Ok ([], rest)
dot-exact rest s = part-from (46 ∷ 32 ∷ rest) (46 ∷ []) rest (spaced-exact (46 ∷ []) rest (λ e. cc) (λ r e. cc) s)

some-exact : (p rest : List ℕ) → p ≢ [] → IsPart p → starts (λ b. eqb b 32) rest ≡ false
    → part_at (doubled 32 p ++ (32 ∷ rest)) ≡ Ok (p, rest)
some-exact p rest some is s =
    part-from (doubled 32 p ++ (32 ∷ rest)) p rest (spaced-exact p rest some is.no_space_first s)
    ∙ ap (λ w. Ok (w, rest)) (part-of-other p (not-dot p is.no_dot))

pub part-exact : (word p : List ℕ) → SpellsPart word p → (rest : List ℕ) → starts (λ b. eqb b 32) rest ≡ false
    → part_at (word ++ (32 ∷ rest)) ≡ Ok (p, rest)
part-exact word p empty rest s = dot-exact rest s
part-exact word p (part {b = b} {others = others} is) rest s = some-exact (b ∷ others) rest (λ e. cc) is s

-- ---- what begins with no space

doubled-starts : (w rest : List ℕ) → w ≢ [] → ((r : List ℕ) → w ≢ 32 ∷ r)
    → starts (λ b. eqb b 32) (doubled 32 w ++ rest) ≡ false
doubled-starts [] rest some h = absurd (some refl)
doubled-starts (b ∷ w) rest some h = let f : eqb b 32 ≡ false = ne-test b 32 (λ e. h w (ap (λ x. x ∷ w) e)) in
    rw (other 32 b w f, f) refl

part-starts : (word p rest : List ℕ) → SpellsPart word p → starts (λ b. eqb b 32) (word ++ rest) ≡ false
part-starts word p rest empty = refl
part-starts word p rest (part {b = b} {others = others} is) =
    doubled-starts (b ∷ others) rest (λ e. cc) is.no_space_first

plain-starts : (b : ℕ) → is_identifier_character b ≡ true → eqb b 32 ≡ false
plain-starts b t = ne-test b 32
    (λ e. let u : is_identifier_character 32 ≡ true = subst (λ x. is_identifier_character x ≡ true) e t in cc)

name-no-space : (word name rest : List ℕ) → SpellsName word name → starts (λ b. eqb b 32) (word ++ rest) ≡ false
name-no-space word name rest (simple {name = []} h) = absurd cc
name-no-space word name rest (simple {name = b ∷ others} h) =
    both (is_identifier_character b) _ h (λ t _. plain-starts b t)
name-no-space word name rest (quoted some) = refl

signed-no-space : (word sign rest name : List ℕ) → SpellsName word name
    → starts (λ b. eqb b 32) (word ++ sign ++ rest) ≡ false
signed-no-space word sign rest name n =
    ap (starts (λ b. eqb b 32)) (append_assoc word sign rest) ∙ name-no-space word name (sign ++ rest) n

descriptor-no-space : (word rest : List ℕ) {d : _} → SpellsDescriptor word d
    → starts (λ b. eqb b 32) (word ++ rest) ≡ false
descriptor-no-space word rest (namespace {word = w} {name = name} n) = signed-no-space w _ rest name n
descriptor-no-space word rest (type_ {word = w} {name = name} n) = signed-no-space w _ rest name n
descriptor-no-space word rest (term {word = w} {name = name} n) = signed-no-space w _ rest name n
descriptor-no-space word rest (meta {word = w} {name = name} n) = signed-no-space w _ rest name n
descriptor-no-space word rest (macro {word = w} {name = name} n) = signed-no-space w _ rest name n
descriptor-no-space word rest (method {word = w} {name = name} {disambiguator = m} n h) =
    ap (λ l. starts (λ b. eqb b 32) (l ++ rest))
    (append_assoc (w ++ codes "(") m (codes ").") ∙ append_assoc w (codes "(") (m ++ codes ")."))
    ∙ signed-no-space w (codes "(" ++ (m ++ codes ").")) rest name n
descriptor-no-space word rest (type_parameter n) = refl
descriptor-no-space word rest (parameter n) = refl

descriptors-no-space : (text : List ℕ) {ds : _} → SpellsDescriptors text ds → starts (λ b. eqb b 32) text ≡ false
descriptors-no-space text (last {word = w} p) =
    ap (starts (λ b. eqb b 32)) (sym (append-nil w)) ∙ descriptor-no-space w [] p
descriptors-no-space text (more {word = w} {words = ws} p q) = descriptor-no-space w ws p

-- ---- symbols that others may name

regroup : (s m n v ds : List ℕ)
    → s ++ codes " " ++ m ++ codes " " ++ n ++ codes " " ++ v ++ codes " " ++ ds
    ≡ s ++ (32 ∷ (m ++ (32 ∷ (n ++ (32 ∷ (v ++ (32 ∷ ds)))))))
regroup s m n v ds = simp append_assoc

pub local-there : (text rest : List ℕ) → after (codes "local") text ≡ None → text ≡ codes "local" ++ rest → ⊥
local-there text rest none e = let some = after-front (codes "local") rest in
    let none' : after (codes "local") (codes "local" ++ rest) ≡ None =
    subst (λ l. after (codes "local") l ≡ None) e none in cc

global-found : (text : List ℕ) (s : SymbolParts) → after (codes "local") text ≡ None → global_at text ≡ Ok s
    → SpellsSymbol text s
unfolding global_at
global-found text s none e =
    let a = bind_ok (spaced_at text)
    (λ s. part_at s.1 >>= λ m. part_at m.1 >>= λ n. part_at n.1 >>= λ v. descriptors_at v.1 >>= λ ds. Ok
    (Global (record { scheme = s.0; manager = m.0; name = n.0; version = v.0; descriptors = ds }))) s e in
    let b = bind_ok (part_at a.0.1)
    (λ m. part_at m.1 >>= λ n. part_at n.1 >>= λ v. descriptors_at v.1 >>= λ ds. Ok
    (Global (record { scheme = a.0.0; manager = m.0; name = n.0; version = v.0; descriptors = ds }))) s a.2 in
    let c = bind_ok (part_at b.0.1)
    (λ n. part_at n.1 >>= λ v. descriptors_at v.1 >>= λ ds. Ok
    (Global (record { scheme = a.0.0; manager = b.0.0; name = n.0; version = v.0; descriptors = ds }))) s b.2 in
    let d = bind_ok (part_at c.0.1)
    (λ v. descriptors_at v.1 >>= λ ds. Ok
    (Global (record { scheme = a.0.0; manager = b.0.0; name = c.0.0; version = v.0; descriptors = ds }))) s c.2 in
    let f = bind_ok (descriptors_at d.0.1)
    (λ ds. Ok (Global (record
    { scheme = a.0.0; manager = b.0.0; name = c.0.0; version = d.0.0; descriptors = ds }))) s d.2 in
    let sc = spaced-found text a.0 a.1 in
    let m = part-found a.0.1 b.0 b.1 in
    let n = part-found b.0.1 c.0 c.1 in
    let v = part-found c.0.1 d.0 d.1 in
    let whole : text ≡ doubled 32 a.0.0 ++ (32 ∷ (m.word ++ (32 ∷ (n.word ++ (32 ∷ (v.word ++ (32 ∷ d.0.1))))))) =
    sc.split ∙ ap (λ l. doubled 32 a.0.0 ++ (32 ∷ l))
    (m.split ∙ ap (λ l. m.word ++ (32 ∷ l)) (n.split ∙ ap (λ l. n.word ++ (32 ∷ l)) v.split)) in
    let not_local = λ (rest : List ℕ) (e : a.0.0 ≡ codes "local" ++ rest).
    let begins : text ≡ codes "local" ++ (doubled 32 rest ++ (32 ∷ a.0.1)) =
    sc.split ∙ ap (λ w. doubled 32 w ++ (32 ∷ a.0.1)) e in
    local-there text _ none begins in
    subst (λ l. SpellsSymbol l s) (regroup _ _ _ _ _ ∙ sym whole)
    (subst (λ z. SpellsSymbol
    (doubled 32 a.0.0 ++ codes " " ++ m.word ++ codes " " ++ n.word ++ codes " " ++ v.word ++ codes " " ++ d.0.1) z)
    (same_ok _ refl f.2)
    (global (scheme (record { some = sc.some; no_space_first = sc.no_space_first; not_local = not_local })) m.spells
    n.spells v.spells (descriptors-found d.0.1 f.0 f.1)))

local-found : (text rest : List ℕ) (s : SymbolParts) → text ≡ codes "local" ++ rest → local_at rest ≡ Ok s
    → SpellsSymbol text s
unfolding local_at
local-found text rest s e q =
    let a = bind_ok (expect_at (codes " ") rest) (λ rest. simple_at rest >>= local_of) s q in
    let b = bind_ok (simple_at a.0) local_of s a.2 in
    let gap = expect-found (codes " ") rest a.0 a.1 in
    let name = simple-found a.0 b.0 b.1 in
    elim b.0.1 as (λ behind. a.0 ≡ b.0.0 ++ behind → local_of (b.0.0, behind) ≡ Ok s → SpellsSymbol text s) [
      | [] ↦ λ split is.
          subst (λ l. SpellsSymbol l s)
          (sym (e ∙ ap (λ l. codes "local" ++ l) (gap ∙ ap (λ l. 32 ∷ l) (split ∙ append-nil b.0.0))))
          (subst (λ z. SpellsSymbol (codes "local " ++ b.0.0) z) (same_ok _ refl is) (local name.1))
      | x ∷ behind ↦ λ split is. absurd cc
    ] name.0 b.2

pub symbol-found : (text : List ℕ) (s : SymbolParts) → symbol_at text ≡ Ok s → SpellsSymbol text s
unfolding symbol_at
symbol-found text s e =
    chosen (after (codes "local") text) e (λ none q. global-found text s none q)
    (λ rest some q. local-found text rest s (after-some (codes "local") text rest some) q)

-- ---- and what is spelled is read

global-exact : (s m n v ds : List ℕ) (symbol : GlobalSymbol) → IsScheme symbol.scheme → s ≡ doubled 32 symbol.scheme
    → SpellsPart m symbol.manager → SpellsPart n symbol.name → SpellsPart v symbol.version
    → SpellsDescriptors ds symbol.descriptors
    → global_at (s ++ (32 ∷ (m ++ (32 ∷ (n ++ (32 ∷ (v ++ (32 ∷ ds)))))))) ≡ Ok (Global symbol)
unfolding global_at
global-exact s m n v ds symbol sc is pm pn pv pd =
    let behind_s = m ++ (32 ∷ (n ++ (32 ∷ (v ++ (32 ∷ ds))))) in
    let behind_m = n ++ (32 ∷ (v ++ (32 ∷ ds))) in
    let behind_n = v ++ (32 ∷ ds) in
    rw (
      is,
      spaced-exact symbol.scheme behind_s sc.some sc.no_space_first (part-starts m symbol.manager (32 ∷ behind_m) pm),
      part-exact m symbol.manager pm behind_m (part-starts n symbol.name (32 ∷ behind_n) pn),
      part-exact n symbol.name pn behind_n (part-starts v symbol.version (32 ∷ ds) pv),
      part-exact v symbol.version pv ds (descriptors-no-space ds pd),
      descriptors-exact ds symbol.descriptors pd,
    ) refl

scheme-is : (s p : List ℕ) → SpellsScheme s p → IsScheme p × (s ≡ doubled 32 p)
scheme-is s p (scheme is) = (is, refl)

no-local : (p rest : List ℕ) → IsScheme p → after (codes "local") (doubled 32 p ++ (32 ∷ rest)) ≡ None
no-local p rest is = after-none (codes "local") (doubled 32 p ++ (32 ∷ rest))
    (λ r e. let more = front-of (codes "local") p rest r refl e in is.not_local more.0 more.1)

pub symbol-exact : (text : List ℕ) (s : SymbolParts) → SpellsSymbol text s → symbol_at text ≡ Ok s
unfolding symbol_at local_at expect_at
symbol-exact text s (local {name = name} h) =
    bind_of_ok local_of (ap simple_at (sym (append-nil name)) ∙ simple-exact name [] h refl)
symbol-exact text s (global {scheme = sc} {manager = m} {name = n} {version = v} {descriptors = ds} {s = symbol} ps pm
    pn pv pd) =
    let is = scheme-is sc symbol.scheme ps in
    let behind = m ++ (32 ∷ (n ++ (32 ∷ (v ++ (32 ∷ ds))))) in
    let whole = sc ++ (32 ∷ behind) in
    let none : after (codes "local") whole ≡ None =
    subst (λ l. after (codes "local") (l ++ (32 ∷ behind)) ≡ None) (sym is.1) (no-local symbol.scheme behind is.0)
    in
    ap symbol_at (regroup sc m n v ds)
    ∙ choose_none (global_at whole) local_at none
    ∙ global-exact sc m n v ds symbol is.0 is.1 pm pn pv pd

pub one-symbol : (text : List ℕ) (s other : SymbolParts) → SpellsSymbol text s → SpellsSymbol text other → s ≡ other
one-symbol text s other p q = same_ok (symbol_at text) (symbol-exact text s p) (symbol-exact text other q)

-- where nothing is read, nothing is spelled
pub unspelled : {P : Type 0} (text : List ℕ) (left : ℕ) (s : SymbolParts) → symbol_at text ≡ Err left
    → SpellsSymbol text s → P
unspelled text left s e p = let q = symbol-exact text s p in absurd cc
