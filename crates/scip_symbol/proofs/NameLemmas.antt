-- Names: what is read is spelled, and what is spelled is read.
use Rattle.std.proofs.Common.{◌≡◌, ◌≢◌, ℕ, zero, suc, ◌+◌, ◌<◌, true, false, eqb, None, Ok, List, [], ◌∷◌, ◌++◌, codes}
use Rattle.std.proofs.Common.{length, get_or, refl, ap, sym, ◌∙◌, subst, arith, append_assoc}
use Rattle.std.specs.List.{list_all}
use Rattle.std.proofs.lemmas.List.{take-append-drop}
use Rattle.std.proofs.Math.Seq.{drop-append_seam, take-append_seam}
use Rattle.std.proofs.lemmas.Bool.{both_ways}
use Rattle.std.proofs.lemmas.Bool.Decides.{nat_tests}
use Rattle.std.specs.Str.{IsUtf8, IsCharBoundary}
use Rattle.std.proofs.lemmas.Str.{IsCharBoundary-start, IsCharBoundary-after_ascii}
use Rattle.std.proofs.lemmas.List.Sums.{prefix_len_passes, prefix_len-le-length}
use Rattle.proto_lex.specs.Bytes.{starts}
use Rattle.proto_lex.proofs.ReadingPrefixLemmas.{prefix_passes, prefix_stops, prefix_exact}
use Rattle.proto_lex.proofs.ReadingTestLemmas.{both}
use Rattle.scip_symbol.specs.Names.{is_identifier_character, is_simple_identifier, doubled, backtick}
use Rattle.scip_symbol.specs.SpellsSymbol.{SpellsName, simple, quoted}
use Rattle.scip_symbol.specs.Reading.{after, run_len, run_at, some_at, simple_at, name_at, undoubled_at}
use Rattle.scip_symbol.proofs.ReadingTestLemmas.{bind_ok, chosen, same_ok, ne-test}
use Rattle.scip_symbol.proofs.ReadingAfterLemmas.{after-some}
use Rattle.scip_symbol.proofs.ReadingUndoubledLemmas.{undoubled-found, undoubled-exact}

pub some-found : (x y : List ℕ × List ℕ) → some_at x ≡ Ok y → (x ≡ y) × (y.0 ≢ [])
some-found ([], rest) y e = absurd cc
some-found (b ∷ word, rest) y e = let same = same_ok _ refl e in
    (same, λ none. let p = ap (λ (z : List ℕ × List ℕ). z.0) same in cc)

-- what a whole run is
pub run-simple : (word : List ℕ) → list_all is_identifier_character word ≡ true → word ≢ []
    → is_simple_identifier word ≡ true
run-simple [] h some = absurd (some refl)
run-simple (b ∷ word) h some = h

pub run-exact : (word rest : List ℕ) → list_all is_identifier_character word ≡ true
    → starts is_identifier_character rest ≡ false
    → run_at (word ++ rest) ≡ (word, rest)
run-exact word rest h s =
    rw (prefix_exact is_identifier_character word rest h s, take-append_seam word rest, drop-append_seam word rest) refl

pub run-found : (text : List ℕ)
    → (text ≡ (run_at text).0 ++ (run_at text).1) × (list_all is_identifier_character (run_at text).0 ≡ true)
    × (starts is_identifier_character (run_at text).1 ≡ false)
run-found text = (
  sym (take-append-drop (run_len text) text),
  prefix_passes is_identifier_character text,
  prefix_stops is_identifier_character text,
)

ascii : (b : ℕ) → is_identifier_character b ≡ true → b < 128
ascii b t = grind (arith, nat_tests)

-- a text may be cut behind its identifier characters
pub run-boundary : (text : List ℕ) (n : ℕ) → n ≡ run_len text → IsUtf8 text → IsCharBoundary text n
run-boundary text zero e utf8 = IsCharBoundary-start text utf8
run-boundary text (suc k) e utf8 =
    let within : k < length text = omega (arith, prefix_len-le-length is_identifier_character text) in
    let is = ascii (get_or text k 0) (prefix_len_passes is_identifier_character text k 0 (omega arith)) in
    let next : k + 1 ≡ suc k = omega arith in
    subst (IsCharBoundary text) next (IsCharBoundary-after_ascii text k utf8 within is)

pub simple-found : (text : List ℕ) (y : List ℕ × List ℕ) → simple_at text ≡ Ok y
    → (text ≡ y.0 ++ y.1) × (is_simple_identifier y.0 ≡ true) × (starts is_identifier_character y.1 ≡ false)
unfolding simple_at
simple-found text y e =
    let same = some-found (run_at text) y e in
    let run = run-found text in (
      run.0 ∙ ap (λ (z : List ℕ × List ℕ). z.0 ++ z.1) same.0,
      run-simple y.0 (ap (λ (z : List ℕ × List ℕ). list_all is_identifier_character z.0) (sym same.0) ∙ run.1) same.1,
      ap (λ (z : List ℕ × List ℕ). starts is_identifier_character z.1) (sym same.0) ∙ run.2,
    )

pub simple-exact : (name rest : List ℕ) → is_simple_identifier name ≡ true → starts is_identifier_character rest ≡ false
    → simple_at (name ++ rest) ≡ Ok (name, rest)
unfolding simple_at
simple-exact [] rest h s = absurd cc
simple-exact (b ∷ name) rest h s = ap some_at (run-exact (b ∷ name) rest h s)

-- what may stand behind a name: no identifier character and no backtick
pub record EndsName (rest : List ℕ) : Type 0 where
  pub plain : starts is_identifier_character rest ≡ false
  pub single : starts (λ b. eqb b backtick) rest ≡ false

-- no identifier character is a backtick or an opening bracket
pub not-mark : (c b : ℕ) → is_identifier_character c ≡ false → is_identifier_character b ≡ true → eqb b c ≡ false
not-mark c b f t = ne-test b c (λ e. both_ways (is_identifier_character b) (ap is_identifier_character e ∙ f) t)

pub name-found : (text : List ℕ) (y : List ℕ × List ℕ) → name_at text ≡ Ok y
    → (word : List ℕ) × (text ≡ word ++ y.1) × SpellsName word y.0
unfolding name_at
name-found text y e =
    chosen (after (codes "`") text) e
    (λ _ q. let s = simple-found text y q in (y.0, s.0, simple s.1))
    (λ inside some q.
    let x = bind_ok (undoubled_at backtick false inside) some_at y q in
    let last = some-found x.0 y x.2 in
    let u = undoubled-found backtick inside x.0 x.1 in
    let opened : text ≡ 96 ∷ inside = after-some (codes "`") text inside some in
    let closed : inside ≡ doubled 96 y.0 ++ (96 ∷ y.1) =
    u.0 ∙ ap (λ (z : List ℕ × List ℕ). doubled 96 z.0 ++ (96 ∷ z.1)) last.0 in (
      codes "`" ++ doubled backtick y.0 ++ codes "`",
      opened ∙ ap (λ l. 96 ∷ l) closed ∙ sym (append_assoc (96 ∷ doubled 96 y.0) (96 ∷ []) y.1),
      quoted last.1,
    ))

-- a name begins with an identifier character or with a backtick, so with no other sign
pub name-starts : (c : ℕ) (word name rest : List ℕ) → SpellsName word name → is_identifier_character c ≡ false
    → eqb 96 c ≡ false
    → after (c ∷ []) (word ++ rest) ≡ None
name-starts c word name rest (simple {name = []} h) f q = absurd cc
name-starts c word name rest (simple {name = b ∷ others} h) f q =
    both (is_identifier_character b) _ h (λ t _. rw (not-mark c b f t) refl)
name-starts c word name rest (quoted some) f q = rw q refl

some-some : (name rest : List ℕ) → name ≢ [] → some_at (name, rest) ≡ Ok (name, rest)
some-some [] rest some = absurd (some refl)
some-some (b ∷ name) rest some = refl

pub name-exact : (word name rest : List ℕ) → SpellsName word name → EndsName rest
    → name_at (word ++ rest) ≡ Ok (name, rest)
unfolding name_at
name-exact word name rest (simple {name = []} h) ends = absurd cc
name-exact word name rest (simple {name = b ∷ others} h) ends =
    both (is_identifier_character b) _ h
    (λ t _. rw (not-mark 96 b refl t) (simple-exact (b ∷ others) rest h ends.plain))
name-exact word name rest (quoted some) ends =
    ap name_at (append_assoc (96 ∷ doubled 96 name) (96 ∷ []) rest)
    ∙ rw (undoubled-exact 96 name rest ends.single) (some-some name rest some)
