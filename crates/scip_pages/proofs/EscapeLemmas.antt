-- What escaped texts show, and that they have no marks.
use Rattle.std.proofs.Common.{◌≡◌, ◌≢◌, ◌∙◌, sym, refl, ap, subst, ℕ, ◌==◌, Bool, true, false, cond, List, [], ◌∷◌}
use Rattle.std.proofs.Common.{◌++◌, ◌||◌, inl, inr, append_assoc}
use Rattle.std.specs.Prelude.{IsSome}
use Rattle.std.specs.List.{AllByRecursion, list_any}
use Rattle.std.proofs.lemmas.Bool.Decides.{eqb_tells}
use Rattle.std.proofs.lemmas.Bool.{eqb-false, ne_eqb}
use Rattle.scip_pages.specs.Escapes.{escape_byte, escape, picture, pictured, pictured_byte}
use Rattle.scip_pages.specs.Plain.{plain, reference_behind}
use Rattle.scip_pages.specs.Plainly.{is_plain}
use Rattle.scip_pages.specs.EscapeLaws.{ShowsTheText, PicturesNulAlone, ShowsTheRest, HasNoMarks, HasOnlyReferences}

-- what holds of a number, and of each other number, holds of all
is_or_not : (P : ℕ → Type 0) (k byte : ℕ) → P k → ((byte == k) ≡ false → byte ≢ k → P byte) → P byte
is_or_not P k byte same other =
    elim (eqb_tells byte k) [ inl hit ↦ subst P (sym hit.1) same | inr miss ↦ other miss.0 miss.1 ]

-- the bytes that have references, and each other byte
by_byte : (P : ℕ → Type 0) → P 0 → P 38 → P 60 → P 62 → P 34 → P 39 → P 13
    → ((byte : ℕ) → (byte == 0) ≡ false → (byte == 38) ≡ false → (byte == 60) ≡ false → escape_byte byte ≡ byte ∷ []
    → byte ≢ 60 → byte ≢ 62 → byte ≢ 34 → byte ≢ 39 → byte ≢ 13 → byte ≢ 0 → P byte)
    → (byte : ℕ) → P byte
by_byte P nul amp lt gt quot apos cr other byte =
    is_or_not P 0 byte nul (λ z z'.
    is_or_not P 38 byte amp (λ a a'.
    is_or_not P 60 byte lt (λ b b'.
    is_or_not P 62 byte gt (λ c c'.
    is_or_not P 34 byte quot (λ d d'.
    is_or_not P 39 byte apos (λ e e'.
    is_or_not P 13 byte cr (λ f f'.
    other byte z a b (rw (z, a, b, c, d, e, f) refl) b' c' d' e' f' z')))))))

-- a byte that has no reference is written as it is
pub plain_byte : (byte : ℕ) → is_plain byte ≡ true → escape_byte byte ≡ byte ∷ []
plain_byte = by_byte (λ byte. is_plain byte ≡ true → escape_byte byte ≡ byte ∷ [])
    (λ e. never e) (λ e. never e) (λ e. never e) (λ e. never e) (λ e. never e) (λ e. never e) (λ e. never e)
    (λ byte z a b same c d e f g h is. same)
  where
    never : {X : Type 0} → false ≡ true → X
    never e = absurd cc

shows_byte : (rest : List ℕ) (byte : ℕ) → plain (escape_byte byte ++ rest) ≡ pictured_byte byte ++ plain rest
shows_byte rest = by_byte (λ byte. plain (escape_byte byte ++ rest) ≡ pictured_byte byte ++ plain rest)
    refl refl refl refl refl refl refl (λ byte z a b same c d e f g h. rw (same, z, a, b) refl)

pub shows_the_rest : ShowsTheRest
shows_the_rest [] rest = refl
shows_the_rest (byte ∷ text) rest =
    ap plain (append_assoc (escape_byte byte) (escape text) rest)
    ∙ shows_byte (escape text ++ rest) byte
    ∙ ap (λ (shown : List ℕ). pictured_byte byte ++ shown) (shows_the_rest text rest)
    ∙ sym (append_assoc (pictured_byte byte) (pictured text) (plain rest))

pub shows_the_text : ShowsTheText
shows_the_text [] = refl
shows_the_text (byte ∷ text) =
    shows_byte (escape text) byte ∙ ap (λ (shown : List ℕ). pictured_byte byte ++ shown) (shows_the_text text)

pub pictures_nul_alone : PicturesNulAlone
pictures_nul_alone [] all = refl
pictures_nul_alone (byte ∷ text) all =
    ap (λ (b : Bool). cond b picture (byte ∷ []) ++ pictured text) (ne_eqb byte 0 all.0)
    ∙ ap (λ (l : List ℕ). byte ∷ l) (pictures_nul_alone text all.1)

abbrev pub IsNoMark : ℕ → Type 0
IsNoMark b = (b ≢ 60) × (b ≢ 62) × (b ≢ 34) × (b ≢ 39) × (b ≢ 13) × (b ≢ 0)

no_mark : (b : ℕ) → (b == 60) ≡ false → (b == 62) ≡ false → (b == 34) ≡ false → (b == 39) ≡ false → (b == 13) ≡ false
    → (b == 0) ≡ false → IsNoMark b
no_mark b c d e f g h =
    (eqb-false b 60 c, eqb-false b 62 d, eqb-false b 34 e, eqb-false b 39 f, eqb-false b 13 g, eqb-false b 0 h)

all_append : (P : ℕ → Type 0) (xs ys : List ℕ) → AllByRecursion P xs → AllByRecursion P ys → AllByRecursion P (xs ++ ys)
all_append P [] ys a b = b
all_append P (x ∷ xs) ys a b = (a.0, all_append P xs ys a.1 b)

byte_has_no_marks : (byte : ℕ) → AllByRecursion IsNoMark (escape_byte byte)
byte_has_no_marks = by_byte (λ byte. AllByRecursion IsNoMark (escape_byte byte)) (
  no_mark 226 refl refl refl refl refl refl,
  (no_mark 144 refl refl refl refl refl refl, (no_mark 128 refl refl refl refl refl refl, tt)),
) (
  no_mark 38 refl refl refl refl refl refl,
  (
    no_mark 97 refl refl refl refl refl refl,
    (
      no_mark 109 refl refl refl refl refl refl,
      (no_mark 112 refl refl refl refl refl refl, (no_mark 59 refl refl refl refl refl refl, tt)),
    ),
  ),
) (
  no_mark 38 refl refl refl refl refl refl,
  (
    no_mark 108 refl refl refl refl refl refl,
    (no_mark 116 refl refl refl refl refl refl, (no_mark 59 refl refl refl refl refl refl, tt)),
  ),
) (
  no_mark 38 refl refl refl refl refl refl,
  (
    no_mark 103 refl refl refl refl refl refl,
    (no_mark 116 refl refl refl refl refl refl, (no_mark 59 refl refl refl refl refl refl, tt)),
  ),
) (
  no_mark 38 refl refl refl refl refl refl,
  (
    no_mark 113 refl refl refl refl refl refl,
    (
      no_mark 117 refl refl refl refl refl refl,
      (
        no_mark 111 refl refl refl refl refl refl,
        (no_mark 116 refl refl refl refl refl refl, (no_mark 59 refl refl refl refl refl refl, tt)),
      ),
    ),
  ),
) (
  no_mark 38 refl refl refl refl refl refl,
  (
    no_mark 35 refl refl refl refl refl refl,
    (
      no_mark 51 refl refl refl refl refl refl,
      (no_mark 57 refl refl refl refl refl refl, (no_mark 59 refl refl refl refl refl refl, tt)),
    ),
  ),
) (
  no_mark 38 refl refl refl refl refl refl,
  (
    no_mark 35 refl refl refl refl refl refl,
    (
      no_mark 49 refl refl refl refl refl refl,
      (no_mark 51 refl refl refl refl refl refl, (no_mark 59 refl refl refl refl refl refl, tt)),
    ),
  ),
)
    (λ byte z a b same c d e f g h. rw same ((c, d, e, f, g, h), tt))

pub has_no_marks : HasNoMarks
has_no_marks [] = tt
has_no_marks (byte ∷ text) =
    all_append IsNoMark (escape_byte byte) (escape text) (byte_has_no_marks byte) (has_no_marks text)

-- each `&` begins a reference
abbrev OnlyReferences : List ℕ → Type 0
OnlyReferences [] = Unit {0}
OnlyReferences (byte ∷ bytes) = (byte ≡ 38 → IsSome (reference_behind bytes)) × OnlyReferences bytes

passes : (xs rest : List ℕ) → list_any (λ b. b == 38) xs ≡ false → OnlyReferences rest → OnlyReferences (xs ++ rest)
passes [] rest none more = more
passes (x ∷ xs) rest none more = by (x == 38) refl none (λ others. passes xs rest others more)
  where
    by : (b : Bool) → (x == 38) ≡ b → (b || list_any (λ y. y == 38) xs) ≡ false
        → (list_any (λ y. y == 38) xs ≡ false → OnlyReferences (xs ++ rest)) → OnlyReferences ((x ∷ xs) ++ rest)
    by true is none more = absurd cc
    by false is none more = (λ e. absurd (eqb-false x 38 is e), more none)

byte_refers : (rest : List ℕ) → OnlyReferences rest → (byte : ℕ) → OnlyReferences (escape_byte byte ++ rest)
byte_refers rest more = by_byte (λ byte. OnlyReferences (escape_byte byte ++ rest))
    (passes picture rest refl more)
    (λ e. refl, passes (97 ∷ 109 ∷ 112 ∷ 59 ∷ []) rest refl more)
    (λ e. refl, passes (108 ∷ 116 ∷ 59 ∷ []) rest refl more)
    (λ e. refl, passes (103 ∷ 116 ∷ 59 ∷ []) rest refl more)
    (λ e. refl, passes (113 ∷ 117 ∷ 111 ∷ 116 ∷ 59 ∷ []) rest refl more)
    (λ e. refl, passes (35 ∷ 51 ∷ 57 ∷ 59 ∷ []) rest refl more)
    (λ e. refl, passes (35 ∷ 49 ∷ 51 ∷ 59 ∷ []) rest refl more)
    (λ byte z a b same c d e f g h. rw same (λ is. absurd (eqb-false byte 38 a is), more))

refers : (text : List ℕ) → OnlyReferences (escape text)
refers [] = tt
refers (byte ∷ text) = byte_refers (escape text) (refers text) byte

within : (before after : List ℕ) → OnlyReferences (before ++ 38 ∷ after) → IsSome (reference_behind after)
within [] after only = only.0 refl
within (byte ∷ before) after only = within before after only.1

pub has_only_references : HasOnlyReferences
has_only_references text before after e = within before after (subst OnlyReferences e (refers text))
