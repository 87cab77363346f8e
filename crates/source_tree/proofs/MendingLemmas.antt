-- What is read of bytes that needn't be UTF-8 in comments.
use Rattle.std.proofs.Common.{◌≡◌, ◌∙◌, refl, ap, sym, subst, ℕ, suc, ◌+◌, ◌-◌, ◌<◌, ◌≤◌, ◌⊎◌, inl, inr, Bool, true, false, ◌&&◌}
use Rattle.std.proofs.Common.{List, [], ◌∷◌, ◌++◌, Some, None, length, take, drop, arith, append_assoc, append-nil}
use Rattle.std.proofs.Common.{take-append-drop, take-add, take_at, take_all, length-drop}
use Rattle.std.specs.Prelude.{Option, nat_eq}
use Rattle.std.proofs.lemmas.Bool.{eqb-true}
use Rattle.std.proofs.lemmas.List.{nil_from_length}
use Rattle.std.specs.Str.{IsUtf8, IsValidUpTo, StartsWithNoChar}
use Rattle.std.proofs.lemmas.Str.{IsUtf8-append, IsUtf8-encode, length-encode, len_utf8_bounds}
use lib.Utf8.{scalar, scalars, encode, encodes}
use Rattle.proto_lex.specs.Text.{max_text_length}
use Rattle.proto_lex.specs.LexLaws.{OneFirstFault}
use Rattle.proto_lex.specs.Faults.{IsFirstFaultWith}
use Rattle.proto_lex.specs.declared.hashes.Hashes.TheVariants.{InValues}
use Rattle.proto_lex.specs.declared.fault.LexFault.{LexFault}
use Rattle.proto_lex.specs.declared.fault.LexFault.TheVariants.{TooLong, NotUtf8, BadByte, OpenString, OpenComment}
use Rattle.proto_lex.specs.declared.fault.LexFault.TheVariants.{BadEscape, BadNumber, Memory}
use Rattle.source_tree.specs.Mending.{Reads, at_end, well_formed, ill_formed, SameAt, IsMended, in_comments, outside, too_long}
use Rattle.source_tree.specs.Marks.{bad_byte, IsFirstBadByte, ReadsOn}

-- ---- what is read from left to right

and_left : (x y : Bool) → (x && y) ≡ true → x ≡ true
and_left true y e = refl
and_left false y e = e

and_right : (x y : Bool) → (x && y) ≡ true → y ≡ true
and_right true y e = e
and_right false y e = absurd cc

kept : (cs : List ℕ) → scalars cs ≡ true → (rest text : List ℕ) → Reads rest text
    → Reads (encodes cs ++ rest) (encodes cs ++ text)
kept [] ok rest text read = read
kept (c ∷ cs) ok rest text read =
    subst (λ bytes. Reads bytes ((encode c ++ encodes cs) ++ text)) (sym (append_assoc (encode c) (encodes cs) rest))
    (subst (λ all. Reads (encode c ++ (encodes cs ++ rest)) all) (sym (append_assoc (encode c) (encodes cs) text))
    (well_formed c (and_left (scalar c) (scalars cs) ok)
    (kept cs (and_right (scalar c) (scalars cs) ok) rest text read)))

-- what is UTF-8 is kept, before what is read of the rest
kept_text : (front rest text : List ℕ) → IsUtf8 front → Reads rest text → Reads (front ++ rest) (front ++ text)
kept_text front rest text utf8 read =
    subst (λ f. Reads (f ++ rest) (f ++ text)) utf8.1.1 (kept utf8.0 utf8.1.0 rest text read)

pub whole_text : (bytes : List ℕ) → IsUtf8 bytes → Reads bytes bytes
whole_text bytes utf8 = subst (λ b. Reads b b) (append-nil bytes) (kept_text bytes [] [] utf8 at_end)

longer_text : (bs : List ℕ) (n c : ℕ) (rest : List ℕ) → drop n bs ≡ encode c ++ rest
    → take (n + length (encode c)) bs ≡ take n bs ++ encode c
longer_text bs n c rest starts =
    take-add n (length (encode c)) bs
    ∙ ap (λ t. take n bs ++ t)
    (ap (take (length (encode c))) starts ∙ take_at (encode c) rest (length (encode c)) refl)

-- no character begins behind the longest front that is UTF-8
no_char : (bs : List ℕ) (n : ℕ) → IsValidUpTo bs n → StartsWithNoChar (drop n bs)
no_char bs n valid c rest known starts =
    valid.longest (n + length (encode c)) (omega (arith, length-encode c, (len_utf8_bounds c).0))
    (subst IsUtf8 (sym (longer_text bs n c rest starts))
    (IsUtf8-append (take n bs) (encode c) valid.front (IsUtf8-encode c known)))

pub no_char_behind : (bytes : List ℕ) (n byte : ℕ) (others : List ℕ)
    → (n ≡ length bytes) ⊎ IsValidUpTo bytes n
    → drop n bytes ≡ byte ∷ others → StartsWithNoChar (byte ∷ others)
no_char_behind bytes n byte others (inl whole) at =
    absurd (omega (arith, whole, ap length at, length-drop n bytes))
no_char_behind bytes n byte others (inr valid) at = subst StartsWithNoChar at (no_char bytes n valid)

-- a front that is UTF-8 is read, and what is behind it is left
pub reads_front : (old new bytes : List ℕ) (n : ℕ) (left : List ℕ) → IsUtf8 (take n bytes) → new ≡ old ++ take n bytes
    → left ≡ drop n bytes → ReadsOn old new bytes left
reads_front old new bytes n left utf8 appended is after read = (
  take n bytes ++ after,
  ap (λ t. t ++ after) appended ∙ append_assoc old (take n bytes) after,
  subst (λ b. Reads b (take n bytes ++ after)) (take-append-drop n bytes)
      (kept_text (take n bytes) (drop n bytes) after utf8 (subst (λ l. Reads l after) is read)),
)

-- such a front is read, and the byte behind it
pub reads_one : (old middle new bytes : List ℕ) (n byte : ℕ) (left : List ℕ) → IsUtf8 (take n bytes)
    → (n ≡ length bytes) ⊎ IsValidUpTo bytes n → drop n bytes ≡ byte ∷ left
    → middle ≡ old ++ take n bytes → new ≡ middle ++ 0 ∷ [] → ReadsOn old new bytes left
reads_one old middle new bytes n byte left utf8 valid at appended pushed after read = (
  take n bytes ++ (0 ∷ after),
  ap (λ t. t ++ after) (pushed ∙ ap (λ t. t ++ 0 ∷ []) appended)
      ∙ (append_assoc (old ++ take n bytes) (0 ∷ []) after ∙ append_assoc old (take n bytes) (0 ∷ after)),
  subst (λ b. Reads b (take n bytes ++ (0 ∷ after))) (take-append-drop n bytes)
      (kept_text (take n bytes) (drop n bytes) (0 ∷ after) utf8
      (subst (λ l. Reads l (0 ∷ after)) (sym at)
      (ill_formed (no_char_behind bytes n byte left valid at) read))),
)

-- the first byte of some, and those behind it
pub parted : (bytes : List ℕ) → 0 < length bytes
    → (byte : ℕ) × (bytes ≡ byte ∷ take (length bytes - 1) (drop 1 bytes))
parted [] some = absurd (omega arith)
parted (byte ∷ others) some = (byte, ap (λ l. byte ∷ l) (sym (take_all (suc (length others) - 1) others (omega arith))))

-- what was read is what is read of all, if what is left is read as this
pub reads_more : (bytes old new rest left : List ℕ) → ReadsOn old new rest left
    → ((after : List ℕ) → Reads rest after → Reads bytes (old ++ after))
    → (after : List ℕ) → Reads left after → Reads bytes (new ++ after)
reads_more bytes old new rest left on before after read =
    let step = on after read in
    subst (Reads bytes) (sym step.1) (before step.0 step.2)

pub none_left : (rest : List ℕ) → nat_eq (length rest) 0 ≡ true → rest ≡ []
none_left rest is = nil_from_length rest (eqb-true (length rest) 0 is)

pub reads_all : (bytes text rest : List ℕ) → rest ≡ []
    → ((after : List ℕ) → Reads rest after → Reads bytes (text ++ after)) → Reads bytes text
reads_all bytes text rest none before =
    subst (Reads bytes) (append-nil text) (before [] (subst (λ r. Reads r []) (sym none) at_end))

-- ---- where the lexer meets a byte that it can't take

none_is : OneFirstFault → (text : List ℕ) (fault : LexFault) → (fault ≡ Memory → ⊥)
    → ((n : ℕ) → fault ≡ BadByte n → ⊥) → (fault ≡ Memory) ⊎ IsFirstFaultWith InValues text fault → IsFirstBadByte text None
none_is one text fault no_memory no_byte (inl memory) n first = no_memory memory
none_is one text fault no_memory no_byte (inr is) n first = no_byte n (one InValues text fault (BadByte n) is first)

some_is : (text : List ℕ) (n : ℕ) → (BadByte n ≡ Memory) ⊎ IsFirstFaultWith InValues text (BadByte n)
    → IsFirstBadByte text (Some n)
some_is text n (inl memory) = absurd cc
some_is text n (inr first) = first

pub first_is : OneFirstFault → (text : List ℕ) (fault : LexFault) (at : Option ℕ) → bad_byte fault ≡ Some at
    → (fault ≡ Memory) ⊎ IsFirstFaultWith InValues text fault → IsFirstBadByte text at
first_is one text Memory at e is = absurd cc
first_is one text (BadByte n) at e is =
    let same : Some n ≡ at = cc in subst (IsFirstBadByte text) same (some_is text n is)
first_is one text TooLong at e is =
    let same : None ≡ at = cc in
    subst (IsFirstBadByte text) same (none_is one text TooLong (λ m. absurd cc) (λ n b. absurd cc) is)
first_is one text (NotUtf8 k) at e is =
    let same : None ≡ at = cc in
    subst (IsFirstBadByte text) same (none_is one text (NotUtf8 k) (λ m. absurd cc) (λ n b. absurd cc) is)
first_is one text (OpenString k) at e is =
    let same : None ≡ at = cc in
    subst (IsFirstBadByte text) same (none_is one text (OpenString k) (λ m. absurd cc) (λ n b. absurd cc) is)
first_is one text (OpenComment k) at e is =
    let same : None ≡ at = cc in
    subst (IsFirstBadByte text) same (none_is one text (OpenComment k) (λ m. absurd cc) (λ n b. absurd cc) is)
first_is one text (BadEscape k) at e is =
    let same : None ≡ at = cc in
    subst (IsFirstBadByte text) same (none_is one text (BadEscape k) (λ m. absurd cc) (λ n b. absurd cc) is)
first_is one text (BadNumber k) at e is =
    let same : None ≡ at = cc in
    subst (IsFirstBadByte text) same (none_is one text (BadNumber k) (λ m. absurd cc) (λ n b. absurd cc) is)

-- ---- what is read of all

pub mended_at_none : (bytes text : List ℕ) → length bytes ≤ max_text_length → Reads bytes text
    → IsFirstBadByte text None → IsMended bytes text
mended_at_none bytes text short read none = in_comments short read (λ n first. absurd (none n first))

same_place : (n m : ℕ) → BadByte n ≡ BadByte m → n ≡ m
same_place n m e = cc

pub mended_at_same : OneFirstFault → (bytes text : List ℕ) (at : ℕ) → length bytes ≤ max_text_length
    → Reads bytes text → IsFirstBadByte text (Some at) → SameAt bytes text at → IsMended bytes text
mended_at_same one bytes text at short read first same =
    in_comments short read
    (λ n other. subst (SameAt bytes text) (same_place at n (one InValues text (BadByte at) (BadByte n) first other)) same)

pub mended_at_other : (bytes text whole : List ℕ) (at : ℕ) → length bytes ≤ max_text_length → Reads bytes text
    → IsFirstBadByte text (Some at) → (SameAt bytes text at → ⊥) → whole ≡ take at text ++ drop at bytes
    → IsMended bytes whole
mended_at_other bytes text whole at short read first other is =
    subst (IsMended bytes) (sym is) (outside text at short read first other)

pub mended_utf8 : (bytes : List ℕ) → length bytes ≤ max_text_length → IsUtf8 bytes → IsMended bytes bytes
mended_utf8 bytes short utf8 = in_comments short (whole_text bytes utf8) (λ n first. refl)

pub mended_long : (bytes : List ℕ) → max_text_length < length bytes → IsMended bytes bytes
mended_long bytes long = too_long long
