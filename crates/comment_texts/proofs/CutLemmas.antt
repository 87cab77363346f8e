-- Where a line may be cut: behind a sign in ASCII, behind the blanks at its start, and before those at its end.
use Rattle.std.proofs.Common.{◌≡◌, subst, ℕ, zero, suc, ◌+◌, ◌-◌, ◌<◌, ◌≤◌, true, List}
use Rattle.std.proofs.Common.{length, get_or, arith, IsUtf8, IsCharBoundary, reverse}
use Rattle.std.specs.Prelude.{nat_eq}
use Rattle.std.specs.List.{suffix_len}
use Rattle.std.proofs.lemmas.Bool.Decides.{nat_tests}
use Rattle.std.proofs.lemmas.List.{get_or-reverse}
use Rattle.std.proofs.lemmas.List.Sums.{prefix_len_passes, prefix_len-le-length, suffix_len-le-length}
use Rattle.std.proofs.lemmas.Str.{IsCharBoundary-start, IsCharBoundary-end}
use Rattle.std.proofs.lemmas.Str.{IsCharBoundary-before_ascii, IsCharBoundary-after_ascii}
use Rattle.proto_lex.specs.Ascii as ascii
use Rattle.proto_lex.specs.Bytes.{is_blank}
use Rattle.comment_texts.specs.Lines.{indentation}
use Rattle.comment_texts.specs.Comments.{is_third_sign}

blank_ascii : (b : ℕ) → is_blank b ≡ true → b < 128
blank_ascii b is = grind (arith, nat_tests)

pub sign_ascii : (second b : ℕ) → second < 128 → is_third_sign second b ≡ true → b < 128
sign_ascii second b known is = grind (arith, nat_tests)

pub star_ascii : (b : ℕ) → nat_eq b ascii.star ≡ true → b < 128
star_ascii b is = grind (arith, nat_tests)

-- behind a sign
pub cut_sign : (line : List ℕ) → IsUtf8 line → 0 < length line → get_or line 0 0 < 128 → IsCharBoundary line 1
cut_sign line utf8 some is = IsCharBoundary-after_ascii line 0 utf8 some is

-- behind blanks
pub cut_blanks : (line : List ℕ) (n : ℕ) → n ≤ indentation line → IsUtf8 line → IsCharBoundary line n
cut_blanks line zero within utf8 = IsCharBoundary-start line utf8
cut_blanks line (suc k) within utf8 =
    let inside : k < length line = omega (arith, prefix_len-le-length is_blank line) in
    let is = blank_ascii (get_or line k 0) (prefix_len_passes is_blank line k 0 (omega arith)) in
    let next : k + 1 ≡ suc k = omega arith in
    subst (IsCharBoundary line) next (IsCharBoundary-after_ascii line k utf8 inside is)

-- before the last blanks
pub cut_so_many : (line : List ℕ) (count : ℕ) → count ≡ suffix_len is_blank line
    → IsCharBoundary line (length line - count)
cut_so_many line zero e =
    let all : length line ≡ length line - zero = omega arith in
    subst (IsCharBoundary line) all (IsCharBoundary-end line)
cut_so_many line (suc k) e =
    let within : suffix_len is_blank line ≤ length line = suffix_len-le-length is_blank line in
    let passes : is_blank (get_or (reverse line) k 0) ≡ true =
    prefix_len_passes is_blank (reverse line) k 0 (omega (arith, e)) in
    let same : get_or (reverse line) k 0 ≡ get_or line (length line - 1 - k) 0 =
    get_or-reverse line k 0 (omega (arith, within, e)) in
    let place : length line - 1 - k ≡ length line - suc k = omega arith in
    let is : is_blank (get_or line (length line - suc k) 0) ≡ true =
    subst (λ (i : ℕ). is_blank (get_or line i 0) ≡ true) place (subst (λ (b : ℕ). is_blank b ≡ true) same passes) in
    IsCharBoundary-before_ascii line (length line - suc k) (omega (arith, within, e)) (blank_ascii _ is)
