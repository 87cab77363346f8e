-- URLs by which one page names a line of another. (RFC 3986: 2.1 "Percent-Encoding", 2.3 "Unreserved Characters",
-- 4.2 "Relative Reference")
use Rattle.std.specs.Prelude.{ℕ, ◌+◌, ◌-◌, ◌*◌, ◌/◌, ◌%◌, ◌==◌, Bool, nat_lt, nat_le, ◌&&◌, ◌||◌, cond, List, [], ◌∷◌}
use Rattle.std.specs.Prelude.{◌++◌, codes, length, take}
use Rattle.std.specs.List.{flat_map}
use Rattle.std.specs.Fmt.{decimal}
use Rattle.scip_pages.specs.Paths.{components}

-- what a URL has as it is: the unreserved characters, and the slashes between components
abbrev pub is_kept : ℕ → Bool
is_kept b =
    (nat_le 65 b && nat_le b 90) || (nat_le 97 b && nat_le b 122) || (nat_le 48 b && nat_le b 57)
    || (b == 45) || (b == 46) || (b == 95) || (b == 126) || (b == 47)

-- each other byte is `%` and its two hexadecimal digits
abbrev pub hex_digit : ℕ → ℕ
hex_digit n = cond (nat_lt n 10) (n + 48) (n + 55)

abbrev pub encoded_byte : ℕ → List ℕ
encoded_byte b = cond (is_kept b) (b ∷ []) (37 ∷ (hex_digit (b / 16) ∷ (hex_digit (b % 16) ∷ [])))

abbrev pub encoded : List ℕ → List ℕ
encoded path = flat_map encoded_byte path

-- From the folder of a page up to that of all pages: as often as the path of the page has a slash.
abbrev pub up : ℕ → List ℕ
up b = cond (b == 47) (codes "../") []

abbrev pub ups : List ℕ → List ℕ
ups from = flat_map up from

-- the line with a number of the page with the path `to`, as the page with the path `from` names it
abbrev pub line_place : ℕ → List ℕ
line_place line = codes "#L" ++ decimal line

abbrev pub url_of : List ℕ → List ℕ → ℕ → List ℕ
url_of from to line = ups from ++ encoded to ++ line_place line

-- ---- what a reader of a URL makes of it

-- the value of a digit, and of the two after a `%`
abbrev pub digit_value : ℕ → ℕ
digit_value digit = cond (nat_lt digit 65) (digit - 48) (digit - 55)

abbrev pub byte_of : List ℕ → List ℕ
byte_of [] = []
byte_of (high ∷ []) = []
byte_of (high ∷ (low ∷ rest)) = (16 * digit_value high + digit_value low) ∷ []

-- what a byte stands for with what is after it, and how many of those belong to it
abbrev pub decoded_behind : ℕ → List ℕ → List ℕ
decoded_behind n [] = []
decoded_behind n (byte ∷ behind) =
    cond (n == 0) (cond (byte == 37) (byte_of behind) (byte ∷ [])) []
    ++ decoded_behind (cond (n == 0) (cond (byte == 37) 2 0) (n - 1)) behind

abbrev pub decoded : List ℕ → List ℕ
decoded text = decoded_behind 0 text

-- the folder in which a page is, from that of all pages
abbrev pub folder_of : List ℕ → List (List ℕ)
folder_of path = take (length (components path) - 1) (components path)
