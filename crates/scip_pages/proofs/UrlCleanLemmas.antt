-- Texts without a NUL: what is shown of them is the text.
use Rattle.std.proofs.Common.{◌≡◌, ◌∙◌, refl, ap, ℕ, zero, suc, ◌+◌, ◌/◌, ◌%◌, ◌==◌, Bool, true, false, cond}
use Rattle.std.proofs.Common.{List, [], ◌∷◌, ◌++◌, arith}
use Rattle.std.specs.Prelude.{codes, nat_lt}
use Rattle.std.specs.Fmt.{decimal, digit_glyph, digits, digits_onto}
use Rattle.std.proofs.lemmas.Bool.{ne_eqb}
use Rattle.std.proofs.lemmas.Grind.{flat_map-append}
use Rattle.scip_records.specs.declared.records.Index.{Index}
use Rattle.scip_query.specs.Tables.{path_listed}
use Rattle.scip_query.specs.declared.place.Place.{Place}
use Rattle.scip_pages.specs.Escapes.{picture, pictured, pictured_byte}
use Rattle.scip_pages.specs.Urls.{encoded, encoded_byte, hex_digit, is_kept, line_place, up, ups}
use Rattle.scip_pages.specs.Crumbs.{file_url, folder_id, folder_url}
use Rattle.scip_pages.specs.Site.{line_listed, page_path, same_place}
use Rattle.scip_pages.specs.Targets.{place_url, target_of, uses_id, uses_url}

abbrev pub IsClean : List ℕ → Type 0
IsClean text = pictured text ≡ text

pub clean_both : (x y : List ℕ) → IsClean x → IsClean y → IsClean (x ++ y)
clean_both x y a b =
    flat_map-append pictured_byte x y ∙ ap (λ (l : List ℕ). l ++ pictured y) a ∙ ap (λ (l : List ℕ). x ++ l) b

clean_byte : (byte : ℕ) (text : List ℕ) → (byte == 0) ≡ false → IsClean text → IsClean (byte ∷ text)
clean_byte byte text other clean =
    ap (λ (b : Bool). cond b picture (byte ∷ []) ++ pictured text) other ∙ ap (λ (l : List ℕ). byte ∷ l) clean

-- ---- numbers

glyph_is : (d : ℕ) → (digit_glyph false d == 0) ≡ false
glyph_is d = by (nat_lt d 10)
  where
    by : (b : Bool) → (cond b (48 + d) (87 + d) == 0) ≡ false
    by true = ne_eqb (48 + d) 0 (λ e. omega (arith, e))
    by false = ne_eqb (87 + d) 0 (λ e. omega (arith, e))

clean_digits : (k n : ℕ) (behind : List ℕ) → IsClean behind → IsClean (digits_onto k 10 false n behind)
clean_digits zero n behind clean = clean
clean_digits (suc k) n behind clean =
    let glyph : ℕ = digit_glyph false (n % 10) in
    let more : IsClean (glyph ∷ behind) = clean_byte glyph behind (glyph_is (n % 10)) clean in
    by (n / 10 == 0) more (clean_digits k (n / 10) (glyph ∷ behind) more)
  where
    by : (b : Bool) → IsClean (digit_glyph false (n % 10) ∷ behind)
        → IsClean (digits_onto k 10 false (n / 10) (digit_glyph false (n % 10) ∷ behind))
        → IsClean (cond b (digit_glyph false (n % 10) ∷ behind)
        (digits_onto k 10 false (n / 10) (digit_glyph false (n % 10) ∷ behind)))
    by true last others = last
    by false last others = others

pub clean_decimal : (n : ℕ) → IsClean (decimal n)
unfolding digits
clean_decimal n = clean_digits 64 n [] refl

-- ---- encoded paths

hex_is : (n : ℕ) → (hex_digit n == 0) ≡ false
hex_is n = by (nat_lt n 10)
  where
    by : (b : Bool) → (cond b (n + 48) (n + 55) == 0) ≡ false
    by true = ne_eqb (n + 48) 0 (λ e. omega (arith, e))
    by false = ne_eqb (n + 55) 0 (λ e. omega (arith, e))

kept_is : (byte : ℕ) → is_kept byte ≡ true → (byte == 0) ≡ false
kept_is zero e = absurd cc
kept_is (suc byte) e = ne_eqb (suc byte) 0 (λ same. omega (arith, same))

clean_encoded_byte : (byte : ℕ) → IsClean (encoded_byte byte)
clean_encoded_byte byte = by (is_kept byte) refl
  where
    by : (b : Bool) → is_kept byte ≡ b
        → IsClean (cond b (byte ∷ []) (37 ∷ (hex_digit (byte / 16) ∷ (hex_digit (byte % 16) ∷ []))))
    by true e = clean_byte byte [] (kept_is byte e) refl
    by false e =
        clean_byte 37 (hex_digit (byte / 16) ∷ (hex_digit (byte % 16) ∷ [])) refl
        (clean_byte (hex_digit (byte / 16)) (hex_digit (byte % 16) ∷ []) (hex_is (byte / 16))
        (clean_byte (hex_digit (byte % 16)) [] (hex_is (byte % 16)) refl))

pub clean_encoded : (path : List ℕ) → IsClean (encoded path)
clean_encoded [] = refl
clean_encoded (byte ∷ path) =
    clean_both (encoded_byte byte) (encoded path) (clean_encoded_byte byte) (clean_encoded path)

clean_ups : (path : List ℕ) → IsClean (ups path)
clean_ups [] = refl
clean_ups (byte ∷ path) = clean_both (up byte) (ups path) (by (byte == 47)) (clean_ups path)
  where
    by : (b : Bool) → IsClean (cond b (codes "../") [])
    by true = refl
    by false = refl

-- ---- ids and URLs

pub clean_line_id : (number : ℕ) → IsClean (codes "L" ++ decimal number)
clean_line_id number = clean_both (codes "L") (decimal number) refl (clean_decimal number)

pub clean_line_place : (line : ℕ) → IsClean (codes "#L" ++ decimal line)
clean_line_place line = clean_both (codes "#L") (decimal line) refl (clean_decimal line)

pub clean_uses_id : (occurrence : ℕ) → IsClean (uses_id occurrence)
clean_uses_id occurrence = clean_both (codes "U") (decimal occurrence) refl (clean_decimal occurrence)

clean_uses_url : (occurrence : ℕ) → IsClean (uses_url occurrence)
clean_uses_url occurrence = clean_both (codes "#U") (decimal occurrence) refl (clean_decimal occurrence)

pub clean_place_url : (index : Index) (from : ℕ) (place : Place) → IsClean (place_url index from place)
clean_place_url index from place =
    let here : List ℕ = page_path (path_listed index.documents from) in
    let to : List ℕ = page_path (path_listed index.documents place.document) in
    let line : ℕ = line_listed index.documents place in
    clean_both (ups here ++ encoded to) (line_place line)
    (clean_both (ups here) (encoded to) (clean_ups here) (clean_encoded to)) (clean_line_place line)

pub clean_target : (index : Index) (place definition : Place) → IsClean (target_of index place definition)
clean_target index place definition = by (same_place definition place)
  where
    by : (b : Bool) → IsClean (cond b (uses_url place.occurrence) (place_url index place.document definition))
    by true = clean_uses_url place.occurrence
    by false = clean_place_url index place.document definition

pub clean_file_url : (from name : List ℕ) → IsClean name → IsClean (file_url from name)
clean_file_url from name clean = clean_both (ups from) name (clean_ups from) clean

pub clean_folder_id : (folder : List ℕ) → IsClean (folder_id folder)
clean_folder_id folder = clean_both (codes "d/") (encoded folder) refl (clean_encoded folder)

pub clean_folder_url : (from folder : List ℕ) → IsClean (folder_url from folder)
clean_folder_url from folder =
    clean_both (file_url from (codes "index.html")) (codes "#" ++ folder_id folder)
    (clean_file_url from (codes "index.html") refl)
    (clean_both (codes "#") (folder_id folder) refl (clean_folder_id folder))
