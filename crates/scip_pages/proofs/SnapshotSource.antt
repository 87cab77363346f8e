-- Snapshots have their source.
use Rattle.std.proofs.Common.{◌≡◌, ◌∙◌, sym, refl, ap, ℕ, zero, suc, ◌+◌, ◌-◌, ◌/◌, ◌%◌, ◌==◌, ◌&&◌}
use Rattle.std.proofs.Common.{ℤ, pos, negsuc, Bool, true, false, not, cond, List, [], ◌∷◌, ◌++◌, length, take, drop, map}
use Rattle.std.proofs.Common.{append_assoc, arith}
use Rattle.std.specs.Prelude.{codes, nat_lt, Option, None, Some, Result, Ok, Err}
use Rattle.std.specs.Fmt.{decimal, digit_glyph, digits, digits_onto}
use Rattle.std.specs.Option.{unwrap_or}
use Rattle.std.specs.Ordering.{int_eq}
use Rattle.std.specs.List.{flat_map, filter, list_all, slice_get, slice_split, onto_first, join_with_byte}
use Rattle.std.specs.List.{enumerate_from, AllByRecursion}
use Rattle.std.proofs.lemmas.Bool.{and_from, and_parts, ne_eqb}
use Rattle.std.proofs.lemmas.List.Folds.{list_all-append}
use Rattle.std.proofs.lemmas.List.Splits.{join_with_byte-slice_split}
use Rattle.scip_records.specs.declared.records.Document.{Document}
use Rattle.scip_records.specs.declared.records.Occurrence.{Occurrence}
use Rattle.scip_records.specs.declared.records.SymbolInformation.{SymbolInformation}
use Rattle.scip_records.specs.Texts.{unless_empty}
use Rattle.scip_query.specs.References.{is_definition}
use Rattle.scip_query.specs.Documentation.{texts_of}
use Rattle.scip_query.specs.Entries.{kind_in, signature_in}
use Rattle.scip_query.specs.Kinds.{kind_names, kind_text}
use Rattle.scip_query.specs.BySymbol.{entry_in}
use Rattle.scip_pages.specs.declared.columns.ColumnUnit.{ColumnUnit}
use Rattle.scip_pages.specs.declared.snapshot_fault.SnapshotFault.{SnapshotFault}
use Rattle.scip_pages.specs.Columns.{is_first_byte, unit_of}
use Rattle.scip_pages.specs.Snapshot.{lines_of, misfit, below_byte, below, before_in, inside_in, is_import, role_of}
use Rattle.scip_pages.specs.Snapshot.{flat_byte, comment, caret_line, kind_line, note_line, note_head, note}
use Rattle.scip_pages.specs.Snapshot.{signature_note, documentation_note, about, mark, mark_in}
use Rattle.scip_pages.specs.Snapshot.{source_line, line_text, text_of, beginning, text_or_misfit, in_unit, in_document}
use Rattle.scip_pages.specs.SnapshotLaws.{ended_lines, is_source_line, source_in, HasTheSource, FlatIsOneLine}

-- a text on one line
abbrev is_inner : ℕ → Bool
is_inner b = not (b == 10)

abbrev IsInner : List ℕ → Type 0
IsInner text = list_all is_inner text ≡ true

inner_append : (xs ys : List ℕ) → IsInner xs → IsInner ys → IsInner (xs ++ ys)
inner_append xs ys a b = list_all-append is_inner xs ys ∙ and_from _ _ a b

split_next : (line rest : List ℕ) → IsInner line → lines_of (line ++ 10 ∷ rest) ≡ line ∷ lines_of rest
split_next [] rest inner = refl
split_next (byte ∷ line) rest inner = by (byte == 10) refl inner (split_next line rest)
  where
    by : (b : Bool) → (byte == 10) ≡ b → (not b && list_all is_inner line) ≡ true
        → (IsInner line → lines_of (line ++ 10 ∷ rest) ≡ line ∷ lines_of rest)
        → cond b ([] ∷ lines_of (line ++ 10 ∷ rest)) (onto_first byte (lines_of (line ++ 10 ∷ rest)))
        ≡ (byte ∷ line) ∷ lines_of rest
    by true is inner next = absurd cc
    by false is inner next = ap (onto_first byte) (next inner)

one_line : (text : List ℕ) → IsInner text → lines_of text ≡ text ∷ []
one_line [] inner = refl
one_line (byte ∷ text) inner = by (byte == 10) refl inner (one_line text)
  where
    by : (b : Bool) → (byte == 10) ≡ b → (not b && list_all is_inner text) ≡ true
        → (IsInner text → lines_of text ≡ text ∷ [])
        → cond b ([] ∷ lines_of text) (onto_first byte (lines_of text)) ≡ (byte ∷ text) ∷ []
    by true is inner alone = absurd cc
    by false is inner alone = ap (onto_first byte) (alone inner)

record HasFirst (lines : List (List ℕ)) : Type 0 where
  line : List ℕ
  others : List (List ℕ)
  is : lines ≡ line ∷ others

split_some : (text : List ℕ) → HasFirst (lines_of text)
split_some [] = record { line = []; others = []; is = refl }
split_some (byte ∷ text) = by (byte == 10) (split_some text)
  where
    by : (b : Bool) → HasFirst (lines_of text)
        → HasFirst (cond b ([] ∷ lines_of text) (onto_first byte (lines_of text)))
    by true first = record { line = []; others = lines_of text; is = refl }
    by false first = record { line = byte ∷ first.line; others = first.others; is = ap (onto_first byte) first.is }

one_less : (x : List ℕ) (xs : List (List ℕ)) → HasFirst xs
    → take (length (x ∷ xs) - 1) (x ∷ xs) ≡ x ∷ take (length xs - 1) xs
one_less x xs first =
    let some : length xs ≡ length (first.line ∷ first.others) = ap length first.is in
    let less : length (x ∷ xs) - 1 ≡ suc (length xs - 1) = omega (arith, some) in
    ap (λ (n : ℕ). take n (x ∷ xs)) less

ended_next : (line rest : List ℕ) → IsInner line → ended_lines (line ++ 10 ∷ rest) ≡ line ∷ ended_lines rest
ended_next line rest inner =
    ap (λ (ls : List (List ℕ)). take (length ls - 1) ls) (split_next line rest inner)
    ∙ one_less line (lines_of rest) (split_some rest)

ended_none : ended_lines [] ≡ []
ended_none =
    let none : length (lines_of []) - 1 ≡ 0 = omega arith in
    ap (λ (n : ℕ). take n (lines_of [])) none

-- the lines of the source in a text
abbrev kept : List ℕ → List (List ℕ)
kept text = filter is_source_line (ended_lines text)

-- what has none of them, whatever stands behind it
abbrev Skips : List ℕ → Type 0
Skips text = (rest : List ℕ) → kept (text ++ rest) ≡ kept rest

skips_both : (xs ys : List ℕ) → Skips xs → Skips ys → Skips (xs ++ ys)
skips_both xs ys first second rest = ap kept (append_assoc xs ys rest) ∙ first (ys ++ rest) ∙ second rest

skips_all : {X : Type 0} (Q : X → Type 0) (f : X → List ℕ) (xs : List X) → ((x : X) → Q x → Skips (f x))
    → AllByRecursion Q xs → Skips (flat_map f xs)
skips_all Q f [] each all = λ rest. refl
skips_all Q f (x ∷ xs) each all = skips_both (f x) (flat_map f xs) (each x all.0) (skips_all Q f xs each all.1)

skips_comment : (text : List ℕ) → IsInner text → Skips (comment text)
skips_comment text inner rest =
    ap (λ (l : List ℕ). kept (47 ∷ (47 ∷ l))) (append_assoc text (10 ∷ []) rest)
    ∙ ap (filter is_source_line) (ended_next (47 ∷ (47 ∷ text)) rest inner)

keeps_source : (line rest : List ℕ) → IsInner line → kept (source_line line ++ rest) ≡ (32 ∷ (32 ∷ line)) ∷ kept rest
keeps_source line rest inner =
    ap (λ (l : List ℕ). kept (32 ∷ (32 ∷ l))) (append_assoc line (10 ∷ []) rest)
    ∙ ap (filter is_source_line) (ended_next (32 ∷ (32 ∷ line)) rest inner)

-- what is below a line
inner_below : (sign : ℕ) (bytes : List ℕ) → is_inner sign ≡ true → IsInner (below sign bytes)
inner_below sign [] e = refl
inner_below sign (byte ∷ bytes) e =
    inner_append (below_byte sign byte) (below sign bytes) (by (byte == 9) (is_first_byte byte))
    (inner_below sign bytes e)
  where
    by : (a b : Bool) → IsInner (cond a (9 ∷ []) (cond b (sign ∷ []) []))
    by true b = refl
    by false true = rw e refl
    by false false = refl

inner_flat : (text : List ℕ) → IsInner (map flat_byte text)
inner_flat [] = refl
inner_flat (byte ∷ text) = by (byte == 10) refl (inner_flat text)
  where
    by : (b : Bool) → (byte == 10) ≡ b → IsInner (map flat_byte text)
        → (is_inner (cond b 32 byte) && list_all is_inner (map flat_byte text)) ≡ true
    by true is others = others
    by false is others = rw is others

inner_role : (a b : Bool) → IsInner (cond a (codes "definition") (cond b (codes "import") (codes "reference")))
inner_role true b = refl
inner_role false true = refl
inner_role false false = refl

skips_caret : (before inside : List ℕ) (o : Occurrence) → Skips (caret_line before inside o)
skips_caret before inside o =
    skips_comment (below 32 before ++ below 94 inside ++ codes " " ++ role_of o ++ codes " " ++ map flat_byte o.symbol)
    (inner_append (below 32 before ++ below 94 inside ++ codes " " ++ role_of o ++ codes " ") (map flat_byte o.symbol)
    (inner_append (below 32 before ++ below 94 inside ++ codes " " ++ role_of o) (codes " ")
    (inner_append (below 32 before ++ below 94 inside ++ codes " ") (role_of o)
    (inner_append (below 32 before ++ below 94 inside) (codes " ")
    (inner_append (below 32 before) (below 94 inside) (inner_below 32 before refl) (inner_below 94 inside refl)) refl)
    (inner_role (is_definition o) (is_import o))) refl)
    (inner_flat o.symbol))

inner_lines : (text : List ℕ) → AllByRecursion IsInner (lines_of text)
inner_lines [] = (refl, tt)
inner_lines (byte ∷ text) = by (byte == 10) refl (lines_of text) (inner_lines text)
  where
    by : (b : Bool) → (byte == 10) ≡ b → (ls : List (List ℕ)) → AllByRecursion IsInner ls
        → AllByRecursion IsInner (cond b ([] ∷ ls) (onto_first byte ls))
    by true is ls all = (refl, all)
    by false is [] all = (rw is refl, tt)
    by false is (l ∷ ls) all = (rw is all.0, all.1)

-- texts of kinds
inner_words : (text : List ℕ) → IsInner text → AllByRecursion IsInner (slice_split (λ b. b == 32) text)
inner_words [] inner = (refl, tt)
inner_words (byte ∷ text) inner =
    let two = and_parts (is_inner byte) (list_all is_inner text) inner in
    by (byte == 32) two.0 (slice_split (λ b. b == 32) text) (inner_words text two.1)
  where
    by : (b : Bool) → is_inner byte ≡ true → (ls : List (List ℕ)) → AllByRecursion IsInner ls
        → AllByRecursion IsInner (cond b ([] ∷ ls) (onto_first byte ls))
    by true is ls all = (refl, all)
    by false is [] all = (and_from _ _ is refl, tt)
    by false is (l ∷ ls) all = (and_from _ _ is all.0, all.1)

inner_at : (words : List (List ℕ)) (number : ℕ) (other : List ℕ) → AllByRecursion IsInner words → IsInner other
    → IsInner (unwrap_or (slice_get words number) other)
inner_at [] number other all inner = inner
inner_at (word ∷ words) zero other all inner = all.0
inner_at (word ∷ words) (suc number) other all inner = inner_at words number other all.1 inner

inner_glyph : (d : ℕ) → is_inner (digit_glyph false d) ≡ true
inner_glyph d = by (nat_lt d 10)
  where
    by : (b : Bool) → is_inner (cond b (48 + d) (87 + d)) ≡ true
    by true = ap not (ne_eqb (48 + d) 10 (λ e. omega (arith, e)))
    by false = ap not (ne_eqb (87 + d) 10 (λ e. omega (arith, e)))

inner_digits : (k n : ℕ) (behind : List ℕ) → IsInner behind → IsInner (digits_onto k 10 false n behind)
inner_digits zero n behind inner = inner
inner_digits (suc k) n behind inner =
    let glyph : ℕ = digit_glyph false (n % 10) in
    let more : IsInner (glyph ∷ behind) = and_from _ _ (inner_glyph (n % 10)) inner in
    by (n / 10 == 0) more (inner_digits k (n / 10) (glyph ∷ behind) more)
  where
    by : (b : Bool) → IsInner (digit_glyph false (n % 10) ∷ behind)
        → IsInner (digits_onto k 10 false (n / 10) (digit_glyph false (n % 10) ∷ behind))
        → IsInner (cond b (digit_glyph false (n % 10) ∷ behind)
        (digits_onto k 10 false (n / 10) (digit_glyph false (n % 10) ∷ behind)))
    by true last others = last
    by false last others = others

inner_decimal : (n : ℕ) → IsInner (decimal n)
unfolding digits
inner_decimal n = inner_digits 64 n [] refl

inner_kind : (kind : ℤ) → IsInner (kind_text kind)
inner_kind (pos n) =
    inner_at (slice_split (λ b. b == 32) kind_names) n (decimal n) (inner_words kind_names refl) (inner_decimal n)
inner_kind (negsuc n) = inner_decimal (suc n)

skips_note : (head before text : List ℕ) → IsInner head → Skips (note head before text)
skips_note head before text is =
    skips_both (note_head head before) (flat_map (note_line before) (lines_of text))
    (skips_comment (below 32 before ++ head) (inner_append (below 32 before) head (inner_below 32 before refl) is))
    (skips_all IsInner (note_line before) (lines_of text)
    (λ line inner. skips_comment (below 32 before ++ codes "> " ++ line)
    (inner_append (below 32 before ++ codes "> ") line
    (inner_append (below 32 before) (codes "> ") (inner_below 32 before refl) refl) inner))
    (inner_lines text))

skips_notes : (head before : List ℕ) → IsInner head → (texts : List (List ℕ))
    → Skips (flat_map (note head before) texts)
skips_notes head before is [] = λ rest. refl
skips_notes head before is (text ∷ texts) =
    skips_both (note head before text) (flat_map (note head before) texts) (skips_note head before text is)
    (skips_notes head before is texts)

skips_kind : (before : List ℕ) (kind : ℤ) → Skips (kind_line before kind)
skips_kind before kind = by (int_eq kind (pos 0))
  where
    by : (b : Bool) → Skips (cond b [] (comment (below 32 before ++ codes "kind " ++ kind_text kind)))
    by true = λ rest. refl
    by false = skips_comment (below 32 before ++ codes "kind " ++ kind_text kind)
        (inner_append (below 32 before ++ codes "kind ") (kind_text kind)
        (inner_append (below 32 before) (codes "kind ") (inner_below 32 before refl) refl) (inner_kind kind))

skips_about : (before : List ℕ) (entry : Option SymbolInformation) → Skips (about before entry)
skips_about before entry =
    let kind : List ℕ = kind_line before (kind_in entry) in
    let signature : List ℕ = flat_map (signature_note before) (unless_empty (signature_in entry)) in
    skips_both (kind ++ signature) (flat_map (documentation_note before) (texts_of entry))
    (skips_both kind signature (skips_kind before (kind_in entry))
    (skips_notes (codes "signature_documentation") before refl (unless_empty (signature_in entry))))
    (skips_notes (codes "documentation") before refl (texts_of entry))

skips_mark : (before inside : List ℕ) (entry : Option SymbolInformation) (o : Occurrence)
    → Skips (mark before inside entry o)
skips_mark before inside entry o =
    skips_both (caret_line before inside o) (cond (is_definition o) (about before entry) [])
    (skips_caret before inside o) (by (is_definition o))
  where
    by : (b : Bool) → Skips (cond b (about before entry) [])
    by true = skips_about before entry
    by false = λ rest. refl

skips_marks : (unit : ColumnUnit) (line : List ℕ) (entries : List ℕ → Option SymbolInformation) (os : List Occurrence)
    → Skips (flat_map (mark_in unit line entries) os)
skips_marks unit line entries [] = λ rest. refl
skips_marks unit line entries (o ∷ os) =
    skips_both (mark_in unit line entries o) (flat_map (mark_in unit line entries) os)
    (skips_mark (before_in unit line o.range) (inside_in unit line o.range) (entries o.symbol) o)
    (skips_marks unit line entries os)

abbrev behind_blanks : List ℕ → List ℕ
behind_blanks line = 32 ∷ (32 ∷ line)

keeps_lines : (unit : ColumnUnit) (entries : List ℕ → Option SymbolInformation) (on : ℕ → List Occurrence) (from : ℕ)
    (lines : List (List ℕ)) → AllByRecursion IsInner lines
    → kept (flat_map (λ (x : ℕ × List ℕ). line_text unit entries (on x.0) x.1) (enumerate_from from lines))
    ≡ map behind_blanks lines
keeps_lines unit entries on from [] all = ap (filter is_source_line) ended_none
keeps_lines unit entries on from (line ∷ lines) all =
    let marks : List ℕ = flat_map (mark_in unit line entries) (on from) in
    let rest : List ℕ = flat_map (λ (x : ℕ × List ℕ). line_text unit entries (on x.0) x.1)
    (enumerate_from (from + 1) lines) in
    ap kept (append_assoc (source_line line) marks rest)
    ∙ keeps_source line (marks ++ rest) all.0
    ∙ ap (λ (ls : List (List ℕ)). behind_blanks line ∷ ls)
    (skips_marks unit line entries (on from) rest ∙ keeps_lines unit entries on (from + 1) lines all.1)

blanks_away : (lines : List (List ℕ)) → map (drop 2) (map behind_blanks lines) ≡ lines
blanks_away [] = refl
blanks_away (line ∷ lines) = ap (λ (ls : List (List ℕ)). line ∷ ls) (blanks_away lines)

text_has_it : (unit : ColumnUnit) (entries : List ℕ → Option SymbolInformation) (on : ℕ → List Occurrence) (source : List ℕ)
    → source_in (text_of unit entries on (lines_of source)) ≡ source
text_has_it unit entries on source =
    ap (λ (ls : List (List ℕ)). join_with_byte 10 (map (drop 2) ls))
    (keeps_lines unit entries on 0 (lines_of source) (inner_lines source))
    ∙ ap (join_with_byte 10) (blanks_away (lines_of source))
    ∙ join_with_byte-slice_split 10 source

abbrev text_or_none : Result (List ℕ) SnapshotFault → List ℕ
text_or_none (Ok text) = text
text_or_none (Err fault) = []

of_misfit : (due text : List ℕ) (number : Option ℕ) → text_or_misfit due number ≡ Ok text → due ≡ text
of_misfit due text None e = ap text_or_none e
of_misfit due text (Some number) e = absurd cc

of_unit : (unit : Option ColumnUnit) (entries : List ℕ → Option SymbolInformation) (os : List Occurrence)
    (source text : List ℕ) → in_unit unit entries os (lines_of source) ≡ Ok text → source_in text ≡ source
of_unit None entries os source text e = absurd cc
of_unit (Some unit) entries os source text e =
    ap source_in (sym (of_misfit (text_of unit entries (beginning os) (lines_of source)) text
    (misfit unit (lines_of source) os) e))
    ∙ text_has_it unit entries (beginning os) source

of_document : (d : Option Document) (entries : List ℕ → Option SymbolInformation) (source text : List ℕ)
    → in_document d entries (lines_of source) ≡ Ok text → source_in text ≡ source
of_document None entries source text e = absurd cc
of_document (Some d) entries source text e =
    of_unit (unit_of d.position_encoding) entries d.occurrences source text e

pub has_the_source : HasTheSource
has_the_source index number source text e =
    of_document (slice_get index.documents number) (entry_in index number) source text e

pub flat_is_one_line : FlatIsOneLine
flat_is_one_line text = one_line (map flat_byte text) (inner_flat text)
