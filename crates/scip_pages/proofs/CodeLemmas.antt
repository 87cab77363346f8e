-- What code in a page shows.
use Rattle.std.proofs.Common.{◌≡◌, ◌∙◌, sym, refl, ap, ℕ, ◌+◌, ◌-◌, ◌==◌, ◌&&◌, Bool, true, false, not, cond, List}
use Rattle.std.proofs.Common.{[], ◌∷◌, ◌++◌, take, drop, map, append_assoc, append-nil, arith, take-add}
use Rattle.std.proofs.Common.{drop-drop}
use Rattle.std.specs.Prelude.{codes, Option, None, Some}
use Rattle.std.specs.List.{flat_map, join_with_byte, list_all, prefix_len, AllByRecursion}
use Rattle.std.specs.Fmt.{decimal}
use Rattle.std.proofs.lemmas.Bool.{eqb-true, ne_eqb, and_from}
use Rattle.std.proofs.lemmas.Grind.{flat_map-append}
use Rattle.std.proofs.lemmas.List.{map-append}
use Rattle.std.proofs.lemmas.List.Folds.{list_all-append}
use Rattle.std.proofs.lemmas.List.Splits.{join_with_byte-slice_split}
use Rattle.scip_pages.specs.declared.code.Link.{Link}
use Rattle.scip_pages.specs.declared.runs.Run.{Run}
use Rattle.scip_pages.specs.Escapes.{escape, pictured, pictured_byte}
use Rattle.scip_pages.specs.Plain.{plain, plain_behind}
use Rattle.scip_pages.specs.Runs.{same_mark, onto_runs, runs_of}
use Rattle.scip_pages.specs.Code.{Piece, link_of, pieces_of, text_of, mark, attribute, target_code, linked, piece_code}
use Rattle.scip_pages.specs.Code.{line_mark, line_code, line_codes, code_of}
use Rattle.scip_pages.specs.CodeLaws.{CodeShowsTheLines, CodeShowsTheSource, PiecesHaveTheText, PiecesHaveTheLinks}
use Rattle.scip_pages.specs.CodeLaws.{links_in}
use Rattle.scip_pages.proofs.EscapeLemmas.{IsNoMark, has_no_marks, shows_the_rest}

-- code that shows a text, whatever stands behind it
abbrev Shows : List ℕ → List ℕ → Type 0
Shows code text = (rest : List ℕ) → plain (code ++ rest) ≡ text ++ plain rest

both : (a b x y : List ℕ) → Shows a x → Shows b y → Shows (a ++ b) (x ++ y)
both a b x y first second rest =
    ap plain (append_assoc a b rest) ∙ first (b ++ rest) ∙ ap (λ l. x ++ l) (second rest)
    ∙ sym (append_assoc x y (plain rest))

-- no byte that ends a mark
abbrev is_inner : ℕ → Bool
is_inner b = not (b == 62)

passed : (n byte : ℕ) (rest : List ℕ) → plain_behind (n + 1) (byte ∷ rest) ≡ plain_behind n rest
passed n byte rest =
    let a : (n + 1 == 0) ≡ false = ne_eqb (n + 1) 0 (λ e. omega (arith, e)) in
    let b : n + 1 - 1 ≡ n = omega arith in
    rw (a, b) refl

past_mark : (inside rest : List ℕ) → list_all is_inner inside ≡ true
    → plain_behind (prefix_len is_inner (inside ++ 62 ∷ rest) + 1) (inside ++ 62 ∷ rest) ≡ plain rest
past_mark [] rest inner = refl
past_mark (byte ∷ inside) rest inner = by (is_inner byte) refl inner (past_mark inside rest)
  where
    by : (b : Bool) → is_inner byte ≡ b → (b && list_all is_inner inside) ≡ true
        → (list_all is_inner inside ≡ true
        → plain_behind (prefix_len is_inner (inside ++ 62 ∷ rest) + 1) (inside ++ 62 ∷ rest) ≡ plain rest)
        → plain_behind (cond b (1 + prefix_len is_inner (inside ++ 62 ∷ rest)) 0 + 1) (byte ∷ (inside ++ 62 ∷ rest))
        ≡ plain rest
    by true is inner others =
        passed (1 + prefix_len is_inner (inside ++ 62 ∷ rest)) byte (inside ++ 62 ∷ rest)
        ∙ ap (λ n. plain_behind n (inside ++ 62 ∷ rest)) (one_more (prefix_len is_inner (inside ++ 62 ∷ rest)))
        ∙ others inner
      where
        one_more : (n : ℕ) → 1 + n ≡ n + 1
        one_more n = omega arith
    by false is inner others = absurd cc

shows_mark : (inside : List ℕ) → list_all is_inner inside ≡ true → Shows (mark inside) []
shows_mark inside inner rest =
    ap (λ l. plain (60 ∷ l)) (append_assoc inside (62 ∷ []) rest) ∙ past_mark inside rest inner

inner_append : (xs ys : List ℕ) → list_all is_inner xs ≡ true → list_all is_inner ys ≡ true
    → list_all is_inner (xs ++ ys) ≡ true
inner_append xs ys a b = list_all-append is_inner xs ys ∙ and_from _ _ a b

all_inner : (xs : List ℕ) → AllByRecursion IsNoMark xs → list_all is_inner xs ≡ true
all_inner [] all = refl
all_inner (x ∷ xs) all = rw (ne_eqb x 62 all.0.1) (all_inner xs all.1)

inner_escape : (text : List ℕ) → list_all is_inner (escape text) ≡ true
inner_escape text = all_inner (escape text) (has_no_marks text)

inner_attribute : (name value : List ℕ) → list_all is_inner name ≡ true
    → list_all is_inner (attribute name value) ≡ true
inner_attribute name value plainly =
    inner_append (codes " " ++ name ++ codes "=\"" ++ escape value) (codes "\"")
    (inner_append (codes " " ++ name ++ codes "=\"") (escape value)
    (inner_append (codes " " ++ name) (codes "=\"") (inner_append (codes " ") name refl plainly) refl)
    (inner_escape value))
    refl

inner_target : (target : Option (List ℕ)) → list_all is_inner (target_code target) ≡ true
inner_target None = inner_attribute (codes "tabindex") (codes "0") refl
inner_target (Some target) = inner_attribute (codes "href") target refl

shows_linked : (link : Option Link) (text : List ℕ) → Shows (linked link text) (pictured text)
shows_linked None text = shows_the_rest text
shows_linked (Some link) text =
    let inside : List ℕ = codes "a" ++ target_code link.target ++ attribute (codes "title") link.label in
    let inner : list_all is_inner inside ≡ true =
    inner_append (codes "a" ++ target_code link.target) (attribute (codes "title") link.label)
    (inner_append (codes "a") (target_code link.target) refl (inner_target link.target))
    (inner_attribute (codes "title") link.label refl) in
    λ rest.
    both (mark inside ++ escape text) (mark (codes "/a")) (pictured text) []
    (both (mark inside) (escape text) [] (pictured text) (shows_mark inside inner) (shows_the_rest text))
    (shows_mark (codes "/a") refl) rest
    ∙ ap (λ l. l ++ plain rest) (append-nil (pictured text))

shows_pieces : (pieces : List Piece) → Shows (flat_map piece_code pieces) (pictured (text_of pieces))
shows_pieces [] = λ rest. refl
shows_pieces (piece ∷ pieces) =
    λ rest.
    both (piece_code piece) (flat_map piece_code pieces) (pictured piece.text) (pictured (text_of pieces))
    (shows_linked piece.link piece.text) (shows_pieces pieces) rest
    ∙ ap (λ l. l ++ plain rest) (sym (flat_map-append pictured_byte piece.text (text_of pieces)))

shows_line : (number : ℕ) (pieces : List Piece) → Shows (line_code number pieces) (pictured (text_of pieces))
shows_line number pieces =
    let inside : List ℕ = codes "a" ++ attribute (codes "id") (codes "L" ++ decimal number) in
    let inner : list_all is_inner inside ≡ true =
    inner_append (codes "a") (attribute (codes "id") (codes "L" ++ decimal number)) refl
    (inner_attribute (codes "id") (codes "L" ++ decimal number) refl) in
    both (line_mark number) (flat_map piece_code pieces) [] (pictured (text_of pieces))
    (both (mark inside) (mark (codes "/a")) [] [] (shows_mark inside inner) (shows_mark (codes "/a") refl))
    (shows_pieces pieces)

shows_lines : (number : ℕ) (lines : List (List Piece))
    → Shows (join_with_byte 10 (line_codes number lines)) (pictured (join_with_byte 10 (map text_of lines)))
shows_lines number [] = λ rest. refl
shows_lines number (pieces ∷ []) = shows_line number pieces
shows_lines number (pieces ∷ (next ∷ lines)) =
    let others : List ℕ = join_with_byte 10 (map text_of (next ∷ lines)) in
    λ rest.
    both (line_code number pieces) (10 ∷ join_with_byte 10 (line_codes (number + 1) (next ∷ lines)))
    (pictured (text_of pieces)) (10 ∷ pictured others)
    (shows_line number pieces)
    (λ more. ap (λ l. 10 ∷ l) (shows_lines (number + 1) (next ∷ lines) more)) rest
    ∙ ap (λ l. l ++ plain rest) (sym (flat_map-append pictured_byte (text_of pieces) (10 ∷ others)))

pub code_shows_the_lines : CodeShowsTheLines
code_shows_the_lines lines =
    ap plain (sym (append-nil (code_of lines))) ∙ shows_lines 1 lines []
    ∙ append-nil (pictured (join_with_byte 10 (map text_of lines)))

pub code_shows_the_source : CodeShowsTheSource
code_shows_the_source source lines e =
    code_shows_the_lines lines
    ∙ ap pictured (ap (join_with_byte 10) e ∙ join_with_byte-slice_split 10 source)

-- the first bytes of a run, and the others
onto_text : (links : List Link) (n : ℕ) (occurrence : Option ℕ) (runs : List Run) (line : List ℕ)
    → text_of (pieces_of links line (onto_runs n occurrence runs))
    ≡ take n line ++ text_of (pieces_of links (drop n line) runs)
onto_text links n occurrence [] line = refl
onto_text links n occurrence (run ∷ runs) line = by (same_mark occurrence run.occurrence)
  where
    by : (b : Bool) → text_of
        (pieces_of links line (cond b (record { len = n + run.len; occurrence = occurrence } ∷ runs)
        (record { len = n; occurrence = occurrence } ∷ (run ∷ runs))))
        ≡ take n line ++ (take run.len (drop n line) ++ text_of (pieces_of links (drop run.len (drop n line)) runs))
    by true =
        rw (take-add n run.len line, drop-drop run.len n line)
        (append_assoc (take n line) (take run.len (drop n line))
        (text_of (pieces_of links (drop (n + run.len) line) runs)))
    by false = refl

pub pieces_have_the_text : PiecesHaveTheText
pieces_have_the_text links [] [] same = refl
pieces_have_the_text links (byte ∷ line) [] same = absurd (omega (arith, same))
pieces_have_the_text links [] (occurrence ∷ marks) same = absurd (omega (arith, same))
pieces_have_the_text links (byte ∷ line) (occurrence ∷ marks) same =
    onto_text links 1 occurrence (runs_of marks) (byte ∷ line)
    ∙ ap (λ l. byte ∷ l) (pieces_have_the_text links line marks (omega (arith, same)))

-- ---- links of bytes

pub marks_same : (a b : Option ℕ) → same_mark a b ≡ true → a ≡ b
marks_same None None e = refl
marks_same None (Some b) e = absurd cc
marks_same (Some a) None e = absurd cc
marks_same (Some a) (Some b) e = ap (λ (n : ℕ). Some n) (eqb-true a b e)

-- so many bytes have the link of an occurrence
abbrev all_with : List Link → Option ℕ → List ℕ → List (Option Link)
all_with links occurrence bytes = map (λ (byte : ℕ). link_of links occurrence) bytes

abbrev links_of : List Link → List ℕ → List Run → List (Option Link)
links_of links line runs = flat_map links_in (pieces_of links line runs)

onto_links : (links : List Link) (n : ℕ) (occurrence : Option ℕ) (runs : List Run) (line : List ℕ)
    → links_of links line (onto_runs n occurrence runs)
    ≡ all_with links occurrence (take n line) ++ links_of links (drop n line) runs
onto_links links n occurrence [] line = refl
onto_links links n occurrence (run ∷ runs) line = by (same_mark occurrence run.occurrence) refl
  where
    by : (b : Bool) → same_mark occurrence run.occurrence ≡ b
        → links_of links line (cond b (record { len = n + run.len; occurrence = occurrence } ∷ runs)
        (record { len = n; occurrence = occurrence } ∷ (run ∷ runs)))
        ≡ all_with links occurrence (take n line)
        ++ (all_with links run.occurrence (take run.len (drop n line))
        ++ links_of links (drop run.len (drop n line)) runs)
    by true e =
        let front : List ℕ = take n line in
        let mine : List ℕ = take run.len (drop n line) in
        let others : List (Option Link) = links_of links (drop (n + run.len) line) runs in
        let both : all_with links occurrence (take (n + run.len) line)
        ≡ all_with links occurrence front ++ all_with links occurrence mine =
        ap (all_with links occurrence) (take-add n run.len line)
        ∙ map-append (λ (byte : ℕ). link_of links occurrence) front mine in
        ap (λ (l : List (Option Link)). l ++ others) both
        ∙ append_assoc (all_with links occurrence front) (all_with links occurrence mine) others
        ∙ ap (λ (o : Option ℕ). all_with links occurrence front ++ (all_with links o mine ++ others))
        (marks_same occurrence run.occurrence e)
        ∙ ap (λ (l : List ℕ). all_with links occurrence front
        ++ (all_with links run.occurrence mine ++ links_of links l runs)) (sym (drop-drop run.len n line))
    by false e = refl

pub pieces_have_the_links : PiecesHaveTheLinks
pieces_have_the_links links [] [] same = refl
pieces_have_the_links links (byte ∷ line) [] same = absurd (omega (arith, same))
pieces_have_the_links links [] (occurrence ∷ marks) same = absurd (omega (arith, same))
pieces_have_the_links links (byte ∷ line) (occurrence ∷ marks) same =
    onto_links links 1 occurrence (runs_of marks) (byte ∷ line)
    ∙ ap (λ (l : List (Option Link)). link_of links occurrence ∷ l)
    (pieces_have_the_links links line marks (omega (arith, same)))
