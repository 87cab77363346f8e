-- What a reader makes of the parts of a page, whose URLs are of a kind.
use Rattle.std.proofs.Common.{◌≡◌, ◌∙◌, sym, refl, ap, subst, ℕ, suc, ◌-◌, ◌==◌, Bool, true, false, not, cond}
use Rattle.std.proofs.Common.{List, [], ◌∷◌, ◌++◌, take, drop, length, arith, inl, inr}
use Rattle.std.specs.Prelude.{codes, Option, None, Some}
use Rattle.std.specs.List.{flat_map, range_with_len, slice_get}
use Rattle.std.specs.Fmt.{decimal}
use Rattle.std.proofs.lemmas.Bool.{and_parts}
use Rattle.scip_records.specs.declared.records.Index.{Index}
use Rattle.scip_records.specs.declared.records.Occurrence.{Occurrence}
use Rattle.scip_query.specs.BySymbol.{references_in}
use Rattle.scip_query.specs.Tables.{path_listed, symbol_listed}
use Rattle.scip_query.specs.declared.place.Place.{Place}
use Rattle.scip_pages.specs.declared.columns.ColumnUnit.{ColumnUnit}
use Rattle.scip_pages.specs.declared.code.Link.{Link}
use Rattle.scip_pages.specs.declared.runs.Run.{Run}
use Rattle.scip_pages.specs.Code.{attribute, line_mark, link_of, linked, mark, piece_code, pieces_of, target_code}
use Rattle.scip_pages.specs.Escapes.{escape, pictured}
use Rattle.scip_pages.specs.Paths.{components}
use Rattle.scip_pages.specs.Runs.{marks_of, runs_of}
use Rattle.scip_pages.specs.Urls.{folder_of}
use Rattle.scip_pages.specs.Marks.{link}
use Rattle.scip_pages.specs.Site.{Sources, has_page, line_listed, page_path, same_place}
use Rattle.scip_pages.specs.Targets.{place_url, uses_id}
use Rattle.scip_pages.specs.CodeText.{beginning, code_text, lead, line_at, line_by, line_text, spans_of}
use Rattle.scip_pages.specs.Crumbs.{crumbs_text, file_url, folder_text, folder_url, folders_on, head_text, last_text}
use Rattle.scip_pages.specs.Crumbs.{names_text, style_text}
use Rattle.scip_pages.specs.Targets.{label_at}
use Rattle.scip_pages.specs.Uses.{all_defined, defined_head, defined_name, defined_text, is_use, places_text}
use Rattle.scip_pages.specs.Uses.{use_link, use_name, use_or_none, use_text, uses_text}
use Rattle.scip_pages.specs.Page.{main_text, start_text}
use Rattle.scip_pages.specs.Tags.{Tag, Data, bare, tag_with}
use Rattle.scip_pages.proofs.UrlCleanLemmas.{IsClean, clean_file_url, clean_folder_url, clean_line_id, clean_line_place}
use Rattle.scip_pages.proofs.UrlCleanLemmas.{clean_place_url, clean_uses_id}
use Rattle.basics.proofs.ElementLemmas.{In, in_at}
use Rattle.scip_pages.proofs.TagLemmas.{Fine, Reads, both, chain, end_a, escaped_reads, fine_const, fine_each}
use Rattle.scip_pages.proofs.TagLemmas.{fine_escape, fine_link, no_urls, quoted_clean, quoted_reads, tag_a}

-- ---- marks with an id or a label

pub line_mark_reads : (number : ℕ)
    → Reads Data (line_mark number) Data (tag_a (codes "id") (codes "L" ++ decimal number) ∷ (end_a ∷ []))
line_mark_reads number =
    let id : List ℕ = codes "L" ++ decimal number in
    let start : List ℕ = mark (codes "a" ++ attribute (codes "id") id) in
    let begun : Reads Data start Data (tag_a (codes "id") id ∷ []) =
    chain (codes "<a id=\"" ++ (escape id ++ codes "\"")) (codes ">")
    (chain (codes "<a id=\"") (escape id ++ codes "\"") (record { ends = refl; are = refl })
    (quoted_clean (bare (codes "a")) (codes "id") id (clean_line_id number)))
    (record { ends = refl; are = refl }) in
    chain start (mark (codes "/a")) begun (record { ends = refl; are = refl })

labelled_reads : (target label : List ℕ)
    → Reads Data (mark (codes "a" ++ attribute (codes "href") target ++ attribute (codes "title") label)) Data
    (tag_with (tag_a (codes "href") (pictured target)) (codes "title") (pictured label) ∷ [])
labelled_reads target label =
    let one : List ℕ = codes "<a href=\"" ++ (escape target ++ codes "\"") in
    let two : List ℕ = codes " title=\"" ++ (escape label ++ codes "\"") in
    chain (one ++ two) (codes ">")
    (chain one two
    (chain (codes "<a href=\"") (escape target ++ codes "\"") (record { ends = refl; are = refl })
    (quoted_reads (bare (codes "a")) (codes "href") target))
    (chain (codes " title=\"") (escape label ++ codes "\"") (record { ends = refl; are = refl })
    (quoted_reads (tag_a (codes "href") (pictured target)) (codes "title") label)))
    (record { ends = refl; are = refl })

abbrev tag_of_keys : List ℕ → Tag
tag_of_keys label = tag_with (tag_a (codes "tabindex") (codes "0")) (codes "title") (pictured label)

keys_read : (label : List ℕ)
    → Reads Data (mark (codes "a" ++ target_code None ++ attribute (codes "title") label)) Data (tag_of_keys label ∷ [])
keys_read label =
    let one : List ℕ = codes "<a tabindex=\"0\"" in
    let two : List ℕ = codes " title=\"" ++ (escape label ++ codes "\"") in
    chain (one ++ two) (codes ">")
    (chain one two (record { ends = refl; are = refl })
    (chain (codes " title=\"") (escape label ++ codes "\"") (record { ends = refl; are = refl })
    (quoted_reads (tag_a (codes "tabindex") (codes "0")) (codes "title") label)))
    (record { ends = refl; are = refl })

-- what is defined: its id, and the link to its line
pub places_reads : (occurrence line : ℕ)
    → Reads Data (places_text occurrence line) Data
    (tag_with (bare (codes "dt")) (codes "id") (uses_id occurrence)
    ∷ (tag_a (codes "href") (codes "#L" ++ decimal line) ∷ (bare (codes "b") ∷ [])))
places_reads occurrence line =
    let url : List ℕ = codes "#L" ++ decimal line in
    let one : List ℕ = codes "<dt id=\"" ++ (escape (uses_id occurrence) ++ codes "\"") in
    let two : List ℕ = codes " href=\"" ++ (escape url ++ codes "\"") in
    chain (one ++ codes "><a" ++ two) (codes "><b>")
    (chain (one ++ codes "><a") two
    (chain one (codes "><a")
    (chain (codes "<dt id=\"") (escape (uses_id occurrence) ++ codes "\"") (record { ends = refl; are = refl })
    (quoted_clean (bare (codes "dt")) (codes "id") (uses_id occurrence) (clean_uses_id occurrence)))
    (record { ends = refl; are = refl }))
    (chain (codes " href=\"") (escape url ++ codes "\"") (record { ends = refl; are = refl })
    (quoted_clean (bare (codes "a")) (codes "href") url (clean_line_place line))))
    (record { ends = refl; are = refl })

-- ---- names

-- all but the last
abbrev pub front : List (List ℕ) → List (List ℕ)
front [] = []
front (name ∷ []) = []
front (name ∷ (other ∷ others)) = name ∷ front (other ∷ others)

pub front_is : (names : List (List ℕ)) → take (length names - 1) names ≡ front names
front_is [] = refl
front_is (name ∷ []) = refl
front_is (name ∷ (other ∷ others)) =
    let len : length (name ∷ (other ∷ others)) - 1 ≡ suc (length others) = omega arith in
    let shorter : length (other ∷ others) - 1 ≡ length others = omega arith in
    ap (λ (n : ℕ). take n (name ∷ (other ∷ others))) len
    ∙ ap (λ (ns : List (List ℕ)). name ∷ ns)
    (ap (λ (n : ℕ). take n (other ∷ others)) (sym shorter) ∙ front_is (other ∷ others))

module _ (P : List ℕ → Type 0) where
  -- ---- code

  pub fine_lead : (number : ℕ) → Fine P (lead number)
  fine_lead number = by (number == 1)
    where
      by : (b : Bool) → Fine P (cond b [] (codes "\n"))
      by true = fine_const P [] refl refl
      by false = fine_const P (codes "\n") refl refl

  fine_linked : (l : Option Link) (text : List ℕ)
      → ((one : Link) (url : List ℕ) → l ≡ Some one → one.target ≡ Some url → P (pictured url)) → Fine P (linked l text)
  fine_linked None text leads = fine_escape P text
  fine_linked (Some l) text leads = by l.target refl
    where
      by : (target : Option (List ℕ)) → l.target ≡ target
          → Fine P (mark (codes "a" ++ target_code target ++ attribute (codes "title") l.label) ++ escape text
          ++ mark (codes "/a"))
      by None e =
          let start : List ℕ = mark (codes "a" ++ target_code None ++ attribute (codes "title") l.label) in
          no_urls P (start ++ escape text ++ mark (codes "/a")) (tag_of_keys l.label ∷ (end_a ∷ []))
          (chain (start ++ escape text) (mark (codes "/a"))
          (chain start (escape text) (keys_read l.label) (escaped_reads text)) (record { ends = refl; are = refl }))
          refl
      by (Some url) e =
          let start : List ℕ = mark (codes "a" ++ attribute (codes "href") url ++ attribute (codes "title") l.label) in
          record {
            tags = tag_with (tag_a (codes "href") (pictured url)) (codes "title") (pictured l.label) ∷ (end_a ∷ []);
            reads = chain (start ++ escape text) (mark (codes "/a"))
                (chain start (escape text) (labelled_reads url l.label) (escaped_reads text))
                (record { ends = refl; are = refl });
            urls = (leads l url refl e, tt);
          }

  module _ (links : List Link)
      (leads : (l : Link) (url : List ℕ) → In l links → l.target ≡ Some url → P (pictured url)) where
    fine_of : (occurrence : Option ℕ) (text : List ℕ) → Fine P (linked (link_of links occurrence) text)
    fine_of None text = fine_escape P text
    fine_of (Some k) text =
        fine_linked (slice_get links k) text (λ one url is e. leads one url (in_at links k one is) e)

    fine_pieces : (line : List ℕ) (runs : List Run) → Fine P (flat_map piece_code (pieces_of links line runs))
    fine_pieces line [] = fine_const P [] refl refl
    fine_pieces line (run ∷ runs) =
        both P (linked (link_of links run.occurrence) (take run.len line))
        (flat_map piece_code (pieces_of links (drop run.len line) runs))
        (fine_of run.occurrence (take run.len line)) (fine_pieces (drop run.len line) runs)

    pub fine_line : (unit : ColumnUnit) (occurrences : List Occurrence) (lines : List (List ℕ)) (marking : List ℕ)
        (number : ℕ) → Fine P (line_text unit occurrences links lines marking number)
    fine_line unit occurrences lines marking number =
        let line : List ℕ = line_at lines (number - 1) in
        let runs : List Run = runs_of (marks_of (spans_of unit occurrences line marking) (length line)) in
        let code : List ℕ = flat_map piece_code (pieces_of links line runs) in
        both P (lead number) (line_mark number ++ code) (fine_lead number)
        (both P (line_mark number) code
        (no_urls P (line_mark number) (tag_a (codes "id") (codes "L" ++ decimal number) ∷ (end_a ∷ []))
        (line_mark_reads number) refl)
        (fine_pieces line runs))

    pub fine_code : (unit : ColumnUnit) (occurrences : List Occurrence) (lines : List (List ℕ))
        → Fine P (code_text unit occurrences links lines)
    fine_code unit occurrences lines =
        fine_each P (line_by unit occurrences links lines (beginning occurrences)) (range_with_len 1 (length lines))
        (λ number is. fine_line unit occurrences lines (beginning occurrences (number - 1)) number)

  -- ---- definitions and uses

  fine_use : (url name : List ℕ) → IsClean url → P url → Fine P (use_link url name)
  fine_use url name clean p =
      both P (codes "<dd>" ++ link url name) (codes "</dd>\n")
      (both P (codes "<dd>") (link url name) (fine_const P (codes "<dd>") refl refl) (fine_link P url name clean p))
      (fine_const P (codes "</dd>\n") refl refl)

  module _ (index : Index) (sources : Sources) where
    module _ (definition : Place) (leads : (place : Place)
        → In place (references_in index definition.document (symbol_listed index.documents definition))
        → has_page sources place.document ≡ true → P (place_url index definition.document place)) where
      fine_use_at : (place : Place)
          → In place (references_in index definition.document (symbol_listed index.documents definition))
          → Fine P (use_or_none index sources definition place)
      fine_use_at place is = by (is_use sources definition place) refl
        where
          by : (b : Bool) → is_use sources definition place ≡ b
              → Fine P (cond b (use_text index definition.document place) [])
          by true e =
              fine_use (place_url index definition.document place)
              (use_name (path_listed index.documents place.document) (line_listed index.documents place))
              (clean_place_url index definition.document place) (leads place is
              (and_parts (has_page sources place.document) (not (same_place definition place)) e).0)
          by false e = fine_const P [] refl refl

      pub fine_uses : Fine P (uses_text index sources definition)
      fine_uses =
          fine_each P (use_or_none index sources definition)
          (references_in index definition.document (symbol_listed index.documents definition)) fine_use_at

    pub fine_places : (occurrence line : ℕ) → P (codes "#L" ++ decimal line) → Fine P (places_text occurrence line)
    fine_places occurrence line p = record {
      tags = tag_with (bare (codes "dt")) (codes "id") (uses_id occurrence)
          ∷ (tag_a (codes "href") (codes "#L" ++ decimal line) ∷ (bare (codes "b") ∷ []));
      reads = places_reads occurrence line;
      urls = (p, tt);
    }

    pub fine_head_of : (unit : ColumnUnit) (lines : List (List ℕ)) (place : Place)
        → P (codes "#L" ++ decimal (line_listed index.documents place))
        → Fine P (defined_head index unit lines place)
    fine_head_of unit lines place p =
        let start : List ℕ = places_text place.occurrence (line_listed index.documents place) in
        let name : List ℕ = escape (defined_name index unit lines place) in
        let middle : List ℕ = codes "</b> <span>" in
        let label : List ℕ = escape (label_at index place) in
        both P (start ++ name ++ middle ++ label) (codes "</span></a></dt>\n")
        (both P (start ++ name ++ middle) label
        (both P (start ++ name) middle
        (both P start name (fine_places place.occurrence (line_listed index.documents place) p)
        (fine_escape P (defined_name index unit lines place)))
        (fine_const P middle refl refl))
        (fine_escape P (label_at index place)))
        (fine_const P (codes "</span></a></dt>\n") refl refl)

    pub fine_defined : (unit : ColumnUnit) (lines : List (List ℕ)) (place : Place)
        → P (codes "#L" ++ decimal (line_listed index.documents place))
        → ((other : Place) → In other (references_in index place.document (symbol_listed index.documents place))
        → has_page sources other.document ≡ true → P (place_url index place.document other))
        → Fine P (defined_text index sources unit lines place)
    fine_defined unit lines place p leads =
        both P (defined_head index unit lines place) (uses_text index sources place)
        (fine_head_of unit lines place p) (fine_uses place leads)

    pub fine_all_defined : (unit : ColumnUnit) (lines : List (List ℕ)) (firsts : List Place)
        → ((place : Place) → In place firsts → Fine P (defined_text index sources unit lines place))
        → Fine P (all_defined index sources unit lines firsts)
    fine_all_defined unit lines firsts each =
        let title : List ℕ = codes "<aside><h2>Definitions and their uses</h2>\n<dl>\n" in
        let all : List ℕ = flat_map (defined_text index sources unit lines) firsts in
        both P (title ++ all) (codes "</dl>\n</aside>\n")
        (both P title all (fine_const P title refl refl)
        (fine_each P (defined_text index sources unit lines) firsts each))
        (fine_const P (codes "</dl>\n</aside>\n") refl refl)

    pub fine_front : (unit : ColumnUnit) (occurrences : List Occurrence) (links : List Link) (lines : List (List ℕ))
        → Fine P (code_text unit occurrences links lines)
        → Fine P (codes "<main>\n<pre>" ++ code_text unit occurrences links lines ++ codes "</pre>\n")
    fine_front unit occurrences links lines code =
        let text : List ℕ = code_text unit occurrences links lines in
        both P (codes "<main>\n<pre>" ++ text) (codes "</pre>\n")
        (both P (codes "<main>\n<pre>") text (fine_const P (codes "<main>\n<pre>") refl refl) code)
        (fine_const P (codes "</pre>\n") refl refl)

    pub fine_main : (unit : ColumnUnit) (occurrences : List Occurrence) (links : List Link) (lines : List (List ℕ))
        (firsts : List Place) → Fine P (code_text unit occurrences links lines)
        → Fine P (all_defined index sources unit lines firsts)
        → Fine P (main_text index sources unit occurrences links lines firsts)
    fine_main unit occurrences links lines firsts code defined =
        let text : List ℕ = codes "<main>\n<pre>" ++ code_text unit occurrences links lines ++ codes "</pre>\n" in
        let below : List ℕ = all_defined index sources unit lines firsts in
        both P (text ++ below) (codes "</main>\n</body>\n</html>\n")
        (both P text below (fine_front unit occurrences links lines code) defined)
        (fine_const P (codes "</main>\n</body>\n</html>\n") refl refl)

  -- ---- the way to a page, and its head

  fine_last : (name : List ℕ) → Fine P (last_text name)
  fine_last name =
      both P (codes "<b>" ++ escape name) (codes "</b>")
      (both P (codes "<b>") (escape name) (fine_const P (codes "<b>") refl refl) (fine_escape P name))
      (fine_const P (codes "</b>") refl refl)

  fine_names : (from above : List ℕ) (names : List (List ℕ))
      → ((folder : List ℕ) → In folder (folders_on above (front names)) → P (folder_url from folder))
      → Fine P (names_text from above names)
  fine_names from above [] leads = fine_const P [] refl refl
  fine_names from above (name ∷ []) leads = both P (last_text name) [] (fine_last name) (fine_const P [] refl refl)
  fine_names from above (name ∷ (other ∷ others)) leads =
      let folder : List ℕ = above ++ name in
      both P (folder_text from folder name) (names_text from (folder ++ codes "/") (other ∷ others))
      (both P (link (folder_url from folder) name) (codes "/<wbr>")
      (fine_link P (folder_url from folder) name (clean_folder_url from folder) (leads folder (inl refl)))
      (fine_const P (codes "/<wbr>") refl refl))
      (fine_names from (folder ++ codes "/") (other ∷ others) (λ f is. leads f (inr is)))

  pub fine_crumbs : (from path : List ℕ) → P (file_url from (codes "index.html"))
      → ((folder : List ℕ) → In folder (folders_on [] (folder_of path)) → P (folder_url from folder))
      → Fine P (crumbs_text from path)
  fine_crumbs from path first leads =
      let home : List ℕ = link (file_url from (codes "index.html")) (codes "All sources") in
      let names : List ℕ = names_text from [] (components path) in
      both P (codes "<header><nav>" ++ home ++ codes " <span>" ++ names) (codes "</span></nav></header>\n")
      (both P (codes "<header><nav>" ++ home ++ codes " <span>") names
      (both P (codes "<header><nav>" ++ home) (codes " <span>")
      (both P (codes "<header><nav>") home (fine_const P (codes "<header><nav>") refl refl)
      (fine_link P (file_url from (codes "index.html")) (codes "All sources")
      (clean_file_url from (codes "index.html") refl) first))
      (fine_const P (codes " <span>") refl refl))
      (fine_names from [] (components path)
      (λ folder is. leads folder
      (subst (λ (names : List (List ℕ)). In folder (folders_on [] names)) (sym (front_is (components path))) is))))
      (fine_const P (codes "</span></nav></header>\n") refl refl)

  fine_style : (from : List ℕ) → P (file_url from (codes "pages.css")) → Fine P (style_text from)
  fine_style from p =
      let url : List ℕ = file_url from (codes "pages.css") in
      let tag : Tag = tag_with (bare (codes "link")) (codes "rel") (codes "stylesheet") in
      record {
        tags = tag_with tag (codes "href") url ∷ [];
        reads = chain (codes "<link rel=\"stylesheet\" href=\"" ++ (escape url ++ codes "\"")) (codes ">\n")
            (chain (codes "<link rel=\"stylesheet\" href=\"") (escape url ++ codes "\"")
            (record { ends = refl; are = refl })
            (quoted_clean tag (codes "href") url (clean_file_url from (codes "pages.css") refl)))
            (record { ends = refl; are = refl });
        urls = (p, tt);
      }

  pub fine_head : (from title : List ℕ) → P (file_url from (codes "pages.css")) → Fine P (head_text from title)
  fine_head from title p =
      let start : List ℕ =
      codes "<!DOCTYPE html>\n<html lang=\"en\">\n<head>\n<meta charset=\"utf-8\">\n"
      ++ codes "<meta name=\"viewport\" content=\"width=device-width, initial-scale=1\">\n<title>" in
      both P (start ++ escape title ++ codes "</title>\n" ++ style_text from) (codes "</head>\n<body>\n")
      (both P (start ++ escape title ++ codes "</title>\n") (style_text from)
      (both P (start ++ escape title) (codes "</title>\n")
      (both P start (escape title) (fine_const P start refl refl) (fine_escape P title))
      (fine_const P (codes "</title>\n") refl refl))
      (fine_style from p))
      (fine_const P (codes "</head>\n<body>\n") refl refl)

  pub fine_start : (path : List ℕ) → P (file_url (page_path path) (codes "pages.css"))
      → P (file_url (page_path path) (codes "index.html"))
      → ((folder : List ℕ) → In folder (folders_on [] (folder_of path)) → P (folder_url (page_path path) folder))
      → Fine P (start_text path)
  fine_start path style first leads =
      both P (head_text (page_path path) path) (crumbs_text (page_path path) path)
      (fine_head (page_path path) path style) (fine_crumbs (page_path path) path first leads)
