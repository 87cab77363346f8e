-- The URLs that stand in a page.
use Rattle.std.proofs.Common.{◌≡◌, ◌∙◌, sym, ap, subst, ℕ, ◌<◌, true, false, List, [], ◌++◌, length, arith}
use Rattle.std.specs.Prelude.{codes, Option, Some}
use Rattle.std.specs.List.{AllByRecursion, slice_get}
use Rattle.std.specs.Option.{is_some, option_and_then, option_map_or}
use Rattle.std.specs.Fmt.{decimal}
use Rattle.basics.proofs.ListLemmas.{item_at as get_some}
use Rattle.scip_records.specs.declared.records.Index.{Index}
use Rattle.scip_records.specs.declared.records.Document.{Document}
use Rattle.scip_query.specs.Tables.{numbers, occurrence_listed, places_in, symbol_listed}
use Rattle.scip_query.specs.declared.place.Place.{Place}
use Rattle.scip_pages.specs.declared.columns.ColumnUnit.{ColumnUnit}
use Rattle.scip_pages.specs.declared.code.Link.{Link}
use Rattle.scip_pages.specs.Escapes.{pictured}
use Rattle.scip_pages.specs.Snapshot.{lines_of}
use Rattle.scip_pages.specs.Urls.{folder_of}
use Rattle.scip_pages.specs.Site.{Sources, has_page, line_listed}
use Rattle.scip_pages.specs.Targets.{is_first, link_at, place_url}
use Rattle.scip_pages.specs.Crumbs.{folders_on}
use Rattle.scip_pages.specs.Uses.{defined_text}
use Rattle.scip_pages.specs.Page.{firsts_of, links_of, main_text, page_of, start_text}
use Rattle.scip_pages.specs.Ids.{AllFit, IsShown, IsUrl, Leads, to_first, to_folder, to_place, to_style, unit_in}
use Rattle.scip_pages.specs.PageLaws.{EachUrlLeads}
use Rattle.scip_pages.specs.Tags.{urls_of}
use Rattle.scip_pages.proofs.UrlCleanLemmas.{IsClean, clean_target}
use Rattle.basics.proofs.ElementLemmas.{In, contained, from_filter, from_map, from_range}
use Rattle.scip_pages.proofs.IdLemmas.{definitions_lead, links_lead, uses_lead}
use Rattle.scip_pages.proofs.CodePartLemmas.{fine_all_defined, fine_code, fine_defined, fine_main, fine_start}
use Rattle.scip_pages.proofs.LawReferenceLemmas.{references_are_listed}
use Rattle.scip_pages.proofs.TagLemmas.{Fine, both, fine_page}

module _ (index : Index) (sources : Sources) (fit : AllFit index sources) (number : ℕ) (d : Document) (source : List ℕ)
    (stands : slice_get index.documents number ≡ Some d) (has : slice_get sources number ≡ Some (Some source)) where
  abbrev P : List ℕ → Type 0
  P = IsUrl index sources number d.relative_path

  abbrev links : List Link
  links = links_of index sources number d

  abbrev firsts : List Place
  firsts = firsts_of index sources number d

  abbrev unit : ColumnUnit
  unit = unit_in d

  abbrev lines : List (List ℕ)
  lines = lines_of source

  shown_has : has_page sources number ≡ true
  shown_has = ap (λ (o : Option (Option (List ℕ))). option_map_or (λ (s : Option (List ℕ)). is_some s) o false) has

  -- the places of the document are shown
  pub record IsIts (place : Place) : Type 0 where
    pub of : place.document ≡ number
    pub shown : IsShown index sources place

  pub its : (place : Place) → In place (places_in number d) → IsIts place
  its place is =
      let from = from_map (λ (k : ℕ). record { document = number; occurrence = k }) place
      (numbers (length d.occurrences)) is in
      let inside : from.0 < length d.occurrences =
      omega (arith, from_range 0 (length d.occurrences) from.0 from.1) in
      let o = get_some d.occurrences from.0 inside in
      let listed : occurrence_listed index.documents (record { document = number; occurrence = from.0 }) ≡ Some o.0 =
      ap (option_and_then (λ (x : Document). slice_get x.occurrences from.0)) stands ∙ o.1 in
      record {
        of = ap (λ (p : Place). p.document) from.2;
        shown = record {
          listed = ap (λ (p : Place). is_some (occurrence_listed index.documents p)) from.2 ∙ ap is_some listed;
          has = ap (λ (p : Place). has_page sources p.document) from.2 ∙ shown_has;
        };
      }

  link_leads : (l : Link) (url : List ℕ) → In l links → l.target ≡ Some url → P (pictured url)
  link_leads l url is e =
      let from = from_map (link_at index sources) l (places_in number d) is in
      let one = its from.0 from.1 in
      let leads = links_lead index sources fit from.0 url one.shown
      (sym (ap (λ (x : Link). x.target) from.2) ∙ e) in
      let clean : pictured url ≡ url =
      subst IsClean (sym leads.url_is) (clean_target index from.0 leads.definition) in
      subst P (sym clean) (to_place (subst (λ (n : ℕ). Leads index sources n url) one.of leads.leads))

  definition_fine : (place : Place) → In place firsts → Fine P (defined_text index sources unit lines place)
  definition_fine place is =
      let one = its place (from_filter (is_first index sources) place (places_in number d) is).0 in
      let line = definitions_lead index sources fit place one.shown in
      fine_defined P index sources unit lines place
      (to_place (subst (λ (n : ℕ). Leads index sources n (codes "#L" ++ decimal (line_listed index.documents place)))
      one.of line))
      (λ other there page.
      let its_own = references_are_listed index place.document (symbol_listed index.documents place) other there in
      let leads = uses_lead index sources fit place.document other (record { listed = its_own.listed; has = page }) in
      to_place (subst (λ (n : ℕ). Leads index sources n (place_url index place.document other)) one.of leads))

  page_fine : Fine P (page_of index sources number d unit lines)
  page_fine =
      both P (start_text d.relative_path) (main_text index sources unit d.occurrences links lines firsts)
      (fine_start P d.relative_path to_style to_first
      (λ folder is. to_folder (contained (folders_on [] (folder_of d.relative_path)) folder is)))
      (fine_main P index sources unit d.occurrences links lines firsts
      (fine_code P links link_leads unit d.occurrences lines)
      (fine_all_defined P index sources unit lines firsts definition_fine))

  pub each_leads : AllByRecursion P (urls_of (page_of index sources number d unit lines))
  each_leads = fine_page P (page_of index sources number d unit lines) page_fine

pub each_url_leads : EachUrlLeads
each_url_leads index sources fit number d source stands has = each_leads index sources fit number d source stands has
