-- The URLs that stand in pages lead to files that are made.
use Rattle.std.proofs.Common.{◌≡◌, ◌∙◌, sym, refl, ap, subst, ℕ, ◌+◌, ◌<◌, Bool, true, false, cond, List, [], ◌∷◌, ◌++◌}
use Rattle.std.proofs.Common.{length, arith, inl, inr}
use Rattle.std.specs.Prelude.{codes, Option, None, Some}
use Rattle.std.specs.List.{AllByRecursion, Contains, flat_map, slice_get}
use Rattle.std.specs.Option.{is_some, option_map_or, unwrap_or}
use Rattle.std.specs.Fmt.{decimal}
use Rattle.std.proofs.lemmas.Option.{slice_get_within}
use Rattle.std.proofs.lemmas.List.Sorted.{Contains-permutation, IsPermutation-sym}
use Rattle.basics.proofs.ListLemmas.{item_at as get_some}
use Rattle.scip_records.specs.declared.records.Index.{Index}
use Rattle.scip_records.specs.declared.records.Document.{Document}
use Rattle.scip_query.specs.Tables.{IsByPath, numbers, path_listed, path_or_none, places_in}
use Rattle.scip_pages.specs.Snapshot.{lines_of}
use Rattle.scip_pages.specs.Urls.{encoded, folder_of}
use Rattle.source_files.specs.Made.{MadeFile}
use Rattle.scip_pages.specs.Crumbs.{folders_on}
use Rattle.scip_pages.specs.Ids.{AllFit, IsPage, IsUrl, Leads, across, to_first, to_folder, to_place, to_style}
use Rattle.scip_pages.specs.Ids.{unit_in, within}
use Rattle.scip_pages.specs.Page.{firsts_of, page_of}
use Rattle.scip_pages.specs.Site.{Sources, has_page, line_listed, page_path}
use Rattle.scip_pages.specs.Tags.{urls_of}
use Rattle.scip_pages.specs.Targets.{is_first}
use Rattle.basics.proofs.ElementLemmas.{In, contained, from_contained, from_filter, from_flat_map, from_range}
use Rattle.basics.proofs.ElementLemmas.{in_range}
use Rattle.scip_pages.proofs.IdLemmas.{HasLine, sourced, there}
use Rattle.scip_pages.proofs.PageUrlLemmas.{each_url_leads, its}
use Rattle.scip_pages.proofs.TagLemmas.{fine_page}
use Rattle.scip_site.specs.Making as making
use Rattle.scip_site.specs.Making.{file, page_at, page_file, page_file_at, page_or_none, pages, paths_in, script_text}
use Rattle.scip_site.specs.Making.{shared, site_files, source_at}
use Rattle.scip_site.specs.Tree.{first_page}
use Rattle.scip_site.specs.UrlLaws.{FirstUrlsLead, LeadsTo, ListedUrlsLead, PageUrlsLead, to_element, to_file, to_own}
use Rattle.scip_site.proofs.FolderLawLemmas.{folder_has, in_left, in_right}
use Rattle.scip_site.proofs.NestingLemmas.{fine_first}

all_weaker : (P Q : List ℕ → Type 0) (xs : List (List ℕ)) → ((x : List ℕ) → P x → Q x) → AllByRecursion P xs
    → AllByRecursion Q xs
all_weaker P Q [] weaker all = tt
all_weaker P Q (x ∷ xs) weaker all = (weaker x all.0, all_weaker P Q xs weaker all.1)

in_flat_map : {X Y : Type 0} (f : X → List Y) (x : X) (y : Y) (xs : List X) → In x xs → In y (f x)
    → In y (flat_map f xs)
in_flat_map f x y [] is has = absurd is
in_flat_map f x y (z ∷ xs) (inl same) has = in_left y (f z) (flat_map f xs) (subst (λ w. In y (f w)) same has)
in_flat_map f x y (z ∷ xs) (inr is) has = in_right y (f z) (flat_map f xs) (in_flat_map f x y xs is has)

module _ (index : Index) (sources : Sources) (order : List ℕ) where
  abbrev paths : List (List ℕ)
  paths = paths_in index.documents sources order

  abbrev files : List MadeFile
  files = site_files index sources order

  abbrev common_files : List MadeFile
  common_files = shared (script_text index sources) (first_page paths)

  -- ---- the files that are made

  is_shared : (one : MadeFile) → In one common_files → Contains files one
  is_shared one is =
      contained files one (in_right one (pages index sources (numbers (length index.documents))) common_files is)

  page_file_is : (number : ℕ) (d : Document) (source : List ℕ) → slice_get index.documents number ≡ Some d
      → slice_get sources number ≡ Some (Some source)
      → Contains files
      (file (page_path (path_listed index.documents number))
      (page_of index sources number d (unit_in d) (lines_of source)))
  page_file_is number d source stands has =
      let path : List ℕ = path_listed index.documents number in
      let page : List ℕ = page_of index sources number d (unit_in d) (lines_of source) in
      let one : MadeFile = file (page_path path) page in
      let its_page : page_at index sources number ≡ Some page =
      ap (λ (o : Option Document). page_or_none index sources number o (source_at sources number)) stands
      ∙ ap (λ (s : Option (Option (List ℕ))). page_or_none index sources number (Some d) (unwrap_or s None)) has in
      let its_file : page_file_at index sources number ≡ one ∷ [] = ap (page_file path) its_page in
      let inside : number < length index.documents = slice_get_within index.documents number d stands in
      let same : 0 + number ≡ number = omega arith in
      let listed : In number (numbers (length index.documents)) =
      subst (λ (k : ℕ). In k (numbers (length index.documents))) same
      (in_range 0 (length index.documents) number inside) in
      contained files one
      (in_left one (pages index sources (numbers (length index.documents))) common_files
      (in_flat_map (page_file_at index sources) number one (numbers (length index.documents)) listed
      (subst (In one) (sym its_file) (inl refl))))

  page_is : (number : ℕ) (page : List ℕ) → IsPage index sources number page
      → Contains files (file (page_path (path_listed index.documents number)) page)
  page_is number page is =
      subst (λ (l : List ℕ). Contains files (file (page_path (path_listed index.documents number)) l)) (sym is.is)
      (page_file_is number is.document is.source is.listed is.has_source)

  -- ---- URLs of pages

  leads_on : (number : ℕ) (url : List ℕ) → Leads index sources number url
      → LeadsTo files (page_path (path_listed index.documents number)) url
  leads_on number url (within {page = page} is has) = to_own (page_is number page is) has
  leads_on number url (across {to = to} {page = page} is has) = to_element (page_is to page is) has

  module _ (by_path : IsByPath index.documents order) where
    -- the documents in the tree are those that have pages
    in_order : (number : ℕ) (d : Document) → slice_get index.documents number ≡ Some d → In number order
    in_order number d stands =
        let all : List ℕ = numbers (length index.documents) in
        let same : 0 + number ≡ number = omega arith in
        let listed : In number all =
        subst (λ (k : ℕ). In k all) same
        (in_range 0 (length index.documents) number (slice_get_within index.documents number d stands)) in
        from_contained order number
        (Contains-permutation all order number by_path.permutation (contained all number listed))

    in_paths : (number : ℕ) (d : Document) (source : List ℕ) → slice_get index.documents number ≡ Some d
        → slice_get sources number ≡ Some (Some source) → In d.relative_path paths
    in_paths number d source stands has =
        let its_path : path_listed index.documents number ≡ d.relative_path = ap path_or_none stands in
        let shown : has_page sources number ≡ true =
        ap (λ (o : Option (Option (List ℕ))). option_map_or (λ (s : Option (List ℕ)). is_some s) o false) has in
        let listed : making.path_or_none index.documents sources number ≡ d.relative_path ∷ [] =
        ap (λ (b : Bool). cond b (path_listed index.documents number ∷ []) []) shown
        ∙ ap (λ (p : List ℕ). p ∷ []) its_path in
        in_flat_map (making.path_or_none index.documents sources) number d.relative_path order
        (in_order number d stands)
        (subst (In d.relative_path) (sym listed) (inl refl))

    page_url : (number : ℕ) (d : Document) (source url : List ℕ) → slice_get index.documents number ≡ Some d
        → slice_get sources number ≡ Some (Some source) → IsUrl index sources number d.relative_path url
        → LeadsTo files (page_path d.relative_path) url
    page_url number d source url stands has (to_place leads) =
        subst (λ (path : List ℕ). LeadsTo files (page_path path) url) (ap path_or_none stands)
        (leads_on number url leads)
    page_url number d source url stands has to_style = to_file (is_shared _ (inl refl))
    page_url number d source url stands has to_first = to_file (is_shared _ (inr (inr (inr (inl refl)))))
    page_url number d source url stands has (to_folder {folder = folder} is) =
        to_element (is_shared _ (inr (inr (inr (inl refl)))))
        (folder_has paths d.relative_path folder (in_paths number d source stands has)
        (from_contained (folders_on [] (folder_of d.relative_path)) folder is))

    pub page_urls : AllFit index sources → (number : ℕ) (d : Document) (source : List ℕ)
        → slice_get index.documents number ≡ Some d → slice_get sources number ≡ Some (Some source)
        → AllByRecursion (LeadsTo files (page_path d.relative_path))
        (urls_of (page_of index sources number d (unit_in d) (lines_of source)))
    page_urls fit number d source stands has =
        all_weaker (IsUrl index sources number d.relative_path) (LeadsTo files (page_path d.relative_path))
        (urls_of (page_of index sources number d (unit_in d) (lines_of source)))
        (λ url is. page_url number d source url stands has is)
        (each_url_leads index sources fit number d source stands has)

    -- ---- URLs of the first page

    leaf_url : (path : List ℕ) → In path paths → LeadsTo files (codes "index.html") (encoded (page_path path))
    leaf_url path is = by (has_page sources from.0) refl from.2
      where
        from : (number : ℕ) × In number order × In path (making.path_or_none index.documents sources number)
        from = from_flat_map (making.path_or_none index.documents sources) path order is

        all : List ℕ
        all = numbers (length index.documents)

        inside : from.0 < length index.documents
        inside =
            let is_one : In from.0 all =
            from_contained all from.0
            (Contains-permutation order all from.0 (IsPermutation-sym all order by_path.permutation)
            (contained order from.0 from.1)) in
            omega (arith, from_range 0 (length index.documents) from.0 is_one)

        by : (b : Bool) → has_page sources from.0 ≡ b
            → In path (cond b (path_listed index.documents from.0 ∷ []) [])
            → LeadsTo files (codes "index.html") (encoded (page_path path))
        by false e none = absurd none
        by true e (inr none) = absurd none
        by true e (inl same) =
            let d = get_some index.documents from.0 inside in
            let s = sourced (slice_get sources from.0) e in
            subst (λ (p : List ℕ). LeadsTo files (codes "index.html") (encoded (page_path p))) (sym same)
            (to_file (page_file_is from.0 d.0 s.0 d.1 s.1))

    pub first_urls : AllByRecursion (LeadsTo files (codes "index.html")) (urls_of (first_page paths))
    first_urls =
        let P : List ℕ → Type 0 = LeadsTo files (codes "index.html") in
        fine_page P (first_page paths)
        (fine_first P paths (to_file (is_shared _ (inl refl))) (to_file (is_shared _ (inr (inr (inl refl)))))
        (to_file (is_shared _ (inr (inl refl)))) leaf_url)

pub page_urls_lead : PageUrlsLead
page_urls_lead index sources order fit by_path number d source stands has =
    page_urls index sources order by_path fit number d source stands has

pub first_urls_lead : FirstUrlsLead
first_urls_lead index sources order by_path = first_urls index sources order by_path

pub listed_urls_lead : ListedUrlsLead
listed_urls_lead index sources order fit number d source stands has = record {
  page = subst (λ (path : List ℕ). LeadsTo (site_files index sources order) (codes "index.html")
      (encoded (page_path path)))
      (ap path_or_none stands) (to_file (page_file_is index sources order number d source stands has));
  lines = λ place is.
      let one = its index sources fit number d source stands has place
      (from_filter (is_first index sources) place (places_in number d)
      (from_contained (firsts_of index sources number d) place is)).0 in
      let line : HasLine index sources place = there index sources fit place one.shown in
      subst (λ (path : List ℕ). LeadsTo (site_files index sources order) (codes "index.html")
      (encoded (page_path path) ++ (codes "#L" ++ decimal (line_listed index.documents place))))
      (ap (path_listed index.documents) one.of ∙ ap path_or_none stands)
      (to_element {id = codes "L" ++ decimal (line_listed index.documents place)}
      (page_is index sources order place.document line.page line.is_page) line.has);
}
