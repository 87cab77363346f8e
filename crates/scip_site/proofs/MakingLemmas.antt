-- Files that are made one after another.
use Rattle.std.proofs.Common.{◌≡◌, ◌≢◌, ◌∙◌, sym, refl, ap, subst, ℕ, zero, suc, ◌+◌, ◌<◌, ◌-◌, List, [], ◌∷◌, ◌++◌}
use Rattle.std.proofs.Common.{map, append-nil, append_assoc, arith, Ok, Err, inl, inr, true, false}
use Rattle.std.specs.Prelude.{Result, Option, Some, None, length, codes}
use Rattle.std.specs.List.{flat_map, range_with_len}
use Rattle.std.proofs.lemmas.Grind.{flat_map-append}
use Rattle.std.proofs.lemmas.List.{map-append}
use Rattle.streams.specs.Writers.{SinkOf, silent, writing}
use Rattle.source_files.specs.Makers.{MakeFilesOf, making}
use Rattle.source_files.specs.Made.{MadeFile}
use Rattle.scip_records.specs.declared.records.Index.{Index}
use Rattle.scip_query.specs.Tables.{numbers, IsByPath}
use Rattle.scip_site.specs.declared.show_fault.ShowFault.{ShowFault}
use Rattle.scip_site.specs.declared.show_fault.ShowFault.TheVariants.{Write, Memory}
use Rattle.scip_site.proofs.SnapshotShowLemmas.{makes_both, makes_none, stops_behind_both}
use Rattle.scip_pages.specs.Site.{Sources, page_path}
use Rattle.scip_site.specs.Tree.{first_page}
use Rattle.scip_site.specs.Reading.{ReadsInto, AllAreKept, none}
use Rattle.scip_site.specs.Making.{AllOf, AllThenNone, PartOf, MakesFiles, MakesSite, file, in_folder, pages, shared}
use Rattle.scip_site.specs.Making.{is_bare, script_text, paths_in, site_files, page_file}
use Rattle.scip_site.specs.declared.site_fault.SiteFault.{SiteFault}
use Rattle.scip_site.specs.declared.site_fault.SiteFault.TheVariants.{Show, NothingThere}
use Rattle.scip_site.specs.declared.styles.TheConstants.{STYLE, SEARCH}
use Rattle.scip_pages.proofs.CodeTextLemmas.{range_more}

-- ---- some files, and others behind them

part_behind : (holds more_holds : List MadeFile → Type 0) (files more others : List MadeFile)
    → ((part : List MadeFile) → holds part → more_holds (files ++ part))
    → PartOf holds more others → PartOf more_holds (files ++ more) others
part_behind holds more_holds files more others grows behind = record {
  part = files ++ behind.part;
  is_part = ap (λ l. files ++ l) behind.is_part ∙ sym (append_assoc files behind.part others);
  holds = grows behind.part behind.holds;
}

part_before : (holds : List MadeFile → Type 0) (files more others : List MadeFile)
    → PartOf holds files others → PartOf holds (files ++ more) (others ++ more)
part_before holds files more others before = record {
  part = before.part;
  is_part = ap (λ l. l ++ more) before.is_part ∙ append_assoc before.part others more;
  holds = before.holds;
}

module _ {O : Type 0} (filer : MakeFilesOf O) where
  -- none is made where memory runs out
  pub none_made : (next : MadeFile) (others : List MadeFile) (now : O)
      → MakesFiles (making filer now now) (next ∷ others) (Err Memory)
  none_made next others now = record {
    next = next;
    others = others;
    made = record { part = []; is_part = refl; holds = makes_none (filer.made now) };
  }

  none_before : (files : List MadeFile) (next : MadeFile) (others : List MadeFile) (now : O)
      → MakesFiles (making filer now now) (files ++ next ∷ others) (Err Memory)
  none_before [] next others now = none_made next others now
  none_before (first ∷ files) next others now = none_made first (files ++ next ∷ others) now

  -- nor is a page that there is
  pub page_left : (folder path : List ℕ) (page : Option (List ℕ)) (now : O) → page ≢ None
      → MakesFiles (making filer now now) (map (in_folder folder) (page_file path page)) (Err Memory)
  page_left folder path None now is = absurd (is refl)
  page_left folder path (Some page) now is = none_made (in_folder folder (file (page_path path) page)) [] now

  module _ (first now after : O) (files more : List MadeFile) where
    -- the first are made, and what becomes of the others
    pub both : AllOf (making filer first now) files → (done : Result (Unit {0}) ShowFault)
        → MakesFiles (making filer now after) more done → MakesFiles (making filer first after) (files ++ more) done
    both before (Ok done) behind = makes_both (filer.made first) (filer.made now) (filer.made after) files more before
        behind
    both before (Err Write) behind = record {
      refused = behind.refused;
      others = behind.others;
      made = part_behind (AllThenNone (making filer now after)) (AllThenNone (making filer first after)) files more
          (behind.refused ∷ behind.others)
          (λ part holds. stops_behind_both (filer.made first) (filer.made now) (filer.made after) files part before
          holds) behind.made;
    }
    both before (Err Memory) behind = record {
      next = behind.next;
      others = behind.others;
      made = part_behind (AllOf (making filer now after)) (AllOf (making filer first after)) files more
          (behind.next ∷ behind.others)
          (λ part holds. makes_both (filer.made first) (filer.made now) (filer.made after) files part before holds)
          behind.made;
    }

  module _ (first after : O) (files more : List MadeFile) where
    -- or already the first aren't all made
    pub stops : (fault : ShowFault) → MakesFiles (making filer first after) files (Err fault)
        → MakesFiles (making filer first after) (files ++ more) (Err fault)
    stops Write before = record {
      refused = before.refused;
      others = before.others ++ more;
      made = part_before (AllThenNone (making filer first after)) files more (before.refused ∷ before.others)
          before.made;
    }
    stops Memory before = record {
      next = before.next;
      others = before.others ++ more;
      made = part_before (AllOf (making filer first after)) files more (before.next ∷ before.others) before.made;
    }

  -- memory runs out behind the first
  pub stops_behind : (first now : O) (files : List MadeFile) (next : MadeFile) (others : List MadeFile)
      → AllOf (making filer first now) files → MakesFiles (making filer first now) (files ++ next ∷ others) (Err Memory)
  stops_behind first now files next others before =
      both first now now files (next ∷ others) before (Err Memory) (none_made next others now)

-- a file in a folder, and what is known of its text
abbrev pub one : (folder path bytes : List ℕ) → List MadeFile
one folder path bytes = map (in_folder folder) (file path bytes ∷ [])

pub same_text : {O : Type 0} (filer : MakeFilesOf O) (now after : O) (folder path bytes text : List ℕ)
    (done : Result (Unit {0}) ShowFault) → bytes ≡ text
    → MakesFiles (making filer now after) (one folder path bytes) done
    → MakesFiles (making filer now after) (one folder path text) done
same_text filer now after folder path bytes text done same makes =
    subst (λ (t : List ℕ). MakesFiles (making filer now after) (one folder path t) done) same makes

-- ---- pages of so many documents

in_two : (a n m : ℕ) → range_with_len a (n + m) ≡ range_with_len a n ++ range_with_len (a + n) m
in_two a zero m = ap (range_with_len a) (none_plus m) ∙ ap (λ (k : ℕ). range_with_len k m) (plus_none a)
  where
    none_plus : (k : ℕ) → 0 + k ≡ k
    none_plus k = omega arith

    plus_none : (k : ℕ) → k ≡ k + 0
    plus_none k = omega arith
in_two a (suc n) m =
    ap (range_with_len a) (next_plus n m) ∙ ap (λ (l : List ℕ). a ∷ l)
    (in_two (a + 1) n m ∙ ap (λ (k : ℕ). range_with_len (a + 1) n ++ range_with_len k m) (moved a n))
  where
    next_plus : (k i : ℕ) → suc k + i ≡ suc (k + i)
    next_plus k i = omega arith

    moved : (k i : ℕ) → k + 1 + i ≡ k + suc i
    moved k i = omega arith

-- those behind the next
abbrev behind_next : ℕ → ℕ → List ℕ
behind_next n count = range_with_len (n + 1) (count - (n + 1))

next_and_behind : (n count : ℕ) → n < count → numbers count ≡ numbers (n + 1) ++ behind_next n count
next_and_behind n count within =
    ap numbers (sum n count within) ∙ in_two 0 (n + 1) (count - (n + 1))
    ∙ ap (λ (k : ℕ). numbers (n + 1) ++ range_with_len k (count - (n + 1))) (no_more n)
  where
    sum : (a b : ℕ) → a < b → b ≡ a + 1 + (b - (a + 1))
    sum a b less = omega (arith, less)

    no_more : (a : ℕ) → 0 + (a + 1) ≡ a + 1
    no_more a = omega arith

module _ {X : Type 0} (f : ℕ → List X) where
  pub one_more : (n : ℕ) → flat_map f (numbers (n + 1)) ≡ flat_map f (numbers n) ++ f n
  one_more n =
      ap (flat_map f) (range_more 0 n n (omega arith)) ∙ flat_map-append f (numbers n) (n ∷ [])
      ∙ ap (λ (l : List X). flat_map f (numbers n) ++ l) (append-nil (f n))

  -- and the rest
  others_behind : (n count : ℕ) → n < count
      → flat_map f (numbers count) ≡ (flat_map f (numbers n) ++ f n) ++ flat_map f (behind_next n count)
  others_behind n count within =
      ap (flat_map f) (next_and_behind n count within) ∙ flat_map-append f (numbers (n + 1)) (behind_next n count)
      ∙ ap (λ (l : List X). l ++ flat_map f (behind_next n count)) (one_more n)

module _ (f : ℕ → List MadeFile) (g : MadeFile → MadeFile) where
  pub files_more : (n : ℕ) → map g (flat_map f (numbers (n + 1))) ≡ map g (flat_map f (numbers n)) ++ map g (f n)
  files_more n = ap (map g) (one_more f n) ∙ map-append g (flat_map f (numbers n)) (f n)

  pub files_behind : (n count : ℕ) → n < count → map g (flat_map f (numbers count))
      ≡ (map g (flat_map f (numbers n)) ++ map g (f n)) ++ map g (flat_map f (behind_next n count))
  files_behind n count within =
      ap (map g) (others_behind f n count within)
      ∙ map-append g (flat_map f (numbers n) ++ f n) (flat_map f (behind_next n count))
      ∙ ap (λ (l : List MadeFile). l ++ map g (flat_map f (behind_next n count)))
      (map-append g (flat_map f (numbers n)) (f n))

  module _ {O : Type 0} (filer : MakeFilesOf O) (first now after : O) (n : ℕ)
      (before : AllOf (making filer first now) (map g (flat_map f (numbers n)))) where
    -- the file of one more is made
    pub more_made : (done : Result (Unit {0}) ShowFault) → MakesFiles (making filer now after) (map g (f n)) done
        → MakesFiles (making filer first after) (map g (flat_map f (numbers (n + 1)))) done
    more_made done one =
        subst (λ (files : List MadeFile). MakesFiles (making filer first after) files done) (sym (files_more n))
        (both filer first now after (map g (flat_map f (numbers n))) (map g (f n)) before done one)

    -- or not
    pub not_made : (count : ℕ) → n < count → (fault : ShowFault)
        → MakesFiles (making filer now after) (map g (f n)) (Err fault)
        → MakesFiles (making filer first after) (map g (flat_map f (numbers count))) (Err fault)
    not_made count within fault one =
        subst (λ (files : List MadeFile). MakesFiles (making filer first after) files (Err fault))
        (sym (files_behind n count within))
        (stops filer first after (map g (flat_map f (numbers n)) ++ map g (f n))
        (map g (flat_map f (behind_next n count))) fault
        (both filer first now after (map g (flat_map f (numbers n))) (map g (f n)) before (Err fault) one))

-- ---- all files

-- the pages in a folder
abbrev pub pages_in : (folder : List ℕ) → Index → Sources → List MadeFile
pages_in folder index sources = map (in_folder folder) (pages index sources (numbers (length index.documents)))

-- what they share
abbrev pub shared_in : (folder script first : List ℕ) → List MadeFile
shared_in folder script first = map (in_folder folder) (shared script first)

-- of which the style sheet is the first
abbrev behind_style : (folder script first : List ℕ) → List MadeFile
behind_style folder script first =
    map (in_folder folder) (file (codes "search.js") SEARCH.now
    ∷ (file (codes "symbols.js") script ∷ (file (codes "index.html") first ∷ [])))

abbrev pub all_in : (folder : List ℕ) → Index → Sources → List ℕ → List MadeFile
all_in folder index sources order = map (in_folder folder) (site_files index sources order)

abbrev due_first : Index → Sources → List ℕ → List ℕ
due_first index sources order = first_page (paths_in index.documents sources order)

all_are : (folder : List ℕ) (index : Index) (sources : Sources) (order : List ℕ)
    → all_in folder index sources order
    ≡ pages_in folder index sources ++ shared_in folder (script_text index sources) (due_first index sources order)
all_are folder index sources order =
    map-append (in_folder folder) (pages index sources (numbers (length index.documents)))
    (shared (script_text index sources) (due_first index sources order))

module _ {O : Type 0} (filer : MakeFilesOf O) (folder : List ℕ) (index : Index) (sources : Sources)
    (order : List ℕ) (first : O) where
  abbrev Behind : O → Result (Unit {0}) ShowFault → Type 0
  Behind after done = MakesFiles (making filer first after) (all_in folder index sources order) done

  with_pages : (after : O) (done : Result (Unit {0}) ShowFault)
      → MakesFiles (making filer first after) (pages_in folder index sources
      ++ shared_in folder (script_text index sources) (due_first index sources order)) done
      → Behind after done
  with_pages after done makes = subst (λ (files : List MadeFile). MakesFiles (making filer first after) files done)
      (sym (all_are folder index sources order)) makes

  -- none is made
  pub nothing_yet : Behind first (Err Memory)
  nothing_yet = with_pages first (Err Memory)
      (none_before filer (pages_in folder index sources) (in_folder folder (file (codes "pages.css") STYLE.now))
      (behind_style folder (script_text index sources) (due_first index sources order)) first)

  -- the pages aren't all made
  pub pages_stop : (after : O) (fault : ShowFault)
      → MakesFiles (making filer first after) (pages_in folder index sources) (Err fault) → Behind after (Err fault)
  pages_stop after fault makes = with_pages after (Err fault)
      (stops filer first after (pages_in folder index sources)
      (shared_in folder (script_text index sources) (due_first index sources order)) fault makes)

  module _ (now : O) (before : AllOf (making filer first now) (pages_in folder index sources)) where
    -- they are, and then memory runs out
    pub nothing_shared : Behind now (Err Memory)
    nothing_shared = with_pages now (Err Memory)
        (stops_behind filer first now (pages_in folder index sources)
        (in_folder folder (file (codes "pages.css") STYLE.now))
        (behind_style folder (script_text index sources) (due_first index sources order)) before)

    -- or what they share is made
    pub all_shared : (after : O) (script page : List ℕ) → script ≡ script_text index sources
        → page ≡ due_first index sources order → (done : Result (Unit {0}) ShowFault)
        → MakesFiles (making filer now after) (shared_in folder script page) done → Behind after done
    all_shared after script page is_script is_page done makes = with_pages after done
        (both filer first now after (pages_in folder index sources)
        (shared_in folder (script_text index sources) (due_first index sources order)) before done
        (subst (λ (p : List ℕ). MakesFiles (making filer now after) (shared_in folder (script_text index sources) p)
        done)
        is_page
        (subst (λ (s : List ℕ). MakesFiles (making filer now after) (shared_in folder s page) done) is_script makes)))

-- ---- the whole

-- what is answered of the files
abbrev pub answered : Result (Unit {0}) ShowFault → Result (Unit {0}) SiteFault
answered (Ok done) = Ok done
answered (Err fault) = Err (Show fault)

module _ {O M : Type 0} (filer : MakeFilesOf O) (heard : SinkOf M)
    (gives : List ℕ → Option (List ℕ) → Type 0) (root folder : List ℕ) (index : Index) (start : O) where
  -- memory runs out while sources are read
  pub nothing_made : (here after : M) (fault : ShowFault)
      → ReadsInto gives root index.documents (writing heard here after) (Err fault)
      → MakesSite gives root folder index (making filer start start) (writing heard here after) (Err (Show fault))
  nothing_made here after Write reads = absurd reads
  nothing_made here after Memory reads = inr record { read = reads; none_made = makes_none (filer.made start) }

  pub nothing_read : (here : M)
      → MakesSite gives root folder index (making filer start start) (writing heard here here) (Err (Show Memory))
  nothing_read here = inr record {
    read = record { reads = []; are = none; told_are = silent };
    none_made = makes_none (filer.made start);
  }

  module _ (here heard_all : M) (sources : Sources)
      (read : AllAreKept gives root index.documents sources (writing heard here heard_all)) where
    -- or no document has a page
    pub bare_so : is_bare index.documents sources ≡ true
        → MakesSite gives root folder index (making filer start start) (writing heard here heard_all)
        (Err NothingThere)
    bare_so bare = record { sources = sources; read = read; bare = bare; none_made = refl }

    -- or files are made
    pub made_so : (after : O) (order : List ℕ) → is_bare index.documents sources ≡ false
        → IsByPath index.documents order → (done : Result (Unit {0}) ShowFault)
        → MakesFiles (making filer start after) (all_in folder index sources order) done
        → MakesSite gives root folder index (making filer start after) (writing heard here heard_all)
        (answered done)
    made_so after order there ordered (Ok done) makes =
        record { sources = sources; read = read; there = there; order = order; ordered = ordered; made = makes }
    made_so after order there ordered (Err Write) makes =
        record { sources = sources; read = read; there = there; order = order; ordered = ordered; made = makes }
    made_so after order there ordered (Err Memory) makes =
        inl record { sources = sources; read = read; there = there; order = order; ordered = ordered; made = makes }
