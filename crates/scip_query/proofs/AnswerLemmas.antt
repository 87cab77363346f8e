-- Answers, and their texts.
use Rattle.std.proofs.Common.{◌≡◌, ◌==◌, ℕ, true, false, not, List, [], ◌∷◌, ◌++◌, length, map, Ok, Err, refl, sym, ◌∙◌}
use Rattle.std.proofs.Common.{ap, subst, arith}
use Rattle.std.proofs.lemmas.Bool.Decides.{nat_tests}
use Rattle.std.proofs.lemmas.List.{length-map}
use Rattle.std.specs.Prelude.{Result, Some, nat_le}
use Rattle.std.specs.List.{filter, flat_map, list_all, AllZip}
use Rattle.std.specs.Result.{result_map_both}
use Rattle.scip_records.specs.declared.records.Index.{Index}
use Rattle.scip_records.specs.declared.records.Document.{Document}
use Rattle.scip_query.specs.declared.place.Place.{Place}
use Rattle.scip_query.specs.declared.position.Position.{Position}
use Rattle.scip_query.specs.declared.miss.Miss.{Miss}
use Rattle.scip_query.specs.declared.command.Question.TheVariants.{Definitions, References, Documentation}
use Rattle.scip_query.specs.Sites.{Site}
use Rattle.scip_query.specs.OccurrenceAt.{Subject, subject_at}
use Rattle.scip_query.specs.Nearest.{nearest, nearest_at, nearness_listed}
use Rattle.scip_query.specs.References.{references_of, definitions_of, references_at, definitions_at, site_places}
use Rattle.scip_query.specs.Documentation.{documentation_at, symbols_of}
use Rattle.scip_query.specs.Entries.{signature_at}
use Rattle.scip_query.specs.Outline.{outline_of}
use Rattle.scip_query.specs.Named.{entries_at}
use Rattle.scip_query.specs.Tables.Searches.{site_listed, some_of}
use Rattle.scip_query.specs.Commands.{Command, Ask, Symbols}
use Rattle.scip_query.specs.MoreCommands.{MoreCommand, Known, Signature, Outline, Find, Help, Entry, Named}
use Rattle.scip_query.specs.AnswerText.{site_line, symbol_line, quoted, listing, count_line, answer_of}
use Rattle.scip_query.specs.Answers.{Answer, Sites, Texts, Entries, Outlines, are_some, given, given_to}
use Rattle.scip_query.specs.Answers.{more_given_to}
use Rattle.scip_query.specs.MoreAnswers.{outline_line, more_answer_of, text_of}
use Rattle.scip_records.specs.Texts.{unless_empty}
use Rattle.scip_query.proofs.NearestLemmas.{nearest_stand}
use Rattle.scip_query.proofs.SiteLemmas.{references_stand, definitions_stand, defining_are}

pub lines_map : {A B : Type 0} (f : B → List ℕ) (v : A → B) (xs : List A)
    → flat_map (λ x. f (v x)) xs ≡ flat_map f (map v xs)
lines_map f v [] = refl
lines_map f v (x ∷ xs) = ap (λ l. f (v x) ++ l) (lines_map f v xs)

-- what is found, as a view shows it
pub listing_found : {X Y : Type 0} (line : Y → List ℕ) (view : X → Y) (items : List X)
    → flat_map (λ x. line (view x)) items ++ count_line (length items) ≡ listing {X = Y} line (Ok (map view items))
listing_found line view items =
    ap (λ l. l ++ count_line (length items)) (lines_map line view items)
    ∙ ap (λ n. flat_map line (map view items) ++ count_line n) (sym (length-map items view))

-- ---- sites, of which the places are known

abbrev pub sites_from : List Document → List Place → List Site
sites_from documents places = flat_map (λ place. some_of (site_listed documents place)) places

zip_listed : (documents : List Document) (places : List Place) (sites : List Site)
    → AllZip (λ (place : Place) (site : Site). site_listed documents place ≡ Some site) places sites
    → sites_from documents places ≡ sites
zip_listed documents [] [] all = refl
zip_listed documents [] (site ∷ sites) all = absurd all
zip_listed documents (place ∷ places) [] all = absurd all
zip_listed documents (place ∷ places) (site ∷ sites) all =
    ap (λ o. some_of o ++ sites_from documents places) all.0
    ∙ ap (λ l. site ∷ l) (zip_listed documents places sites all.1)

pub references_given : (index : Index) (path : List ℕ) (p : Position) (places : List Place)
    → site_places (references_at index path p) ≡ Ok places
    → Sites (sites_from index.documents places) ≡ given Sites (references_at index path p)
references_given index path p places e = by (subject_at index path p) e where
  by : (s : Result Subject Miss) → site_places (result_map_both (references_of index) (λ m. m) s) ≡ Ok places
      → Sites (sites_from index.documents places)
      ≡ given Sites (result_map_both (references_of index) (λ m. m) s)
  by (Err m) f = absurd cc
  by (Ok subject) f =
      let sites = references_of index subject in
      let are : map (λ (s : Site). s.place) sites ≡ places = cc in
      ap (λ l. Sites (sites_from index.documents l)) (sym are)
      ∙ ap Sites
      (zip_listed index.documents (map (λ (s : Site). s.place) sites) sites (references_stand index subject))

-- of the places of definitions, those of the nearest
pub nearest_given : (index : Index) (path : List ℕ) (p : Position) (places found : List Place)
    → site_places (definitions_at index path p) ≡ Ok places
    → found ≡ filter (λ place. list_all (λ other. nat_le (nearness_listed index.documents path other)
    (nearness_listed index.documents path place)) places) places
    → Sites (sites_from index.documents found) ≡ given Sites (nearest_at index path p)
nearest_given index path p places found e are = by (subject_at index path p) e where
  Stand : Place → Site → Type 0
  Stand place site = site_listed index.documents place ≡ Some site

  near : List Place → List Place
  near all = filter (λ place. list_all (λ other. nat_le (nearness_listed index.documents path other)
      (nearness_listed index.documents path place)) all) all

  by : (s : Result Subject Miss) → site_places (result_map_both (definitions_of index) (λ m. m) s) ≡ Ok places
      → Sites (sites_from index.documents found)
      ≡ given Sites (result_map_both (nearest path) (λ m. m) (result_map_both (definitions_of index) (λ m. m) s))
  by (Err m) f = absurd cc
  by (Ok subject) f =
      let defined : map (λ (s : Site). s.place) (definitions_of index subject) ≡ places = cc in
      let referring : List Place = map (λ (s : Site). s.place) (references_of index subject) in
      let all : AllZip Stand places (definitions_of index subject) =
      subst (λ l. AllZip Stand l (definitions_of index subject))
      (defining_are index subject referring refl ∙ defined)
      (definitions_stand index subject referring (references_stand index subject)) in
      let sites = nearest path (definitions_of index subject) in
      let stand : AllZip Stand (near places) sites =
      nearest_stand index.documents path places (definitions_of index subject) all in
      ap (λ l. Sites (sites_from index.documents l)) are
      ∙ ap Sites (zip_listed index.documents (near places) sites stand)

-- ---- the text of an answer is that of its command

text_given : {X : Type 0} (kind : List X → Answer) (line : X → List ℕ)
    → ((found : List X) → text_of (kind found) ≡ listing line (Ok found)) → (due : Result (List X) Miss)
    → listing line due ≡ text_of (given kind due)
text_given kind line is (Ok found) = sym (is found)
text_given kind line is (Err miss) = refl

pub plain_text : (index : Index) (command : Command) → answer_of index command ≡ text_of (given_to index command)
plain_text index (Ask Definitions p path) = text_given Sites site_line (λ found. refl) (nearest_at index path p)
plain_text index (Ask References p path) = text_given Sites site_line (λ found. refl) (references_at index path p)
plain_text index (Ask Documentation p path) = text_given Texts quoted (λ found. refl) (documentation_at index path p)
plain_text index (Symbols path) = text_given Entries symbol_line (λ found. refl) (symbols_of index path)

pub more_text : (index : Index) (command : MoreCommand)
    → more_answer_of index command ≡ text_of (more_given_to index command)
more_text index (Known command) = plain_text index command
more_text index (Signature p path) =
    text_given Texts quoted (λ found. refl) (result_map_both unless_empty (λ miss. miss) (signature_at index path p))
more_text index (Outline path) = text_given Outlines outline_line (λ found. refl) (outline_of index path)
more_text index (Find text) = refl
more_text index Help = refl
more_text index (Entry p path) = text_given Entries symbol_line (λ found. refl) (entries_at index path p)
more_text index (Named Definitions name) = refl
more_text index (Named References name) = refl
more_text index (Named Documentation name) = refl

-- ---- what is there

pub some_there : {A B : Type 0} (view : A → B) (items : List A) → not (length items == 0) ≡ are_some (map view items)
some_there view [] = refl
some_there view (x ∷ items) = let some : (length (x ∷ items) == 0) ≡ false = grind (arith, nat_tests) in ap not some

-- an empty text is none, and any other is one
pub none_there : (text : List ℕ) → (length text == 0) ≡ true → Texts [] ≡ Texts (unless_empty text)
none_there [] e = refl
none_there (b ∷ text) e =
    let some : (length (b ∷ text) == 0) ≡ false = grind (arith, nat_tests) in
    let clash : true ≡ false = sym e ∙ some in absurd cc
