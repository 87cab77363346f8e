-- Entries that have numbers.
use Rattle.std.proofs.Common.{◌≡◌, ◌∙◌, sym, ap, refl, ℕ, zero, suc, ◌+◌, ◌-◌, ◌<◌, Bool, true, false, cond, nat_lt}
use Rattle.std.proofs.Common.{Option, Some, None, List, [], ◌∷◌, ◌++◌, length, map, get_or, arith}
use Rattle.std.specs.List.{slice_get, range_with_len}
use Rattle.std.specs.List.Sorted.{IsSorted}
use Rattle.std.specs.Cmp.{IsStrictWeakOrder}
use Rattle.std.specs.Cmp.Lexicographic.{slice_cmp}
use Rattle.std.specs.Ordering.{is_lt, nat_cmp, on}
use Rattle.std.specs.declared.cmp.Ordering.{Ordering}
use Rattle.std.specs.Prelude.{ℤ}
use Rattle.std.proofs.Math.Dec.{eqb-suc-zero}
use Rattle.std.proofs.lemmas.Bool.{lt-ltb, le-ltb}
use Rattle.std.proofs.lemmas.Cmp.{nat_list_cmp_total}
use Rattle.std.proofs.lemmas.List.{get_or-map, length-map}
use Rattle.std.proofs.lemmas.List.FromFn.{fill_by_all, get_or-map-range_with_len, length-map-range_with_len}
use Rattle.std.proofs.lemmas.List.Sorted.{ranks_by}
use Rattle.index_hooks.specs.declared.choice.Choice.{Choice}
use Rattle.proto_decl.specs.Names.{package_of}
use Rattle.proto_decl.specs.Facts.{Facts}
use Rattle.proto_decl.specs.declared.declaration.Declaration.{Declaration}
use Rattle.proto_decl.specs.declared.detail.Detail.{Detail}
use Rattle.scip_records.specs.declared.details.Details.{Details}
use Rattle.scip_records.specs.declared.records.SymbolInformation.{SymbolInformation}
use Rattle.scip_symbol.specs.Package.{Package}
use Rattle.scip_model.specs.Named.{Home, text_of, package_at, declaration_in}
use Rattle.scip_model.specs.Detailed.{detail_at, file_kind, kind_if_asked, package_kind}
use Rattle.scip_model.specs.Entries.{file_entry, package_entry}
use Rattle.scip_model.specs.Indexes.{info_cmp}
use Rattle.scip_model.specs.Tables.EntryLists.{package_entries, kept_entries, source_entries}
use Rattle.scip_model.specs.Tables.EntryLists.{package_names, AreNumbered}
use Rattle.scip_model.specs.Tables.Plans.{Grown, text_at, own_texts, declaration_number, entry_of, undocumented}
use Rattle.scip_model.specs.Tables.Plans.{arounds_in, documented, first_kind, shown_as}
use Rattle.scip_model.specs.Tables.OwnTexts.{entry_with}
use Rattle.scip_model.proofs.AroundLemmas.{shown_with}
use Rattle.scip_model.proofs.PlanLemmas.{file_number, package_number, declared_number}

-- what is sorted by what it stands for
pub sorted_map : {P X : Type 0} (f : P → X) (cmp : X → X → Ordering) (ps : List P) → IsSorted (on f cmp) ps
    → IsSorted cmp (map f ps)
sorted_map f cmp [] up = λ i d low within. absurd (omega (arith, within))
sorted_map f cmp (p ∷ ps) up = λ i d low within.
    let inside : i + 1 < length (p ∷ ps) = omega (arith, within, length-map (p ∷ ps) f) in
    rw (get_or-map f (p ∷ ps) (i + 1) p d inside, get_or-map f (p ∷ ps) i p d (omega (arith, inside)))
    (up i p low inside)

-- one that is kept
pub kept_one : {X : Type 0} (entry : ℕ → X) (keep : Bool) (number : ℕ) (x : X) → entry number ≡ x
    → map entry (cond keep (number ∷ []) []) ≡ cond keep (x ∷ []) []
kept_one entry true number x is = ap (λ y. y ∷ []) is
kept_one entry false number x is = refl

-- text order of numbers
pub texts_rank : (texts : List (List ℕ))
    → IsStrictWeakOrder (λ (a b : ℕ). is_lt (slice_cmp nat_cmp (text_at texts a) (text_at texts b)))
texts_rank texts = ranks_by nat_list_cmp_total (λ (n : ℕ). text_at texts n)

module _ (texts : List (List ℕ)) (path : List ℕ) (names : List (List ℕ)) (facts : Facts) (choices : List Choice)
    (arounds : List (List ℕ)) where
  abbrev entry : ℕ → SymbolInformation
  entry = entry_of texts path names facts choices arounds

  abbrev bare : ℕ → SymbolInformation
  bare = undocumented texts path names facts choices arounds

  abbrev shown : ℕ → ℕ → SymbolInformation
  shown = documented texts path names facts choices arounds

  pub front_is : (number : ℕ) → number < length (path ∷ names) → entry number ≡ bare number
  front_is number within =
      ap (λ (b : Bool). cond b (bare number) (shown number (number - length (path ∷ names))))
      (lt-ltb number (length (path ∷ names)) within)

  pub behind_is : (number index : ℕ) → number ≡ length (path ∷ names) + index → entry number ≡ shown number index
  behind_is number index is =
      let left : number - length (path ∷ names) ≡ index = omega (arith, is) in
      ap (λ (b : Bool). cond b (bare number) (shown number (number - length (path ∷ names))))
      (le-ltb number (length (path ∷ names)) (omega (arith, is)))
      ∙ ap (shown number) left

  shown_symbol : (text : List ℕ) (declared : Option Declaration) (detail : Option Detail) (around : List ℕ)
      (choice : Option Choice) → (shown_as text declared detail around choice).symbol ≡ text
  shown_symbol text None detail around choice = refl
  shown_symbol text (Some declared) detail around None = refl
  shown_symbol text (Some declared) detail around (Some choice) = refl

  chosen_symbol : (b : Bool) (text : List ℕ) (x y : SymbolInformation) → x.symbol ≡ text → y.symbol ≡ text
      → (cond b x y).symbol ≡ text
  chosen_symbol true text x y first second = first
  chosen_symbol false text x y first second = second

  pub symbol_is : (number : ℕ) → (entry number).symbol ≡ text_at texts number
  symbol_is number =
      let index = number - length (path ∷ names) in
      chosen_symbol (nat_lt number (length (path ∷ names))) (text_at texts number) (bare number) (shown number index)
      refl (shown_symbol (text_at texts number) (slice_get facts.declarations index) (detail_at facts index)
      (text_at arounds index) (slice_get choices index))

  pub order_is : (a b : ℕ) → slice_cmp nat_cmp (text_at texts a) (text_at texts b) ≡ info_cmp (entry a) (entry b)
  order_is a b =
      ap (λ (text : List ℕ). slice_cmp nat_cmp text (text_at texts b)) (sym (symbol_is a))
      ∙ ap (λ (text : List ℕ). slice_cmp nat_cmp (entry a).symbol text) (sym (symbol_is b))

  -- numbers that are sorted by text are those of sorted entries
  pub sorted_entries : (numbers : List ℕ)
      → IsSorted (λ (a b : ℕ). slice_cmp nat_cmp (text_at texts a) (text_at texts b)) numbers
      → IsSorted info_cmp (map entry numbers)
  sorted_entries numbers up =
      sorted_map entry info_cmp numbers (λ i d low within.
      ap is_lt (sym (order_is (get_or numbers (i + 1) d) (get_or numbers i d))) ∙ up i d low within)

module _ (home : Home) (run : Package) (facts : Facts) (choices : List Choice) (texts : List (List ℕ))
    (grown : Grown (own_texts home run facts) texts) where
  abbrev names : List (List ℕ)
  names = package_names facts.package_name

  abbrev arounds : List (List ℕ)
  arounds = arounds_in home facts

  abbrev one : ℕ → SymbolInformation
  one = entry_of texts home.path names facts choices arounds

  abbrev name_of : ℕ → List ℕ
  name_of index = package_of facts.package_name (index + 1)

  names_count : length names ≡ length facts.package_name
  names_count = length-map-range_with_len name_of 0 (length facts.package_name)

  abbrev first : List SymbolInformation
  first = file_entry home.id home.path facts.details ∷ package_entries run facts

  file_is : file_entry home.id home.path facts.details ≡ one 0
  file_is =
      ap (λ (text : List ℕ). record {
        symbol = text;
        documentation = [];
        display_name = home.path;
        details = kind_if_asked facts.details file_kind;
      })
      (sym (file_number home run facts texts grown))
      ∙ sym (front_is texts home.path names facts choices arounds 0 (omega arith))

  package_is : (index : ℕ) → index < length facts.package_name → package_entry run facts (index + 1) ≡ one (suc index)
  package_is index within =
      let symbol : text_at texts (suc index) ≡ text_of run (package_at facts (index + 1)) =
      package_number home run facts index (suc index) within (omega arith) texts grown in
      let name : text_at names index ≡ name_of index =
      get_or-map-range_with_len name_of 0 (length facts.package_name) index index [] within (omega arith) in
      let kind : first_kind (suc index) ≡ package_kind =
      ap (λ (b : Bool). cond b file_kind package_kind) (eqb-suc-zero index) in
      sym (front_is texts home.path names facts choices arounds (suc index) (omega (arith, within, names_count))
      ∙ (ap (λ (number : ℤ). record {
        symbol = text_at texts (suc index);
        documentation = [];
        display_name = text_at names index;
        details = kind_if_asked facts.details number;
      }) kind
      ∙ (ap (λ (text : List ℕ). record {
        symbol = text;
        documentation = [];
        display_name = text_at names index;
        details = kind_if_asked facts.details package_kind;
      }) symbol
      ∙ ap (λ (text : List ℕ). record {
        symbol = text_of run (package_at facts (index + 1));
        documentation = [];
        display_name = text;
        details = kind_if_asked facts.details package_kind;
      }) name)))

  first_each : (number : ℕ) → number < 1 + length facts.package_name
      → get_or first number (file_entry home.id home.path facts.details) ≡ one number
  first_each zero within = file_is
  first_each (suc index) within =
      let few : index < length facts.package_name = omega (arith, within) in
      get_or-map-range_with_len (λ (i : ℕ). package_entry run facts (i + 1)) 0 (length facts.package_name) index index
      (file_entry home.id home.path facts.details) few (omega arith)
      ∙ package_is index few

  -- the file's and its packages'
  pub first_are : map one (range_with_len 0 (1 + length facts.package_name))
      ≡ first
  first_are =
      sym (fill_by_all one first (1 + length facts.package_name)
      (file_entry home.id home.path facts.details)
      (omega (
        arith,
        length-map-range_with_len (λ (i : ℕ). package_entry run facts (i + 1)) 0
            (length facts.package_name),
      )) first_each)

  -- those of its declarations
  pub are_numbered : AreNumbered home facts choices one
  are_numbered index declared choice there chosen =
      let number = declaration_number facts index in
      let text : List ℕ = text_of home.id (declaration_in home facts declared) in
      let detail = detail_at facts index in
      let around = text_at arounds index in
      behind_is texts home.path names facts choices arounds number index (omega (arith, names_count))
      ∙ (ap (λ (its : List ℕ).
      shown_as its (slice_get facts.declarations index) detail around (slice_get choices index))
      (declared_number home run facts index number declared there refl texts grown)
      ∙ (ap (λ (d : Option Declaration). shown_as text d detail around (slice_get choices index)) there
      ∙ (ap (shown_as text (Some declared) detail around) chosen
      ∙ ap (λ (details : Details). entry_with text declared details choice)
      (shown_with home facts index declared there))))

  -- all of them
  pub all_are : (fronts numbers : List ℕ)
      → map one fronts ≡ map one (range_with_len 0 (1 + length facts.package_name))
      → map one numbers ≡ map one fronts ++ kept_entries home facts 0 facts.declarations choices
      → map one numbers ≡ source_entries home run facts choices
  all_are fronts numbers front added =
      added
      ∙ ap (λ (entries : List SymbolInformation). entries ++ kept_entries home facts 0 facts.declarations choices)
      (front ∙ first_are)
