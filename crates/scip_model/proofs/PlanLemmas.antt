-- Texts with numbers, and what is planned by them.
use Rattle.std.proofs.Common.{◌≡◌, ◌∙◌, sym, ap, refl, subst, ℕ, suc, ◌+◌, ◌-◌, ◌<◌, ◌≤◌, Option, Some, None, List, []}
use Rattle.std.proofs.Common.{◌∷◌, ◌++◌, length, map, drop, arith, Bool, true, false, min, ◌^◌}
use Rattle.std.specs.Prelude.{if◌then◌else◌}
use Rattle.std.proofs.lemmas.Bool.{false≢true}
use Rattle.std.specs.Prelude.{ℤ}
use Rattle.std.specs.List.{slice_get, position}
use Rattle.std.specs.Option.{option_map}
use Rattle.std.specs.Str.{bytes_eq}
use Rattle.std.proofs.lemmas.Slice.Eq.{bytes_eq-Decides}
use Rattle.std.specs.Ordering.{on}
use Rattle.std.specs.declared.cmp.Ordering.{Ordering}
use Rattle.std.specs.declared.cmp.Ordering.TheVariants.{Less, Equal, Greater}
use Rattle.std.proofs.lemmas.List.{append_assoc, append-nil, map-append, drop-map, length-map, length-append}
use Rattle.std.proofs.lemmas.List.{get_or-append-add, get_or_append_left, get_or-append_right}
use Rattle.std.proofs.lemmas.List.FromFn.{get_or-map-range_with_len, length-map-range_with_len}
use Rattle.std.proofs.lemmas.List.Quantifiers.{position-Some}
use Rattle.std.proofs.lemmas.Option.{get_or_from_slice_get, slice_get_within, slice_get-map, none-some, same_Some}
use Rattle.proto_visibility.proofs.FileFactLemmas.{one_list_of_facts as same_facts}
use Rattle.basics.proofs.ListLemmas.{item_at}
use Rattle.proto_lex.specs.declared.span.Span.{Span}
use Rattle.proto_lex.specs.declared.position.Encoding.{Encoding}
use Rattle.proto_decl.specs.Facts.{Facts}
use Rattle.proto_decl.specs.declared.declaration.Declaration.{Declaration}
use Rattle.proto_visibility.specs.Files.{File, HasFacts}
use Rattle.scip_records.specs.declared.records.Occurrence.{Occurrence}
use Rattle.scip_symbol.specs.Entities.{OfFile}
use Rattle.scip_symbol.specs.Entities as symbols
use Rattle.scip_symbol.specs.Package.{Package}
use Rattle.scip_model.specs.Named.{Home, home_of_file, text_of, package_at, declaration_in, HasDeclaration}
use Rattle.scip_model.specs.Packages.{Packages, package_of_file}
use Rattle.scip_model.specs.Occurs.{range_over, no_role}
use Rattle.scip_model.specs.Chosen.{Chosen, IsChosen}
use Rattle.scip_model.specs.Tables.Listing.{at_entity, declared_by, keeps}
use Rattle.index_hooks.specs.declared.choice.Choice.{Choice}
use Rattle.scip_model.specs.Tables.Merges.{TakesLeast, fronts_cmp, first_of}
use Rattle.scip_model.specs.Tables.OwnTexts.{declaration_texts, occurrence_with}
use Rattle.scip_model.specs.Tables.Plans.{text_at, Grown, IsNumberOf, IsNumberIn, HasOwnTexts, AreAdded}
use Rattle.scip_model.specs.Tables.Plans.{Around, occurrence_of, range_around}
use Rattle.scip_model.specs.Tables.Plans.{package_texts_up_to, own_texts, declaration_number}
use Rattle.scip_records.specs.Range.{RangeNumbers}
use Rattle.scip_model.specs.declared.document_plan.PlannedOccurrence.{PlannedOccurrence}
use Rattle.scip_model.proofs.NamedLemmas.{declared_is}

-- ---- texts that grow

pub grown_same : (texts : List (List ℕ)) → Grown texts texts
grown_same texts = ([], sym (append-nil texts))

pub grown_then : (a b c : List (List ℕ)) → Grown a b → Grown b c → Grown a c
grown_then a b c first second = (
  first.0 ++ second.0,
  second.1 ∙ (ap (λ (texts : List (List ℕ)). texts ++ second.0) first.1 ∙ append_assoc a first.0 second.0),
)

pub own_then : (files : List File) (ids : Packages) (source : ℕ) (a b : List (List ℕ))
    → HasOwnTexts files ids source a → Grown a b → HasOwnTexts files ids source b
own_then files ids source a b own grown = (
  own.0,
  own.1,
  grown_then (own_texts (home_of_file files ids source) ids.run own.0) a b own.2 grown,
)

-- a text that is there keeps its number
pub number_within : (texts : List (List ℕ)) (text : List ℕ) (number : ℕ) → number < length texts
    → text_at texts number ≡ text → IsNumberOf texts text number
number_within texts text number within is = λ later grown.
    ap (λ (its : List (List ℕ)). text_at its number) grown.1
    ∙ (get_or_append_left texts grown.0 [] number within ∙ is)

pub number_then : (a b : List (List ℕ)) (text : List ℕ) (number : ℕ) → IsNumberOf a text number → Grown a b
    → IsNumberOf b text number
number_then a b text number is grown = λ later more. is later (grown_then a b later grown more)

-- ---- the numbers of what a source has itself

module _ (home : Home) (run : Package) (facts : Facts) where
  abbrev one_text : ℕ → List ℕ
  one_text index = text_of run (package_at facts (index + 1))

  abbrev of_declared : Declaration → List ℕ
  of_declared declared = text_of home.id (declaration_in home facts declared)

  abbrev front : List (List ℕ)
  front = package_texts_up_to run facts (length facts.package_name)

  abbrev behind : List (List ℕ)
  behind = declaration_texts home facts

  front_count : length front ≡ length facts.package_name
  front_count = length-map-range_with_len one_text 0 (length facts.package_name)

  pub file_number : IsNumberOf (own_texts home run facts) (text_of home.id (OfFile home.path)) 0
  file_number = number_within (own_texts home run facts) (text_of home.id (OfFile home.path)) 0 (omega arith) refl

  pub package_number : (index number : ℕ) → index < length facts.package_name → number ≡ index + 1
      → IsNumberOf (own_texts home run facts) (text_of run (package_at facts (index + 1))) number
  package_number index number within is =
      let next : number ≡ suc index = omega (arith, is) in
      let few : index < length front = omega (arith, within, front_count) in
      rw next (number_within (own_texts home run facts) (one_text index) (suc index)
      (omega (arith, few, length-append front behind))
      (get_or_append_left front behind [] index few
      ∙ get_or-map-range_with_len one_text 0 (length facts.package_name) index index [] within (omega arith)))

  pub declared_number : (index number : ℕ) (declared : Declaration) → slice_get facts.declarations index ≡ Some declared
      → number ≡ declaration_number facts index
      → IsNumberOf (own_texts home run facts) (text_of home.id (declaration_in home facts declared)) number
  declared_number index number declared there is =
      let texts : List (List ℕ) = front ++ behind in
      let at : text_at texts (length facts.package_name + index) ≡ of_declared declared =
      ap (λ (n : ℕ). text_at texts (n + index)) (sym front_count)
      ∙ (get_or-append-add front behind index []
      ∙ get_or_from_slice_get behind index (of_declared declared) []
      (slice_get-map of_declared facts.declarations index ∙ ap (option_map of_declared) there)) in
      let few : index < length behind = omega (
        arith,
        slice_get_within facts.declarations index declared there,
        length-map facts.declarations of_declared,
      ) in
      let next : number ≡ suc (length facts.package_name + index) = omega (arith, is) in
      rw next (number_within (own_texts home run facts) (of_declared declared)
      (suc (length facts.package_name + index)) (omega (arith, few, front_count, length-append front behind)) at)

-- that of a declaration of the source
pub own_is : (files : List File) (ids : Packages) (source index number : ℕ) (texts : List (List ℕ)) (facts : Facts)
    (declared : Declaration) → HasOwnTexts files ids source texts → HasDeclaration files source index facts declared
    → ((known : Facts) → HasFacts files source known → number ≡ declaration_number known index)
    → IsNumberIn texts (package_of_file files ids source) (declared_by files ids source index) number
own_is files ids source index number texts facts declared own has numbered =
    let home = home_of_file files ids source in
    let known = own.0 in
    let same = same_facts files source facts known has.has_facts own.1 in
    let there : slice_get known.declarations index ≡ Some declared =
    ap (λ (f : Facts). slice_get f.declarations index) (sym same) ∙ has.numbered in (
      text_of home.id (declaration_in home known declared),
      ap (option_map (text_of home.id)) (declared_is files ids source index known declared own.1 there),
      number_then (own_texts home ids.run known) texts (text_of home.id (declaration_in home known declared)) number
          (declared_number home ids.run known index number declared there (numbered known own.1)) own.2,
    )

-- that of what has this text
pub numbered_in : (texts : List (List ℕ)) (id : Package) (entity : Option symbols.Entity) (text : List ℕ) (number : ℕ)
    → option_map (text_of id) entity ≡ Some text → IsNumberOf texts text number → IsNumberIn texts id entity number
numbered_in texts id entity text number is numbered = (text, is, numbered)

-- ---- what is planned

-- one more
pub one_added : (around : Around) (texts : List (List ℕ)) (old new : List PlannedOccurrence)
    (planned : PlannedOccurrence) (text : List ℕ) (occurrence : Occurrence) → new ≡ old ++ planned ∷ []
    → IsNumberOf texts text planned.symbol
    → record {
      range = planned.range;
      symbol = text;
      symbol_roles = planned.symbol_roles;
      enclosing_range = range_around around planned.symbol_roles planned.symbol;
    }
    ≡ occurrence
    → AreAdded around texts old new (occurrence ∷ [])
one_added around texts old new planned text occurrence added numbered is = λ later grown.
    let f = occurrence_of around later in
    let with_text : List ℕ → Occurrence = λ its. record {
      range = planned.range;
      symbol = its;
      symbol_roles = planned.symbol_roles;
      enclosing_range = range_around around planned.symbol_roles planned.symbol;
    } in
    ap (map f) added
    ∙ (map-append f old (planned ∷ [])
    ∙ ap (λ (o : Occurrence). map f old ++ o ∷ []) (ap with_text (numbered later grown) ∙ is))

pub none_added : (around : Around) (texts : List (List ℕ)) (list : List PlannedOccurrence)
    → AreAdded around texts list list []
none_added around texts list = λ later grown. sym (append-nil (map (occurrence_of around later) list))

-- a text over a span, with the range around it
pub planned_added : (around : Around) (encoding : Encoding) (bytes : List ℕ) (span : Span) (roles : ℤ)
    (texts : List (List ℕ)) (old new : List PlannedOccurrence) (planned : PlannedOccurrence) (text : List ℕ)
    (number : ℕ) (range : Option RangeNumbers) → new ≡ old ++ planned ∷ []
    → planned ≡ record { range = range_over encoding bytes span; symbol = number; symbol_roles = roles }
    → IsNumberOf texts text number → range_around around roles number ≡ range
    → AreAdded around texts old new (occurrence_with encoding bytes span text roles range ∷ [])
planned_added around encoding bytes span roles texts old new planned text number range added is numbered ranged =
    one_added around texts old new planned text (occurrence_with encoding bytes span text roles range) added
    (subst (λ (p : PlannedOccurrence). IsNumberOf texts text p.symbol) (sym is) numbered)
    (ap (λ (p : PlannedOccurrence). record {
      range = p.range;
      symbol = text;
      symbol_roles = p.symbol_roles;
      enclosing_range = range_around around p.symbol_roles p.symbol;
    }) is
    ∙ ap (occurrence_with encoding bytes span text roles) ranged)

-- an entity over a span, whose number is known
pub entity_added : (around : Around) (encoding : Encoding) (bytes : List ℕ) (id : Package) (span : Span)
    (entity : Option symbols.Entity) (texts : List (List ℕ)) (old new : List PlannedOccurrence)
    (planned : PlannedOccurrence) (number : ℕ)
    → new ≡ old ++ planned ∷ []
    → planned ≡ record { range = range_over encoding bytes span; symbol = number; symbol_roles = no_role }
    → IsNumberIn texts id entity number → AreAdded around texts old new (at_entity id encoding bytes span entity)
entity_added around encoding bytes id span None texts old new planned number added is numbered =
    absurd (none-some _ numbered.1)
entity_added around encoding bytes id span (Some entity) texts old new planned number added is numbered =
    planned_added around encoding bytes span no_role texts old new planned (text_of id entity) number None added is
    (subst (λ (its : List ℕ). IsNumberOf texts its number) (sym (same_Some _ _ numbered.1)) numbered.2) refl

-- what is added where a test says so
pub none_if : (around : Around) (b : Bool) (texts : List (List ℕ)) (list : List PlannedOccurrence)
    (occurrences : List Occurrence) → b ≡ false → AreAdded around texts list list (if b then occurrences else [])
none_if around false texts list occurrences e = none_added around texts list
none_if around true texts list occurrences e = absurd (false≢true (sym e))

pub some_if : (around : Around) (b : Bool) (texts : List (List ℕ)) (old new : List PlannedOccurrence)
    (occurrences : List Occurrence) → b ≡ true → AreAdded around texts old new occurrences
    → AreAdded around texts old new (if b then occurrences else [])
some_if around true texts old new occurrences e added = added
some_if around false texts old new occurrences e added = absurd (false≢true e)

-- what the choice for a declaration says
pub kept_by : (chosen : Chosen) (file index : ℕ) (choice : Choice) → IsChosen chosen file index choice
    → keeps chosen file index ≡ choice.keep
kept_by chosen file index choice is = rw (is.file_is, is.declaration_is) refl

-- ---- texts of one's own, and others

-- a sum that is within the numbers
pub unsaturated : (sum number : ℕ) → number ≡ min sum (2 ^ 64 - 1) → number < 2 ^ 32 → number ≡ sum
unsaturated sum number is within = omega (arith, is, within)

module _ {K : Type 0} (text_in : K → List ℕ) where
  pub keys_grown : (b : Bool) (keys new : List K) (key : K) → new ≡ (if b then keys else keys ++ key ∷ [])
      → Grown (map text_in keys) (map text_in new)
  keys_grown true keys new key e = ([], ap (map text_in) e ∙ sym (append-nil (map text_in keys)))
  keys_grown false keys new key e =
      (text_in key ∷ [], ap (map text_in) e ∙ map-append text_in keys (key ∷ []))

  -- a key that is stored
  pub key_stored : (keys : List K) (index : ℕ) (key : K) (text : List ℕ) → slice_get keys index ≡ Some key
      → bytes_eq text (text_in key) ≡ true → slice_get (map text_in keys) index ≡ Some text
  key_stored keys index key text there is =
      slice_get-map text_in keys index
      ∙ (ap (option_map text_in) there ∙ ap Some (sym ((bytes_eq-Decides text (text_in key)).0 is)))

  -- a key that a search finds
  pub key_found : (keys : List K) (index : ℕ) (text : List ℕ) → index < length keys
      → position (λ (key : K). bytes_eq text (text_in key)) keys ≡ Some index
      → slice_get (map text_in keys) index ≡ Some text
  key_found keys index text within found =
      let key = item_at keys index within in
      let at = position-Some (λ (key : K). bytes_eq text (text_in key)) keys index key.0 found in
      key_stored keys index key.0 text key.1
      (subst (λ (k : K). bytes_eq text (text_in k) ≡ true) (get_or_from_slice_get keys index key.0 key.0 key.1) at.1)

pub grown_behind : (own old new : List (List ℕ)) → Grown old new → Grown (own ++ old) (own ++ new)
grown_behind own old new grown = (
  grown.0,
  ap (λ (its : List (List ℕ)). own ++ its) grown.1 ∙ sym (append_assoc own old grown.0),
)

pub own_number : (own others : List (List ℕ)) (index number : ℕ) (text : List ℕ) → slice_get own index ≡ Some text
    → number ≡ index → IsNumberOf (own ++ others) text number
own_number own others index number text there at =
    let within = slice_get_within own index text there in
    rw at (number_within (own ++ others) text index (omega (arith, within, length-append own others))
    (get_or_append_left own others [] index within ∙ get_or_from_slice_get own index text [] there))

pub other_number : (own others : List (List ℕ)) (index number : ℕ) (text : List ℕ)
    → slice_get others index ≡ Some text → number ≡ length own + index → IsNumberOf (own ++ others) text number
other_number own others index number text there at =
    rw at (number_within (own ++ others) text (length own + index)
    (omega (arith, slice_get_within others index text there, length-append own others))
    (get_or-append-add own others index [] ∙ get_or_from_slice_get others index text [] there))

pub text_of_own : (own others : List (List ℕ)) (number : ℕ) (text : List ℕ) → slice_get own number ≡ Some text
    → text ≡ text_at (own ++ others) number
text_of_own own others number text there =
    sym (get_or_append_left own others [] number (slice_get_within own number text there)
    ∙ get_or_from_slice_get own number text [] there)

pub text_of_other : (own others : List (List ℕ)) (number : ℕ) → length own ≤ number
    → text_at others (number - length own) ≡ text_at (own ++ others) number
text_of_other own others number behind =
    sym (get_or-append_right own others (length own) number [] refl behind)

-- ---- merging what is planned

module _ {P X : Type 0} (f : P → X) (cmp : X → X → Ordering) where
  pub fronts_mapped : (xs ys : List P) → fronts_cmp (on f cmp) xs ys ≡ fronts_cmp cmp (map f xs) (map f ys)
  fronts_mapped [] ys = refl
  fronts_mapped (x ∷ xs) [] = refl
  fronts_mapped (x ∷ xs) (y ∷ ys) = refl

  first_mapped : (xs : List P) (next : Option P) → next ≡ first_of xs → option_map f next ≡ first_of (map f xs)
  first_mapped [] next is = ap (option_map f) is
  first_mapped (x ∷ xs) next is = ap (option_map f) is

  rest_mapped : (xs left : List P) → left ≡ drop 1 xs → map f left ≡ drop 1 (map f xs)
  rest_mapped xs left is = ap (map f) is ∙ sym (drop-map f 1 xs)

  by_order : (o : Ordering) (xs ys : List P) (next : Option P) (xs_left ys_left : List P)
      → TakesLeast o xs ys next xs_left ys_left
      → TakesLeast o (map f xs) (map f ys) (option_map f next) (map f xs_left) (map f ys_left)
  by_order Less xs ys next xs_left ys_left t =
      (first_mapped xs next t.0, rest_mapped xs xs_left t.1, ap (map f) t.2)
  by_order Equal xs ys next xs_left ys_left t =
      (first_mapped xs next t.0, rest_mapped xs xs_left t.1, rest_mapped ys ys_left t.2)
  by_order Greater xs ys next xs_left ys_left t =
      (first_mapped ys next t.0, ap (map f) t.1, rest_mapped ys ys_left t.2)

  pub least_mapped : (xs ys : List P) (next : Option P) (xs_left ys_left : List P)
      → TakesLeast (fronts_cmp (on f cmp) xs ys) xs ys next xs_left ys_left
      → TakesLeast (fronts_cmp cmp (map f xs) (map f ys)) (map f xs) (map f ys) (option_map f next) (map f xs_left)
      (map f ys_left)
  least_mapped xs ys next xs_left ys_left t =
      subst (λ (o : Ordering).
      TakesLeast o (map f xs) (map f ys) (option_map f next) (map f xs_left) (map f ys_left))
      (fronts_mapped xs ys) (by_order (fronts_cmp (on f cmp) xs ys) xs ys next xs_left ys_left t)

  pub one_mapped : (old new : List P) (x : P) → new ≡ old ++ x ∷ [] → map f new ≡ map f old ++ f x ∷ []
  one_mapped old new x is = ap (map f) is ∙ map-append f old (x ∷ [])
