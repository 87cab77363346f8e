-- The lists of entries: what they have.
use Rattle.std.proofs.Common.{◌≡◌, ◌∙◌, inl, inr, ℕ, zero, suc, ◌+◌, ◌<◌, Bool, true, false, cond, Some, List, [], ◌∷◌}
use Rattle.std.proofs.Common.{◌++◌, take, sym, ap, refl, subst, append_assoc, arith}
use Rattle.std.specs.List.{slice_get, Contains}
use Rattle.std.proofs.lemmas.Bool.{false≢true}
use Rattle.std.proofs.lemmas.List.{append-nil}
use Rattle.std.proofs.lemmas.List.FromFn.{length-map-range_with_len, get_or-map-range_with_len}
use Rattle.std.proofs.lemmas.List.Elements.{Contains-get_or, Contains-append_left, Contains-append_right}
use Rattle.std.proofs.lemmas.List.Elements.{Contains-append_cases, Contains-push}
use Rattle.std.proofs.lemmas.Option.{same_Some, none-some}
use Rattle.basics.proofs.ListLemmas.{only, in_nothing}
use Rattle.index_hooks.specs.declared.choice.Choice.{Choice}
use Rattle.proto_decl.specs.Facts.{Facts}
use Rattle.proto_decl.specs.declared.declaration.Declaration.{Declaration}
use Rattle.scip_records.specs.declared.records.SymbolInformation.{SymbolInformation}
use Rattle.scip_symbol.specs.Package.{Package}
use Rattle.scip_model.specs.Chosen.{Chosen, IsChosen}
use Rattle.scip_model.specs.Detailed.{detail_at}
use Rattle.scip_model.specs.Named.{Home}
use Rattle.scip_model.specs.Entries.{package_entry, declaration_entry}
use Rattle.scip_model.specs.Tables.EntryLists.{package_entries_up_to, entry_if_kept, kept_entries, choices_for}

-- ---- packages

module _ (id : Package) (facts : Facts) where
  pub in-packages : (count : ℕ) (x : SymbolInformation) → Contains (package_entries_up_to id facts count) x
      → (index : ℕ) × (index < count) × (x ≡ package_entry id facts (index + 1))
  in-packages count x there =
      let entry = λ (i : ℕ). package_entry id facts (i + 1) in
      let within : there.0 < count = omega (arith, there.1, length-map-range_with_len entry 0 count) in
      (there.0, within, sym there.2 ∙ get_or-map-range_with_len entry 0 count there.0 there.0 x within (omega arith))

  pub package-in : (count index : ℕ) → index < count
      → Contains (package_entries_up_to id facts count) (package_entry id facts (index + 1))
  package-in count index within =
      let entry = λ (i : ℕ). package_entry id facts (i + 1) in
      let size = length-map-range_with_len entry 0 count in
      subst (Contains (package_entries_up_to id facts count))
      (get_or-map-range_with_len entry 0 count index index (entry index) within (omega arith))
      (Contains-get_or (package_entries_up_to id facts count) index (entry index) (omega (arith, size, within)))

-- ---- declarations that are kept

-- the entry of one of these declarations, of which the first has this number, and which is kept
pub record IsOfKept (home : Home) (facts : Facts) (first : ℕ) (ds : List Declaration) (cs : List Choice)
    (entry : SymbolInformation) : Type 0 where
  pub index : ℕ
  pub declared : Declaration
  pub choice : Choice
  pub stands : slice_get ds index ≡ Some declared
  pub chosen : slice_get cs index ≡ Some choice
  pub keeps : choice.keep ≡ true
  pub is : entry ≡ declaration_entry home facts declared (detail_at facts (first + index)) choice

module _ (home : Home) (facts : Facts) where
  -- the entry of the declaration with a number
  abbrev entry_at : (number : ℕ) → Declaration → Choice → SymbolInformation
  entry_at number d c = declaration_entry home facts d (detail_at facts number) c

  -- one declaration more
  more-kept : (first : ℕ) (ds : List Declaration) (cs : List Choice) (i number : ℕ) (d : Declaration) (c : Choice)
      → number ≡ first + i → slice_get ds i ≡ Some d → slice_get cs i ≡ Some c
      → kept_entries home facts first (take (suc i) ds) cs
      ≡ kept_entries home facts first (take i ds) cs ++ entry_if_kept home facts number d c
  more-kept first [] cs i number d c is at chosen = absurd (none-some d at)
  more-kept first (x ∷ ds) [] i number d c is at chosen = absurd (none-some c chosen)
  more-kept first (x ∷ ds) (y ∷ cs) zero number d c is at chosen =
      let here : first ≡ number = omega (arith, is) in
      append-nil (entry_if_kept home facts first x y)
      ∙ (ap (λ (e : Declaration). entry_if_kept home facts first e y) (same_Some x d at)
      ∙ (ap (entry_if_kept home facts first d) (same_Some y c chosen)
      ∙ ap (λ (n : ℕ). entry_if_kept home facts n d c) here))
  more-kept first (x ∷ ds) (y ∷ cs) (suc i) number d c is at chosen =
      let later : number ≡ first + 1 + i = omega (arith, is) in
      ap (λ (l : List SymbolInformation). entry_if_kept home facts first x y ++ l)
      (more-kept (first + 1) ds cs i number d c later at chosen)
      ∙ sym (append_assoc (entry_if_kept home facts first x y) (kept_entries home facts (first + 1) (take i ds) cs)
      (entry_if_kept home facts number d c))

  pub kept-more : (ds : List Declaration) (cs : List Choice) (i : ℕ) (d : Declaration) (c : Choice)
      → slice_get ds i ≡ Some d → slice_get cs i ≡ Some c
      → kept_entries home facts 0 (take (i + 1) ds) cs
      ≡ kept_entries home facts 0 (take i ds) cs ++ entry_if_kept home facts i d c
  kept-more ds cs i d c at chosen =
      let next : i + 1 ≡ suc i = omega arith in
      ap (λ (n : ℕ). kept_entries home facts 0 (take n ds) cs) next ∙ more-kept 0 ds cs i i d c (omega arith) at chosen

  -- that of one declaration
  pub in-one : (b : Bool) (y x : SymbolInformation) → Contains (cond b (y ∷ []) []) x → (b ≡ true) × (x ≡ y)
  in-one true y x there = (refl, sym (only y x there))
  in-one false y x there = absurd (in_nothing x there)

  one-in : (b : Bool) (y : SymbolInformation) → b ≡ true → Contains (cond b (y ∷ []) []) y
  one-in true y kept = Contains-push [] y
  one-in false y kept = absurd (false≢true kept)

  pub in-kept : (first : ℕ) (ds : List Declaration) (cs : List Choice) (x : SymbolInformation)
      → Contains (kept_entries home facts first ds cs) x → IsOfKept home facts first ds cs x
  in-kept first [] cs x there = absurd (in_nothing x there)
  in-kept first (d ∷ ds) [] x there = absurd (in_nothing x there)
  in-kept first (d ∷ ds) (c ∷ cs) x there =
      elim
      (Contains-append_cases (entry_if_kept home facts first d c) (kept_entries home facts (first + 1) ds cs) x there) [
        | inl here ↦ (
            let one = in-one c.keep (entry_at first d c) x here in
            let itself : first ≡ first + 0 = omega arith in
            record {
              index = 0;
              declared = d;
              choice = c;
              stands = refl;
              chosen = refl;
              keeps = one.0;
              is = one.1 ∙ ap (λ (n : ℕ). entry_at n d c) itself;
            })
        | inr later ↦ (
            let rest = in-kept (first + 1) ds cs x later in
            let further : first + 1 + rest.index ≡ first + suc rest.index = omega arith in
            record {
              index = suc rest.index;
              declared = rest.declared;
              choice = rest.choice;
              stands = rest.stands;
              chosen = rest.chosen;
              keeps = rest.keeps;
              is = rest.is ∙ ap (λ (n : ℕ). entry_at n rest.declared rest.choice) further;
            })
      ]

  pub kept-in : (first : ℕ) (ds : List Declaration) (cs : List Choice) (i number : ℕ) (d : Declaration) (c : Choice)
      → number ≡ first + i → slice_get ds i ≡ Some d → slice_get cs i ≡ Some c → c.keep ≡ true
      → Contains (kept_entries home facts first ds cs) (entry_at number d c)
  kept-in first [] cs i number d c is at chosen kept = absurd (none-some d at)
  kept-in first (x ∷ ds) [] i number d c is at chosen kept = absurd (none-some c chosen)
  kept-in first (x ∷ ds) (y ∷ cs) zero number d c is at chosen kept =
      let here : first ≡ number = omega (arith, is) in
      Contains-append_left (entry_if_kept home facts first x y) (kept_entries home facts (first + 1) ds cs)
      (entry_at number d c)
      (subst (λ (n : ℕ). Contains (entry_if_kept home facts first x y) (entry_at n d c)) here
      (subst (λ (e : Declaration). Contains (entry_if_kept home facts first e y) (entry_at first d c))
      (sym (same_Some x d at))
      (subst (λ (e : Choice). Contains (entry_if_kept home facts first d e) (entry_at first d c))
      (sym (same_Some y c chosen)) (one-in c.keep (entry_at first d c) kept))))
  kept-in first (x ∷ ds) (y ∷ cs) (suc i) number d c is at chosen kept =
      let later : number ≡ first + 1 + i = omega (arith, is) in
      Contains-append_right (entry_if_kept home facts first x y) (kept_entries home facts (first + 1) ds cs)
      (entry_at number d c) (kept-in (first + 1) ds cs i number d c later at chosen kept)

-- ---- choices

pub chosen-for : (chosen : Chosen) (file index : ℕ) (choice : Choice) → IsChosen chosen file index choice
    → slice_get (choices_for chosen file) index ≡ Some choice
chosen-for chosen file index choice is = go chosen file is.of_file is.file_is is.declaration_is
  where
    go : (chosen : Chosen) (file : ℕ) (own : List Choice) → slice_get chosen file ≡ Some own
        → slice_get own index ≡ Some choice → slice_get (choices_for chosen file) index ≡ Some choice
    go [] file own at is = absurd (none-some own at)
    go (first ∷ others) zero own at is = ap (λ (l : List Choice). slice_get l index) (same_Some first own at) ∙ is
    go (first ∷ others) (suc file) own at is = go others file own at is

pub is-chosen : (chosen : Chosen) (file index : ℕ) (choice : Choice)
    → slice_get (choices_for chosen file) index ≡ Some choice → IsChosen chosen file index choice
is-chosen [] file index choice at = absurd (none-some choice at)
is-chosen (first ∷ others) zero index choice at = record { of_file = first; file_is = refl; declaration_is = at }
is-chosen (first ∷ others) (suc file) index choice at =
    let rest = is-chosen others file index choice at in
    record { of_file = rest.of_file; file_is = rest.file_is; declaration_is = rest.declaration_is }
