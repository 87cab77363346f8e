-- Sources of some documents.
use Rattle.std.proofs.Common.{◌≡◌, ◌⊎◌, inl, inr, ℕ, ◌+◌, Bool, true, false, cond, List, [], ◌∷◌, ◌++◌}
use Rattle.std.proofs.Common.{refl, sym, ◌∙◌, ap, subst}
use Rattle.std.specs.Prelude.{Option, None, Some, ◌||◌}
use Rattle.std.specs.Str.{IsUtf8, bytes_eq, is_utf8}
use Rattle.std.proofs.lemmas.List.Elements.{All-push, All-weaker}
use Rattle.std.proofs.lemmas.List.Folds.{list_any-append}
use Rattle.std.proofs.lemmas.Str.{IsUtf8-from_is_utf8}
use Rattle.std.proofs.lemmas.Slice.Eq.{bytes_eq-Decides}
use Rattle.scip_records.specs.declared.records.Index.{Index}
use Rattle.scip_pages.specs.Paths.{is_path_below}
use Rattle.scip_pages.specs.declared.told.Source.{Source}
use Rattle.scip_pages.specs.declared.columns.ColumnUnit.{ColumnUnit}
use Rattle.scip_site.specs.Sources.{AreSourcesOf, IsAdded, IsSource, IsSourceOf, added, is_there, known, none, source_with}

-- nothing is read, whatever columns count
pub none_with : (path : List ℕ) (unit : Option ColumnUnit) → None ≡ source_with path unit None
none_with path None = refl
none_with path (Some unit) = refl

pub text_with : (path : List ℕ) (unit : ColumnUnit) (text : List ℕ) → is_utf8 text ≡ true
    → Some (record { path = path; unit = unit; text = text }) ≡ source_with path (Some unit) (Some text)
text_with path unit text is = rw is refl

pub other_with : (path : List ℕ) (unit : ColumnUnit) (text : List ℕ) → (IsUtf8 text → ⊥)
    → None ≡ source_with path (Some unit) (Some text)
other_with path unit text refused = by (is_utf8 text) refl where
  by : (b : Bool) → is_utf8 text ≡ b → None ≡ source_with path (Some unit) (Some text)
  by true is = absurd (refused (IsUtf8-from_is_utf8 text is))
  by false is = rw is refl

-- a source has the path for which it is read
path_with : (path : List ℕ) (unit : Option ColumnUnit) (read : Option (List ℕ)) (s : Source)
    → Some s ≡ source_with path unit read → s.path ≡ path
path_with path None None s e = absurd cc
path_with path None (Some text) s e = absurd cc
path_with path (Some unit) None s e = absurd cc
path_with path (Some unit) (Some text) s e = by (is_utf8 text) e where
  by : (b : Bool) → Some s ≡ cond b (Some (record { path = path; unit = unit; text = text })) None → s.path ≡ path
  by true f = cc
  by false f = absurd cc

source_path : (gives : List ℕ → Option (List ℕ) → Type 0) (root : List ℕ) (index : Index) (path : List ℕ)
    (is_below : Bool) (s : Source) → IsSource gives root index path is_below (Some s) → s.path ≡ path
source_path gives root index path false s e = absurd cc
source_path gives root index path true s e = path_with path _ e.0 s e.2

-- one path more
module _ (gives : List ℕ → Option (List ℕ) → Type 0) (root : List ℕ) (index : Index) where
  abbrev Has : List Source → List ℕ → Type 0
  Has sources path = (is_there sources path ≡ true) ⊎ IsSourceOf gives root index path None

  abbrev Is : Source → Type 0
  Is s = IsSourceOf gives root index s.path (Some s)

  still : (old : List Source) (s : Source) (path : List ℕ) → Has old path → Has (old ++ s ∷ []) path
  still old s path (inl is) =
      inl (list_any-append (λ (x : Source). bytes_eq x.path path) old (s ∷ []) ∙ rw is refl)
  still old s path (inr nothing) = inr nothing

  pub one_more : (paths : List (List ℕ)) (path : List ℕ) (old new : List Source)
      → AreSourcesOf gives root index paths old → IsAdded gives root index path old new
      → AreSourcesOf gives root index (paths ++ path ∷ []) new
  one_more paths path old new so_far (known is same) =
      subst (AreSourcesOf gives root index (paths ++ path ∷ [])) (sym same) (record {
        each = so_far.each;
        all = All-push (Has old) paths path so_far.all (inl is);
      })
  one_more paths path old new so_far (added s is same) =
      let of : s.path ≡ path = source_path gives root index path (is_path_below path) s is in
      let own : IsSourceOf gives root index s.path (Some s) =
      subst (λ p. IsSourceOf gives root index p (Some s)) (sym of) is in
      let there : is_there (old ++ s ∷ []) path ≡ true =
      list_any-append (λ (x : Source). bytes_eq x.path path) old (s ∷ [])
      ∙ rw (ap (λ p. bytes_eq p path) of ∙ (bytes_eq-Decides path path).1 refl) (or_true (is_there old path)) in
      subst (AreSourcesOf gives root index (paths ++ path ∷ [])) (sym same) (record {
        each = All-push Is old s so_far.each own;
        all = All-push (Has (old ++ s ∷ [])) paths path
            (All-weaker (Has old) (Has (old ++ s ∷ [])) (still old s) paths so_far.all) (inl there);
      })
    where
      or_true : (b : Bool) → (b || (true || false)) ≡ true
      or_true true = refl
      or_true false = refl
  one_more paths path old new so_far (none is same) =
      subst (AreSourcesOf gives root index (paths ++ path ∷ [])) (sym same) (record {
        each = so_far.each;
        all = All-push (Has old) paths path so_far.all (inr is);
      })
