-- Where paths of pages lead.
use Rattle.std.proofs.Common.{◌≡◌, ◌≢◌, ◌∙◌, sym, refl, ap, ℕ, ◌==◌, Bool, true, false, ◌||◌, cond, List, [], ◌∷◌, ◌++◌}
use Rattle.std.proofs.Common.{nat_eq, append_assoc, append-nil}
use Rattle.std.specs.Prelude.{codes, not, ◌&&◌}
use Rattle.std.specs.List.{list_any, onto_first, starts_with, join_with_byte, AllByRecursion}
use Rattle.std.specs.Str.{bytes_eq}
use Rattle.std.proofs.lemmas.Bool.{eqb-false, ne_eqb, or_parts}
use Rattle.std.proofs.lemmas.List.{append_cancel_left}
use Rattle.std.proofs.lemmas.List.Splits.{join_with_byte-slice_split}
use Rattle.std.proofs.lemmas.Slice.Eq.{bytes_eq-Decides}
use Rattle.scip_pages.specs.Paths.{components, has_name, entered, entered_all}
use Rattle.scip_pages.specs.PathLaws.{StaysBelow, HasItsOwnPlace, IsName, NamesLeadBelow}

abbrev none_is : List ℕ → List (List ℕ) → Type 0
none_is name names = list_any (λ (other : List ℕ). bytes_eq other name) names ≡ false

enters : (folder : List (List ℕ)) (name : List ℕ) → bytes_eq name (codes "") ≡ false → bytes_eq name (codes ".") ≡ false
    → bytes_eq name (codes "..") ≡ false
    → entered folder name ≡ folder ++ name ∷ []
enters folder name a b c = rw (a, b, c) refl

enters_all : (folder names : List (List ℕ)) → none_is (codes "") names → none_is (codes ".") names
    → none_is (codes "..") names → entered_all folder names ≡ folder ++ names
enters_all folder [] a b c = sym (append-nil folder)
enters_all folder (name ∷ names) a b c =
    let d = or_parts (bytes_eq name (codes "")) (list_any (λ (other : List ℕ). bytes_eq other (codes "")) names) a in
    let e = or_parts (bytes_eq name (codes ".")) (list_any (λ (other : List ℕ). bytes_eq other (codes ".")) names) b in
    let f = or_parts (bytes_eq name (codes ".."))
    (list_any (λ (other : List ℕ). bytes_eq other (codes "..")) names) c in
    ap (λ (g : List (List ℕ)). entered_all g names) (enters folder name d.0 e.0 f.0)
    ∙ enters_all (folder ++ name ∷ []) names d.1 e.1 f.1
    ∙ append_assoc folder (name ∷ []) names

-- in the path of a page each test failed
stays_by : (folder names : List (List ℕ)) (a b c d : Bool)
    → (not a && not b && not c && not d) ≡ true
    → (b ≡ false → c ≡ false → d ≡ false → entered_all folder names ≡ folder ++ names)
    → entered_all (cond a [] folder) names ≡ folder ++ names
stays_by folder names true b c d e enter = absurd cc
stays_by folder names false true c d e enter = absurd cc
stays_by folder names false false true d e enter = absurd cc
stays_by folder names false false false true e enter = absurd cc
stays_by folder names false false false false e enter = enter refl refl refl

pub stays_below : StaysBelow
stays_below folder path e =
    stays_by folder (components path) (starts_with nat_eq path (codes "/")) (has_name (codes "") path)
    (has_name (codes ".") path) (has_name (codes "..") path) e
    (enters_all folder (components path))

pub has_its_own_place : HasItsOwnPlace
has_its_own_place folder path other e f same =
    let names : components path ≡ components other =
    append_cancel_left folder (components path) (components other)
    (sym (stays_below folder path e) ∙ same ∙ stays_below folder other f) in
    sym (join_with_byte-slice_split 47 path) ∙ ap (join_with_byte 47) names ∙ join_with_byte-slice_split 47 other

-- ---- paths of names

not_absolute : (path : List ℕ) → AllByRecursion IsName (components path) → starts_with nat_eq path (codes "/") ≡ false
not_absolute [] names = refl
not_absolute (b ∷ path) names = by (b == 47) refl names
  where
    by : (c : Bool) → (b == 47) ≡ c
        → AllByRecursion IsName (cond c ([] ∷ components path) (onto_first b (components path)))
        → starts_with nat_eq (b ∷ path) (codes "/") ≡ false
    by true e names = absurd (names.0.0 refl)
    by false e names = rw (ne_eqb 47 b (λ same. eqb-false b 47 e (sym same))) refl

none_named : (name : List ℕ) (names : List (List ℕ)) → AllByRecursion (λ (other : List ℕ). other ≢ name) names
    → none_is name names
none_named name [] all = refl
none_named name (other ∷ names) all = by (bytes_eq other name) refl (none_named name names all.1)
  where
    by : (b : Bool) → bytes_eq other name ≡ b → none_is name names
        → (b || list_any (λ (o : List ℕ). bytes_eq o name) names) ≡ false
    by true e others = absurd (all.0 ((bytes_eq-Decides other name).0 e))
    by false e others = others

weaker : (P Q : List ℕ → Type 0) → ((name : List ℕ) → P name → Q name) → (names : List (List ℕ))
    → AllByRecursion P names → AllByRecursion Q names
weaker P Q so [] all = tt
weaker P Q so (name ∷ names) all = (so name all.0, weaker P Q so names all.1)

below_by : (a b c d : Bool) → a ≡ false → b ≡ false → c ≡ false → d ≡ false
    → (not a && not b && not c && not d) ≡ true
below_by a b c d e f g h = rw (e, f, g, h) refl

pub names_lead_below : NamesLeadBelow
names_lead_below path all =
    let is_none : (name : List ℕ) → ((other : List ℕ) → IsName other → other ≢ name) → has_name name path ≡ false =
    λ name so. none_named name (components path) (weaker IsName (λ other. other ≢ name) so (components path) all) in
    below_by (starts_with nat_eq path (codes "/")) (has_name (codes "") path) (has_name (codes ".") path)
    (has_name (codes "..") path) (not_absolute path all)
    (is_none (codes "") (λ other is. is.0)) (is_none (codes ".") (λ other is. is.1))
    (is_none (codes "..") (λ other is. is.2))
