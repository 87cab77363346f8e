-- The full names of outermost declarations, as they are spelled.
use Rattle.std.proofs.Common.{◌≡◌, ◌≢◌, ◌∙◌, ◌⊎◌, ◌↔◌, inl, inr, ap, sym, refl, subst, ℕ, ◌+◌, ◌<◌, ◌≤◌, Bool, true, false}
use Rattle.std.proofs.Common.{cond, ◌||◌, Option, Some, None, zero, suc, set, List, [], ◌∷◌, ◌++◌, map, take, length, arith, length-append}
use Rattle.std.specs.Prelude.{Contains}
use Rattle.std.specs.List.{list_any, slice_get, ItemBy}
use Rattle.std.specs.Option.{option_map, option_map_or}
use Rattle.std.specs.Str.{bytes_eq}
use Rattle.std.proofs.lemmas.Bool.{cases_lt}
use Rattle.std.proofs.lemmas.List.{append_assoc, take-map, length-map}
use Rattle.std.proofs.lemmas.List.Elements.{Contains-append_cases, Contains-append_left, Contains-append_right}
use Rattle.std.proofs.lemmas.Option.{slice_get-map, slice_get_past, slice_get_read}
use Rattle.std.proofs.lemmas.Slice.Eq.{bytes_eq-Decides}
use Rattle.basics.proofs.BoolLemmas.{never}
use Rattle.basics.proofs.ListLemmas.{in_front, behind_it, in_nothing, only, item_at}
use Rattle.proto_visibility.proofs.SeeingLemmas.{slice_get_prefix}
use Rattle.proto_visibility.proofs.ItemAllLemmas.{slice_get_last}
use denote.Ref.{Bor}
use Rattle.proto_decl.specs.Names.{dotted}
use Rattle.proto_decl.specs.Facts.{Facts}
use Rattle.proto_decl.specs.Laws.{component_names}
use Rattle.proto_decl.specs.declared.uses.Component.{Component}
use Rattle.proto_decl.specs.declared.declaration.Declaration.{Declaration}
use Rattle.proto_decl.specs.declared.declaration.DeclarationStep.{DeclarationStep}
use Rattle.scip_model.specs.Packages.{names_at, names_if_there, with_path}
use Rattle.scip_symbol.specs.Package.{Package}
use Rattle.scip_model.specs.Repeated.{Home, outermost_name}
use Rattle.scip_model.specs.Tables.Repeats.{AreNone, AreSome}

-- components, each with a dot behind it
pub before-last : List Component → List ℕ
before-last [] = []
before-last (component ∷ others) = component.name ++ (46 ∷ before-last others)

pub before-none : before-last [] ≡ []
unfolding before-last
before-none = refl

pub before-more : (components : List Component) (component : Component)
    → before-last (components ++ component ∷ []) ≡ before-last components ++ (component.name ++ (46 ∷ []))
unfolding before-last
before-more [] component = refl
before-more (first ∷ others) component =
    ap (λ (text : List ℕ). first.name ++ (46 ∷ text)) (before-more others component)
    ∙ sym (append_assoc first.name (46 ∷ before-last others) (component.name ++ (46 ∷ [])))

-- with a last name behind them they are joined
joined : (components : List Component) (name : List ℕ)
    → dotted (component_names components ++ name ∷ []) ≡ before-last components ++ name
unfolding before-last
joined [] name = refl
joined (first ∷ []) name = sym (append_assoc first.name (46 ∷ []) name)
joined (first ∷ (next ∷ others)) name =
    ap (λ (text : List ℕ). first.name ++ (46 ∷ text)) (joined (next ∷ others) name)
    ∙ sym (append_assoc first.name (46 ∷ before-last (next ∷ others)) name)

pub outermost-is : (facts : Facts) (declaration : Declaration) (step : DeclarationStep)
    → take 1 declaration.path ≡ step ∷ []
    → before-last facts.package_name ++ step.name ≡ outermost_name facts declaration
outermost-is facts declaration step first =
    sym (joined facts.package_name step.name)
    ∙ ap (λ (names : List (List ℕ)). dotted (component_names facts.package_name ++ names))
    (sym (take-map (λ (s : DeclarationStep). s.name) 1 declaration.path
    ∙ ap (map (λ (s : DeclarationStep). s.name)) first))

-- ---- names that are kept as strings

-- of what is there
pub in-chosen : {X T : Type 0} (f : X → List T) (test : T → Bool) (o : Option X) (x : X) → o ≡ Some x
    → list_any test (f x) ≡ list_any test (option_map_or f o [])
in-chosen {X} f test o x is = ap (λ (its : Option X). list_any test (option_map_or f its [])) (sym is)

-- the names at a place, of lists that are kept otherwise
module _ {X : Type 0} (f : X → List (List ℕ)) where
  pub names-of : (xs : List X) (number : ℕ) (x : X) → slice_get xs number ≡ Some x → names_at (map f xs) number ≡ f x
  names-of xs number x at = ap names_if_there (slice_get-map f xs number ∙ ap (option_map f) at)

  pub names-beyond : (xs : List X) (number : ℕ) → length xs ≤ number → names_at (map f xs) number ≡ []
  names-beyond xs number past =
      ap names_if_there (slice_get_past (map f xs) number (omega (arith, past, length-map xs f)))

  -- what was got of them
  pub got : (xs : List X) (number : ℕ) (r : Option (Bor X)) → ItemBy (λ (x : Bor X). x.now) xs number number r
      → option_map_or (λ (x : Bor X). f x.now) r [] ≡ names_at (map f xs) number
  got xs number None is = sym (names-beyond xs number is.3)
  got xs number (Some x) is =
      sym (names-of xs number x.now (slice_get_read xs (length xs) number x.now refl is.3.0 is.1))

  pub got-of : (xs ys : List X) (number : ℕ) (r : Option (Bor X)) → xs ≡ ys
      → ItemBy (λ (x : Bor X). x.now) xs number number r
      → option_map_or (λ (x : Bor X). f x.now) r [] ≡ names_at (map f ys) number
  got-of xs ys number r same is = got xs number r is ∙ ap (λ (l : List X). names_at (map f l) number) same

  -- none so far
  abbrev pub NoneBefore : (xs : List X) → (count : ℕ) → Type 0
  NoneBefore xs count = (number : ℕ) → number < count → names_at (map f xs) number ≡ []

  pub none-more : (xs : List X) (count : ℕ) (x : X) → slice_get xs count ≡ Some x → f x ≡ [] → NoneBefore xs count
      → NoneBefore xs (count + 1)
  none-more xs count x at none before number less = elim (cases_lt number count) [
    | inl earlier ↦ before number earlier
    | inr last ↦ (let one : number ≡ count = omega (arith, last, less) in
        ap (names_at (map f xs)) one ∙ (names-of xs count x at ∙ none))
  ]

  pub all-none : (xs : List X) (count : ℕ) → length xs ≤ count → NoneBefore xs count → AreNone (map f xs)
  all-none xs count all before number name there = in_nothing name
      (subst (λ (l : List (List ℕ)). Contains l name) (elim (cases_lt number count) [
        | inl less ↦ before number less
        | inr more ↦ names-beyond xs number (omega (arith, all, more))
      ]) there)

  pub one-some : (xs : List X) (number : ℕ) (x : X) → slice_get xs number ≡ Some x → length (f x) ≢ 0
      → AreSome (map f xs)
  one-some xs number x at some = by (f x) refl
    where
      by : (names : List (List ℕ)) → f x ≡ names → AreSome (map f xs)
      by [] is = absurd (some (ap length is))
      by (name ∷ others) is = record {
        number = number;
        name = name;
        there = subst (λ (l : List (List ℕ)). Contains l name) (sym (names-of xs number x at ∙ is)) (in_front name others);
      }

  -- one list more in which nothing is
  pub none-pushed : (xs : List X) (x : X) → f x ≡ [] → AreNone (map f xs) → AreNone (map f (xs ++ x ∷ []))
  none-pushed xs x none before number name there = elim (cases_lt number (length xs)) [
    | inl less ↦ (
        let item = item_at xs number less in
        before number name
        (subst (λ (l : List (List ℕ)). Contains l name)
        (names-of (xs ++ x ∷ []) number item.0 (slice_get_prefix xs (x ∷ []) number less ∙ item.1)
        ∙ sym (names-of xs number item.0 item.1)) there))
    | inr more ↦ elim (cases_lt (length xs) number) [
      | inl past ↦ in_nothing name
          (subst (λ (l : List (List ℕ)). Contains l name)
          (names-beyond (xs ++ x ∷ []) number (omega (arith, past, length-append xs (x ∷ [])))) there)
      | inr same ↦ (
          let one : number ≡ length xs = omega (arith, more, same) in
          in_nothing name
          (subst (λ (l : List (List ℕ)). Contains l name)
          (ap (names_at (map f (xs ++ x ∷ []))) one ∙ (names-of (xs ++ x ∷ []) (length xs) x (slice_get_last xs x (length xs) refl) ∙ none)) there))
    ]
  ]

pub some-of : {X : Type 0} (f : X → List (List ℕ)) (xs ys : List X) → xs ≡ ys → AreSome (map f xs) → AreSome (map f ys)
some-of f xs ys same some = subst (λ l. AreSome (map f l)) same some

pub none-of : {X : Type 0} (f : X → List (List ℕ)) (xs ys : List X) → xs ≡ ys → AreNone (map f xs) → AreNone (map f ys)
none-of f xs ys same none = subst (λ l. AreNone (map f l)) same none

pub nothing-mapped : {X Y : Type 0} (g : X → Y) (xs : List X) → length xs ≡ 0 → map g xs ≡ []
nothing-mapped g [] is = refl
nothing-mapped g (x ∷ xs) is = absurd (omega (arith, is))

-- one list that changes

set-at : {X : Type 0} (xs : List X) (number : ℕ) (x : X) → number < length xs
    → slice_get (set xs number x) number ≡ Some x
set-at [] number x within = absurd (omega (arith, within))
set-at (y ∷ xs) zero x within = refl
set-at (y ∷ xs) (suc number) x within = set-at xs number x (omega (arith, within))

set-other : {X : Type 0} (xs : List X) (number other : ℕ) (x : X) → other ≢ number
    → slice_get (set xs number x) other ≡ slice_get xs other
set-other [] number other x apart = refl
set-other (y ∷ xs) zero zero x apart = absurd (apart refl)
set-other (y ∷ xs) zero (suc other) x apart = refl
set-other (y ∷ xs) (suc number) zero x apart = refl
set-other (y ∷ xs) (suc number) (suc other) x apart = set-other xs number other x (λ e. apart (ap suc e))

module _ {X : Type 0} (f : X → List (List ℕ)) (xs : List X) (number : ℕ) (x : X) where
  pub changed : number < length xs → names_at (map f (set xs number x)) number ≡ f x
  changed within = names-of f (set xs number x) number x (set-at xs number x within)

  pub unchanged : (other : ℕ) → other ≢ number → names_at (map f (set xs number x)) other ≡ names_at (map f xs) other
  unchanged other apart =
      ap names_if_there (slice_get-map f (set xs number x) other
      ∙ (ap (option_map f) (set-other xs number other x apart) ∙ sym (slice_get-map f xs other)))

-- a name more, unless it is there
there-any : (texts : List (List ℕ)) (text : List ℕ) → list_any (bytes_eq text) texts ≡ true → Contains texts text
there-any [] text t = never t
there-any (x ∷ texts) text t = by (bytes_eq text x) refl (there-any texts text)
  where
    by : (b : Bool) → bytes_eq text x ≡ b → (list_any (bytes_eq text) texts ≡ true → Contains texts text)
        → Contains (x ∷ texts) text
    by true is more = subst (Contains (x ∷ texts)) (sym ((bytes_eq-Decides text x).0 is)) (in_front x texts)
    by false is more = behind_it x texts text
        (more (sym (ap (λ (b : Bool). b || list_any (bytes_eq text) texts) is) ∙ t))

pub with-one : (texts : List (List ℕ)) (text name : List ℕ)
    → Contains (with_path texts text) name ↔ (Contains texts name ⊎ (name ≡ text))
with-one texts text name = by (list_any (bytes_eq text) texts) refl
  where
    by : (b : Bool) → list_any (bytes_eq text) texts ≡ b
        → Contains (cond b texts (texts ++ text ∷ [])) name ↔ (Contains texts name ⊎ (name ≡ text))
    by true is = (
      λ there. inl there,
      λ either. elim either [ inl old ↦ old | inr e ↦ subst (Contains texts) (sym e) (there-any texts text is) ],
    )
    by false is = (
      λ there. elim (Contains-append_cases texts (text ∷ []) name there) [
        | inl old ↦ inl old
        | inr new ↦ inr (sym (only text name new))
      ],
      λ either. elim either [
        | inl old ↦ Contains-append_left texts (text ∷ []) name old
        | inr e ↦ Contains-append_right texts (text ∷ []) name
            (subst (Contains (text ∷ [])) (sym e) (in_front text []))
      ],
    )

-- ---- where declarations belong

home : Package → List ℕ → List (List ℕ) → Home
home id path names = record { id = id; path = path; repeated = names }

pub home-is : {id other : Package} {path its : List ℕ} {names theirs : List (List ℕ)} → id ≡ other → path ≡ its
    → names ≡ theirs
    → ◌≡◌ {A = Home} (record { id = id; path = path; repeated = names })
    (record { id = other; path = its; repeated = theirs })
unfolding home
home-is {id} {other} {path} {its} {names} {theirs} same way list =
    ap (λ (p : Package). home p path names) same
    ∙ (ap (λ (p : List ℕ). home other p names) way ∙ ap (λ (l : List (List ℕ)). home other its l) list)
