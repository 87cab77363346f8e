-- What is beside each `protoc`, folder by folder, and the first folder that has the well-known files.
use Rattle.std.proofs.Common.{◌≡◌, ◌∙◌, ℕ, Bool, true, false, List, [], ◌∷◌, ◌++◌, map, ap, refl, sym, subst}
use Rattle.std.proofs.Common.{append_assoc, ap₂, arith, length, take, drop, get_or, ◌<◌, ◌≤◌, ◌-◌, codes, Option, Some, None, Result, Ok, Err, IfOk}
use Rattle.std.specs.Option.{option_map}
use Rattle.std.proofs.Common.{◌≢◌, ◌↔◌, All}
use Rattle.std.proofs.lemmas.Bool.{false≢true}
use Rattle.std.proofs.lemmas.List.{append-nil, append_cancel_left, map-append, take_all}
use Rattle.source_files.specs.WellKnown.{IsKnownPath}
use Rattle.source_files.specs.WellKnown.{AddsBeside, AreBeside, IsBeside, IsFirstKnown, IsWellKnown, folder_named, folders_on}
use Rattle.source_files.specs.Listings.{Listing}
use Rattle.source_files.specs.WellKnown.{ListsKnown}
use Rattle.source_files.specs.WellKnown.ListsKnown.{of_protobuf}
use Rattle.source_files.specs.WellKnown.AreBeside.{next_folder, no_folder}
use Rattle.source_files.specs.WellKnown.IsBeside.{has_protoc, lacks_protoc}
use Rattle.source_files.specs.WellKnown.IsFirstKnown.{found_here, found_behind, nowhere}

-- the first and the others of a list
pub first_of_rest : {A B : Type 0} (f : A → B) (rest : List A) (blank : A) → 1 ≤ length rest
    → map f rest ≡ f (get_or rest 0 blank) ∷ map f (take (length rest - 1) (drop 1 rest))
first_of_rest f [] blank some = absurd (omega (arith, some))
first_of_rest {A = A} f (x ∷ xs) blank some =
    ap (λ (l : List A). f x ∷ map f l) (sym (take_all (length (x ∷ xs) - 1) xs (omega arith)))

pub none_left : {A B : Type 0} (f : A → B) (rest : List A) → length rest < 1 → map f rest ≡ []
none_left f [] end = refl
none_left f (x ∷ xs) end = absurd (omega (arith, end))

module _ (finds : List ℕ → Bool → Type 0) where
  -- what is beside one `protoc`
  pub adds_one : (folder include : List ℕ) (there : Bool) (old new : List (List ℕ)) → finds (folder ++ codes "/protoc") there
      → there ≡ true → include ≡ folder ++ codes "/../include" → new ≡ old ++ include ∷ []
      → AddsBeside finds folder old new
  adds_one folder include there old new found is named e = record {
    here = include ∷ [];
    is_beside = subst (λ (path : List ℕ). IsBeside finds folder (path ∷ [])) (sym named)
        (has_protoc (subst (finds (folder ++ codes "/protoc")) is found));
    new_are = e;
  }

  -- and where there is none
  pub adds_none : (folder : List ℕ) (there : Bool) (old : List (List ℕ)) → finds (folder ++ codes "/protoc") there
      → there ≡ false → AddsBeside finds folder old old
  adds_none folder there old found is = record {
    here = [];
    is_beside = lacks_protoc (subst (finds (folder ++ codes "/protoc")) is found);
    new_are = sym (append-nil old);
  }

  -- a folder more
  pub goes_on : (all : List (List ℕ)) (folder : List ℕ) (others old new : List (List ℕ))
      → ((more : List (List ℕ)) → AreBeside finds (folder ∷ others) more → AreBeside finds all (old ++ more))
      → AddsBeside finds folder old new
      → (more : List (List ℕ)) → AreBeside finds others more → AreBeside finds all (new ++ more)
  goes_on all folder others old new so_far adds more are =
      subst (λ (l : List (List ℕ)). AreBeside finds all (l ++ more)) (sym adds.new_are)
      (subst (AreBeside finds all) (sym (append_assoc old adds.here more))
      (so_far (adds.here ++ more) (next_folder adds.is_beside are)))

  -- and none
  pub is_done : (all beside : List (List ℕ))
      → ((more : List (List ℕ)) → AreBeside finds [] more → AreBeside finds all (beside ++ more))
      → AreBeside finds all beside
  is_done all beside so_far = subst (AreBeside finds all) (append-nil beside) (so_far [] no_folder)

  -- the first of those that are left
  pub next_beside : {A : Type 0} (f : A → List ℕ) (all : List (List ℕ)) (rest : List A) (blank : A) (folder : List ℕ)
      (old new : List (List ℕ)) → 1 ≤ length rest → folder ≡ f (get_or rest 0 blank)
      → ((more : List (List ℕ)) → AreBeside finds (map f rest) more → AreBeside finds all (old ++ more))
      → AddsBeside finds folder old new
      → (more : List (List ℕ)) → AreBeside finds (map f (take (length rest - 1) (drop 1 rest))) more
      → AreBeside finds all (new ++ more)
  next_beside f all rest blank folder old new some is so_far adds =
      let others = map f (take (length rest - 1) (drop 1 rest)) in
      goes_on all folder others old new
      (λ more are. so_far more (subst (λ (l : List (List ℕ)). AreBeside finds l more)
      (sym (first_of_rest f rest blank some ∙ ap (λ (x : List ℕ). x ∷ others) (sym is))) are)) adds

  -- none is left
  pub done_beside : {A : Type 0} (f : A → List ℕ) (all : List (List ℕ)) (rest : List A) (beside : List (List ℕ))
      → length rest < 1
      → ((more : List (List ℕ)) → AreBeside finds (map f rest) more → AreBeside finds all (beside ++ more))
      → AreBeside finds all beside
  done_beside f all rest beside end so_far =
      is_done all beside (λ more are. so_far more
      (subst (λ (l : List (List ℕ)). AreBeside finds l more) (sym (none_left f rest end)) are))

  -- ---- the first that has them

  pub found_first : {A : Type 0} (f : A → List ℕ) (rest : List A) (blank : A) (folder shown : List ℕ) (there : Bool)
      → 1 ≤ length rest → folder ≡ f (get_or rest 0 blank)
      → finds (folder ++ codes "/google/protobuf/descriptor.proto") there → there ≡ true → shown ≡ folder
      → IsFirstKnown finds (map f rest) (Some shown)
  found_first f rest blank folder shown there some is found has same =
      let others = map f (take (length rest - 1) (drop 1 rest)) in
      subst (λ (l : List (List ℕ)). IsFirstKnown finds l (Some shown))
      (sym (first_of_rest f rest blank some ∙ ap (λ (x : List ℕ). x ∷ others) (sym is)))
      (subst (λ (x : List ℕ). IsFirstKnown finds (folder ∷ others) (Some x)) (sym same)
      (found_here (subst (finds (folder ++ codes "/google/protobuf/descriptor.proto")) has found)))

  pub not_first : {A : Type 0} (f : A → List ℕ) (rest : List A) (blank : A) (folder : List ℕ) (there : Bool)
      (result : Option (List ℕ)) → 1 ≤ length rest → folder ≡ f (get_or rest 0 blank)
      → finds (folder ++ codes "/google/protobuf/descriptor.proto") there → there ≡ false
      → IsFirstKnown finds (map f (take (length rest - 1) (drop 1 rest))) result
      → IsFirstKnown finds (map f rest) result
  not_first f rest blank folder there result some is found lacks behind =
      let others = map f (take (length rest - 1) (drop 1 rest)) in
      subst (λ (l : List (List ℕ)). IsFirstKnown finds l result)
      (sym (first_of_rest f rest blank some ∙ ap (λ (x : List ℕ). x ∷ others) (sym is)))
      (found_behind (subst (finds (folder ++ codes "/google/protobuf/descriptor.proto")) lacks found) behind)

  pub nowhere_left : {A : Type 0} (f : A → List ℕ) (rest : List A) → length rest < 1
      → IsFirstKnown finds (map f rest) None
  nowhere_left f rest end =
      subst (λ (l : List (List ℕ)). IsFirstKnown finds l None) (sym (none_left f rest end)) nowhere

  -- beside each `protoc`, and then the system's
  pub known_among : {S E : Type 0} (view : S → List ℕ) (path : Option (List ℕ)) (beside folders : List (List ℕ))
      (result : Result (Option S) E) → AreBeside finds (folders_on path) beside
      → folders ≡ beside ++ codes "/usr/local/include" ∷ (codes "/usr/include" ∷ [])
      → IfOk result (λ found. IsFirstKnown finds folders (option_map view found))
      → IfOk result (λ found. IsWellKnown finds path (option_map view found))
  known_among view path beside folders (Ok found) are is first = record {
    beside = beside;
    are_beside = are;
    first = subst (λ (l : List (List ℕ)). IsFirstKnown finds l (option_map view found)) is first;
  }
  known_among view path beside folders (Err e) are is first = tt

-- names, each by what it names
pub names_of : {A B C : Type 0} (f : B → C) (g : A → B) (xs : List A) → map (λ x. f (g x)) xs ≡ map f (map g xs)
names_of f g [] = refl
names_of f g (x ∷ xs) = ap (λ l. f (g x) ∷ l) (names_of f g xs)

-- a name that isn't empty is the folder's
pub is_named : (name : List ℕ) → ¬ (name ≡ []) → name ≡ folder_named name
is_named [] some = absurd (some refl)
is_named (byte ∷ name) some = refl

-- ---- folders below the root that has the well-known files

module _ (lists : List ℕ → Option Listing → Type 0) where
  pub at_folder : {folder found : List ℕ} {listing known : Listing} → folder ≡ found → listing ≡ known
      → ListsKnown lists found (Some known) → ListsKnown lists folder (Some listing)
  at_folder {folder = folder} {known = known} is same known_lists =
      subst (λ (l : Listing). ListsKnown lists folder (Some l)) (sym same)
      (subst (λ (f : List ℕ). ListsKnown lists f (Some known)) (sym is) known_lists)

  pub below_protobuf : {S E : Type 0} (view : S → Listing) {folder : List ℕ} (result : Result (Option S) E)
      → folder ≡ codes "google/protobuf/" → IfOk result (λ listed. lists folder (option_map view listed))
      → IfOk result (λ listed. ListsKnown lists folder (option_map view listed))
  below_protobuf view {folder = folder} (Ok listed) is known =
      subst (λ (f : List ℕ). ListsKnown lists f (option_map view listed)) (sym is)
      (of_protobuf (subst (λ (f : List ℕ). lists f (option_map view listed)) is known))
  below_protobuf view (Err e) is known = tt

-- two more
pub two_more : {A : Type 0} (f : A → List ℕ) (old middle new : List A) (first second : A) (x y : List ℕ)
    → middle ≡ old ++ first ∷ [] → new ≡ middle ++ second ∷ [] → f first ≡ x → f second ≡ y
    → map f new ≡ map f old ++ x ∷ (y ∷ [])
two_more {A = A} f old middle new first second x y is more first_is second_is =
    ap (map f) (more ∙ ap (λ (l : List A). l ++ second ∷ []) is ∙ append_assoc old (first ∷ []) (second ∷ []))
    ∙ map-append f old (first ∷ (second ∷ []))
    ∙ ap₂ (λ (u v : List ℕ). map f old ++ u ∷ (v ∷ [])) first_is second_is

-- ---- the paths of well-known files

pub known_name : (path name : List ℕ) (is_so : Bool) → path ≡ codes "google/protobuf/" ++ name
    → (is_so ≡ true ↔ All (λ byte. byte ≢ 47) name) → is_so ≡ true ↔ IsKnownPath path
known_name path name is_so is tells = (
  (λ t. record { name = name; whole = tells.0 t; path_is = is }),
  (λ known. tells.1 (subst (All (λ (byte : ℕ). byte ≢ 47))
      (append_cancel_left (codes "google/protobuf/") known.name name (sym known.path_is ∙ is)) known.whole)),
)

pub no_known_name : (path : List ℕ) → ((rest : List ℕ) → path ≢ codes "google/protobuf/" ++ rest)
    → false ≡ true ↔ IsKnownPath path
no_known_name path none = ((λ t. absurd (false≢true t)), (λ known. absurd (none known.name known.path_is)))
