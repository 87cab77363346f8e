-- Sources by what looking for them gave, and the paths of files by their roots.
use Rattle.std.proofs.Common.{◌≡◌, ◌∙◌, ◌⊎◌, ◌+◌, ◌-◌, ◌==◌, ◌<◌, ◌≤◌, ℕ, Bool, true, false, List, [], ◌∷◌, ◌++◌, map}
use Rattle.std.proofs.Common.{length, refl, sym, ap, ap₂, subst, append_assoc, arith, All, Option, Result}
use Rattle.std.proofs.Common.{drop, get_or, take, inl, inr}
use Rattle.std.proofs.Math.Logic.{⊎_elim}
use Rattle.std.specs.List.{filter, flat_map, range_with_len}
use Rattle.std.proofs.lemmas.List.FromFn.{map-range_with_len_more}
use Rattle.std.proofs.lemmas.Bool.{false≢true}
use Rattle.std.proofs.lemmas.List.{append-nil, map-append, take_all}
use Rattle.std.proofs.lemmas.List.Elements.{All-nil, All-cons, filter-append}
use Rattle.source_files.specs.declared.load_fault.LoadFault.{LoadFault}
use Rattle.source_files.specs.declared.load_fault.LoadFault.TheVariants as load
use Rattle.source_files.specs.declared.looking.Looked.{Looked}
use Rattle.source_files.specs.declared.looking.Looked.TheVariants.{Found, LeftOut, Nowhere}
use Rattle.source_files.specs.Closures.{found_of, left_of}
use Rattle.source_files.specs.Looks.{AreLooked, GivesLooked, MayStopLooking}
use Rattle.source_files.specs.ListedTrees.{MayNotFind, paths_at}
use Rattle.source_files.specs.Reached.{AreSources, CantBeRead, HasNone, Import, IsTold, Told, path_of}
use Rattle.source_files.specs.Reached.{no_source, is_source, is_lost}

module _ (finds : List ℕ → List ℕ → Bool → Type 0) (gives : List ℕ → Option (List ℕ) → Type 0)
    (tells : List ℕ → List Import → Type 0)
    (leaves_out : Bool)
    (roots : List (List ℕ)) where
  abbrev Gives : (path : List ℕ) → Result Looked LoadFault → Type 0
  Gives path result = GivesLooked finds gives tells leaves_out true roots path result

  abbrev IsLost : (path : List ℕ) → Type 0
  IsLost path = CantBeRead finds gives roots path ⊎ HasNone finds roots path

  lost : (path : List ℕ) → CantBeRead finds gives roots path ⊎ ((true ≡ true) × HasNone finds roots path) → IsLost path
  lost path lacking = ⊎_elim (λ cant. inl cant) (λ none. inr none.1) lacking

  pub sources_looked : (paths : List (List ℕ)) (all : List Looked) → AreLooked Gives paths all
      → AreSources finds gives tells leaves_out roots paths (flat_map found_of all) (flat_map left_of all)
  sources_looked [] [] looked = no_source
  sources_looked [] (one ∷ all) looked = absurd looked
  sources_looked (path ∷ paths) [] looked = absurd looked
  sources_looked (path ∷ paths) (Found told ∷ all) looked =
      subst (λ (p : List ℕ). AreSources finds gives tells leaves_out roots (p ∷ paths) (told ∷ flat_map found_of all)
      (flat_map left_of all)) looked.0.0 (is_source looked.0.1 (sources_looked paths all looked.1))
  sources_looked (path ∷ paths) (LeftOut left ∷ all) looked =
      subst (λ (p : List ℕ). AreSources finds gives tells leaves_out roots (path ∷ paths) (flat_map found_of all)
      (p ∷ flat_map left_of all)) (sym looked.0.1)
      (is_lost looked.0.0 (lost path looked.0.2) (sources_looked paths all looked.1))
  sources_looked (path ∷ paths) (Nowhere left ∷ all) looked = absurd (false≢true (sym looked.0.0))

  -- where nothing is left out each is found
  all_found : leaves_out ≡ false → (paths : List (List ℕ)) (all : List Looked) → AreLooked Gives paths all
      → (paths ≡ map path_of (flat_map found_of all)) × All (IsTold finds gives tells roots) (flat_map found_of all)
  all_found strict [] [] looked = (refl, All-nil (IsTold finds gives tells roots))
  all_found strict [] (one ∷ all) looked = absurd looked
  all_found strict (path ∷ paths) [] looked = absurd looked
  all_found strict (path ∷ paths) (Found told ∷ all) looked =
      let rest = all_found strict paths all looked.1 in (
        ap₂ (λ (p : List ℕ) (ps : List (List ℕ)). p ∷ ps) (sym looked.0.0) rest.0,
        All-cons (IsTold finds gives tells roots) told (flat_map found_of all) looked.0.1 rest.1,
      )
  all_found strict (path ∷ paths) (LeftOut left ∷ all) looked = absurd (false≢true (sym strict ∙ looked.0.0))
  all_found strict (path ∷ paths) (Nowhere left ∷ all) looked = absurd (false≢true (sym looked.0.0))

  pub not_found : (paths : List (List ℕ)) (fault : LoadFault) → MayStopLooking Gives paths fault
      → MayNotFind finds gives tells leaves_out roots paths fault
  not_found paths (load.Unreadable name) stop =
      let strict = stop.stops.0 in
      let is = stop.stops.1 in
      let before = all_found strict stop.before stop.all stop.looked in (
        strict,
        record {
          sources = flat_map found_of stop.all;
          behind = stop.behind;
          paths_are = stop.paths_are ∙ ap₂ (λ (front : List (List ℕ)) (p : List ℕ). front ++ p ∷ stop.behind) before.0
              (sym is);
          told = before.1;
          lacking = subst IsLost (sym is) (lost stop.path stop.stops.2);
        },
      )
  not_found paths load.TooMany stop = absurd stop.stops
  not_found paths (load.BadPath name) stop = absurd stop.stops
  not_found paths (load.SamePath name) stop = absurd stop.stops
  not_found paths load.Memory stop = tt

-- ---- the paths below a root

paths_cons : (root : ℕ) (told : Told) (others : List Told)
    → paths_at root (told ∷ others) ≡ paths_at root (told ∷ []) ++ paths_at root others
paths_cons root told others =
    let is_here : Told → Bool = λ one. one.root == root in
    ap (map path_of) (filter-append is_here (told ∷ []) others)
    ∙ map-append path_of (filter is_here (told ∷ [])) (filter is_here others)

pub path_here : (root : ℕ) (told : Told) → (told.root == root) ≡ true → paths_at root (told ∷ []) ≡ path_of told ∷ []
path_here root told is = rw is refl

pub path_elsewhere : (root : ℕ) (told : Told) → (told.root == root) ≡ false → paths_at root (told ∷ []) ≡ []
path_elsewhere root told is = rw is refl

-- the next of them
pub paths_next : (root : ℕ) (rest : List Told) (blank one : Told) (old new all : List (List ℕ)) → 1 ≤ length rest
    → one ≡ get_or rest 0 blank → old ++ paths_at root rest ≡ all → new ≡ old ++ paths_at root (one ∷ [])
    → new ++ paths_at root (take (length rest - 1) (drop 1 rest)) ≡ all
paths_next root [] blank one old new all some here so_far is = absurd (omega (arith, some))
paths_next root (told ∷ others) blank one old new all some here so_far is =
    subst (λ (l : List Told). new ++ paths_at root l ≡ all)
    (sym (take_all (length (told ∷ others) - 1) others (omega arith)))
    (ap (λ (l : List (List ℕ)). l ++ paths_at root others)
    (is ∙ ap (λ (t : Told). old ++ paths_at root (t ∷ [])) here)
    ∙ (append_assoc old (paths_at root (told ∷ [])) (paths_at root others)
    ∙ (ap (λ (l : List (List ℕ)). old ++ l) (sym (paths_cons root told others)) ∙ so_far)))

-- none is left
pub paths_last : (root : ℕ) (rest : List Told) (old all : List (List ℕ)) → length rest < 1
    → old ++ paths_at root rest ≡ all → old ≡ all
paths_last root [] old all end so_far = sym (append-nil old) ∙ so_far
paths_last root (told ∷ others) old all end so_far = absurd (omega (arith, end))

-- ---- the first root

pub first_of_all : {A B : Type 0} (f : A → B) (roots : List A) → 1 ≤ length roots
    → map f (take 1 roots) ≡ take 1 (map f roots)
first_of_all f [] some = absurd (omega (arith, some))
first_of_all f (root ∷ others) some = refl

pub none_of_all : {A B : Type 0} (f : A → B) (roots : List A) → length roots < 1 → map f roots ≡ take 1 (map f roots)
none_of_all f [] end = refl
none_of_all f (root ∷ others) end = absurd (omega (arith, end))

-- ---- the paths below the other roots

pub behind_next : (all : List Told) (number : ℕ) (shown new : List (List (List ℕ))) → 1 ≤ number
    → new ≡ shown ++ paths_at number all ∷ []
    → shown ≡ map (λ n. paths_at n all) (range_with_len 1 (number - 1))
    → new ≡ map (λ n. paths_at n all) (range_with_len 1 (number + 1 - 1))
behind_next all number shown new begun is so_far =
    let f : ℕ → List (List ℕ) = λ n. paths_at n all in
    let more : number - 1 + 1 ≡ number + 1 - 1 = omega (arith, begun) in
    is ∙ (ap (λ (l : List (List (List ℕ))). l ++ f number ∷ []) so_far
    ∙ (sym (map-range_with_len_more f 1 (number - 1) number (omega (arith, begun)))
    ∙ ap (λ (n : ℕ). map f (range_with_len 1 n)) more))

pub behind_last : (all : List Told) (roots number : ℕ) (shown : List (List (List ℕ))) → number - 1 ≡ roots - 1
    → shown ≡ map (λ n. paths_at n all) (range_with_len 1 (number - 1))
    → shown ≡ map (λ n. paths_at n all) (range_with_len 1 (roots - 1))
behind_last all roots number shown same so_far =
    so_far ∙ ap (λ (n : ℕ). map (λ n. paths_at n all) (range_with_len 1 n)) same
