-- Looking for files: below roots, root by root; and for several, path by path and in parts.
use Rattle.std.proofs.Common.{◌≡◌, ◌∙◌, ◌+◌, ◌-◌, ◌<◌, ◌≤◌, ℕ, zero, suc, Bool, true, false, List, [], ◌∷◌, ◌++◌}
use Rattle.std.proofs.Common.{map, length, Option, Result, Ok, Err, refl, sym, ap, subst}
use Rattle.std.proofs.Common.{append_assoc, arith, drop, get_or, take}
use Rattle.std.specs.List.{slice_get}
use Rattle.std.specs.Option.{IfSome}
use Rattle.std.proofs.lemmas.List.Elements.{All-nil, All-cons}
use Rattle.basics.proofs.ListLemmas.{zip_append}
use Rattle.index_pool.specs.Phase.{AnswersEach, IsLeastFault}
use Rattle.source_files.specs.declared.load_fault.LoadFault.{LoadFault}
use Rattle.source_files.specs.declared.load_fault.LoadFault.TheVariants as load
use Rattle.source_files.specs.declared.looking.Looked.{Looked}
use Rattle.source_files.specs.declared.looking.Looked.TheVariants.{Found, LeftOut, Nowhere}
use Rattle.source_files.specs.Reached.{Import, IsFirstBelow, HasNone}
use Rattle.source_files.specs.Reached.IsFirstBelow.{is_here, is_behind}
use Rattle.source_files.specs.Looks.{AreLooked, GivesLooked, IsLacking, MayStopLooking, StopsAt}
use Rattle.source_files.specs.Looks.{UnreadGives}
use Rattle.source_files.proofs.WellKnownLemmas.{first_of_rest, none_left}

-- ---- root by root

module _ (finds : List ℕ → List ℕ → Bool → Type 0) (path : List ℕ) where
  -- what is first among the roots that are left is first among all
  pub record FirstSoFar (all rest : List (List ℕ)) (number : ℕ) : Type 0 where
    pub first : (n : ℕ) (root : List ℕ) → IsFirstBelow finds path rest n root
        → IsFirstBelow finds path all (n + number) root
    pub none : HasNone finds rest path → HasNone finds all path
    pub count : number + length rest ≡ length all

  pub first_of_all : (all : List (List ℕ)) → FirstSoFar all all 0
  first_of_all all = record {
    first = λ n root is. subst (λ (m : ℕ). IsFirstBelow finds path all m root) (omega arith) is;
    none = λ none. none;
    count = omega arith;
  }

  -- the next root hasn't the file
  on_cons : (all : List (List ℕ)) (root : List ℕ) (others : List (List ℕ)) (number : ℕ) → finds root path false
      → FirstSoFar all (root ∷ others) number → FirstSoFar all others (number + 1)
  on_cons all root others number lacks far = record {
    first = λ n found is. subst (λ (m : ℕ). IsFirstBelow finds path all m found) (omega arith)
        (far.first (n + 1) found (is_behind lacks is));
    none = λ none. far.none (All-cons (λ (r : List ℕ). finds r path false) root others lacks none);
    count = omega (arith, far.count);
  }

  pub goes_on : {S : Type 0} (f : S → List ℕ) (all : List (List ℕ)) (rest : List S) (blank : S) (shown : List ℕ)
      (there : Bool) (number : ℕ) → 1 ≤ length rest → shown ≡ f (get_or rest 0 blank) → finds shown path there
      → there ≡ false → FirstSoFar all (map f rest) number
      → FirstSoFar all (map f (take (length rest - 1) (drop 1 rest))) (number + 1)
  goes_on f all rest blank shown there number some shows found lacks far =
      on_cons all (f (get_or rest 0 blank)) _ number
      (subst (λ (root : List ℕ). finds root path false) shows (subst (finds shown path) lacks found))
      (subst (λ (l : List (List ℕ)). FirstSoFar all l number) (first_of_rest f rest blank some) far)

  -- the next root has it
  pub found_at : {S : Type 0} (f : S → List ℕ) (all : List (List ℕ)) (rest : List S) (blank : S) (shown named : List ℕ)
      (there : Bool) (number : ℕ) → 1 ≤ length rest → shown ≡ f (get_or rest 0 blank) → finds shown path there
      → there ≡ true → named ≡ f (get_or rest 0 blank) → FirstSoFar all (map f rest) number
      → IsFirstBelow finds path all number named
  found_at f all rest blank shown named there number some shows found has names far =
      subst (λ (root : List ℕ). IsFirstBelow finds path all number root) (sym names)
      (subst (λ (m : ℕ). IsFirstBelow finds path all m (f (get_or rest 0 blank))) (omega arith)
      (far.first 0 (f (get_or rest 0 blank))
      (subst (λ (l : List (List ℕ)). IsFirstBelow finds path l 0 (f (get_or rest 0 blank)))
      (sym (first_of_rest f rest blank some))
      (is_here (subst (λ (root : List ℕ). finds root path true) shows (subst (finds shown path) has found))))))

  -- none is left
  pub has_none : {S : Type 0} (f : S → List ℕ) (all : List (List ℕ)) (rest : List S) (number : ℕ) → length rest < 1
      → FirstSoFar all (map f rest) number → HasNone finds all path
  has_none f all rest number end far =
      far.none (subst (λ (l : List (List ℕ)). HasNone finds l path) (sym (none_left f rest end))
      (All-nil (λ (root : List ℕ). finds root path false)))

-- ---- a file that isn't read

module _ (finds : List ℕ → List ℕ → Bool → Type 0) (gives : List ℕ → Option (List ℕ) → Type 0)
    (tells : List ℕ → List Import → Type 0)
    (leaves_out is_wanted : Bool)
    (roots : List (List ℕ)) where
  pub lacks : (path : List ℕ) (result : Result Looked LoadFault)
      → IsLacking finds gives tells leaves_out is_wanted roots path → UnreadGives leaves_out path result
      → GivesLooked finds gives tells leaves_out is_wanted roots path result
  lacks path (Ok (Found found)) lacking said = absurd said
  lacks path (Ok (LeftOut left)) lacking said = (said.0, said.1, lacking)
  lacks path (Ok (Nowhere left)) lacking said = absurd said
  lacks path (Err (load.Unreadable name)) lacking said = (said.0, said.1, lacking)
  lacks path (Err load.TooMany) lacking said = absurd said
  lacks path (Err (load.BadPath name)) lacking said = absurd said
  lacks path (Err (load.SamePath name)) lacking said = absurd said
  lacks path (Err load.Memory) lacking said = tt

-- ---- path by path

module _ (gives_looked : (path : List ℕ) → Result Looked LoadFault → Type 0) where
  module _ {S : Type 0} (text : S → List ℕ) where
    abbrev pub looks_each : List S → ℕ → Result Looked LoadFault → Type 0
    looks_each paths number result = IfSome (slice_get paths number) (λ path. gives_looked (text path) result)

    -- an answer for each path
    pub looked_each : (paths : List S) (all : List Looked) → AnswersEach (looks_each paths) (length paths) all
        → AreLooked gives_looked (map text paths) all
    looked_each [] [] answers = tt
    looked_each [] (looked ∷ all) answers = absurd (omega (arith, answers.0))
    looked_each (path ∷ paths) [] answers = absurd (omega (arith, answers.0))
    looked_each (path ∷ paths) (looked ∷ all) answers = (
      answers.1 0 looked refl,
      looked_each paths all (omega (arith, answers.0), λ number out at. answers.1 (suc number) out at),
    )

    -- the first that stops
    first_stop : (paths : List S) (number : ℕ) (fault : LoadFault) → number < length paths
        → looks_each paths number (Err fault)
        → ((lesser : ℕ) → lesser < number → (out : Looked) × looks_each paths lesser (Ok out))
        → StopsAt gives_looked (map text paths) fault
    first_stop [] number fault within stops before = absurd (omega (arith, within))
    first_stop (path ∷ paths) zero fault within stops before = record {
      before = [];
      all = [];
      path = text path;
      behind = map text paths;
      paths_are = refl;
      looked = tt;
      stops = stops;
    }
    first_stop (path ∷ paths) (suc number) fault within stops before =
        let others = first_stop paths number fault (omega (arith, within)) stops
        (λ lesser less. before (suc lesser) (omega (arith, less))) in
        let out = before 0 (omega arith) in record {
          before = text path ∷ others.before;
          all = out.0 ∷ others.all;
          path = others.path;
          behind = others.behind;
          paths_are = ap (λ (ps : List (List ℕ)). text path ∷ ps) others.paths_are;
          looked = (out.1, others.looked);
          stops = others.stops;
        }

    pub stops_at : (paths : List S) (number : ℕ) (fault : LoadFault)
        → IsLeastFault (looks_each paths) (length paths) number fault
        → MayStopLooking gives_looked (map text paths) fault
    stops_at paths number (load.Unreadable name) least = first_stop paths number _ least.0 least.1 least.2
    stops_at paths number load.TooMany least = first_stop paths number _ least.0 least.1 least.2
    stops_at paths number (load.BadPath name) least = first_stop paths number _ least.0 least.1 least.2
    stops_at paths number (load.SamePath name) least = first_stop paths number _ least.0 least.1 least.2
    stops_at paths number load.Memory least = tt

  -- what was looked for before those that are left
  pub record AreLookedFar (paths rest : List (List ℕ)) (all : List Looked) : Type 0 where
    pub front : List (List ℕ)
    pub parts : front ++ rest ≡ paths
    pub looked : AreLooked gives_looked front all

  pub none_looked : (paths : List (List ℕ)) → AreLookedFar paths paths []
  none_looked paths = record { front = []; parts = refl; looked = tt }

  -- one part more
  pub part_looked : (paths rest part behind : List (List ℕ)) (all more whole : List Looked) → part ++ behind ≡ rest
      → whole ≡ all ++ more → AreLookedFar paths rest all → AreLooked gives_looked part more
      → AreLookedFar paths behind whole
  part_looked paths rest part behind all more whole parts are far here = record {
    front = far.front ++ part;
    parts = append_assoc far.front part behind ∙ (ap (λ l. far.front ++ l) parts ∙ far.parts);
    looked = subst (AreLooked gives_looked (far.front ++ part)) (sym are)
        (zip_append (λ path looked. gives_looked path (Ok looked)) far.front part all more far.looked here);
  }

  -- or the part in which it stops
  stops_in : (paths rest part behind : List (List ℕ)) (all : List Looked) (fault : LoadFault) → part ++ behind ≡ rest
      → AreLookedFar paths rest all → StopsAt gives_looked part fault → StopsAt gives_looked paths fault
  stops_in paths rest part behind all fault parts far stop = record {
    before = far.front ++ stop.before;
    all = all ++ stop.all;
    path = stop.path;
    behind = stop.behind ++ behind;
    paths_are =
        sym far.parts
        ∙ (ap (λ (l : List (List ℕ)). far.front ++ l)
        (sym parts ∙ (ap (λ (l : List (List ℕ)). l ++ behind) stop.paths_are
        ∙ append_assoc stop.before (stop.path ∷ stop.behind) behind))
        ∙ sym (append_assoc far.front stop.before (stop.path ∷ (stop.behind ++ behind))));
    looked = zip_append (λ path looked. gives_looked path (Ok looked)) far.front stop.before all stop.all far.looked
        stop.looked;
    stops = stop.stops;
  }

  pub part_stops : (paths rest part behind : List (List ℕ)) (all : List Looked) (fault : LoadFault)
      → part ++ behind ≡ rest → AreLookedFar paths rest all → MayStopLooking gives_looked part fault
      → MayStopLooking gives_looked paths fault
  part_stops paths rest part behind all (load.Unreadable name) parts far stop =
      stops_in paths rest part behind all _ parts far stop
  part_stops paths rest part behind all load.TooMany parts far stop =
      stops_in paths rest part behind all _ parts far stop
  part_stops paths rest part behind all (load.BadPath name) parts far stop =
      stops_in paths rest part behind all _ parts far stop
  part_stops paths rest part behind all (load.SamePath name) parts far stop =
      stops_in paths rest part behind all _ parts far stop
  part_stops paths rest part behind all load.Memory parts far stop = tt
