-- Which paths are fresh, and what files are seen by them.
use Rattle.std.proofs.Common.{◌≡◌, ◌∙◌, ◌⊎◌, ◌+◌, ◌<◌, ◌≤◌, ℕ, Bool, true, false, List, [], ◌∷◌, ◌++◌, map}
use Rattle.std.proofs.Common.{length, refl, sym, ap, subst, append_assoc, arith, All, Contains, inl, inr}
use Rattle.std.proofs.Math.Logic.{⊎_elim}
use Rattle.std.specs.List.{flat_map}
use Rattle.std.proofs.lemmas.List.{append-nil, take_all}
use Rattle.std.proofs.lemmas.List.Elements.{All-nil, All-cons}
use Rattle.std.proofs.lemmas.List.Elements.{Contains-append_left, Contains-append_right, Contains-append_cases}
use Rattle.std.proofs.lemmas.List.Elements.{Contains-push, Contains-push_cases}
use Rattle.source_tree.specs.Path.{IsGoodPath}
use Rattle.std.proofs.Common.{◌-◌, drop, get_or, take, not, ◌&&◌, cond}
use Rattle.source_files.specs.Closures.{AddsFresh, AreFresh, PutsPath, Same, was_known, was_new, wanted_by}
use Rattle.std.proofs.Common.{◌||◌, string_bytes}
use Rattle.std.specs.Global.{Global}
use Rattle.std.specs.Prelude.{String}
use Rattle.std.specs.String.{string_eq}
use Rattle.std.specs.HashSet.{HashSet, PutsKey}
use Rattle.std.specs.List.{list_any}
use Rattle.std.specs.List.Sorted.{IsPermutation}
use Rattle.std.proofs.lemmas.Bool.{false≢true}
use Rattle.std.proofs.lemmas.List.Sorted.{Contains-permutation, IsPermutation-sym}
use Rattle.std.proofs.lemmas.Slice.Eq.{bytes_eq-Decides}
use Rattle.source_files.specs.Closures.{paths_in}
use Rattle.source_files.specs.Closures.{built_in_of}
use Rattle.source_files.specs.Reached.{Import, Told, descriptor_path}
use Rattle.source_files.proofs.WellKnownLemmas.{first_of_rest, none_left}
use Rattle.source_files.specs.Closures.AreFresh.{none_fresh, is_bad, is_known, is_fresh}
use Rattle.source_files.specs.Reached.{AreApart, no_path, one_more}

-- ---- members

module _ {X : Type 0} where
  pub nothing_there : (x : X) → ¬ (Contains [] x)
  nothing_there x there = absurd (omega (arith, there.1))

  pub at_front : (x : X) (xs : List X) → Contains (x ∷ xs) x
  at_front x xs = Contains-append_left (x ∷ []) xs x (Contains-push [] x)

  pub behind_front : (x : X) (xs : List X) (y : X) → Contains xs y → Contains (x ∷ xs) y
  behind_front x xs y there = Contains-append_right (x ∷ []) xs y there

  alone : (x y : X) → Contains [] y ⊎ (x ≡ y) → x ≡ y
  alone x y (inl none) = absurd (nothing_there y none)
  alone x y (inr is) = is

  at_either : (x : X) (xs : List X) (y : X) → Contains (x ∷ []) y ⊎ Contains xs y → (x ≡ y) ⊎ Contains xs y
  at_either x xs y (inl front) = inl (alone x y (Contains-push_cases [] x y front))
  at_either x xs y (inr behind) = inr behind

  pub front_or_behind : (x : X) (xs : List X) (y : X) → Contains (x ∷ xs) y → (x ≡ y) ⊎ Contains xs y
  front_or_behind x xs y there = at_either x xs y (Contains-append_cases (x ∷ []) xs y there)

-- ---- no path comes twice

apart_cons : (path : List ℕ) (paths others : List (List ℕ)) → ¬ (Contains paths path)
    → ((p : List ℕ) → Contains (path ∷ paths) p → ¬ (Contains others p)) → ¬ (Contains (paths ++ others) path)
apart_cons path paths others front none there =
    ⊎_elim front (λ behind. none path (at_front path paths) behind) (Contains-append_cases paths others path there)

pub apart_append : {paths others : List (List ℕ)} → AreApart paths → AreApart others
    → ((p : List ℕ) → Contains paths p → ¬ (Contains others p)) → AreApart (paths ++ others)
apart_append no_path behind none = behind
apart_append {others = others} (one_more {path = path} {paths = paths} front rest) behind none =
    one_more (apart_cons path paths others front none)
    (apart_append rest behind (λ p there. none p (behind_front path paths p there)))

-- ---- what is fresh

pub fresh_append : {known ps qs xs ys : List (List ℕ)} → AreFresh known ps xs → AreFresh (known ++ xs) qs ys
    → AreFresh known (ps ++ qs) (xs ++ ys)
fresh_append {known = known} {qs = qs} {ys = ys} none_fresh behind =
    subst (λ (l : List (List ℕ)). AreFresh l qs ys) (append-nil known) behind
fresh_append (is_bad bad front) behind = is_bad bad (fresh_append front behind)
fresh_append (is_known known front) behind = is_known known (fresh_append front behind)
fresh_append {known = known} {qs = qs} {ys = ys} (is_fresh {path = path} {fresh = fresh} good new front) behind =
    is_fresh good new (fresh_append front
    (subst (λ (l : List (List ℕ)). AreFresh l qs ys) (sym (append_assoc known (path ∷ []) fresh)) behind))

pub fresh_good : {known ps xs : List (List ℕ)} → AreFresh known ps xs → All IsGoodPath xs
fresh_good none_fresh = All-nil IsGoodPath
fresh_good (is_bad bad rest) = fresh_good rest
fresh_good (is_known known rest) = fresh_good rest
fresh_good (is_fresh {path = path} {fresh = fresh} good new rest) =
    All-cons IsGoodPath path fresh good (fresh_good rest)

-- each is one of the paths
pub fresh_from : {known ps xs : List (List ℕ)} → AreFresh known ps xs → (p : List ℕ) → Contains xs p → Contains ps p
fresh_from none_fresh p there = there
fresh_from (is_bad {path = path} {paths = paths} bad rest) p there =
    behind_front path paths p (fresh_from rest p there)
fresh_from (is_known {path = path} {paths = paths} known rest) p there =
    behind_front path paths p (fresh_from rest p there)
fresh_from (is_fresh {path = path} {paths = paths} {fresh = fresh} good new rest) p there =
    ⊎_elim (λ is. subst (Contains (path ∷ paths)) is (at_front path paths))
    (λ behind. behind_front path paths p (fresh_from rest p behind)) (front_or_behind path fresh p there)

-- none was known
pub fresh_new : {known ps xs : List (List ℕ)} → AreFresh known ps xs → (p : List ℕ) → Contains xs p
    → ¬ (Contains known p)
fresh_new none_fresh p there before = nothing_there p there
fresh_new (is_bad bad rest) p there before = fresh_new rest p there before
fresh_new (is_known known rest) p there before = fresh_new rest p there before
fresh_new (is_fresh {path = path} {known = known} {fresh = fresh} good new rest) p there before =
    ⊎_elim (λ is. new (subst (Contains known) (sym is) before))
    (λ behind. fresh_new rest p behind (Contains-append_left known (path ∷ []) p before))
    (front_or_behind path fresh p there)

-- each good one is known, or fresh
pub fresh_whole : {known ps xs : List (List ℕ)} → AreFresh known ps xs → (p : List ℕ) → Contains ps p → IsGoodPath p
    → Contains (known ++ xs) p
fresh_whole none_fresh p there good = absurd (nothing_there p there)
fresh_whole {known = known} {xs = xs} (is_bad {path = path} {paths = paths} bad rest) p there good =
    ⊎_elim (λ is. absurd (bad (subst IsGoodPath (sym is) good))) (λ behind. fresh_whole rest p behind good)
    (front_or_behind path paths p there)
fresh_whole {known = known} {xs = xs} (is_known {path = path} {paths = paths} here rest) p there good =
    ⊎_elim (λ is. Contains-append_left known xs p (subst (Contains known) is here))
    (λ behind. fresh_whole rest p behind good) (front_or_behind path paths p there)
fresh_whole {known = known} (is_fresh {path = path} {paths = paths} {fresh = fresh} okay new rest) p there good =
    ⊎_elim
    (λ is. Contains-append_right known (path ∷ fresh) p (subst (Contains (path ∷ fresh)) is (at_front path fresh)))
    (λ behind. subst (λ (l : List (List ℕ)). Contains l p) (append_assoc known (path ∷ []) fresh)
    (fresh_whole rest p behind good)) (front_or_behind path paths p there)

-- and each comes once
pub fresh_apart : {known ps xs : List (List ℕ)} → AreFresh known ps xs → AreApart xs
fresh_apart none_fresh = no_path
fresh_apart (is_bad bad rest) = fresh_apart rest
fresh_apart (is_known known rest) = fresh_apart rest
fresh_apart (is_fresh {path = path} {known = known} good new rest) =
    one_more (λ there. fresh_new rest path there (Contains-push known path)) (fresh_apart rest)

-- ---- what is added

pub same_trans : (xs ys zs : List (List ℕ)) → Same xs ys → Same ys zs → Same xs zs
same_trans xs ys zs first second p = (
  (λ there. (second p).0 ((first p).0 there)),
  (λ there. (first p).1 ((second p).1 there)),
)

-- nothing is
pub adds_nothing : (known : List (List ℕ)) (fresh : List (List ℕ)) → AddsFresh [] known known fresh fresh
adds_nothing known fresh before same =
    ([], none_fresh, subst (Same known) (sym (append-nil before)) same, sym (append-nil fresh))

-- and more is
pub adds_more : (ps qs : List (List ℕ)) (old between new fresh_old fresh_between fresh_new : List (List ℕ))
    → AddsFresh ps old between fresh_old fresh_between → AddsFresh qs between new fresh_between fresh_new
    → AddsFresh (ps ++ qs) old new fresh_old fresh_new
adds_more ps qs old between new fresh_old fresh_between fresh_new first second before same =
    let front = first before same in
    let behind = second (before ++ front.0) front.2 in (
      front.0 ++ behind.0,
      fresh_append front.1 behind.1,
      subst (Same new) (append_assoc before front.0 behind.0) behind.2,
      behind.3 ∙ (ap (λ (l : List (List ℕ)). l ++ behind.0) front.3 ∙ append_assoc fresh_old front.0 behind.0),
    )

-- ---- a path

-- a path is put, and so one more is known
pub put_same : (old new xs : List (List ℕ)) (path : List ℕ) (is_new : Bool) → PutsPath old new path is_new
    → Same old xs → Same new (xs ++ path ∷ [])
put_same old new xs path is_new (was_known here same) so_far p = (
  (λ there. Contains-append_left xs (path ∷ []) p ((so_far p).0 ((same p).0 there))),
  (λ there. ⊎_elim (λ front. (same p).1 ((so_far p).1 front)) (λ is. subst (Contains new) is ((same path).1 here))
      (Contains-push_cases xs path p there)),
)
put_same old new xs path is_new (was_new none same) so_far p = (
  (λ there. ⊎_elim (λ before. Contains-append_left xs (path ∷ []) p ((so_far p).0 before))
      (λ is. subst (Contains (xs ++ path ∷ [])) is (Contains-push xs path))
      (Contains-push_cases old path p ((same p).0 there))),
  (λ there. (same p).1 (⊎_elim (λ front. Contains-append_left old (path ∷ []) p ((so_far p).1 front))
      (λ is. subst (Contains (old ++ path ∷ [])) is (Contains-push old path)) (Contains-push_cases xs path p there))),
)

-- one that is no good path
pub adds_bad : (path : List ℕ) (known fresh : List (List ℕ)) → ¬ (IsGoodPath path)
    → AddsFresh (path ∷ []) known known fresh fresh
adds_bad path known fresh bad before same =
    ([], is_bad bad none_fresh, subst (Same known) (sym (append-nil before)) same, sym (append-nil fresh))

-- one that was known
known_again : (old new before : List (List ℕ)) (path : List ℕ) → PutsPath old new path false → Same old before
    → Contains before path × Same new before
known_again old new before path (was_known here same) so_far =
    ((so_far path).0 here, same_trans new old before same so_far)

pub adds_known : (path : List ℕ) (old new fresh : List (List ℕ)) → IsGoodPath path → (is_new : Bool)
    → PutsPath old new path is_new → is_new ≡ false → AddsFresh (path ∷ []) old new fresh fresh
adds_known path old new fresh good is_new puts is before same =
    let again = known_again old new before path (subst (PutsPath old new path) is puts) same in
    ([], is_known again.0 none_fresh, subst (Same new) (sym (append-nil before)) again.1, sym (append-nil fresh))

-- and one that is new
not_known : (old new before : List (List ℕ)) (path : List ℕ) → PutsPath old new path true → Same old before
    → ¬ (Contains before path)
not_known old new before path (was_new none same) so_far here = none ((so_far path).1 here)

pub adds_new : (path : List ℕ) (old new fresh longer : List (List ℕ)) → IsGoodPath path → (is_new : Bool)
    → PutsPath old new path is_new → is_new ≡ true → longer ≡ fresh ++ path ∷ []
    → AddsFresh (path ∷ []) old new fresh longer
adds_new path old new fresh longer good is_new puts is pushed before same = (
  path ∷ [],
  is_fresh good (not_known old new before path (subst (PutsPath old new path) is puts) same) none_fresh,
  put_same old new before path is_new puts same,
  pushed,
)

-- ---- an import

pub hidden : (publicly : Bool) (import : Import) (known fresh : List (List ℕ))
    → (publicly && not import.is_public) ≡ true → AddsFresh (wanted_by publicly import) known known fresh fresh
hidden publicly import known fresh is =
    subst (λ (b : Bool). AddsFresh (cond b [] (import.path ∷ [])) known known fresh fresh) (sym is)
    (adds_nothing known fresh)

pub shown : (publicly : Bool) (import : Import) (old new fresh longer : List (List ℕ))
    → (publicly && not import.is_public) ≡ false → AddsFresh (import.path ∷ []) old new fresh longer
    → AddsFresh (wanted_by publicly import) old new fresh longer
shown publicly import old new fresh longer is adds =
    subst (λ (b : Bool). AddsFresh (cond b [] (import.path ∷ [])) old new fresh longer) (sym is) adds

-- ---- the file with the messages of options

pub no_built_in : (links_options wanted : Bool) (sources : List Told) (known fresh : List (List ℕ))
    → built_in_of links_options sources ≡ cond wanted (descriptor_path ∷ []) [] → wanted ≡ false
    → AddsFresh (built_in_of links_options sources) known known fresh fresh
no_built_in links_options wanted sources known fresh are is =
    subst (λ (l : List (List ℕ)). AddsFresh l known known fresh fresh)
    (sym (are ∙ ap (λ (b : Bool). cond b (descriptor_path ∷ []) []) is)) (adds_nothing known fresh)

-- ---- one after the other

module _ {A : Type 0} (wanted : A → List (List ℕ)) where
  -- what the rest wants is added to what all want
  abbrev pub Goes : (all rest : List A) (known_old fresh_old known fresh : List (List ℕ)) → Type 0
  Goes all rest known_old fresh_old known fresh =
      (known_new fresh_new : List (List ℕ)) → AddsFresh (flat_map wanted rest) known known_new fresh fresh_new
      → AddsFresh (flat_map wanted all) known_old known_new fresh_old fresh_new

  pub goes_first : (all : List A) (known fresh : List (List ℕ)) → Goes all all known fresh known fresh
  goes_first all known fresh known_new fresh_new adds = adds

  pub goes_next : (all rest : List A) (blank item : A)
      (known_old fresh_old known between fresh longer : List (List ℕ)) → 1 ≤ length rest
      → item ≡ get_or rest 0 blank → Goes all rest known_old fresh_old known fresh
      → AddsFresh (wanted item) known between fresh longer
      → Goes all (take (length rest - 1) (drop 1 rest)) known_old fresh_old between longer
  goes_next all [] blank item known_old fresh_old known between fresh longer some is goes one known_new fresh_new adds =
      absurd (omega (arith, some))
  goes_next all (first ∷ rest) blank item known_old fresh_old known between fresh longer some is goes one known_new
      fresh_new adds =
      goes known_new fresh_new
      (adds_more (wanted first) (flat_map wanted rest) known between known_new fresh longer fresh_new
      (subst (λ (x : A). AddsFresh (wanted x) known between fresh longer) is one)
      (subst (λ (l : List A). AddsFresh (flat_map wanted l) between known_new longer fresh_new)
      (take_all (length (first ∷ rest) - 1) rest (omega arith)) adds))

  pub goes_last : (all rest : List A) (known_old fresh_old known fresh : List (List ℕ)) → length rest < 1
      → Goes all rest known_old fresh_old known fresh → AddsFresh (flat_map wanted all) known_old known fresh_old fresh
  goes_last all [] known_old fresh_old known fresh end goes = goes known fresh (adds_nothing known fresh)
  goes_last all (first ∷ rest) known_old fresh_old known fresh end goes = absurd (omega (arith, end))

-- the paths so far
abbrev pub SameSoFar : {A : Type 0} (f : A → List ℕ) (all rest : List A) (known : List (List ℕ)) → Type 0
SameSoFar f all rest known = (front : List (List ℕ)) × (map f all ≡ front ++ map f rest) × Same known front

pub same_first : {A : Type 0} (f : A → List ℕ) (all : List A) (known : List (List ℕ)) → known ≡ []
    → SameSoFar f all all known
same_first f all known none =
    ([], refl, subst (λ (l : List (List ℕ)). Same l []) (sym none) (λ p. ((λ there. there), (λ there. there))))

pub same_next : {A : Type 0} (f : A → List ℕ) (all rest : List A) (blank : A) (path : List ℕ) (is_new : Bool)
    (old new : List (List ℕ)) → 1 ≤ length rest → path ≡ f (get_or rest 0 blank) → SameSoFar f all rest old
    → PutsPath old new path is_new → SameSoFar f all (take (length rest - 1) (drop 1 rest)) new
same_next f all rest blank path is_new old new some is so_far puts = (
  so_far.0 ++ path ∷ [],
  so_far.1 ∙ ap (λ (l : List (List ℕ)). so_far.0 ++ l) (first_of_rest f rest blank some
      ∙ ap (λ (p : List ℕ). p ∷ map f (take (length rest - 1) (drop 1 rest))) (sym is))
      ∙ sym (append_assoc so_far.0 (path ∷ []) (map f (take (length rest - 1) (drop 1 rest)))),
  put_same old new so_far.0 path is_new puts so_far.2,
)

pub same_last : {A : Type 0} (f : A → List ℕ) (all rest : List A) (known : List (List ℕ)) → length rest < 1
    → SameSoFar f all rest known → Same known (map f all)
same_last f all rest known end so_far =
    subst (Same known)
    (sym (so_far.1 ∙ ap (λ (l : List (List ℕ)). so_far.0 ++ l) (none_left f rest end) ∙ append-nil so_far.0)) so_far.2

-- ---- a set of paths

or_true : (a b : Bool) → (a || b) ≡ true → (a ≡ true) ⊎ (b ≡ true)
or_true true b is = inl refl
or_true false b is = inr is

or_left : (a b : Bool) → a ≡ true → (a || b) ≡ true
or_left true b is = refl
or_left false b is = absurd (false≢true is)

or_right : (a b : Bool) → b ≡ true → (a || b) ≡ true
or_right true b is = refl
or_right false b is = is

from_not : (b : Bool) → true ≡ not b → b ≡ false
from_not true is = absurd (false≢true (sym is))
from_not false is = refl

from_not_not : (b : Bool) → false ≡ not b → b ≡ true
from_not_not true is = refl
from_not_not false is = absurd (false≢true is)

any_has : (key : String Global) (keys : List (String Global)) → list_any (string_eq key) keys ≡ true
    → Contains (map string_bytes keys) (string_bytes key)
any_has key [] is = absurd (false≢true is)
any_has key (first ∷ keys) is =
    ⊎_elim
    (λ same. subst (Contains (string_bytes first ∷ map string_bytes keys))
    (sym ((bytes_eq-Decides (string_bytes key) (string_bytes first)).0 same))
    (at_front (string_bytes first) (map string_bytes keys)))
    (λ behind. behind_front (string_bytes first) (map string_bytes keys) (string_bytes key) (any_has key keys behind))
    (or_true (string_eq key first) (list_any (string_eq key) keys) is)

has_any : (key : String Global) (keys : List (String Global)) → Contains (map string_bytes keys) (string_bytes key)
    → list_any (string_eq key) keys ≡ true
has_any key [] there = absurd (nothing_there (string_bytes key) there)
has_any key (first ∷ keys) there =
    ⊎_elim
    (λ is. or_left (string_eq key first) (list_any (string_eq key) keys)
    ((bytes_eq-Decides (string_bytes key) (string_bytes first)).1 (sym is)))
    (λ behind. or_right (string_eq key first) (list_any (string_eq key) keys) (has_any key keys behind))
    (front_or_behind (string_bytes first) (map string_bytes keys) (string_bytes key) there)

-- members of a list that is mapped
in_map : {A B : Type 0} (f : A → B) (xs : List A) (y : B) → Contains (map f xs) y → (x : A) × Contains xs x × (f x ≡ y)
in_map f [] y there = absurd (nothing_there y there)
in_map f (x ∷ xs) y there =
    ⊎_elim (λ is. (x, at_front x xs, is))
    (λ behind. let rest = in_map f xs y behind in (rest.0, behind_front x xs rest.0 rest.1, rest.2))
    (front_or_behind (f x) (map f xs) y there)

pub to_map : {A B : Type 0} (f : A → B) (xs : List A) (x : A) → Contains xs x → Contains (map f xs) (f x)
to_map f [] x there = absurd (nothing_there x there)
to_map f (first ∷ xs) x there =
    ⊎_elim (λ is. subst (Contains (f first ∷ map f xs)) (ap f is) (at_front (f first) (map f xs)))
    (λ behind. behind_front (f first) (map f xs) (f x) (to_map f xs x behind)) (front_or_behind first xs x there)

moved : {A B : Type 0} (f : A → B) (xs ys : List A) → IsPermutation xs ys → (y : B) → Contains (map f xs) y
    → Contains (map f ys) y
moved f xs ys moves y there =
    let from = in_map f xs y there in
    subst (Contains (map f ys)) from.2 (to_map f ys from.0 (Contains-permutation xs ys from.0 moves from.1))

one_more_key : (key : String Global) (old new : List (String Global)) (path : List ℕ) → string_bytes key ≡ path
    → IsPermutation (key ∷ old) new → Same (map string_bytes new) (map string_bytes old ++ path ∷ [])
one_more_key key old new path is moves p = (
  (λ there. ⊎_elim (λ front. subst (Contains (map string_bytes old ++ path ∷ [])) (sym is ∙ front)
      (Contains-push (map string_bytes old) path))
      (λ behind. Contains-append_left (map string_bytes old) (path ∷ []) p behind)
      (front_or_behind (string_bytes key) (map string_bytes old) p
      (moved string_bytes new (key ∷ old) (IsPermutation-sym (key ∷ old) new moves) p there))),
  (λ there. moved string_bytes (key ∷ old) new moves p
      (⊎_elim (λ before. behind_front (string_bytes key) (map string_bytes old) p before)
      (λ last. subst (Contains (string_bytes key ∷ map string_bytes old)) (is ∙ last)
      (at_front (string_bytes key) (map string_bytes old)))
      (Contains-push_cases (map string_bytes old) path p there))),
)

pub puts : {S : Type 0} (old new : HashSet (String Global) S) (key : String Global) (path : List ℕ) (is_new : Bool)
    → string_bytes key ≡ path → is_new ≡ not (list_any (string_eq key) old.keys) → PutsKey old new key is_new
    → PutsPath (paths_in old) (paths_in new) path is_new
puts old new key path true is told keys =
    was_new
    (λ here. false≢true (sym (from_not (list_any (string_eq key) old.keys) told)
    ∙ has_any key old.keys (subst (Contains (paths_in old)) (sym is) here)))
    (one_more_key key old.keys new.keys path is keys)
puts old new key path false is told keys =
    was_known
    (subst (Contains (paths_in old)) is
    (any_has key old.keys (from_not_not (list_any (string_eq key) old.keys) told)))
    (λ p. (
      (λ there. subst (λ (l : List (String Global)). Contains (map string_bytes l) p) keys there),
      (λ there. subst (λ (l : List (String Global)). Contains (map string_bytes l) p) (sym keys) there),
    ))
