-- What sources reach, where something of it can't be read.
use Rattle.std.proofs.Common.{◌≡◌, ℕ, Bool, true, false, List, [], All, Option, string_bytes, subst, sym, refl}
use Rattle.std.proofs.Common.{Result, Ok, Err, IfOk, IfErr, MatchResult}
use Rattle.std.proofs.lemmas.Bool.{false≢true}
use Rattle.std.proofs.lemmas.List.Elements.{All-nil}
use Rattle.std.proofs.Common.{◌∷◌, ◌<◌, String, arith, length, map}
use Rattle.std.specs.Global.{Global}
use Rattle.source_files.specs.Walks.{AreOnce}
use Rattle.source_files.proofs.ClosureLemmas.{at_front, nothing_there}
use Rattle.source_files.specs.declared.load_fault.LoadFault.{LoadFault}
use Rattle.source_files.specs.declared.load_fault.LoadFault.TheVariants as load
use Rattle.source_files.specs.Closures.{Gathered, MayRefuseUnread}
use Rattle.source_files.specs.Reached.{AreIncluded, CantBeRead, Import, IsReached, MayNotInclude, Told}

-- of some paths there is a first
pub some_once : (paths once : List (String Global)) → (paths ≡ [] → ⊥)
    → AreOnce (map string_bytes paths) (map string_bytes once) → 0 < length once
some_once [] once some are = absurd (some refl)
some_once (path ∷ paths) [] some are =
    absurd (nothing_there (string_bytes path) ((are.same (string_bytes path)).1
    (at_front (string_bytes path) (map string_bytes paths))))
some_once (path ∷ paths) (first ∷ once) some are = omega arith

module _ (finds : List ℕ → List ℕ → Bool → Type 0) (gives : List ℕ → Option (List ℕ) → Type 0)
    (tells : List ℕ → List Import → Type 0)
    (links_options : Bool)
    (roots listed : List (List ℕ))
    (sources : List Told) where
  -- a path that is left out, though nothing is to be
  abbrev NoUnread : (included : List Told) → List ℕ → Type 0
  NoUnread included path = IsReached links_options sources included path × CantBeRead finds gives roots path × (false ≡ true)

  -- where nothing is left out, they are the same whether such is to be left out or not
  all_read : (included : List Told) (unread : List (List ℕ)) → unread ≡ []
      → AreIncluded finds gives tells true links_options roots listed sources included unread
      → AreIncluded finds gives tells false links_options roots listed sources included unread
  all_read included unread none are = record {
    some = are.some;
    unread_are = subst (All (NoUnread included)) (sym none) (All-nil (NoUnread included));
    whole = are.whole;
  }

  included_as : (leaves_out : Bool) (all : Gathered) → (leaves_out ≡ false → all.unread ≡ [])
      → AreIncluded finds gives tells true links_options roots listed sources all.found all.unread
      → AreIncluded finds gives tells leaves_out links_options roots listed sources all.found all.unread
  included_as true all none are = are
  included_as false all none are = all_read all.found all.unread (none refl) are

  pub are_included : (leaves_out : Bool) (all kept : Gathered) → kept ≡ all → (leaves_out ≡ false → all.unread ≡ [])
      → AreIncluded finds gives tells true links_options roots listed sources all.found all.unread
      → AreIncluded finds gives tells leaves_out links_options roots listed sources kept.found kept.unread
  are_included leaves_out all kept is none are =
      subst (λ (g : Gathered). AreIncluded finds gives tells leaves_out links_options roots listed sources g.found g.unread) (sym is)
      (included_as leaves_out all none are)

  -- the first that can't be read is refused
  pub not_included : (leaves_out : Bool) (all : Gathered) (fault : LoadFault)
      → AreIncluded finds gives tells true links_options roots listed sources all.found all.unread
      → leaves_out ≡ false → MayRefuseUnread all.unread fault
      → MayNotInclude finds gives tells leaves_out links_options roots listed sources fault
  not_included leaves_out all (load.Unreadable name) are strict first = (
    strict,
    record { included = all.found; unread = all.unread; behind = first.0; included_are = are; first = first.1 },
  )
  not_included leaves_out all load.TooMany are strict first = absurd first
  not_included leaves_out all (load.BadPath name) are strict first = absurd first
  not_included leaves_out all (load.SamePath name) are strict first = absurd first
  not_included leaves_out all load.Memory are strict first = tt

  -- too many are too many
  pub stops_included : (leaves_out : Bool) (fault : LoadFault)
      → MayNotInclude finds gives tells true links_options roots listed sources fault
      → MayNotInclude finds gives tells leaves_out links_options roots listed sources fault
  stops_included leaves_out (load.Unreadable name) stop = absurd (false≢true (sym stop.0))
  stops_included leaves_out load.TooMany stop = stop
  stops_included leaves_out (load.BadPath name) stop = absurd stop
  stops_included leaves_out (load.SamePath name) stop = absurd stop
  stops_included leaves_out load.Memory stop = tt

  -- what sources reach, or why it is refused
  pub includes : (leaves_out : Bool) (all : Gathered) (result : Result Gathered LoadFault)
      → AreIncluded finds gives tells true links_options roots listed sources all.found all.unread
      → IfOk result (λ kept. (kept ≡ all) × (leaves_out ≡ false → all.unread ≡ []))
      → IfErr result (λ fault. (leaves_out ≡ false) × MayRefuseUnread all.unread fault)
      → MatchResult result
      (λ kept. AreIncluded finds gives tells leaves_out links_options roots listed sources kept.found kept.unread)
      (MayNotInclude finds gives tells leaves_out links_options roots listed sources)
  includes leaves_out all (Ok kept) are whole stops = are_included leaves_out all kept whole.0 whole.1 are
  includes leaves_out all (Err fault) are whole stops = not_included leaves_out all fault are stops.0 stops.1
