-- Lists that go side by side, and what is found by the linker's answer.
use Rattle.std.proofs.Common.{◌≡◌, ◌∙◌, ◌≤◌, Option, sym, ap, refl, subst, ℕ, suc, ◌+◌, ◌<◌, Some, List}
use Rattle.std.proofs.Common.{[], ◌∷◌, ◌++◌, length, get_or, take, arith, Result, Ok, Err, IsErr, IfOk, IfErr}
use Rattle.std.proofs.Common.{false, true}
use Rattle.std.specs.declared.alloc.AllocError.{AllocError}
use Rattle.std.specs.List.{AllZip, slice_get}
use Rattle.std.proofs.lemmas.List.{append_assoc, append-nil}
use Rattle.std.proofs.lemmas.Option.{slice_get-get_or}
use Rattle.basics.proofs.ListLemmas.{zip_push as AllZip-push}
use Rattle.proto_decl.specs.declared.uses.Use.{Use}
use Rattle.basics.proofs.FirstLemmas.{take_next}
use Rattle.proto_visibility.proofs.SeeingLemmas.{slice_get_prefix}
use Rattle.proto_visibility.proofs.ItemAllLemmas.{slice_get_last}
use Rattle.proto_link.specs.Resolves.{wanted}
use Rattle.proto_link.specs.Targets.{IsAmbiguous, IsTarget, IsUnresolved, MayRefuseUse}
use Rattle.proto_link.proofs.LawLemmas.{one_name_a_use}
use Rattle.proto_visibility.specs.Knows.{SeesGiving}
use Rattle.proto_link.specs.declared.target.Target.{Target}
use Rattle.proto_visibility.specs.Files.{File}
use Rattle.proto_visibility.specs.declared.fault.LinkFault.{LinkFault}
use Rattle.proto_visibility.specs.declared.fault.LinkFault.TheVariants as fault
use Rattle.scip_model.specs.Conditions.{IsFound}
use Rattle.scip_model.specs.Tables.Listing.{each_from, found_at, Finds}

module _ (files : List File) (file : ℕ) (type_use : Use) where
  no_found : (found : Result (Option Target) AllocError) → IsErr found → IfOk found (IsFound files file type_use)
  no_found (Ok target) is = absurd (let never : false ≡ true = is in cc)
  no_found (Err e) is = tt

  -- an ambiguous use names nothing
  names_nothing : IsAmbiguous files file type_use → IsUnresolved files file type_use
  names_nothing is name owner names =
      let same : is.name ≡ name = one_name_a_use files file type_use is.name name is.resolves names.resolves in
      let Gives : ℕ → List ℕ → Type 0 = λ number n. SeesGiving files file (wanted type_use.is_extended) n number in
      let first : is.twice.first ≡ owner =
      names.owned.alone is.twice.first (subst (Gives is.twice.first) same is.twice.first_gives) in
      let second : is.twice.second ≡ owner =
      names.owned.alone is.twice.second (subst (Gives is.twice.second) same is.twice.second_gives) in
      is.twice.apart (first ∙ sym second)

  pub finds_found : (answer : Result Target LinkFault) (found : Result (Option Target) AllocError)
      → IfOk answer (IsTarget files file type_use) → IfErr answer (MayRefuseUse files file type_use)
      → Finds answer found → IfOk found (IsFound files file type_use)
  finds_found (Ok target) found is refused finds =
      subst (λ (r : Result (Option Target) AllocError). IfOk r (IsFound files file type_use)) (sym finds) is
  finds_found (Err (fault.Unresolved place)) found is refused finds =
      subst (λ (r : Result (Option Target) AllocError). IfOk r (IsFound files file type_use)) (sym finds) refused.0
  finds_found (Err (fault.Ambiguous place)) found is refused finds =
      subst (λ (r : Result (Option Target) AllocError). IfOk r (IsFound files file type_use)) (sym finds)
      (names_nothing refused.0)
  finds_found (Err (fault.Broken number)) found is refused finds = no_found found finds
  finds_found (Err (fault.Duplicate first second)) found is refused finds = no_found found finds
  finds_found (Err (fault.MissingImport place)) found is refused finds = no_found found finds
  finds_found (Err fault.Memory) found is refused finds = no_found found finds

pub zip_length : {X Y : Type 0} (R : X → Y → Type 0) (xs : List X) (ys : List Y) → AllZip R xs ys
    → length ys ≡ length xs
zip_length R [] [] all = refl
zip_length R [] (b ∷ ys) all = absurd all
zip_length R (a ∷ xs) [] all = absurd all
zip_length R (a ∷ xs) (b ∷ ys) all = omega (arith, zip_length R xs ys all.1)

-- one element more on each side
pub zip_more : {X Y : Type 0} (R : X → Y → Type 0) (xs : List X) (k : ℕ) (x : X) (ys : List Y) (y : Y)
    → slice_get xs k ≡ Some x → AllZip R (take k xs) ys → R x y
    → AllZip R (take (k + 1) xs) (ys ++ y ∷ [])
zip_more {X} {Y} R xs k x ys y e all r =
    subst (λ (front : List X). AllZip R front (ys ++ y ∷ [])) (sym (take_next xs k x e))
    (AllZip-push R (take k xs) ys x y all r)

pub zip_more_at : {X Y : Type 0} (R : X → Y → Type 0) (xs : List X) (k : ℕ) (d : X) (ys : List Y) (y : Y)
    → k < length xs → AllZip R (take k xs) ys → R (get_or xs k d) y
    → AllZip R (take (k + 1) xs) (ys ++ y ∷ [])
zip_more_at R xs k d ys y within all r = zip_more R xs k (get_or xs k d) ys y (slice_get-get_or xs k d within) all r

-- what uses give by what they name
module _ {R : Type 0} (gives : Option Target → Use → List R) where
  abbrev by : List (Option Target) → ℕ → Use → List R
  by found index type_use = gives (found_at (slice_get found index)) type_use

  same_front : (found more : List (Option Target)) (k : ℕ) (xs : List Use) → k + length xs ≤ length found
      → each_from (by (found ++ more)) k xs ≡ each_from (by found) k xs
  same_front found more k [] within = refl
  same_front found more k (x ∷ xs) within =
      ap (λ (o : Option (Option Target)). gives (found_at o) x ++ each_from (by (found ++ more)) (k + 1) xs)
      (slice_get_prefix found more k (omega (arith, within)))
      ∙ ap (λ (list : List R). by found k x ++ list) (same_front found more (k + 1) xs (omega (arith, within)))

  one_behind : (found : List (Option Target)) (k : ℕ) (xs : List Use) (x : Use)
      → each_from (by found) k (xs ++ x ∷ []) ≡ each_from (by found) k xs ++ by found (k + length xs) x
  one_behind found k [] x =
      let here : k + 0 ≡ k = omega arith in
      rw here (append-nil (by found k x))
  one_behind found k (y ∷ ys) x =
      let next : k + 1 + length ys ≡ k + suc (length ys) = omega arith in
      ap (λ (list : List R). by found k y ++ list) (one_behind found (k + 1) ys x)
      ∙ (sym (append_assoc (by found k y) (each_from (by found) (k + 1) ys) (by found (k + 1 + length ys) x))
      ∙ ap (λ (n : ℕ). (by found k y ++ each_from (by found) (k + 1) ys) ++ by found n x) next)

  -- one use more
  pub more_found : (found : List (Option Target)) (its : Option Target) (xs : List Use) (x : Use)
      → length found ≡ length xs
      → each_from (by (found ++ its ∷ [])) 0 (xs ++ x ∷ []) ≡ each_from (by found) 0 xs ++ gives its x
  more_found found its xs x size =
      one_behind (found ++ its ∷ []) 0 xs x
      ∙ (ap (λ (list : List R). list ++ by (found ++ its ∷ []) (0 + length xs) x)
      (same_front found (its ∷ []) 0 xs (omega (arith, size)))
      ∙ ap (λ (o : Option (Option Target)). each_from (by found) 0 xs ++ gives (found_at o) x)
      (slice_get_last found its (0 + length xs) (omega (arith, size))))
