-- Why uses name nothing: each for one reason at most.
use Rattle.std.proofs.Common.{◌≡◌, ◌≢◌, ◌↔◌, ◌⊎◌, inl, inr, ℕ, false, true, List, [], ◌∷◌, ◌++◌, Option, Some, None}
use Rattle.std.proofs.Common.{Result, Ok, Err, IfOk, IfErr, refl, ap, sym, ◌∙◌, subst}
use Rattle.std.specs.Prelude.{Contains}
use Rattle.std.specs.declared.alloc.AllocError.{AllocError}
use Rattle.std.proofs.lemmas.List.{append-nil}
use Rattle.std.proofs.lemmas.List.Elements.{Contains-append_left, Contains-append_cases, Contains-push}
use Rattle.basics.proofs.ListLemmas.{only, in_nothing}
use Rattle.proto_decl.specs.Facts.{Facts}
use Rattle.proto_decl.specs.declared.uses.Use.{Use}
use Rattle.proto_visibility.specs.declared.fault.LinkFault.{LinkFault}
use Rattle.proto_visibility.specs.declared.fault.LinkFault.TheVariants as fault
use Rattle.proto_visibility.specs.Files.{File, HasFacts}
use Rattle.proto_visibility.specs.Knows.{SeesGiving}
use Rattle.proto_visibility.proofs.FileFactLemmas.{one_list_of_facts}
use Rattle.proto_link.specs.declared.target.Target.{Target}
use Rattle.proto_link.specs.Resolves.{wanted}
use Rattle.proto_link.specs.Targets.{IsAmbiguous, IsTarget, IsUnresolved, IsFaultOfUse, IsFaultAmong, IsUseFault}
use Rattle.proto_link.specs.Targets.{MayRefuseUse}
use Rattle.proto_link.specs.Tables.Found.{FindsFault, listed}
use Rattle.proto_link.proofs.LawLemmas.{one_name_a_use}

module _ (files : List File) (file : ℕ) (type_use : Use) where
  -- an ambiguous use names nothing
  pub nothing_named : IsAmbiguous files file type_use → IsUnresolved files file type_use
  nothing_named is name owner names =
      let same : is.name ≡ name = one_name_a_use files file type_use is.name name is.resolves names.resolves in
      let Gives : ℕ → List ℕ → Type 0 = λ number n. SeesGiving files file (wanted type_use.is_extended) n number in
      let first : is.twice.first ≡ owner =
      names.owned.alone is.twice.first (subst (Gives is.twice.first) same is.twice.first_gives) in
      let second : is.twice.second ≡ owner =
      names.owned.alone is.twice.second (subst (Gives is.twice.second) same is.twice.second_gives) in
      is.twice.apart (first ∙ sym second)

  pub no_fault : (target : Target) → IsTarget files file type_use target → (f : LinkFault)
      → IsFaultOfUse files file type_use f → ⊥
  no_fault target is (fault.Unresolved place) of = of.refused.0 target.name is.owner is.names
  no_fault target is (fault.Ambiguous place) of = nothing_named of.refused.0 target.name is.owner is.names
  no_fault target is (fault.Broken number) of = of.refused
  no_fault target is (fault.Duplicate first second) of = of.refused
  no_fault target is (fault.MissingImport place) of = of.refused
  no_fault target is fault.Memory of = of.of_use refl

  pub one_fault : (a b : LinkFault) → IsFaultOfUse files file type_use a → IsFaultOfUse files file type_use b → a ≡ b
  one_fault (fault.Unresolved place) (fault.Unresolved other) x y =
      ap fault.Unresolved (x.refused.2 ∙ sym y.refused.2)
  one_fault (fault.Unresolved place) (fault.Ambiguous other) x y = absurd (x.refused.1 y.refused.0)
  one_fault (fault.Ambiguous place) (fault.Unresolved other) x y = absurd (y.refused.1 x.refused.0)
  one_fault (fault.Ambiguous place) (fault.Ambiguous other) x y = ap fault.Ambiguous (x.refused.1 ∙ sym y.refused.1)
  one_fault (fault.Unresolved place) (fault.Broken number) x y = absurd y.refused
  one_fault (fault.Unresolved place) (fault.Duplicate first second) x y = absurd y.refused
  one_fault (fault.Unresolved place) (fault.MissingImport other) x y = absurd y.refused
  one_fault (fault.Unresolved place) fault.Memory x y = absurd (y.of_use refl)
  one_fault (fault.Ambiguous place) (fault.Broken number) x y = absurd y.refused
  one_fault (fault.Ambiguous place) (fault.Duplicate first second) x y = absurd y.refused
  one_fault (fault.Ambiguous place) (fault.MissingImport other) x y = absurd y.refused
  one_fault (fault.Ambiguous place) fault.Memory x y = absurd (y.of_use refl)
  one_fault (fault.Broken number) b x y = absurd x.refused
  one_fault (fault.Duplicate first second) b x y = absurd x.refused
  one_fault (fault.MissingImport place) b x y = absurd x.refused
  one_fault fault.Memory b x y = absurd (x.of_use refl)

  -- what is added for a use
  abbrev pub AddsFault : (old new : List LinkFault) → Type 0
  AddsFault old new = (f : LinkFault) → Contains new f ↔ (Contains old f ⊎ IsFaultOfUse files file type_use f)

  pub adds_none : (target : Target) → IsTarget files file type_use target → (old : List LinkFault) → AddsFault old old
  adds_none target is old f = (
    λ there. inl there,
    λ both. elim both [
      | inl there ↦ there
      | inr of ↦ absurd (no_fault target is f of)
    ],
  )

  pub adds_one : (its : LinkFault) → IsFaultOfUse files file type_use its → (old : List LinkFault)
      → AddsFault old (old ++ its ∷ [])
  adds_one its is old f = (
    λ there. elim (Contains-append_cases old (its ∷ []) f there) [
      | inl before ↦ inl before
      | inr last ↦ inr (subst (IsFaultOfUse files file type_use) (only its f last) is)
    ],
    λ both. elim both [
      | inl there ↦ Contains-append_left old (its ∷ []) f there
      | inr of ↦ subst (Contains (old ++ its ∷ [])) (one_fault its f is of) (Contains-push old its)
    ],
  )

  same_ok : (a b : Option LinkFault) → ◌≡◌ {A = Result (Option LinkFault) AllocError} (Ok a) (Ok b) → a ≡ b
  same_ok a b e = cc

  one_by : (its : LinkFault) → its ≢ fault.Memory → MayRefuseUse files file type_use its → (found : Option LinkFault)
      → ◌≡◌ {A = Result (Option LinkFault) AllocError} (Ok found) (Ok (Some its)) → (old new : List LinkFault)
      → new ≡ old ++ listed found → AddsFault old new
  one_by its not refused found finds old new made =
      subst (AddsFault old) (sym (made ∙ ap (λ o. old ++ listed o) (same_ok found (Some its) finds)))
      (adds_one its (record { refused = refused; of_use = not }) old)

  pub adds_by : (answer : Result Target LinkFault) (found : Option LinkFault)
      → IfOk answer (IsTarget files file type_use) → IfErr answer (MayRefuseUse files file type_use)
      → FindsFault answer (Ok found) → (old new : List LinkFault) → new ≡ old ++ listed found → AddsFault old new
  adds_by (Ok target) found is refused finds old new made =
      let none : found ≡ None = same_ok found None finds in
      subst (AddsFault old) (sym (made ∙ (ap (λ o. old ++ listed o) none ∙ append-nil old))) (adds_none target is old)
  adds_by (Err (fault.Unresolved place)) found is refused finds old new made =
      one_by (fault.Unresolved place) (λ e. cc) refused found finds old new made
  adds_by (Err (fault.Ambiguous place)) found is refused finds old new made =
      one_by (fault.Ambiguous place) (λ e. cc) refused found finds old new made
  adds_by (Err (fault.Broken number)) found is refused finds old new made = absurd refused
  adds_by (Err (fault.Duplicate first second)) found is refused finds old new made = absurd refused
  adds_by (Err (fault.MissingImport place)) found is refused finds old new made = absurd refused
  adds_by (Err fault.Memory) found is refused finds old new made = absurd (let never : false ≡ true = finds in cc)

-- why uses so far name nothing
module _ (files : List File) (file : ℕ) where
  abbrev pub AreFaultsOf : List Use → List LinkFault → Type 0
  AreFaultsOf uses faults = (f : LinkFault) → Contains faults f ↔ IsFaultAmong files file uses f

  pub no_uses : AreFaultsOf [] []
  no_uses f = (λ there. absurd (in_nothing f there), λ among. absurd (in_nothing among.type_use among.listed))

  pub one_use_more : (uses : List Use) (type_use : Use) (old new : List LinkFault) → AreFaultsOf uses old
      → AddsFault files file type_use old new → AreFaultsOf (uses ++ type_use ∷ []) new
  one_use_more uses type_use old new are adds f = (
    λ there. elim ((adds f).0 there) [
      | inl before ↦ (
          let among = (are f).0 before in
          record {
            type_use = among.type_use;
            listed = Contains-append_left uses (type_use ∷ []) among.type_use among.listed;
            is = among.is;
          })
      | inr is ↦ record { type_use = type_use; listed = Contains-push uses type_use; is = is }
    ],
    λ among. elim (Contains-append_cases uses (type_use ∷ []) among.type_use among.listed) [
      | inl before ↦ (adds f).1
          (inl ((are f).1 (record { type_use = among.type_use; listed = before; is = among.is })))
      | inr last ↦ (adds f).1 (inr
          (subst (λ (u : Use). IsFaultOfUse files file u f) (sym (only type_use among.type_use last)) among.is))
    ],
  )

  -- of a file with these facts
  pub of_facts : (facts : Facts) (faults : List LinkFault) → HasFacts files file facts
      → AreFaultsOf facts.uses faults → (f : LinkFault) → Contains faults f ↔ IsUseFault files file f
  of_facts facts faults known are f = (
    λ there. record { facts = facts; known = known; among = (are f).0 there },
    λ is. (are f).1 (subst (λ (its : Facts). IsFaultAmong files file its.uses f)
        (one_list_of_facts files file is.facts facts is.known known) is.among),
  )

  -- of a file without facts
  pub of_nothing : ((facts : Facts) → HasFacts files file facts → ⊥) → (f : LinkFault)
      → Contains {X = LinkFault} [] f ↔ IsUseFault files file f
  of_nothing none f = (λ there. absurd (in_nothing f there), λ is. absurd (none is.facts is.known))
