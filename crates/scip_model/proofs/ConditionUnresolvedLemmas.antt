-- The uses of a source that name no type, and what follows where there are none.
use Rattle.std.proofs.Common.{◌≡◌, sym, ap, refl, subst, ℕ, zero, suc, ◌+◌, Option, Some, None, List, [], ◌∷◌, ◌++◌}
use Rattle.std.proofs.Common.{arith}
use Rattle.std.specs.List.{All, AllZip, Contains, slice_get}
use Rattle.std.proofs.lemmas.List.Elements.{All-nil, All-cons, All-contains}
use Rattle.std.proofs.lemmas.Option.{same_Some, none-some}
use Rattle.proto_visibility.proofs.FileFactLemmas.{one_list_of_facts as same_facts}
use Rattle.proto_lex.specs.declared.span.Span.{Span}
use Rattle.proto_decl.specs.Facts.{Facts}
use Rattle.proto_decl.specs.declared.uses.Use.{Use}
use Rattle.proto_visibility.specs.Files.{File, HasFacts}
use Rattle.proto_link.specs.Targets.{IsUnresolved}
use Rattle.proto_link.specs.declared.target.Target.{Target}
use Rattle.scip_model.specs.Conditions.{IsResolved, IsFirstUnresolved, UsesResolve}
use Rattle.scip_model.specs.Conditions.{IsFound, ListsUnresolved, AreUnresolvedUses}
use Rattle.scip_model.specs.Conditions.ListsUnresolved.{at_end, has, lacks}
use Rattle.scip_model.specs.Tables.Listing.{each_from, found_at, unless_found, unresolved_use_at}
use Rattle.scip_model.proofs.OccursLemmas.{zip_at}

-- the first of a list that lacks something
pub record IsFirstListed {X : Type 0} (Has Lacks : X → Type 0) (span_of : X → Span) (xs : List X)
    (span : Span) : Type 0 where
  pub before : List X
  pub item : X
  pub behind : List X
  pub split : xs ≡ before ++ item ∷ behind
  pub others : All Has before
  pub lacking : Lacks item
  pub place : span_of item ≡ span

module _ {X : Type 0} (Has Lacks : X → Type 0) (span_of : X → Span) where
  pub none_unresolved : (xs : List X) (spans : List Span) → ListsUnresolved Has Lacks span_of xs spans
      → slice_get spans 0 ≡ None → All Has xs
  none_unresolved _ _ at_end e = All-nil Has
  none_unresolved _ _ (has {x = x} {xs = xs} {spans = spans} h more) e = All-cons Has x xs h
      (none_unresolved xs spans more e)
  none_unresolved _ _ (lacks h more) e = absurd (none-some _ (sym e))

  pub first_unresolved_listed : (xs : List X) (spans : List Span) (span : Span)
      → ListsUnresolved Has Lacks span_of xs spans
      → slice_get spans 0 ≡ Some span
      → IsFirstListed Has Lacks span_of xs span
  first_unresolved_listed _ _ span at_end e = absurd (none-some _ e)
  first_unresolved_listed _ _ span (has {x = x} {xs = xs} {spans = spans} h more) e =
      let rest = first_unresolved_listed xs spans span more e in
      record {
        before = x ∷ rest.before;
        item = rest.item;
        behind = rest.behind;
        split = ap (λ ys. x ∷ ys) rest.split;
        others = All-cons Has x rest.before h rest.others;
        lacking = rest.lacking;
        place = rest.place;
      }
  first_unresolved_listed _ _ span (lacks {x = x} {xs = xs} h more) e = record {
    before = [];
    item = x;
    behind = xs;
    split = refl;
    others = All-nil Has;
    lacking = h;
    place = same_Some (span_of x) span e;
  }

module _ (files : List File) (source : ℕ) where
  abbrev UsesUnresolved : List Use → List Span → Type 0
  UsesUnresolved = ListsUnresolved (IsResolved files source) (IsUnresolved files source) (λ type_use. type_use.span)

  -- what was found for the uses, from this one on
  record HasFound (found : List (Option Target)) (index : ℕ) (type_use : Use) : Type 0 where
    its : Option Target
    at : slice_get found index ≡ Some its
    is : IsFound files source type_use its

  one_more : (found : List (Option Target)) (index : ℕ) (type_use : Use) (others : List Use) (rest : List Span)
      (its : Option Target) → slice_get found index ≡ Some its → IsFound files source type_use its
      → UsesUnresolved others rest → UsesUnresolved (type_use ∷ others) (unresolved_use_at found index type_use ++ rest)
  one_more found index type_use others rest None at is more =
      subst (λ (o : Option (Option Target)). UsesUnresolved (type_use ∷ others)
      (unless_found (found_at o) type_use.span ++ rest)) (sym at) (lacks is more)
  one_more found index type_use others rest (Some target) at is more =
      subst (λ (o : Option (Option Target)). UsesUnresolved (type_use ∷ others)
      (unless_found (found_at o) type_use.span ++ rest)) (sym at) (has (target.name, is.owner, is.names) more)

  unresolved_behind : (found : List (Option Target)) (index : ℕ) (uses : List Use)
      → ((k : ℕ) (type_use : Use) → slice_get uses k ≡ Some type_use → HasFound found (index + k) type_use)
      → UsesUnresolved uses (each_from (unresolved_use_at found) index uses)
  unresolved_behind found index [] each = at_end
  unresolved_behind found index (u ∷ us) each =
      let here : index + 0 ≡ index = omega arith in
      let its = subst (λ (n : ℕ). HasFound found n u) here (each zero u refl) in
      let next : (k : ℕ) → index + suc k ≡ index + 1 + k = λ k. omega arith in
      let others = unresolved_behind found (index + 1) us
      (λ k type_use e. subst (λ (n : ℕ). HasFound found n type_use) (next k) (each (suc k) type_use e)) in
      one_more found index u us (each_from (unresolved_use_at found) (index + 1) us) its.its its.at its.is others

  pub unresolved_of : (facts : Facts) (found : List (Option Target)) → HasFacts files source facts
      → AllZip (IsFound files source) facts.uses found → AreUnresolvedUses files source
      (each_from (unresolved_use_at found) 0 facts.uses)
  unresolved_of facts found known all = record {
    facts = facts;
    known = known;
    uses_are = unresolved_behind found 0 facts.uses (λ k type_use e. by k type_use e);
  }
    where
      by : (k : ℕ) (type_use : Use) → slice_get facts.uses k ≡ Some type_use → HasFound found (0 + k) type_use
      by k type_use e =
          let here : k ≡ 0 + k = omega arith in
          let there = zip_at (IsFound files source) facts.uses found all k type_use e in
          let its : HasFound found k type_use = record { its = there.0; at = there.1; is = there.2 } in
          subst (λ (n : ℕ). HasFound found n type_use) here its

  pub all_resolve : (spans : List Span) → AreUnresolvedUses files source spans → slice_get spans 0 ≡ None
      → UsesResolve files source
  all_resolve spans unresolved_uses none other type_use known listed =
      let there : Contains unresolved_uses.facts.uses type_use =
      subst (λ (f : Facts). Contains f.uses type_use)
      (same_facts files source other unresolved_uses.facts known unresolved_uses.known) listed in
      All-contains (IsResolved files source) unresolved_uses.facts.uses type_use
      (none_unresolved (IsResolved files source) (IsUnresolved files source)
      (λ (u : Use). u.span) unresolved_uses.facts.uses spans unresolved_uses.uses_are none) there

  pub first_unresolved : (spans : List Span) (span : Span) → AreUnresolvedUses files source spans
      → slice_get spans 0 ≡ Some span
      → IsFirstUnresolved files source span
  first_unresolved spans span unresolved_uses at =
      let first = first_unresolved_listed (IsResolved files source) (IsUnresolved files source)
      (λ (u : Use). u.span) unresolved_uses.facts.uses spans span unresolved_uses.uses_are at in
      record {
        facts = unresolved_uses.facts;
        known = unresolved_uses.known;
        before = first.before;
        type_use = first.item;
        behind = first.behind;
        split = first.split;
        resolved = first.others;
        unresolved = first.lacking;
        place = first.place;
      }
