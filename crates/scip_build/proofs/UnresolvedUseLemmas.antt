-- The uses that name no type, of all sources.
use Rattle.std.proofs.Common.{◌≡◌, ◌∙◌, ◌⊎◌, inl, inr, ◌+◌, ℕ, zero, suc, List, [], ◌∷◌, map}
use Rattle.std.proofs.Common.{Some, refl, ap, sym, subst, arith}
use Rattle.std.specs.List.{Contains, slice_get}
use Rattle.std.proofs.lemmas.Option.{same_Some, none-some}
use Rattle.std.proofs.lemmas.List.Elements.{Contains-append_right, Contains-append_left, Contains-append_cases}
use Rattle.basics.proofs.ListLemmas.{contains_map, in_front, behind_it, in_nothing}
use Rattle.proto_lex.specs.declared.span.Span.{Span}
use Rattle.proto_decl.specs.Facts.{Facts}
use Rattle.proto_decl.specs.declared.uses.Use.{Use}
use Rattle.proto_link.specs.Targets.{IsUnresolved}
use Rattle.proto_visibility.specs.Files.{File, HasFacts, IsSource}
use Rattle.proto_visibility.proofs.FileFactLemmas.{one_list_of_facts}
use Rattle.scip_model.specs.Conditions.{IsResolved, ListsUnresolved, AreUnresolvedUses}
use Rattle.scip_model.specs.Conditions.ListsUnresolved.{at_end, has, lacks}
use Rattle.scip_build.specs.declared.made.MadeDocument.{MadeDocument}
use Rattle.scip_build.specs.Documents.{IsUnresolvedAt}
use Rattle.scip_build.specs.Made.{place_in, told_from}
use Rattle.basics.proofs.StrictOrderLemmas.{in_either}
use Rattle.source_tree.proofs.TreeLemmas.{mapped_from}

-- ---- of one source

-- one that lacks something, at this place
pub record IsListedUnresolved {X : Type 0} (Lacks : X → Type 0) (span_of : X → Span) (xs : List X)
    (span : Span) : Type 0 where
  pub item : X
  pub listed : Contains xs item
  pub lacking : Lacks item
  pub stands : span_of item ≡ span

module _ {X : Type 0} (Has Lacks : X → Type 0) (span_of : X → Span) where
  pub decided : (xs : List X) (spans : List Span) → ListsUnresolved Has Lacks span_of xs spans → (x : X) → Contains xs x
      → Has x ⊎ Lacks x
  decided _ _ at_end y there = absurd (in_nothing y there)
  decided _ _ (has {x = x} {xs = xs} {spans = spans} h more) y there = elim (in_either x xs y there) [
    | inl here ↦ inl (subst Has here h)
    | inr rest ↦ decided xs spans more y rest
  ]
  decided _ _ (lacks {x = x} {xs = xs} {spans = spans} h more) y there = elim (in_either x xs y there) [
    | inl here ↦ inr (subst Lacks here h)
    | inr rest ↦ decided xs spans more y rest
  ]

  later : (x : X) (xs : List X) (span : Span) → IsListedUnresolved Lacks span_of xs span
      → IsListedUnresolved Lacks span_of (x ∷ xs) span
  later x xs span is = record {
    item = is.item;
    listed = behind_it x xs is.item is.listed;
    lacking = is.lacking;
    stands = is.stands;
  }

  pub listed_unresolved : (xs : List X) (spans : List Span) → ListsUnresolved Has Lacks span_of xs spans → (span : Span)
      → Contains spans span → IsListedUnresolved Lacks span_of xs span
  listed_unresolved _ _ at_end span there = absurd (in_nothing span there)
  listed_unresolved _ _ (has {x = x} {xs = xs} {spans = spans} h more) span there =
      later x xs span (listed_unresolved xs spans more span there)
  listed_unresolved _ _ (lacks {x = x} {xs = xs} {spans = spans} h more) span there =
      elim (in_either (span_of x) spans span there) [
        | inl here ↦ record { item = x; listed = in_front x xs; lacking = h; stands = here }
        | inr rest ↦ later x xs span (listed_unresolved xs spans more span rest)
      ]

  pub listed_at : ((x : X) → Has x → Lacks x → ⊥) → (xs : List X) (spans : List Span)
      → ListsUnresolved Has Lacks span_of xs spans → (x : X) → Contains xs x → Lacks x → Contains spans (span_of x)
  listed_at apart _ _ at_end y there lacking = absurd (in_nothing y there)
  listed_at apart _ _ (has {x = x} {xs = xs} {spans = spans} h more) y there lacking = elim (in_either x xs y there) [
    | inl here ↦ absurd (apart y (subst Has here h) lacking)
    | inr rest ↦ listed_at apart xs spans more y rest lacking
  ]
  listed_at apart _ _ (lacks {x = x} {xs = xs} {spans = spans} h more) y there lacking =
      elim (in_either x xs y there) [
        | inl here ↦ subst (λ z. Contains (span_of x ∷ spans) (span_of z)) here (in_front (span_of x) spans)
        | inr rest ↦ behind_it (span_of x) spans (span_of y) (listed_at apart xs spans more y rest lacking)
      ]

module _ (files : List File) (source : ℕ) (spans : List Span)
    (unresolved_uses : AreUnresolvedUses files source spans) where
  abbrev span_of_use : Use → Span
  span_of_use type_use = type_use.span

  listed_in : (facts : Facts) (type_use : Use) → HasFacts files source facts → Contains facts.uses type_use
      → Contains unresolved_uses.facts.uses type_use
  listed_in facts type_use known listed =
      subst (λ (f : Facts). Contains f.uses type_use)
      (one_list_of_facts files source facts unresolved_uses.facts known unresolved_uses.known) listed

  pub use_decided : (facts : Facts) (type_use : Use) → HasFacts files source facts → Contains facts.uses type_use
      → IsResolved files source type_use ⊎ IsUnresolved files source type_use
  use_decided facts type_use known listed =
      decided (IsResolved files source) (IsUnresolved files source) span_of_use unresolved_uses.facts.uses spans
      unresolved_uses.uses_are
      type_use (listed_in facts type_use known listed)

  pub unresolved_at : IsSource files source → (span : Span) → Contains spans span
      → IsUnresolvedAt files (place_in source span)
  unresolved_at is span there =
      let of = listed_unresolved (IsResolved files source) (IsUnresolved files source) span_of_use
      unresolved_uses.facts.uses spans
      unresolved_uses.uses_are span there in
      record {
        source = is;
        facts = unresolved_uses.facts;
        known = unresolved_uses.known;
        type_use = of.item;
        listed = of.listed;
        stands = of.stands;
        unresolved = of.lacking;
      }

  pub unresolved_listed : (facts : Facts) (type_use : Use) → HasFacts files source facts → Contains facts.uses type_use
      → IsUnresolved files source type_use → Contains spans type_use.span
  unresolved_listed facts type_use known listed unresolved =
      listed_at (IsResolved files source) (IsUnresolved files source) span_of_use
      (λ u resolved un. un resolved.0 resolved.1 resolved.2) unresolved_uses.facts.uses spans unresolved_uses.uses_are
      type_use (listed_in facts type_use known listed) unresolved

-- ---- of all

-- it is told of one of these, in the source with this number
pub record IsToldOf {Out X Y : Type 0} (told_in : ℕ → X → Y) (told_of : MadeDocument Out → List X)
    (made : List (MadeDocument Out)) (first : ℕ) (told : Y) : Type 0 where
  pub number : ℕ
  pub document : MadeDocument Out
  pub numbered : slice_get made number ≡ Some document
  pub item : X
  pub listed : Contains (told_of document) item
  pub is : told_in (first + number) item ≡ told

module _ {Out X Y : Type 0} (told_in : ℕ → X → Y) (told_of : MadeDocument Out → List X) where
  pub told_at : (first : ℕ) (made : List (MadeDocument Out)) (told : Y)
      → Contains (told_from told_in told_of first made) told → IsToldOf told_in told_of made first told
  told_at first [] told there = absurd (in_nothing told there)
  told_at first (m ∷ ms) told there =
      elim (Contains-append_cases (map (told_in first) (told_of m)) (told_from told_in told_of (first + 1) ms) told
      there) [
        | inl here ↦ (
            let of = mapped_from (told_in first) (told_of m) told here in
            let zeroth : first + 0 ≡ first = omega arith in
            record {
              number = zero;
              document = m;
              numbered = refl;
              item = of.0;
              listed = of.1;
              is = ap (λ (n : ℕ). told_in n of.0) zeroth ∙ of.2;
            })
        | inr more ↦ (
            let of = told_at (first + 1) ms told more in
            let next : first + suc of.number ≡ first + 1 + of.number = omega arith in
            record {
              number = suc of.number;
              document = of.document;
              numbered = of.numbered;
              item = of.item;
              listed = of.listed;
              is = ap (λ (n : ℕ). told_in n of.item) next ∙ of.is;
            })
      ]

  pub listed_from : (first : ℕ) (made : List (MadeDocument Out)) (number : ℕ) (document : MadeDocument Out)
      → slice_get made number ≡ Some document → (item : X) → Contains (told_of document) item
      → Contains (told_from told_in told_of first made) (told_in (first + number) item)
  listed_from first [] number document at item there = absurd (none-some document at)
  listed_from first (m ∷ ms) zero document at item there =
      let here : Contains (told_of m) item =
      subst (λ (d : MadeDocument Out). Contains (told_of d) item) (sym (same_Some m document at)) there in
      let zeroth : first ≡ first + 0 = omega arith in
      subst (λ (n : ℕ). Contains (told_from told_in told_of first (m ∷ ms)) (told_in n item)) zeroth
      (Contains-append_left (map (told_in first) (told_of m)) (told_from told_in told_of (first + 1) ms)
      (told_in first item)
      (contains_map (told_in first) (told_of m) item here))
  listed_from first (m ∷ ms) (suc number) document at item there =
      let next : first + 1 + number ≡ first + suc number = omega arith in
      subst (λ (n : ℕ). Contains (told_from told_in told_of first (m ∷ ms)) (told_in n item)) next
      (Contains-append_right (map (told_in first) (told_of m)) (told_from told_in told_of (first + 1) ms)
      (told_in (first + 1 + number) item)
      (listed_from (first + 1) ms number document at item there))

  pub none_from : (first : ℕ) (made : List (MadeDocument Out))
      → ((number : ℕ) (document : MadeDocument Out) → slice_get made number ≡ Some document
      → told_of document ≡ []) → told_from told_in told_of first made ≡ []
  none_from first [] none = refl
  none_from first (m ∷ ms) none =
      rw (none zero m refl) (none_from (first + 1) ms (λ number document at. none (suc number) document at))
