-- Declared names and the components of the package's name begin at places of their own.
use Rattle.std.proofs.Common.{◌≡◌, ap, subst, ℕ, ◌<◌, ◌≤◌, Some, List, [], ◌∷◌, ◌++◌, arith, ⊎_elim}
use Rattle.std.specs.List.{Contains, slice_get}
use Rattle.std.proofs.lemmas.List.Elements.{Contains-append_left, Contains-append_right, Contains-append_cases}
use Rattle.std.proofs.lemmas.Option.{get_or_from_slice_get, slice_get_within}
use Rattle.basics.proofs.ListLemmas.{contains_map}
use Rattle.proto_lex.specs.Lexed.{AreInOrder}
use Rattle.proto_lex.specs.declared.span.Span.{Span}
use Rattle.proto_decl.specs.Facts.{Facts, NamesInOrder, PackageInOrder, component_spans, name_spans}
use Rattle.proto_decl.specs.declared.declaration.Declaration.{Declaration}
use Rattle.proto_decl.proofs.LayoutLineLemmas.{behind_place, ends_before}
use Rattle.scip_model.proofs.ListingDocumentLemmas.{order_right}
use Rattle.scip_model.proofs.MergeLemmas.{head_or_tail, not_in_none}

-- spans in order begin at the place or behind it,
from_place : (place : ℕ) (spans : List Span) → AreInOrder place spans → (b : Span) → Contains spans b → place ≤ b.start
from_place place [] order b h = absurd (not_in_none b h)
from_place place (x ∷ xs) order b h =
    ⊎_elim (λ same. subst (λ (s : Span). place ≤ s.start) same order.0)
    (λ later. omega (arith, order.0, order.1, from_place x.end xs order.2 b later))
    (head_or_tail b x xs h)

-- and those of a front before those behind it
front_first : (place : ℕ) (xs ys : List Span) → AreInOrder place (xs ++ ys) → (a b : Span) → Contains xs a
    → Contains ys b → a.start < b.start
front_first place [] ys order a b h k = absurd (not_in_none a h)
front_first place (x ∷ xs) ys order a b h k =
    let behind = from_place x.end (xs ++ ys) order.2 b (Contains-append_right xs ys b k) in
    ⊎_elim (λ same. subst (λ (s : Span). s.start < b.start) same (omega (arith, order.1, behind)))
    (λ later. front_first x.end xs ys order.2 a b later k) (head_or_tail a x xs h)

-- a declared name and a component of the package's name
pub package_apart : (facts : Facts) → PackageInOrder facts → (declared : Declaration) (span : Span)
    → Contains facts.declarations declared → Contains (component_spans facts.package_name) span
    → span.start ≡ declared.name.start → ⊥
package_apart facts p declared span h k e =
    let name : Declaration → Span = λ d. d.name in
    let components = component_spans facts.package_name in
    ⊎_elim
    (λ first. omega (
      arith,
      e,
      front_first 0 (name_spans p.before) (components ++ name_spans p.behind) p.in_order declared.name span
          (contains_map name p.before declared first) (Contains-append_left components (name_spans p.behind) span k),
    ))
    (λ last. omega (
      arith,
      e,
      front_first 0 components (name_spans p.behind)
          (order_right 0 (name_spans p.before) (components ++ name_spans p.behind) p.in_order) span declared.name k
          (contains_map name p.behind declared last),
    ))
    (Contains-append_cases p.before p.behind declared
    (subst (λ (ds : List Declaration). Contains ds declared) p.split h))

-- two declared names
module _ (ds : List Declaration) (order : NamesInOrder ds) where
  earlier : (i j : ℕ) (a b : Declaration) → slice_get ds i ≡ Some a → slice_get ds j ≡ Some b → i < j
      → a.name.start < b.name.start
  earlier i j a b at there less =
      let name : Declaration → Span = λ d. d.name in
      let before = ends_before name 0 i j a ds order less (slice_get_within ds j b there) in
      let whole = (behind_place name 0 i a ds order (slice_get_within ds i a at)).1 in
      let first = ap (λ (d : Declaration). d.name.start) (get_or_from_slice_get ds i a a at) in
      let second = ap (λ (d : Declaration). d.name.start) (get_or_from_slice_get ds j b a there) in
      omega (arith, before, whole, first, second)

  pub one_name : (i j : ℕ) (a b : Declaration) → slice_get ds i ≡ Some a → slice_get ds j ≡ Some b
      → a.name.start ≡ b.name.start → i ≡ j
  one_name i j a b at there same =
      let not_less : i < j → ⊥ = λ less. omega (arith, same, earlier i j a b at there less) in
      let not_more : j < i → ⊥ = λ less. omega (arith, same, earlier j i b a there at less) in
      omega (arith, not_less, not_more)
