-- Where the first components of uses start, these rise: so there is one use at a start.
use Rattle.std.proofs.Common.{◌≡◌, inl, inr, ℕ, zero, suc, ◌<◌, List, [], ◌∷◌, length}
use Rattle.std.proofs.Common.{refl, ap, sym, subst, arith}
use Rattle.std.specs.List.{Contains}
use Rattle.std.proofs.lemmas.Option.{same_Some, slice_get_within}
use Rattle.std.proofs.lemmas.List.Elements.{All-head, All-tail, All-contains, Contains-append_left}
use Rattle.std.proofs.lemmas.List.Elements.{Contains-append_right, Contains-append_cases}
use Rattle.basics.proofs.FirstLemmas.{contained}
use Rattle.basics.proofs.ListLemmas.{in_front, only}
use Rattle.proto_lex.specs.declared.span.Span.{Span}
use Rattle.proto_lex.specs.Lexed.{AreInOrder}
use Rattle.proto_decl.specs.Imports.{start_of}
use Rattle.proto_decl.specs.Facts.{Facts, UsesAreFilled, UsesInOrder, component_spans, use_spans}
use Rattle.proto_decl.specs.declared.uses.Component.{Component}
use Rattle.proto_decl.specs.declared.uses.Use.{Use}
use Rattle.proto_visibility.specs.Files.{File, HasFacts}
use Rattle.proto_visibility.proofs.FileFactLemmas.{one_list_of_facts}
use Rattle.option_link.specs.Tables.{IsUseAt, KeysRise, use_start}
use Rattle.option_link.proofs.KeyLemmas.{one_by_key}
use Rattle.option_link.proofs.SpanLemmas.{in_order, later}

-- ---- components

first_of : (components : List Component) → 0 < length components
    → (s : Span) × Contains (component_spans components) s × (start_of (component_spans components) ≡ s.start)
first_of [] some = absurd (omega (arith, some))
first_of (component ∷ others) some = (component.span, in_front component.span (component_spans others), refl)

in_uses : (uses : List Use) (used : Use) (span : Span) → Contains uses used
    → Contains (component_spans used.components) span → Contains (use_spans uses) span
in_uses [] used span there its = absurd (omega (arith, there.1))
in_uses (first ∷ uses) used span there its = elim (Contains-append_cases (first ∷ []) uses used there) [
  | inl one ↦ Contains-append_left (component_spans first.components) (use_spans uses) span
      (subst (λ (u : Use). Contains (component_spans u.components) span) (sym (only first used one)) its)
  | inr other ↦ Contains-append_right (component_spans first.components) (use_spans uses) span
      (in_uses uses used span other its)
]

uses_rise_from : (place : ℕ) (uses : List Use) → AreInOrder place (use_spans uses) → UsesAreFilled uses
    → KeysRise use_start uses
uses_rise_from place [] order filled i j a b less at there =
    absurd (omega (arith, slice_get_within {A = Use} [] i a at))
uses_rise_from place (used ∷ uses) order filled i zero a b less at there = absurd (omega (arith, less))
uses_rise_from place (used ∷ uses) order filled zero (suc j) a b less at there =
    let Filled : Use → Type 0 = λ u. 0 < length u.components in
    let listed = contained uses j b there in
    let first = first_of used.components (All-head Filled used uses filled) in
    let other = first_of b.components (All-contains Filled uses b (All-tail Filled used uses filled) listed) in
    omega (
      arith,
      in_order place (component_spans used.components) (use_spans uses) first.0 other.0 order first.1
          (in_uses uses b other.0 listed other.1),
      first.2,
      other.2,
      ap use_start (same_Some used a at),
    )
uses_rise_from place (used ∷ uses) order filled (suc i) (suc j) a b less at there =
    let rest = later place (component_spans used.components) (use_spans uses) order in
    uses_rise_from rest.0 uses rest.1 (All-tail (λ (u : Use). 0 < length u.components) used uses filled) i j a b
    (omega (arith, less)) at there

pub uses_rise : (uses : List Use) → UsesInOrder uses → UsesAreFilled uses → KeysRise use_start uses
uses_rise uses order filled = uses_rise_from 0 uses order filled

pub one_use : (uses : List Use) → UsesInOrder uses → UsesAreFilled uses → (a b : Use) → Contains uses a
    → Contains uses b → use_start a ≡ use_start b → a ≡ b
one_use uses order filled = one_by_key use_start uses (uses_rise uses order filled)

-- ---- the use of a file at a start

module _ (files : List File) (file start : ℕ) (facts : Facts) (known : HasFacts files file facts) (uses : List Use)
    (are : uses ≡ facts.uses) where
  pub use_from : (used : Use) → Contains uses used × (use_start used ≡ start) → IsUseAt files file start used
  use_from used its = record {
    facts = facts;
    known = known;
    listed = subst (λ (us : List Use). Contains us used) are its.0;
    starts = its.1;
  }

  pub use_to : (used : Use) → IsUseAt files file start used → Contains uses used × (use_start used ≡ start)
  use_to used at =
      let same = one_list_of_facts files file at.facts facts at.known known in (
        subst (λ (us : List Use). Contains us used) (sym are)
            (subst (λ (f : Facts). Contains f.uses used) same at.listed),
        at.starts,
      )
