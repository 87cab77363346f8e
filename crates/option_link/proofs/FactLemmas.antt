-- Fields that start one behind the other, by a test of each and the next.
use Rattle.std.proofs.Common.{◌≡◌, ◌↔◌, ◌+◌, ◌<◌, Bool, true, false, ltb, List, length, map, IsTrue}
use Rattle.std.proofs.Common.{None, refl, sym, arith}
use Rattle.std.specs.List.{IsAllAdjacentAnswer}
use Rattle.std.specs.List.Sorted.{IsStrictlyIncreasing}
use Rattle.std.proofs.lemmas.Bool.{false≢true, ltb-true, ltb-false}
use Rattle.std.proofs.lemmas.List.{get_or-map, length-map}
use Rattle.proto_options.specs.declared.fields.FieldFact.{FieldFact}
use Rattle.proto_options.specs.declared.fields.FieldKind.TheVariants as kinds
use Rattle.option_link.specs.declared.facts.OptionFacts.{OptionFacts}
use Rattle.option_link.specs.Tables.{field_start}

-- what is read behind the end of a list
no_field : FieldFact
no_field = record { name = record { start = 0; end = 0 }; extended = None; kind = kinds.Scalar }

abbrev pub starts_before : FieldFact → FieldFact → Bool
starts_before one next = ltb (field_start one) (field_start next)

abbrev pub Rise : List FieldFact → Type 0
Rise fields = IsStrictlyIncreasing (map field_start fields)

pub rises_by : (fields : List FieldFact) (result : Bool)
    → IsAllAdjacentAnswer (λ x y b. b ≡ starts_before x y) fields result → IsTrue result ↔ Rise fields
rises_by fields true all = (
  λ t k within. (
      let size = length-map fields field_start in
      let next : k + 1 < length fields = omega (arith, within, size) in
      omega (
        arith,
        get_or-map field_start fields k no_field 0 (omega (arith, next)),
        get_or-map field_start fields (k + 1) no_field 0 next,
        ltb-true _ _ (sym (all k no_field next)),
      )
      ),
  λ rises. refl,
)
rises_by fields false fall = (
  λ t. absurd (false≢true t),
  λ rises. (
      let size = length-map fields field_start in
      let next : fall.0 + 1 < length fields = fall.1 in
      absurd (omega (
        arith,
        get_or-map field_start fields fall.0 no_field 0 (omega (arith, next)),
        get_or-map field_start fields (fall.0 + 1) no_field 0 next,
        ltb-false _ _ (sym (fall.2 no_field)),
        rises fall.0 (omega (arith, next, size)),
      ))
      ),
)

abbrev pub RiseBeside : OptionFacts → Type 0
RiseBeside beside = Rise beside.fields
