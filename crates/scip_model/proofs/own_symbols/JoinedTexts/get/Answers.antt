use Rattle.std.proofs.Common.{◌≡◌, ◌<◌, ◌∙◌, List, ℕ, Some, None, ap, sym, subst, length, arith, get_or, slice_range}
use Rattle.std.specs.List.{slice_get}
use Rattle.std.specs.String.{string_bytes}
use Rattle.std.specs.Str.{IsCharBoundary}
use Rattle.std.proofs.lemmas.List.{get_or_default}
use Rattle.std.proofs.lemmas.Option.{slice_get_past}
use Rattle.scip_model.specs.Tables.OwnTexts.{parts_from, start_of}
use Rattle.scip_model.proofs.OwnTextJoinedLemmas.{parts_count, part_is, cuts_there, begins_there}
use Rattle.scip_model.proofs.own_symbols.JoinedTexts.get.Goals as goal

pub returns-then-index-len : goal.returns-then-index-len
returns-then-index-len c =
    let text = string_bytes c.self.inside.joined in
    let ends = c.self.inside.ends.items in
    subst (λ (parts : List (List ℕ)). slice_get parts c.args.index ≡ None) c.self.view_is
    (slice_get_past (parts_from text 0 ends) c.args.index
    (omega (arith, parts_count text 0 ends, c.len.ensures, c.self.inside.ends.ok.0, c.if-index-len.true)))

pub range-requires-clause-start_le_end : goal.range-requires-clause-start_le_end
range-requires-clause-start_le_end c =
    let text = string_bytes c.self.inside.joined in
    let ends = c.self.inside.ends.items in
    let index = c.args.index in
    let within : index < length ends = omega (arith, c.len.ensures, c.self.inside.ends.ok.0, c.if-index-len.false) in
    let start : c.start_of-start.result ≡ start_of 0 ends index =
    c.start_of-start.ensures ∙ ap (λ (its : List ℕ). start_of 0 its index) c.as_slice.ensures.value in
    let end : c.index-end.result.now ≡ get_or ends index 0 =
    c.index-end.ensures ∙ get_or_default ends index c.index-end.result.now 0 within in
    omega (arith, start, end, (cuts_there text 0 ends index c.self.invariant within).0)

pub range-requires-clause-start_boundary : goal.range-requires-clause-start_boundary
range-requires-clause-start_boundary c = λ some.
    let text = string_bytes c.self.inside.joined in
    let ends = c.self.inside.ends.items in
    let index = c.args.index in
    let within : index < length ends = omega (arith, c.len.ensures, c.self.inside.ends.ok.0, c.if-index-len.false) in
    let start : c.start_of-start.result ≡ start_of 0 ends index =
    c.start_of-start.ensures ∙ ap (λ (its : List ℕ). start_of 0 its index) c.as_slice.ensures.value in
    subst (λ (bytes : List ℕ). IsCharBoundary bytes c.start_of-start.result) (sym c.as_str.ensures.value)
    (subst (λ (at : ℕ). IsCharBoundary text at) (sym start)
    (begins_there text ends index c.self.invariant within (omega (arith, start, some))))

pub range-requires-clause-end_boundary : goal.range-requires-clause-end_boundary
range-requires-clause-end_boundary c =
    let text = string_bytes c.self.inside.joined in
    let ends = c.self.inside.ends.items in
    let index = c.args.index in
    let within : index < length ends = omega (arith, c.len.ensures, c.self.inside.ends.ok.0, c.if-index-len.false) in
    let end : c.index-end.result.now ≡ get_or ends index 0 =
    c.index-end.ensures ∙ get_or_default ends index c.index-end.result.now 0 within in
    subst (λ (bytes : List ℕ). IsCharBoundary bytes c.index-end.result.now) (sym c.as_str.ensures.value)
    (subst (λ (at : ℕ). IsCharBoundary text at) (sym end)
    (cuts_there text 0 ends index c.self.invariant within).1)

pub returns : goal.returns
returns c =
    let text = string_bytes c.self.inside.joined in
    let ends = c.self.inside.ends.items in
    let index = c.args.index in
    let within : index < length ends = omega (arith, c.len.ensures, c.self.inside.ends.ok.0, c.if-index-len.false) in
    let start : c.start_of-start.result ≡ start_of 0 ends index =
    c.start_of-start.ensures ∙ ap (λ (its : List ℕ). start_of 0 its index) c.as_slice.ensures.value in
    let end : c.index-end.result.now ≡ get_or ends index 0 =
    c.index-end.ensures ∙ get_or_default ends index c.index-end.result.now 0 within in
    let part : c.range.result.now ≡ slice_range text (start_of 0 ends index) (get_or ends index 0) =
    c.range.ensures.value
    ∙ (ap (λ (bytes : List ℕ). slice_range bytes c.start_of-start.result c.index-end.result.now) c.as_str.ensures.value
    ∙ (ap (λ (at : ℕ). slice_range text at c.index-end.result.now) start
    ∙ ap (λ (at : ℕ). slice_range text (start_of 0 ends index) at) end)) in
    subst (λ (parts : List (List ℕ)). slice_get parts index ≡ Some c.range.result.now) c.self.view_is
    (part_is text 0 ends index within ∙ ap Some (sym part))
