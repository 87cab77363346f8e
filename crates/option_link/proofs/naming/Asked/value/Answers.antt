use Rattle.std.proofs.Common.{List, ℕ, length, ap, sym, ◌∙◌, subst, arith}
use Rattle.proto_decl.specs.Names.{IsAround}
use Rattle.option_link.specs.Found.{IsValueNamed, IsValueOf}
use Rattle.option_link.specs.declared.place.DeclaredPlace.{DeclaredPlace}
use Rattle.option_link.proofs.LoopLemmas.{found_as}
use Rattle.option_link.proofs.MemberLemmas.{filled_name}
use Rattle.option_link.proofs.ValueLemmas.{value_named_to}
use Rattle.option_link.proofs.naming.Asked.value.Goals as goal

pub returns-in-Some-scope_around : goal.returns-in-Some-scope_around
returns-in-Some-scope_around c =
    let files = c.args.self.files.names.now in
    let type = c.args.of in
    let word = c.args.word.now in
    let outer = c.in-Some.outer.now in
    let scope = c.in-Some-scope_around.scope.now in
    let around = subst (λ (n : List ℕ). IsAround n scope) (c.as_str.ensures.value ∙ c.in_ok-enum_name-in-Some.ensures)
    c.in-Some-scope_around.ensures.around in
    found_as c.value_named.result ((value : DeclaredPlace) → IsValueNamed files type.file outer scope word value → ⊥)
    ((value : DeclaredPlace) → IsValueOf files type word value → ⊥) (IsValueNamed files type.file outer scope word)
    (IsValueOf files type word)
    (λ none value x. none value (value_named_to files type word outer c.in-Some.ensures.stands scope around value x))
    (λ value x. record {
      outer = outer;
      of_enum = c.in-Some.ensures.stands;
      scope = scope;
      around = around;
      named = x;
    }) c.value_named.ensures

pub returns-in-Some : goal.returns-in-Some
returns-in-Some c =
    let files = c.args.self.files.names.now in
    let full = filled_name files c.linked.ensures.origins c.facts_are_filled.ensures.names c.args.of c.in-Some.outer.now
    c.in-Some.ensures.stands in
    absurd (omega (
      arith,
      full,
      ap length (sym (c.as_str.ensures.value ∙ c.in_ok-enum_name-in-Some.ensures) ∙
          c.in-None-scope_around.ensures.around),
    ))

pub returns : goal.returns
returns c = λ value x. c.in-None.ensures.stands x.outer x.of_enum
