use Rattle.std.proofs.Common.{◌≡◌, sym, subst}
use Rattle.std.specs.List.{Contains}
use Rattle.proto_decl.specs.declared.uses.Use.{Use}
use Rattle.option_link.specs.Tables.{IsUseAt, KeysRise, use_start}
use Rattle.option_link.proofs.LoopLemmas.{option_as}
use Rattle.option_link.proofs.UseLemmas.{uses_rise, use_from, use_to}
use Rattle.option_link.proofs.searches.use_at.Goals as goal

pub use_among-requires : goal.use_among-requires
use_among-requires c =
    let facts = c.in-Some.facts.now in
    let origin = c.linked.ensures.origins c.args.file facts c.in-Some.ensures in
    subst (KeysRise use_start) (sym c.uses.ensures)
    (uses_rise facts.uses (c.facts_in_order.ensures.uses facts origin) (c.facts_are_filled.ensures.uses facts origin))

pub returns-in-Some : goal.returns-in-Some
returns-in-Some c =
    let files = c.args.linker.now in
    let file = c.args.file in
    let start = c.args.start in
    let facts = c.in-Some.facts.now in
    let uses = c.uses.result.now in
    option_as c.use_among.result ((used : Use) → Contains uses used → use_start used ≡ start → ⊥)
    ((used : Use) → IsUseAt files file start used → ⊥)
    (λ used. Contains uses used.now × (use_start used.now ≡ start)) (λ used. IsUseAt files file start used.now)
    (λ none used at. (let its = use_to files file start facts c.in-Some.ensures uses c.uses.ensures used at in
    none used its.0 its.1))
    (λ used its. use_from files file start facts c.in-Some.ensures uses c.uses.ensures used.now its)
    c.use_among.ensures

pub returns-in-None : goal.returns-in-None
returns-in-None c = λ used at. c.in-None.ensures at.facts at.known
