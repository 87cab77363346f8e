use Rattle.std.proofs.Common.{◌∙◌, length, map, refl, sym, subst, MatchOption, Option}
use Rattle.std.proofs.lemmas.Option.{slice_get_read}
use Rattle.std.proofs.lemmas.Result.{on_ok_weaker}
use Rattle.std.specs.String.{string_bytes}
use denote.Ref.{Bor}
use Rattle.proto_decl.specs.Facts.{Facts}
use Rattle.proto_visibility.specs.Files.{HasFacts}
use Rattle.scip_model.specs.Packages.{names_at}
use Rattle.scip_model.specs.Tables.Repeats.{declarations_at}
use Rattle.scip_model.proofs.RepeatedLemmas.{taken-none, taken-same, nothing-declared, declared-are}
use Rattle.scip_model.proofs.RepeatedNameLemmas.{names-of, changed, unchanged}
use Rattle.scip_model.proofs.NamedLemmas.{given_facts}
use Rattle.scip_model.proofs.repeated.take_file.Goals as goal

pub returns-in-Some-clause-taken : goal.returns-in-Some-clause-taken
returns-in-Some-clause-taken c =
    let files = c.args.linker.now in
    let number = c.args.number in
    let items = c.args.repeated.now.items in
    let facts = c.in-Some.facts.now in
    let names = c.index_mut-names.result.now in
    let after = c.add_declarations.new.names in
    let known = given_facts files number c.facts_of.result c.in-Some.facts c.in-Some.is c.facts_of.ensures in
    let at = slice_get_read items (length items) number names refl c.requires.list c.index_mut-names.ensures.value in
    on_ok_weaker c.add_declarations.result
    (λ taken. record {
      taken = taken-same number c.declarations.result.now (declarations_at files number) c.args.holders.now
          c.add_declarations.new.holders (map string_bytes names.keys) (map string_bytes after.keys) _ _
          (c.declarations.ensures ∙ sym (declared-are files number facts known))
          (sym (names-of (λ its. map string_bytes its.keys) items number names at))
          (sym (changed (λ its. map string_bytes its.keys) items number after c.requires.list)) taken;
      others = λ other apart. unchanged (λ its. map string_bytes its.keys) items number after other apart;
    }) c.add_declarations.ensures

pub returns-in-None-clause-taken : goal.returns-in-None-clause-taken
returns-in-None-clause-taken c =
    let files = c.args.linker.now in
    let none = subst (λ (o : Option (Bor Facts)). MatchOption o
    ((facts : Facts) → HasFacts files c.args.number facts → ⊥) (λ facts. HasFacts files c.args.number facts.now))
    c.in-None.is c.facts_of.ensures in
    record {
      taken = taken-none c.args.number (declarations_at files c.args.number) c.args.holders.now
          (names_at (map (λ names. map string_bytes names.keys) c.args.repeated.now.items) c.args.number)
          (nothing-declared files c.args.number none);
      others = λ other apart. refl;
    }
