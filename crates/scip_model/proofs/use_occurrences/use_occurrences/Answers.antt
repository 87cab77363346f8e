use Rattle.std.proofs.Common.{◌≡◌, ◌∙◌, ap, sym, refl, subst, Option, Some, List, [], ◌∷◌, ◌++◌}
use Rattle.std.proofs.Common.{◌+◌, length, map, take, arith}
use Rattle.std.specs.List.{AllZip, slice_get}
use Rattle.std.proofs.lemmas.List.{append-nil, append_assoc, take_all}
use Rattle.std.proofs.lemmas.Option.{slice_get_read}
use Rattle.proto_lex.specs.declared.span.Span.{Span}
use Rattle.proto_decl.specs.declared.uses.Use.{Use}
use Rattle.basics.proofs.FirstLemmas.{take_next}
use Rattle.proto_link.specs.declared.target.Target.{Target}
use Rattle.scip_records.specs.declared.records.Occurrence.{Occurrence}
use Rattle.scip_model.specs.Conditions.{IsFound}
use Rattle.scip_model.specs.Tables.Listing.{each_from, at_target, at_use, unless_found, unresolved_use_at}
use Rattle.scip_model.specs.Tables.Plans.{occurrence_of}
use Rattle.scip_model.proofs.TargetLemmas.{zip_more, zip_length, more_found}
use Rattle.scip_model.proofs.PlanLemmas.{grown_same, grown_then, own_then}
use Rattle.scip_model.proofs.use_occurrences.use_occurrences.Goals as goal

pub add_use-requires-clause-own : goal.add_use-requires-clause-own
add_use-requires-clause-own c =
    own_then c.args.maker.now.package.now.files c.args.maker.now.package.now.ids c.args.maker.now.source c.args.texts.now
    c.loop-type_use.texts c.requires.own c.loop-type_use.invariant.grown

pub add_use-requires-clause-nameable : goal.add_use-requires-clause-nameable
add_use-requires-clause-nameable c = λ found target is e. c.requires.nameable c.type_use-item.result found target is e

pub loop-type_use-init : goal.loop-type_use-init
loop-type_use-init c = record {
  grown = grown_same c.args.texts.now;
  so_far = (
    [],
    tt,
    λ around later more. ap (map (occurrence_of around later)) c.in_ok-list.ensures.items,
    sym (append-nil c.args.unresolved_uses.now.items),
  );
}

pub loop-type_use-preserved : goal.loop-type_use-preserved
loop-type_use-preserved c =
    let ids = c.args.maker.now.package.now.ids in
    let encoding = c.args.maker.now.encoding in
    let text = c.args.maker.now.text.now in
    let files = c.args.maker.now.package.now.files in
    let source = c.args.maker.now.source in
    let chosen = c.args.maker.now.choices.now in
    let uses = c.args.uses.now in
    let index = c.loop-type_use.type_use-index in
    let type_use = c.type_use-item.result in
    let so_far = c.loop-type_use.invariant.so_far in
    let found = so_far.0 in
    let added = c.in_ok-add_use.ensures.added in
    let more = found ++ added.0 ∷ [] in
    let front = take index uses in
    let at = at_target ids encoding text files chosen in
    let gap : Option Target → Use → List Span = λ its used. unless_found its used.span in
    let old = c.args.unresolved_uses.now.items in
    let there : slice_get uses index ≡ Some type_use =
    slice_get_read uses (length uses) index type_use refl c.loop-type_use-test.true c.type_use-item.is in
    let next : take (index + 1) uses ≡ front ++ type_use ∷ [] = take_next uses index type_use there in
    let size = zip_length (IsFound files source) front found so_far.1 in
    record {
      grown = grown_then c.args.texts.now c.loop-type_use.texts c.add_use.new.texts c.loop-type_use.invariant.grown
          c.in_ok-add_use.ensures.grown;
      so_far = (
        more,
        zip_more (IsFound files source) uses index type_use found added.0 there so_far.1 added.1,
        λ around later grown.
            added.2 around later grown
            ∙ (ap (λ (list : List Occurrence). list ++ at added.0 type_use)
            (so_far.2 around later (grown_then c.loop-type_use.texts c.add_use.new.texts later
            c.in_ok-add_use.ensures.grown grown))
            ∙ sym (ap (λ (its : List Use). each_from (at_use ids encoding text files chosen more) 0 its) next
            ∙ more_found at found added.0 front type_use size)),
        added.3
            ∙ (ap (λ (list : List Span). list ++ gap added.0 type_use) so_far.3
            ∙ (append_assoc old (each_from (unresolved_use_at found) 0 front) (gap added.0 type_use)
            ∙ ap (λ (list : List Span). old ++ list)
            (sym (ap (λ (its : List Use). each_from (unresolved_use_at more) 0 its) next
            ∙ more_found gap found added.0 front type_use size)))),
      );
    }

pub returns-clause-planned : goal.returns-clause-planned
returns-clause-planned c =
    let ids = c.args.maker.now.package.now.ids in
    let encoding = c.args.maker.now.encoding in
    let text = c.args.maker.now.text.now in
    let files = c.args.maker.now.package.now.files in
    let source = c.args.maker.now.source in
    let chosen = c.args.maker.now.choices.now in
    let uses = c.args.uses.now in
    let so_far = c.loop-type_use.invariant.so_far in
    let found = so_far.0 in
    let whole : take c.loop-type_use.type_use-index uses ≡ uses =
    take_all c.loop-type_use.type_use-index uses (omega (arith, c.loop-type_use-test.false)) in (
      found,
      subst (λ (its : List Use). AllZip (IsFound files source) its found) whole so_far.1,
      λ around later more.
          so_far.2 around later more
          ∙ ap (λ (its : List Use). each_from (at_use ids encoding text files chosen found) 0 its) whole,
      so_far.3 ∙ ap (λ (its : List Use). c.args.unresolved_uses.now.items
          ++ each_from (unresolved_use_at found) 0 its) whole,
    )
