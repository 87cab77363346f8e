use Rattle.std.proofs.Common.{◌≡◌, ◌↔◌, ◌<◌, ℕ, inl, inr, get_or, take, refl, ap, sym, ◌∙◌, subst, arith}
use Rattle.std.specs.List.{Contains}
use Rattle.std.proofs.lemmas.List.{take_all}
use Rattle.std.proofs.lemmas.List.Elements.{Contains-get_or}
use Rattle.proto_visibility.specs.Tables.OptionTables.{IsBegunIn}
use Rattle.proto_visibility.specs.Tables.Visits.{Found}
use Rattle.proto_visibility.proofs.ReachingLemmas.{linking_none, linking_next}
use Rattle.proto_visibility.proofs.reaching.begin_linking.Goals as goal

pub loop-source-init : goal.loop-source-init
loop-source-init c = record {
  files = refl;
  begun = linking_none c.args.options.now c.args.search.now.numbers c.requires.none;
}

pub visit-requires : goal.visit-requires
visit-requires c =
    let sources = c.args.sources.now in
    let source = get_or sources c.loop-source.source-index 0 in
    subst (λ n. source < n) (sym c.loop-source.invariant.files)
    (c.requires.begun source (source, Contains-get_or sources c.loop-source.source-index 0 (omega arith), inl refl))

pub visit_options-requires : goal.visit_options-requires
visit_options-requires c = λ number at.
    let sources = c.args.sources.now in
    let source = get_or sources c.loop-source.source-index 0 in
    subst (λ n. number < n)
    (sym (ap (λ (f : Found). f.files) c.in_ok-visit.ensures ∙ c.loop-source.invariant.files))
    (c.requires.begun number (source, Contains-get_or sources c.loop-source.source-index 0 (omega arith), inr at))

pub loop-source-preserved : goal.loop-source-preserved
loop-source-preserved c = record {
  files = c.in_ok-visit_options.ensures.files
      ∙ (ap (λ (f : Found). f.files) c.in_ok-visit.ensures ∙ c.loop-source.invariant.files);
  begun = linking_next c.args.options.now c.args.sources.now c.loop-source.source-index
      c.loop-source.search.numbers c.visit.new.self.numbers c.visit_options.new.search.numbers (omega arith)
      (ap (λ (f : Found). f.numbers) c.in_ok-visit.ensures) c.in_ok-visit_options.ensures.found
      c.loop-source.invariant.begun;
}

pub returns-clause-begun : goal.returns-clause-begun
returns-clause-begun c =
    let sources = c.args.sources.now in
    let all : take c.loop-source.source-index sources ≡ sources = take_all c.loop-source.source-index sources (omega arith) in
    subst (λ xs. (number : ℕ) → Contains c.loop-source.search.numbers number ↔ IsBegunIn c.args.options.now xs number)
    all c.loop-source.invariant.begun
