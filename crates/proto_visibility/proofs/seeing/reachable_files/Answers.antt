use Rattle.std.proofs.Common.{◌≡◌, ◌↔◌, ◌<◌, All, List, ℕ, length, eqb, ap, sym, ◌∙◌, subst}
use Rattle.std.specs.List.{Contains, IsDistinct, filter}
use Rattle.proto_visibility.specs.Tables.Visits.{Found}
use Rattle.proto_visibility.specs.Files.{IsSource}
use Rattle.proto_visibility.specs.Tables.ImportTables.{is_present_at}
use Rattle.proto_visibility.specs.Tables.OptionTables.{IsBegunIn}
use Rattle.proto_visibility.proofs.SeeingReachableLemmas.{distinct_filter, source_within}
use Rattle.proto_visibility.proofs.ReachingLemmas.{ReachesFrom, all_reached, begun_inside, reachable_all}
use Rattle.proto_visibility.proofs.seeing.reachable_files.Goals as goal

pub present_among-requires : goal.present_among-requires
present_among-requires c =
    let files = c.in_ok-follow_from.ensures.files
    ∙ (c.in_ok-begin_sources.ensures.files
    ∙ (c.in_ok-reach.ensures.files ∙ ap (λ (f : Found). f.files) c.in_ok-search.ensures)) in
    subst (All (λ number. number < length c.args.files.now)) (sym c.found.ensures.value)
    (subst (λ n. All (λ number. number < n) c.follow_from.new.search.numbers) (files ∙ c.requires.table.one_each)
    c.found.ensures.below)

pub of-requires : goal.of-requires
of-requires c =
    let files = c.args.files.now in
    let numbers = c.follow_from.new.search.numbers in
    let are = subst (λ (xs : List ℕ). c.in_ok-present.present.items ≡ filter (is_present_at files) xs)
    c.found.ensures.value c.in_ok-present.ensures in
    subst (IsDistinct eqb) (sym (c.as_slice-2.ensures.value ∙ are))
    (distinct_filter (is_present_at files) numbers c.found.ensures.distinct)

pub reach-requires-clause-begun : goal.reach-requires-clause-begun
reach-requires-clause-begun c = λ number begun.
    begun_inside (IsSource c.args.files.now) c.args.files.now c.args.table.now c.args.options.now
    (source_within c.args.files.now) c.requires.table c.requires.options c.in_ok-linking.linking.items
    c.in_ok-linking.ensures number
    (subst (λ xs. IsBegunIn c.args.options.now xs number) c.as_slice.ensures.value begun)

pub returns : goal.returns
returns c = λ number.
    let found = all_reached (IsSource c.args.files.now) c.args.files.now c.args.table.now c.args.options.now
    (source_within c.args.files.now) c.requires.own c.requires.table c.requires.options
    c.in_ok-linking.linking.items c.reach.new.search.numbers c.begin_sources.new.search.numbers
    c.follow_from.new.search.numbers c.in_ok-linking.ensures
    (subst (λ (xs : List ℕ). ReachesFrom c.args.options.now xs c.args.table.now c.reach.new.search.numbers)
    c.as_slice.ensures.value c.in_ok-reach.ensures.reached) c.in_ok-begin_sources.ensures.begun
    c.in_ok-follow_from.ensures.led in
    let reachable = reachable_all c.args.files.now c.follow_from.new.search.numbers c.in_ok-present.present.items found
    (subst (λ (xs : List ℕ). c.in_ok-present.present.items ≡ filter (is_present_at c.args.files.now) xs)
    c.found.ensures.value c.in_ok-present.ensures) number in
    let same = subst (λ (xs : List ℕ). Contains c.in_ok-reachable.reachable number ↔ Contains xs number)
    c.as_slice-2.ensures.value (c.in_ok-reachable.ensures number) in (
      λ there. reachable.0 (same.0 there),
      λ is. same.1 (reachable.1 is),
    )
