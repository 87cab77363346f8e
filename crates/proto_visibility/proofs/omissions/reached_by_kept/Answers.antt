use Rattle.std.proofs.Common.{◌≡◌, ◌↔◌, ◌<◌, All, List, ℕ, length, eqb, ap, sym, ◌∙◌, subst}
use Rattle.std.specs.List.{Contains, IsDistinct, filter}
use Rattle.proto_visibility.specs.Tables.Visits.{Found}
use Rattle.proto_visibility.specs.Tables.ImportTables.{is_other_at}
use Rattle.proto_visibility.specs.Tables.OptionTables.{IsBegunIn}
use Rattle.proto_visibility.specs.Tables.Passes.{IsKeptSource}
use Rattle.proto_visibility.proofs.SeeingReachableLemmas.{distinct_filter}
use Rattle.proto_visibility.proofs.ReachingLemmas.{ReachesFrom, all_reached, begun_inside}
use Rattle.proto_visibility.proofs.OmissionLemmas.{IsAmong, kept_linking, kept_source_within, reached_others}
use Rattle.proto_visibility.proofs.omissions.reached_by_kept.Goals as goal

pub others_among-requires : goal.others_among-requires
others_among-requires c =
    let files = c.in_ok-follow_from.ensures.files
    ∙ (c.in_ok-begin_kept.ensures.files
    ∙ (c.in_ok-reach.ensures.files ∙ ap (λ (f : Found). f.files) c.in_ok-search.ensures)) in
    subst (All (λ number. number < length c.args.files.now)) (sym c.found.ensures.value)
    (subst (λ n. All (λ number. number < n) c.follow_from.new.search.numbers) (files ∙ c.requires.table.one_each)
    c.found.ensures.below)

pub of-requires : goal.of-requires
of-requires c =
    let files = c.args.files.now in
    let numbers = c.follow_from.new.search.numbers in
    let are = subst (λ (xs : List ℕ). c.in_ok-others.others.items ≡ filter (is_other_at files) xs)
    c.found.ensures.value c.in_ok-others.ensures in
    subst (IsDistinct eqb) (sym (c.as_slice-3.ensures.value ∙ are))
    (distinct_filter (is_other_at files) numbers c.found.ensures.distinct)

pub reach-requires-clause-begun : goal.reach-requires-clause-begun
reach-requires-clause-begun c = λ number begun.
    let files = c.args.files.now in
    let omissions = c.args.omissions.now in
    let same = c.as_slice.ensures.value in
    begun_inside (IsKeptSource files omissions) files c.args.table.now c.args.options.now
    (kept_source_within files omissions) c.requires.table c.requires.options c.in_ok-kept.kept.items
    (kept_linking files omissions c.in_ok-linking.linking.items c.in_ok-kept.kept.items c.in_ok-linking.ensures
    (subst (λ (xs : List ℕ). IsAmong omissions xs c.in_ok-kept.kept.items) same c.in_ok-kept.ensures)) number
    (subst (λ (xs : List ℕ). IsBegunIn c.args.options.now xs number) c.as_slice-2.ensures.value begun)

pub returns : goal.returns
returns c = λ number.
    let files = c.args.files.now in
    let omissions = c.args.omissions.now in
    let linking = c.in_ok-linking.linking.items in
    let kept = c.in_ok-kept.kept.items in
    let found = all_reached (IsKeptSource files omissions) files c.args.table.now c.args.options.now
    (kept_source_within files omissions) c.requires.own c.requires.table c.requires.options kept
    c.reach.new.search.numbers c.begin_kept.new.search.numbers c.follow_from.new.search.numbers
    (kept_linking files omissions linking kept c.in_ok-linking.ensures
    (subst (λ (xs : List ℕ). IsAmong omissions xs kept) c.as_slice.ensures.value c.in_ok-kept.ensures))
    (subst (λ (xs : List ℕ). ReachesFrom c.args.options.now xs c.args.table.now c.reach.new.search.numbers)
    c.as_slice-2.ensures.value c.in_ok-reach.ensures.reached) c.in_ok-begin_kept.ensures.begun
    c.in_ok-follow_from.ensures.led in
    let all = reached_others files omissions c.follow_from.new.search.numbers c.in_ok-others.others.items found
    (subst (λ (xs : List ℕ). c.in_ok-others.others.items ≡ filter (is_other_at files) xs)
    c.found.ensures.value c.in_ok-others.ensures) number in
    let same = subst (λ (xs : List ℕ). Contains c.in_ok-row.row number ↔ Contains xs number)
    c.as_slice-3.ensures.value (c.in_ok-row.ensures number) in (
      λ there. all.0 (same.0 there),
      λ is. same.1 (all.1 is),
    )
