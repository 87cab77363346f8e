use Rattle.std.proofs.Common.{◌≡◌, ◌↔◌, ◌++◌, ◌∙◌, ℕ, length, subst, arith}
use Rattle.std.specs.List.{Contains}
use Rattle.proto_visibility.specs.Files.{IsSource}
use Rattle.proto_visibility.specs.Kept.{Omissions, IsCounted}
use Rattle.proto_visibility.proofs.SeeingReachableLemmas.{source_within}
use Rattle.proto_visibility.proofs.OmissionLemmas.{counted_within}
use Rattle.proto_visibility.proofs.OmissionPassLemmas.{are_omissions, first_pass, second_pass}
use Rattle.proto_visibility.proofs.omissions.left_out_of_all.Goals as goal

pub omit_unread-requires-clause-within : goal.omit_unread-requires-clause-within
omit_unread-requires-clause-within c =
    λ number there. source_within c.args.files.now number ((c.in_ok-sources.ensures number).0 there)

pub all_items-requires-clause-within : goal.all_items-requires-clause-within
all_items-requires-clause-within c =
    λ number there. source_within c.args.files.now number ((c.in_ok-sources.ensures number).0 there)

pub omit_unread-requires-2-clause-one_each : goal.omit_unread-requires-2-clause-one_each
omit_unread-requires-2-clause-one_each c =
    let pass = first_pass c.args.files.now c.in_ok-sources.sources c.in_ok-items.items.items
    c.omit_unread.new.omissions.items c.omit_clashes.new.omissions.items c.new-names.result c.omit_clashes.new.names
    c.in_ok-sources.ensures c.in_ok-items.ensures.items c.in_ok-items.ensures.order c.new-names.ensures.empty
    c.as_slice-2.result.now c.as_slice-2.ensures.value c.in_ok-omit_clashes.ensures in
    pass.size ∙ (c.omit_unread.ensures.size ∙ c.in_ok-omissions.ensures.size)

pub omit_unread-requires-2-clause-within : goal.omit_unread-requires-2-clause-within
omit_unread-requires-2-clause-within c =
    λ number there. counted_within c.args.files.now c.as_slice-6.result.now number
    ((c.in_ok-others.ensures number).0 there).0

pub all_items-requires-2-clause-within : goal.all_items-requires-2-clause-within
all_items-requires-2-clause-within c =
    λ number there. counted_within c.args.files.now c.as_slice-6.result.now number
    ((c.in_ok-others.ensures number).0 there).0

pub returns : goal.returns
returns c =
    let files = c.args.files.now in
    let sources = c.in_ok-sources.sources in
    let others = c.in_ok-others.others in
    let items = c.in_ok-items.items.items in
    let more = c.in_ok-more.more.items in
    let none = c.in_ok-omissions.omissions.items in
    let start = c.omit_unread.new.omissions.items in
    let passed = c.omit_clashes.new.omissions.items in
    let open_ = c.omit_unread-2.new.omissions.items in
    let omissions = c.omit_clashes-2.new.omissions.items in
    let names = c.omit_clashes.new.names in
    let pass = first_pass files sources items start passed c.new-names.result names c.in_ok-sources.ensures
    c.in_ok-items.ensures.items c.in_ok-items.ensures.order c.new-names.ensures.empty c.as_slice-2.result.now
    c.as_slice-2.ensures.value c.in_ok-omit_clashes.ensures in
    let passed_count : c.len-passed.result ≡ length items =
    omega (arith, c.len-passed.ensures, c.in_ok-items.items.ok.0) in
    let both = c.as_slice-8.ensures.value ∙ c.in_ok-append.ensures.items in
    let counted = subst (λ (os : Omissions). (number : ℕ) → Contains others number
    ↔ (IsCounted files os number × (IsSource files number → ⊥))) c.as_slice-6.ensures.value c.in_ok-others.ensures in
    are_omissions files sources others items more none start passed open_ omissions names c.omit_clashes-2.new.names
    c.in_ok-sources.ensures c.in_ok-omissions.ensures.size c.in_ok-omissions.ensures.none
    c.omit_unread.ensures c.in_ok-items.ensures.items c.in_ok-items.ensures.order pass counted c.omit_unread-2.ensures
    c.in_ok-more.ensures.items c.in_ok-more.ensures.order
    (second_pass files (items ++ more) c.as_slice-8.result.now c.len-passed.result (length items) open_ omissions names
    c.omit_clashes-2.new.names both passed_count c.in_ok-omit_clashes-2.ensures)
