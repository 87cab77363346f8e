use Rattle.std.proofs.Common.{◌↔◌, ◌∙◌, ℕ, subst}
use Rattle.std.specs.List.{Contains}
use Rattle.proto_visibility.specs.Files.{IsSource}
use Rattle.proto_visibility.specs.Kept.{Omissions, IsCounted}
use Rattle.proto_visibility.proofs.SeeingReachableLemmas.{source_within}
use Rattle.proto_visibility.proofs.OmissionLemmas.{counted_within}
use Rattle.proto_visibility.proofs.OmissionOwnLemmas.{are_own_omissions}
use Rattle.proto_visibility.proofs.omissions.left_out_by_file.Goals as goal

pub omit_unread-requires-clause-within : goal.omit_unread-requires-clause-within
omit_unread-requires-clause-within c =
    λ number there. source_within c.args.files.now number ((c.in_ok-sources.ensures number).0 there)

pub omit_own_clashes-requires-clause-one_each : goal.omit_own_clashes-requires-clause-one_each
omit_own_clashes-requires-clause-one_each c = c.omit_unread.ensures.size ∙ c.in_ok-omissions.ensures.size

pub omit_own_clashes-requires-clause-within : goal.omit_own_clashes-requires-clause-within
omit_own_clashes-requires-clause-within c =
    λ number there. source_within c.args.files.now number ((c.in_ok-sources.ensures number).0 there)

pub omit_unread-requires-2-clause-one_each : goal.omit_unread-requires-2-clause-one_each
omit_unread-requires-2-clause-one_each c =
    c.in_ok-omit_own_clashes.ensures.size ∙ (c.omit_unread.ensures.size ∙ c.in_ok-omissions.ensures.size)

pub omit_unread-requires-2-clause-within : goal.omit_unread-requires-2-clause-within
omit_unread-requires-2-clause-within c =
    λ number there. counted_within c.args.files.now c.as_slice-5.result.now number
    ((c.in_ok-others.ensures number).0 there).0

pub omit_own_clashes-requires-2-clause-one_each : goal.omit_own_clashes-requires-2-clause-one_each
omit_own_clashes-requires-2-clause-one_each c =
    c.omit_unread-2.ensures.size ∙ (c.in_ok-omit_own_clashes.ensures.size
    ∙ (c.omit_unread.ensures.size ∙ c.in_ok-omissions.ensures.size))

pub omit_own_clashes-requires-2-clause-within : goal.omit_own_clashes-requires-2-clause-within
omit_own_clashes-requires-2-clause-within c =
    λ number there. counted_within c.args.files.now c.as_slice-5.result.now number
    ((c.in_ok-others.ensures number).0 there).0

pub returns : goal.returns
returns c =
    let files = c.args.files.now in
    let sources = c.in_ok-sources.sources in
    let others = c.in_ok-others.others in
    let passed = c.omit_own_clashes.new.omissions.items in
    let counted = subst (λ (os : Omissions). (number : ℕ) → Contains others number
    ↔ (IsCounted files os number × (IsSource files number → ⊥))) c.as_slice-5.ensures.value c.in_ok-others.ensures in
    are_own_omissions files sources others c.in_ok-omissions.omissions.items c.omit_unread.new.omissions.items passed
    c.omit_unread-2.new.omissions.items c.omit_own_clashes-2.new.omissions.items c.in_ok-sources.ensures
    c.in_ok-omissions.ensures.size c.in_ok-omissions.ensures.none c.omit_unread.ensures
    c.in_ok-omit_own_clashes.ensures counted c.omit_unread-2.ensures c.in_ok-omit_own_clashes-2.ensures
