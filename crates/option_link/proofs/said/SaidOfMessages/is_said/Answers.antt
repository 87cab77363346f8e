use Rattle.std.proofs.Common.{◌≡◌, ◌∙◌, List, ap, refl, subst, sym}
use Rattle.std.specs.List.{Contains}
use Rattle.option_link.specs.declared.facts.OptionFacts.{OptionFacts}
use Rattle.option_link.specs.declared.table.Listed.{Listed}
use Rattle.option_link.specs.Places.{place_at}
use Rattle.option_link.specs.Said.{IsSaid, IsSaidAt, ListsSaid, asked_for, fact_hash, said_hash, saying}
use Rattle.option_link.specs.Tables.{listed_by}
use Rattle.option_link.proofs.LoopLemmas.{iff_as}
use Rattle.option_link.proofs.SaidLemmas.{near_said, said_at, said_by}
use Rattle.option_link.proofs.said.SaidOfMessages.is_said.Goals as goal

pub near-requires : goal.near-requires
near-requires c =
    (subst (ListsSaid c.self.inside.known.now) (sym c.as_slice.ensures.value) c.self.invariant).sorted

pub returns : goal.returns
returns c =
    let known = c.args.self.now in
    let file = c.args.file in
    let fact = saying c.args.name (asked_for c.args.word) in
    let listed = c.as_slice.result.now in
    let near = c.near.result.now in
    let lists : ListsSaid known listed = subst (ListsSaid known) (sym c.as_slice.ensures.value)
    (subst (λ (k : List OptionFacts). ListsSaid k c.self.inside.listed.items) c.self.view_is c.self.invariant) in
    let hash : c.said_hash-hash.result ≡ fact_hash file fact =
    c.said_hash-hash.ensures ∙ ap (said_hash file c.args.name.start) c.asked_word.ensures in
    iff_as c.is_among.result ((one : Listed) × Contains near one × (one.place.file ≡ file)
    × IsSaidAt known one.place fact) (IsSaid known file fact)
    (λ x. said_by known file x.0.place fact x.2 x.3)
    (λ is. (
      listed_by (fact_hash file) (place_at file is.listed.0) fact,
      near_said known file c.said_hash-hash.result listed near fact lists c.near.ensures hash is,
      refl,
      said_at known file fact is,
    )) c.is_among.ensures
