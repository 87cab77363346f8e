use Rattle.std.proofs.Common.{get_or, sym, ◌∙◌, arith}
use Rattle.std.proofs.lemmas.Bool.{false≢true}
use Rattle.std.proofs.lemmas.Option.{slice_get-get_or}
use Rattle.std.proofs.lemmas.List.Elements.{Contains-get_or}
use Rattle.proto_visibility.specs.Knows.{admits}
use Rattle.proto_visibility.proofs.LookupTwiceLemmas.{none_beside, none_beside_more, nowhere}
use Rattle.proto_visibility.proofs.lookup.declaring_beside.Goals as goal

pub is_beside-requires : goal.is_beside-requires
is_beside-requires c =
    let declared = c.args.declared.now in
    let index = c.loop-given.given-index in
    c.requires (get_or declared index nowhere) (Contains-get_or declared index nowhere (omega arith))

pub loop-given-preserved : goal.loop-given-preserved
loop-given-preserved c =
    let declared = c.args.declared.now in
    let index = c.loop-given.given-index in
    none_beside_more c.args.files.now declared c.args.row.now (admits c.args.role) c.args.beside index
    (get_or declared index nowhere) (slice_get-get_or declared index nowhere (omega arith))
    (λ is. false≢true (sym c.if-is_beside.false ∙ c.is_beside.ensures.1 is)) c.loop-given.invariant

pub returns : goal.returns
returns c =
    none_beside c.args.files.now c.args.declared.now c.args.row.now (admits c.args.role) c.args.beside
    c.loop-given.given-index (omega arith) c.loop-given.invariant
