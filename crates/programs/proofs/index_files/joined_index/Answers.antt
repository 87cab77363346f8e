use Rattle.std.specs.String.{string_bytes}
use Rattle.std.proofs.Common.{◌∙◌, List, ℕ, map, subst}
use Rattle.std.proofs.lemmas.Result.{err_from_is_err_and}
use Rattle.scip_wire.specs.Decodes.{Decodes}
use Rattle.scip_join.specs.declared.choices.JoinChoices.{JoinChoices}
use Rattle.programs.specs.IndexFiles.{HasNoJoin, HasPieces, any_roots}
use Rattle.programs.specs.IndexFiles.IsJoinedIndex.{has_no_join, is_joined}
use Rattle.programs.proofs.IndexFileLemmas.{unspelled}
use Rattle.programs.proofs.index_files.joined_index.Goals as goal

pub returns-in_err-joined : goal.returns-in_err-joined
returns-in_err-joined g c =
    let p = err_from_is_err_and c.from_residual-in_err-joined.result c.from_residual-in_err-joined.ensures.1 in
    let stop = c.in_err-joined.field-0.0 in
    rw (p.1, p.2) (has_no_join (subst (λ (choices : JoinChoices). HasNoJoin (g.F.ReadFiles.gives c.args.files.now)
    choices (map string_bytes c.args.paths.now) stop) c.in_ok-choices.ensures c.in_err-joined.ensures.stops))

pub returns-in_err-bytes : goal.returns-in_err-bytes
returns-in_err-bytes g c =
    let p = err_from_is_err_and c.from_residual-in_err-bytes.result c.from_residual-in_err-bytes.ensures.1 in
    let gives = g.F.ReadFiles.gives c.args.files.now in
    let paths = map string_bytes c.args.paths.now in
    let has = subst (λ (choices : JoinChoices). HasPieces gives choices paths c.in_ok-joined.joined)
    c.in_ok-choices.ensures c.in_ok-joined.ensures.joined in
    rw (p.1, p.2) (has_no_join (unspelled gives any_roots paths has.joined c.in_err-bytes.field-0.0 has.is
    (c.in_err-bytes.ensures.stops has.joined has.pieces)))

pub returns : goal.returns
returns g c =
    let gives = g.F.ReadFiles.gives c.args.files.now in
    let paths = map string_bytes c.args.paths.now in
    let has = subst (λ (choices : JoinChoices). HasPieces gives choices paths c.in_ok-joined.joined)
    c.in_ok-choices.ensures c.in_ok-joined.ensures.joined in
    is_joined has.joined has.is (subst (λ (bytes : List ℕ). Decodes bytes c.in_ok-index.index)
    (c.deref.ensures.value ∙ c.in_ok-bytes.ensures.bytes has.joined has.pieces) c.in_ok-index.ensures)
