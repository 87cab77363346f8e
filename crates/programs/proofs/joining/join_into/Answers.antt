use Rattle.std.specs.String.{string_bytes}
use Rattle.std.specs.Global.{Global}
use Rattle.std.proofs.Common.{subst, map, List, String}
use Rattle.std.proofs.lemmas.Result.{err_from_is_err_and}
use Rattle.scip_join.specs.declared.choices.JoinChoices.{JoinChoices}
use Rattle.programs.specs.IndexFiles.{HasNoJoin, HasPieces}
use Rattle.programs.specs.Joining.{choices_in, paths_in}
use Rattle.programs.specs.Joining.PutsNone.{unjoined}
use Rattle.programs.specs.Placing.{place}
use Rattle.programs.proofs.JoiningLemmas.{puts, puts_not}
use Rattle.programs.proofs.joining.join_into.Goals as goal

pub returns-in_err-joined-clause-stops : goal.returns-in_err-joined-clause-stops
returns-in_err-joined-clause-stops g c =
    let p = err_from_is_err_and c.from_residual-in_err-joined.result c.from_residual-in_err-joined.ensures.1 in
    let gives = g.F.ReadFiles.gives c.args.host.now.files.now in
    let stop = c.in_err-joined.field-0.0 in
    rw (p.1, p.2) (unjoined (subst (λ (paths : List (String Global)). HasNoJoin gives (choices_in c.args.options.now)
    (map string_bytes paths) stop) c.as_slice.ensures.value
    (subst (λ (choices : JoinChoices). HasNoJoin gives choices (map string_bytes c.as_slice.result.now) stop)
    c.in_ok-choices.ensures c.in_err-joined.ensures.stops)))

pub returns-clause-put : goal.returns-clause-put
returns-clause-put g c =
    let gives = g.F.ReadFiles.gives c.args.host.now.files.now in
    let options = c.args.options.now in
    let whole = c.in_ok-joined.joined in
    puts gives (choices_in options) (paths_in options)
    (place g.P.OutPlace g.P.Part.Sink c.args.at.now c.put-done.new.at) whole c.put-done.result
    (subst (λ (paths : List (String Global)). HasPieces gives (choices_in options) (map string_bytes paths) whole)
    c.as_slice.ensures.value
    (subst (λ (choices : JoinChoices). HasPieces gives choices (map string_bytes c.as_slice.result.now) whole)
    c.in_ok-choices.ensures c.in_ok-joined.ensures.joined)) c.put-done.ensures.put

pub returns-clause-stops : goal.returns-clause-stops
returns-clause-stops g c =
    let gives = g.F.ReadFiles.gives c.args.host.now.files.now in
    let options = c.args.options.now in
    let whole = c.in_ok-joined.joined in
    puts_not gives (choices_in options) (paths_in options)
    (place g.P.OutPlace g.P.Part.Sink c.args.at.now c.put-done.new.at) whole c.put-done.result
    (subst (λ (paths : List (String Global)). HasPieces gives (choices_in options) (map string_bytes paths) whole)
    c.as_slice.ensures.value
    (subst (λ (choices : JoinChoices). HasPieces gives choices (map string_bytes c.as_slice.result.now) whole)
    c.in_ok-choices.ensures c.in_ok-joined.ensures.joined)) c.put-done.ensures.stops
