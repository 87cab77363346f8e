use Rattle.std.proofs.Common.{List, ℕ, ◌++◌, ◌∙◌, ap}
use denote.Ref.{Bor}
use Rattle.proto_decl.proofs.FullNameLemmas.{nothing_behind, begins_so, front_is}
use Rattle.proto_decl.proofs.full_name.behind.Goals as goal

pub returns-in_err-strip_prefix : goal.returns-in_err-strip_prefix
returns-in_err-strip_prefix c =
    nothing_behind (λ (rest : Bor (List ℕ)). rest.now) c.from_residual.result c.args.name.now c.args.front.now
    c.from_residual.ensures c.in_err-strip_prefix.ensures.cases

pub returns-in-len1-up : goal.returns-in-len1-up
returns-in-len1-up c =
    let more = c.in_ok-strip_prefix.field-0.now in
    let cases = c.in_ok-strip_prefix.ensures.cases in
    front_is c.args.name.now c.args.front.now more cases.0 cases.1
    ∙ ap (λ xs. c.args.front.now ++ xs) (begins_so more 46 c.in-len1-up.len_at_least c.if-first-eq46.true)
