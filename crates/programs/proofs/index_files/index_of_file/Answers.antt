use Rattle.std.proofs.Common.{subst, List, ℕ, Some, sym}
use Rattle.std.proofs.lemmas.Result.{err_from_is_err_and}
use Rattle.source_files.proofs.SystemFileKeptLemmas.{read_some, read_none}
use Rattle.programs.specs.IndexFiles.IsReadFrom.{is_index, is_unreadable}
use Rattle.programs.proofs.IndexFileLemmas.{refused_bytes}
use Rattle.programs.proofs.index_files.index_of_file.Goals as goal

pub returns-in-None : goal.returns-in-None
returns-in-None g c =
    let gives = g.F.ReadFiles.gives c.args.files.now c.args.path.now in
    is_unreadable (read_none gives _ c.in_ok-bytes.field-0 c.in-None.is c.in_ok-bytes.ensures)

pub returns-in_err-index : goal.returns-in_err-index
returns-in_err-index g c =
    let gives = g.F.ReadFiles.gives c.args.files.now c.args.path.now in
    let p = err_from_is_err_and c.from_residual-in_err-index.result c.from_residual-in_err-index.ensures.1 in
    let given = read_some gives _ c.in_ok-bytes.field-0 c.in-Some.bytes c.in-Some.is c.in_ok-bytes.ensures in
    rw (p.1, p.2) (refused_bytes gives c.deref.result.now c.in_err-index.field-0.0
    (subst (λ (b : List ℕ). gives (Some b)) (sym c.deref.ensures.value) given)
    c.in_err-index.ensures.fault)

pub returns : goal.returns
returns g c =
    let gives = g.F.ReadFiles.gives c.args.files.now c.args.path.now in
    let given = read_some gives _ c.in_ok-bytes.field-0 c.in-Some.bytes c.in-Some.is c.in_ok-bytes.ensures in
    is_index c.deref.result.now (subst (λ (b : List ℕ). gives (Some b)) (sym c.deref.ensures.value) given)
    c.in_ok-index.ensures.found
