use Rattle.std.specs.String.{string_bytes}
use Rattle.std.specs.Global.{Global}
use Rattle.std.proofs.Common.{◌≡◌, ◌<◌, ◌+◌, ◌++◌, ◌∷◌, [], ◌∙◌, ap, sym, subst, arith, length, map, take, drop}
use Rattle.std.proofs.Common.{List, ℕ, String}
use Rattle.std.proofs.lemmas.List.{map_more, take_all}
use Rattle.std.proofs.lemmas.Result.{err_from_is_err_and}
use Rattle.scip_records.specs.declared.records.Index.{Index}
use Rattle.scip_join.specs.Gathered.{gathered}
use Rattle.source_files.proofs.LoadLemmas.{parted_at}
use Rattle.programs.specs.IndexFiles.{Adds, AreGathered, HasNoNext}
use Rattle.programs.proofs.IndexFileLemmas.{added_more, counted, none_yet, stopped_at}
use Rattle.programs.proofs.index_files.add_files.Goals as goal

pub loop-number-init : goal.loop-number-init
loop-number-init g c =
    none_yet (g.F.ReadFiles.gives c.args.files.now) c.args.choices c.new-join.result c.new-join.ensures

pub returns-in_err-add_file-clause-stops : goal.returns-in_err-add_file-clause-stops
returns-in_err-add_file-clause-stops g c =
    let p = err_from_is_err_and c.from_residual.result c.from_residual.ensures.1 in
    let gives = g.F.ReadFiles.gives c.args.files.now in
    let paths = c.args.paths.now in
    let number = c.loop-number.number in
    let item = c.index-paths-number.result in
    let kept = c.loop-number.join in
    let stop = c.in_err-add_file.field-0.0 in
    let within : number < length paths = omega arith in
    rw (p.1, p.2) (stopped_at gives c.args.choices (map string_bytes (take number paths)) (string_bytes item)
    (map string_bytes (drop (number + 1) paths)) (map string_bytes paths) kept number stop c.loop-number.invariant
    (parted_at string_bytes paths number item within c.index-paths-number.is)
    (counted string_bytes paths number within)
    (subst (λ (path : List ℕ). (indexes : List Index) → kept ≡ gathered kept.choices indexes
    → HasNoNext (gives path) kept.choices indexes number stop) c.as_str.ensures.value
    c.in_err-add_file.ensures.stops))

pub loop-number-preserved : goal.loop-number-preserved
loop-number-preserved g c =
    let gives = g.F.ReadFiles.gives c.args.files.now in
    let paths = c.args.paths.now in
    let number = c.loop-number.number in
    let item = c.index-paths-number.result in
    let kept = c.loop-number.join in
    let new = c.add_file.new.join in
    let within : number < length paths = omega arith in
    let next = map_more string_bytes paths number item within
    ∙ ap (λ (s : String Global). map string_bytes (take number paths) ++ string_bytes s ∷ [])
    (sym c.index-paths-number.is) in
    rw next (added_more gives c.args.choices (map string_bytes (take number paths)) (string_bytes item) kept new
    c.loop-number.invariant
    (subst (λ (path : List ℕ). (indexes : List Index) → kept ≡ gathered kept.choices indexes
    → Adds (gives path) kept.choices indexes new) c.as_str.ensures.value c.in_ok-add_file.ensures.added))

pub returns-clause-added : goal.returns-clause-added
returns-clause-added g c =
    subst (λ (paths : List (String Global)). AreGathered (g.F.ReadFiles.gives c.args.files.now) c.args.choices
    (map string_bytes paths) c.loop-number.join)
    (take_all c.loop-number.number c.args.paths.now (omega arith)) c.loop-number.invariant
