use Rattle.std.proofs.Common.{◌≡◌, ◌++◌, List, Some, subst, string_bytes}
use Rattle.std.specs.List.{slice_get}
use Rattle.std.specs.Option.{option_map}
use Rattle.source_tree.specs.Files.{SourceFile, IsByPath}
use Rattle.source_tree.specs.Refusals.{HaveBadPath, HaveSamePath, MayRefuse, ComeBack}
use Rattle.source_files.proofs.LoadLemmas.{bad_path, same_within, same_path}
use Rattle.source_files.proofs.load.make_tree.Goals as goal

pub path_of-requires : goal.path_of-requires
path_of-requires c =
    let sources = c.args.sources.items in
    let included = c.args.included.items in
    let back = c.in-Err.lists.0.items in
    let same : HaveSamePath sources included c.in-SamePath.number =
    subst (MayRefuse sources included) c.in-SamePath.is c.in-Err.ensures.refused in
    let by : IsByPath sources back =
    subst (λ fault. ComeBack sources fault back) c.in-SamePath.is c.in-Err.ensures.handed_back in
    same_within c.one_sorting_by_path.ensures sources included back c.in-SamePath.number same by

pub returns-in-SamePath : goal.returns-in-SamePath
returns-in-SamePath c =
    let sources = c.args.sources.items in
    let included = c.args.included.items in
    let back = c.in-Err.lists.0.items in
    let same : HaveSamePath sources included c.in-SamePath.number =
    subst (MayRefuse sources included) c.in-SamePath.is c.in-Err.ensures.refused in
    let by : IsByPath sources back =
    subst (λ fault. ComeBack sources fault back) c.in-SamePath.is c.in-Err.ensures.handed_back in (
      c.in-SamePath.number,
      same,
      same_path c.one_sorting_by_path.ensures sources included back c.in-SamePath.number
          (string_bytes c.path_of.result) same by c.path_of.ensures,
    )

pub returns-in-BadPath : goal.returns-in-BadPath
returns-in-BadPath c =
    let sources = c.args.sources.items in
    let included = c.args.included.items in
    let number = c.in-BadPath.number in
    let path = string_bytes c.path_among-path.result in
    let bad : HaveBadPath sources included number =
    subst (MayRefuse sources included) c.in-BadPath.is c.in-Err.ensures.refused in
    let back : c.in-Err.lists.0.items ≡ sources =
    subst (λ fault. ComeBack sources fault c.in-Err.lists.0.items) c.in-BadPath.is c.in-Err.ensures.handed_back in
    let At : List SourceFile → Type 0 =
    λ files. option_map (λ (file : SourceFile). file.path) (slice_get files number) ≡ Some path in
    let at = subst (λ l. At (sources ++ l)) c.in-Err.ensures.included_back
    (subst (λ l. At (l ++ c.in-Err.lists.1.items)) back c.path_among-path.ensures) in
    (number, bad, bad_path sources included number path bad at)
