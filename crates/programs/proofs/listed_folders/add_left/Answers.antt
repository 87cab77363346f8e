use Rattle.std.proofs.Common.{◌∙◌, [], ◌∷◌, append-nil, map, string_bytes, sym}
use Rattle.std.proofs.lemmas.Bool.{false≢true}
use Rattle.source_files.specs.Exclusions.{no_path_stays, path_goes, path_stays}
use Rattle.programs.proofs.listed_folders.add_left.Goals as goal

pub returns-then-branch : goal.returns-then-branch
returns-then-branch c = (
  [],
  path_goes (c.in_ok-is_path_excluded.ensures.0 c.if-branch.true) no_path_stays,
  sym (append-nil (map string_bytes c.args.paths.now.items)),
)

pub returns : goal.returns
returns c = (
  c.args.path.now ∷ [],
  path_stays (λ out. false≢true (sym c.if-branch.false ∙ c.in_ok-is_path_excluded.ensures.1 out)) no_path_stays,
  c.in_ok-push_copy.ensures,
)
