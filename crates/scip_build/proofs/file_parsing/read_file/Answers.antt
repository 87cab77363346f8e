use Rattle.std.specs.Prelude.{MatchResult}
use Rattle.std.specs.List.{slice_get}
use Rattle.source_tree.specs.Files.{TreeFile}
use Rattle.scip_build.specs.ParsedFiles.{IsParsedFile, MayRefuseParsing}
use Rattle.scip_build.proofs.ParsedFileLemmas.{given_at}
use Rattle.scip_build.proofs.file_parsing.read_file.Goals as goal

pub returns : goal.returns
returns g c =
    let reader = c.args.reader.now in
    let Holds : TreeFile → Type 0 = λ file. MatchResult c.read_parts.result
    (IsParsedFile reader.faulty reader.dialect reader.form (g.C.Chooses.allows reader.chooser.now) c.args.number file)
    (MayRefuseParsing reader.faulty reader.dialect file) in
    given_at Holds (slice_get c.args.tree.now c.args.number) c.path.result.now c.text.result.now c.is_included.result
    c.is_unread.result c.path.ensures c.text.ensures c.is_included.ensures c.is_unread.ensures c.read_parts.ensures
