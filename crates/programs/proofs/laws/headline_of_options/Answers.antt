use Rattle.protoscip.proofs.HeadlineLemmas.{headline}
use Rattle.programs.specs.Settings.{allowed_by}
use Rattle.programs.proofs.LawLemmas.{headline_of_files}
use Rattle.programs.proofs.laws.headline_of_options.Goals as goal

pub returns : goal.returns
returns g c =
    let options = c.args.options.now in
    let laws = c.laws_of_names.ensures in
    record {
      choices = headline (allowed_by options) laws;
      files = headline_of_files (g.F.ReadFiles.lists c.args.files.now)
          (g.F.ReadFiles.gives c.args.files.now) (g.F.ReadFiles.finds c.args.files.now) options laws;
    }
