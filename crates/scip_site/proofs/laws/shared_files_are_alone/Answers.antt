use Rattle.std.proofs.Common.{refl}
use Rattle.scip_site.proofs.laws.shared_files_are_alone.Goals as goal

pub returns : goal.returns
returns c = record {
  asks = (refl, (refl, (refl, tt)));
  style = (refl, (refl, (refl, (refl, tt))));
  script = (refl, (refl, (refl, (refl, (refl, (refl, (refl, (refl, (refl, tt)))))))));
  marks = (refl, (refl, (refl, (refl, (refl, tt)))));
}
