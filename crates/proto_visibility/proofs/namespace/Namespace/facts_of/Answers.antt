use Rattle.std.proofs.Common.{◌≡◌, ◌<◌, List, length, Some, refl, ap, sym, subst, MatchOption}
use Rattle.std.specs.List.{slice_get}
use Rattle.std.proofs.lemmas.Option.{slice_get_read}
use Rattle.proto_decl.specs.Facts.{Facts}
use Rattle.proto_visibility.specs.Files.{File, HasFacts}
use Rattle.proto_visibility.proofs.FileFactLemmas.{facts_at}
use Rattle.proto_visibility.proofs.namespace.Namespace.facts_of.Goals as goal

pub returns : goal.returns
returns c =
    let files = c.self.inside.files.now in
    let same : files ≡ c.args.self.now = c.self.view_is in
    let within : c.args.number < length files =
    subst (λ (fs : List File). c.args.number < length fs) (sym same) c.requires in
    let stands : slice_get files c.args.number ≡ Some c.index-files-number.result =
    slice_get_read files (length files) c.args.number c.index-files-number.result refl within
    c.index-files-number.is in
    let known = ap (λ (f : File). f.facts) c.file.view_is in
    subst (λ (fs : List File). MatchOption c.file.inside.facts ((facts : Facts) → HasFacts fs c.args.number facts → ⊥)
    (λ facts. HasFacts fs c.args.number facts.now)) same
    (facts_at files c.args.number c.index-files-number.result c.file.inside.facts stands known)
