use Rattle.std.proofs.Common.{ap, sym, ◌∙◌, subst}
use Rattle.std.specs.List.{Contains}
use Rattle.proto_visibility.specs.Tables.Visits.{Found}
use Rattle.proto_visibility.proofs.SeeingLemmas.{visit_finds}
use Rattle.proto_visibility.proofs.FileOrderLemmas.{visit_keeps}
use Rattle.proto_visibility.proofs.file_order.walk_from.Goals as goal

pub loop-turn-init : goal.loop-turn-init
loop-turn-init c =
    let found = ap (λ (f : Found). f.numbers) c.in_ok-visit.ensures in
    let old = c.args.search.now.numbers in
    record {
      files = ap (λ (f : Found). f.files) c.in_ok-visit.ensures ∙ c.requires.files;
      kept = λ number there. subst (λ xs. Contains xs number) (sym found) (visit_keeps old c.args.file number there);
      found = subst (λ xs. Contains xs c.args.file) (sym found) (visit_finds old c.args.file);
    }
