use Rattle.std.proofs.Common.{◌∙◌, map, string_bytes, sym}
use Rattle.std.proofs.lemmas.Bool.{false≢true}
use Rattle.source_files.specs.Closures.{paths_in}
use Rattle.source_files.proofs.ClosureLemmas.{adds_bad, adds_known, adds_new}
use Rattle.source_files.proofs.closure.add_path.Goals as goal

pub returns-then-not-is_good_path : goal.returns-then-not-is_good_path
returns-then-not-is_good_path c =
    adds_bad c.args.path.now (paths_in c.args.known.now) (map string_bytes c.args.fresh.now.items)
    (λ good. false≢true (sym c.if-not-is_good_path.true ∙ c.is_good_path.ensures.1 good))

pub returns-in_ok-push_copy : goal.returns-in_ok-push_copy
returns-in_ok-push_copy c =
    adds_new c.args.path.now (paths_in c.args.known.now) (paths_in c.put_path.new.known)
    (map string_bytes c.args.fresh.now.items) _ (c.is_good_path.ensures.0 c.if-not-is_good_path.false)
    c.in_ok-put_path.field-0 c.in_ok-put_path.ensures c.if-branch.true c.in_ok-push_copy.ensures

pub returns-else-branch : goal.returns-else-branch
returns-else-branch c =
    adds_known c.args.path.now (paths_in c.args.known.now) (paths_in c.put_path.new.known)
    (map string_bytes c.args.fresh.now.items) (c.is_good_path.ensures.0 c.if-not-is_good_path.false)
    c.in_ok-put_path.field-0 c.in_ok-put_path.ensures c.if-branch.false
