use Rattle.source_files.proofs.ClosureLemmas.{puts}
use Rattle.source_files.proofs.closure.put_path.Goals as goal

pub returns : goal.returns
returns c =
    puts c.args.known.now c.insert.new.self c.in_ok-copy.copy c.args.path.now c.in_ok-is_new.is_new
    c.in_ok-copy.ensures.ok c.in_ok-is_new.ensures.added c.in_ok-is_new.ensures.keys
