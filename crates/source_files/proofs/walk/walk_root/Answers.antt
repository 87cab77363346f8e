use Rattle.std.proofs.Common.{◌∙◌, sym, arith}
use Rattle.source_files.proofs.WalkLemmas.{none_there, begins, goes_on, ends}
use Rattle.source_files.proofs.walk.walk_root.Goals as goal

pub loop-init : goal.loop-init
loop-init g c =
    begins (g.F.ReadFiles.lists c.args.readers.now.files.now c.args.root.now) c.in_ok-walk.walk
    c.in_ok-walk.ensures.0 c.in_ok-walk.ensures.1 c.in_ok-walk.ensures.2 c.in_ok-walk.ensures.3

pub loop-preserved : goal.loop-preserved
loop-preserved g c =
    goes_on (g.F.ReadFiles.lists c.args.readers.now.files.now c.args.root.now) c.loop.walk _ c.loop.invariant
    c.in_ok-go_on.ensures

pub returns-then-is_empty : goal.returns-then-is_empty
returns-then-is_empty g c =
    let lists = g.F.ReadFiles.lists c.args.readers.now.files.now c.args.root.now in
    let none = none_there c.loop.walk.folders.items c.loop.walk.folders.len
    (omega (arith, c.loop.walk.folders.ok.0)) (sym c.is_empty.ensures ∙ c.if-is_empty.true) in
    ends lists c.loop.walk _ c.loop.invariant none c.in_ok-by_bytes.ensures
