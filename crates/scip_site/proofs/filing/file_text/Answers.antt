use Rattle.std.proofs.Common.{[], refl}
use Rattle.std.specs.declared.alloc.AllocError.{AllocError}
use Rattle.scip_site.proofs.SnapshotShowLemmas.{makes_false}
use Rattle.scip_site.proofs.filing.file_text.Goals as goal

pub returns : goal.returns
returns g c =
    let made = g.O.MakeFiles.made in record {
      others = [];
      path = c.args.path.now;
      text = c.args.text.now;
      shown_are = refl;
      stops = makes_false AllocError (made c.args.made.now) (made c.make_file.new.self) _ _ _ c.if-branch.false
          c.in_ok-make_file.ensures;
    }
