use Rattle.std.proofs.Common.{[], refl}
use Rattle.std.proofs.lemmas.Result.{err_from_is_err_and}
use Rattle.std.specs.declared.alloc.AllocError.{AllocError}
use Rattle.scip_site.proofs.SnapshotShowLemmas.{makes_false}
use Rattle.scip_site.proofs.MakingLemmas.{none_made}
use Rattle.scip_site.proofs.making.make.Goals as goal

pub returns : goal.returns
returns g c =
    let made = g.O.MakeFiles.made in record {
      refused = _;
      others = [];
      made = record {
        part = [];
        is_part = refl;
        holds = makes_false AllocError (made c.args.made.now) (made c.make_file.new.self) _ _ _ c.if-branch.false
            c.in_ok-make_file.ensures;
      };
    }

pub returns-in_err-file : goal.returns-in_err-file
returns-in_err-file g c =
    let p = err_from_is_err_and c.from_residual.result c.from_residual.ensures.1 in
    rw (p.1, p.2) (none_made g.O.MakeFiles _ [] c.args.made.now)

pub returns-in_err-make_file : goal.returns-in_err-make_file
returns-in_err-make_file g c =
    let p = err_from_is_err_and c.from_residual-in_err-make_file.result
    c.from_residual-in_err-make_file.ensures.1 in
    rw (p.1, p.2) record {
      next = _;
      others = [];
      made = record { part = []; is_part = refl; holds = c.in_err-make_file.ensures };
    }
