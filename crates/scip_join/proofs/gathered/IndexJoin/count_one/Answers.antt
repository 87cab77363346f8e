use Rattle.std.proofs.Common.{◌∙◌, Option, ap, cond, nat_eq, refl}
use Rattle.scip_records.specs.declared.records.Metadata.{Metadata}
use Rattle.scip_join.proofs.gathered.IndexJoin.count_one.Goals as goal

pub returns : goal.returns
returns c =
    let first = c.first_of.ensures
    ∙ ap (λ (kept : Option Metadata). cond (nat_eq c.self.inside.count 0) c.args.metadata kept)
    c.take-first.ensures.value in
    rw (← c.self.view_is) (record {
      number_is = refl;
      count = c.in-Some.ensures.1;
      first = first;
      choices = refl;
      pieces = refl;
      externals = refl;
    })
