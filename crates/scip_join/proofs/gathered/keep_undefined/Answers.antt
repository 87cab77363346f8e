use Rattle.scip_records.specs.declared.records.SymbolInformation.{SymbolInformation}
use Rattle.scip_join.proofs.TableLemmas.{strictly}
use Rattle.scip_join.proofs.gathered.keep_undefined.Goals as goal

pub leave_out_defined-requires : goal.leave_out_defined-requires
leave_out_defined-requires c =
    strictly (λ (e : SymbolInformation). e.symbol) c.args.entries.now.items c.keep_first.new.entries.items record {
      ordered = c.sort_by_symbol.new.entries.items;
      in_order = c.in_ok-sort_by_symbol.ensures;
      firsts_are = c.keep_first.ensures;
    }

pub returns : goal.returns
returns c = record {
  firsts = c.keep_first.new.entries.items;
  are_first = record {
    ordered = c.sort_by_symbol.new.entries.items;
    in_order = c.in_ok-sort_by_symbol.ensures;
    firsts_are = c.keep_first.ensures;
  };
  left_are = c.in_ok-leave_out_defined.ensures;
}
