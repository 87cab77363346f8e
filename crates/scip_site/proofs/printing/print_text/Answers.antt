use Rattle.std.proofs.Common.{◌∙◌, sym, refl, subst, [], append-nil, arith}
use Rattle.streams.specs.Writers.{IsCutOff, IsWritten, writing}
use Rattle.scip_site.proofs.printing.print_text.Goals as goal

pub returns-in-Ok : goal.returns-in-Ok
returns-in-Ok g c =
    subst (IsWritten (writing g.W.Sink c.args.out.now c.write_all.new.sink))
    (c.as_slice.ensures.value ∙ c.in_ok-all.ensures ∙ sym (append-nil _)) c.in-Ok.ensures.ok

pub returns : goal.returns
returns g c =
    let count = c.in-Err.field-0.written in record {
      others = [];
      path = c.args.path.now;
      text = c.args.text.now;
      shown_are = refl;
      count = count;
      past_others = omega arith;
      cut_off = subst
          (λ text. IsCutOff (writing g.W.Sink c.args.out.now c.write_all.new.sink) text count)
          (c.as_slice.ensures.value ∙ c.in_ok-all.ensures ∙ sym (append-nil _)) c.in-Err.ensures.err;
    }
