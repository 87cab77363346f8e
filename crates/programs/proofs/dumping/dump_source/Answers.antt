use Rattle.std.proofs.Common.{inr, refl, arith, ◌&&◌, [], Option, Result, Err, subst}
use Rattle.streams.specs.Readers.{reading}
use Rattle.streams.specs.Writers.{writing}
use Rattle.proto_parse.specs.dialect.Dialect.{Dialect}
use Rattle.protoscip.specs.declared.fault.Fault.{Fault}
use Rattle.protoscip.specs.declared.fault.Fault.TheVariants.{Memory}
use Rattle.protoscip.specs.Dump.{dump_tree}
use Rattle.protoscip.specs.Explanations.{IsFaultText, explain_in}
use Rattle.protoscip.specs.FaultTexts.{status_of}
use Rattle.programs.specs.Dumping.{is_write}
use Rattle.programs.specs.Messages.{TellsOne}
use Rattle.programs.specs.Printing.{EndsCut, is_closed}
use Rattle.programs.proofs.DumpingEndLemmas.{of_fault}
use Rattle.programs.proofs.dumping.dump_source.Goals as goal

-- where memory doesn't suffice to begin

pub returns-in-Err : goal.returns-in-Err
returns-in-Err g c =
    let done : Result (Unit {0}) Fault = Err Memory in (
      done,
      record { due = []; writer = refl; some = ([], tt); told = λ bytes known. tt },
      refl,
      omega arith,
      of_fault c.args.options.now.dialect
          (explain_in c.args.options.now.explain c.args.options.now.dialect)
          (is_closed (g.W.Caused.cause c.args.out.now))
          (reading g.I.Feed c.args.input.now c.args.input.now) (writing g.M.Sink c.args.messages.now
          c.report.new.messages)
          c.report.result Memory (dump_tree []) tt (inr c.report.ensures),
    )

-- where the dump stops

pub returns : goal.returns
returns g c =
    let fault = c.in-Err-dump_and_keep.fault in
    let of = c.in-Err-dump_and_keep.ensures in
    let done : Result (Unit {0}) Fault = Err fault in
    let tree = c.dump_and_keep.new.tree in
    let explain = explain_in c.args.options.now.explain c.args.options.now.dialect in
    let messages = writing g.M.Sink c.args.messages.now c.stop_listing.new.messages in
    let source = reading g.I.Feed c.args.input.now c.dump_and_keep.new.source in
    let closed = is_closed (g.W.Caused.cause c.dump_and_keep.new.out) in
    let Told : Option Dialect → Type 0 =
    λ asked. EndsCut (is_write fault && closed) (TellsOne (IsFaultText asked tree fault) (status_of fault) messages
    c.stop_listing.result) messages c.stop_listing.result in
    let said = subst Told c.explain_in-explain.ensures c.stop_listing.ensures in (
      done,
      of.dumped,
      of.reader,
      of.briefly,
      of_fault c.args.options.now.dialect explain closed source messages c.stop_listing.result fault tree of.tree
          said,
    )
