use Rattle.std.proofs.Common.{ap, subst, Ok, List, ℕ, [], arith}
use Rattle.std.proofs.lemmas.Result.{err_from_is_err_and}
use Rattle.std.specs.String.{string_bytes}
use Rattle.streams.specs.Readers.{reading}
use Rattle.streams.specs.Writers.{writing}
use Rattle.protoscip.specs.Dump.{dump_tree, IsRefusal, IsListing}
use Rattle.protoscip.specs.Output.{Writes}
use Rattle.protoscip.proofs.DumpLemmas.{refusal_of_all, listing_of_all, refused_dumps, refused_writer, dump_files}
use Rattle.protoscip.proofs.DumpLemmas.{starved_dumped, unread_dumped, said_of_read, written_dumps, written_writer}
use Rattle.protoscip.proofs.DumpLemmas.{has_file, tree_of_fault, tree_of_done}
use Rattle.protoscip.proofs.dumping.dump_and_keep.Goals as goal

-- where the source isn't read

pub returns-in_err-bytes-clause-dumped : goal.returns-in_err-bytes-clause-dumped
returns-in_err-bytes-clause-dumped g c =
    let p = err_from_is_err_and c.from_residual.result c.from_residual.ensures.1 in
    rw (p.1, p.2) (starved_dumped (reading g.F.Feed c.args.source.now _) g.W.Sink c.args.dialect
    c.args.out.now)

pub returns-in-None-clause-dumped : goal.returns-in-None-clause-dumped
returns-in-None-clause-dumped g c =
    unread_dumped (reading g.F.Feed c.args.source.now _) g.W.Sink c.args.dialect c.args.out.now

pub returns-in-None-clause-reader : goal.returns-in-None-clause-reader
returns-in-None-clause-reader g c = c.in_ok-bytes.ensures.read (ap Ok c.in-None.is)

-- where memory doesn't suffice for its tree

pub returns-in_err-keep_source-clause-dumped : goal.returns-in_err-keep_source-clause-dumped
returns-in_err-keep_source-clause-dumped g c =
    let p = err_from_is_err_and c.from_residual-in_err-keep_source.result c.from_residual-in_err-keep_source.ensures.1
    in
    rw (p.1, p.2) (starved_dumped (reading g.F.Feed c.args.source.now _) g.W.Sink c.args.dialect
    c.args.out.now)

-- where the source is refused

pub returns-in_err-listing-clause-dumped : goal.returns-in_err-listing-clause-dumped
returns-in_err-listing-clause-dumped g c =
    let p = err_from_is_err_and c.from_residual-in_err-listing.result c.from_residual-in_err-listing.ensures.1 in
    let e = c.in_err-listing.field-0.0 in
    let bytes = c.in-Some.bytes.items in
    let is = c.in_err-listing.ensures bytes c.in_ok-keep_source.ensures in
    let kept = said_of_read _ c.in_ok-bytes.field-0 c.in-Some.bytes c.in-Some.is c.in_ok-bytes.ensures.bytes in
    rw (p.1, p.2) (record {
      due = [];
      writer = refused_writer c.args.dialect bytes g.W.Sink c.args.out.now [] e is;
      some = (bytes, refused_dumps c.args.dialect bytes [] e is);
      told = λ all known.
          let refused = refusal_of_all c.args.dialect all e
          (subst (λ (b : List ℕ). IsRefusal c.args.dialect b e) (kept all known) is) in
          refused_dumps c.args.dialect all [] e refused;
    })

pub returns-in_err-listing-clause-tree : goal.returns-in_err-listing-clause-tree
returns-in_err-listing-clause-tree g c =
    let p = err_from_is_err_and c.from_residual-in_err-listing.result c.from_residual-in_err-listing.ensures.1 in
    let kept = said_of_read _ c.in_ok-bytes.field-0 c.in-Some.bytes c.in-Some.is c.in_ok-bytes.ensures.bytes in
    rw (p.1, p.2) (tree_of_fault c.args.dialect (reading g.F.Feed c.args.source.now _) c.keep_source.new.tree
    c.in_err-listing.field-0.0
    (record { kept = c.in-Some.bytes.items; tree_is = c.in_ok-keep_source.ensures; told = kept }))

pub returns-in_err-listing-clause-files : goal.returns-in_err-listing-clause-files
returns-in_err-listing-clause-files g c =
    let p = err_from_is_err_and c.from_residual-in_err-listing.result c.from_residual-in_err-listing.ensures.1 in
    let e = c.in_err-listing.field-0.0 in
    let bytes = c.in-Some.bytes.items in
    let is = c.in_err-listing.ensures bytes c.in_ok-keep_source.ensures in
    rw (p.1, p.2) (dump_files c.args.dialect bytes e is c.keep_source.new.tree
    (has_file c.args.dialect bytes c.keep_source.new.tree c.in_ok-keep_source.ensures))

pub returns-in_err-listing-clause-alone : goal.returns-in_err-listing-clause-alone
returns-in_err-listing-clause-alone g c =
    let p = err_from_is_err_and c.from_residual-in_err-listing.result c.from_residual-in_err-listing.ensures.1 in
    let e = c.in_err-listing.field-0.0 in
    let bytes = c.in-Some.bytes.items in
    let is = c.in_err-listing.ensures bytes c.in_ok-keep_source.ensures in
    rw (p.1, p.2) (dump_files c.args.dialect bytes e is (dump_tree []) (omega arith))

-- where the listing is written, or cut off

pub returns-clause-dumped : goal.returns-clause-dumped
returns-clause-dumped g c =
    let due = string_bytes c.in_ok-listing.listing in
    let wrote = subst (λ (t : List ℕ). Writes (writing g.W.Sink c.args.out.now c.write_text.new.out) t
    c.write_text.result) c.as_str.ensures.value c.write_text.ensures in
    let bytes = c.in-Some.bytes.items in
    let listed = c.in_ok-listing.ensures bytes c.in_ok-keep_source.ensures in
    let kept = said_of_read _ c.in_ok-bytes.field-0 c.in-Some.bytes c.in-Some.is c.in_ok-bytes.ensures.bytes in
    record {
      due = due;
      writer = written_writer (writing g.W.Sink c.args.out.now c.write_text.new.out) due
          c.write_text.result wrote;
      some = (
        bytes,
        written_dumps (writing g.W.Sink c.args.out.now c.write_text.new.out) due
            c.args.dialect bytes c.write_text.result listed wrote,
      );
      told = λ all known.
          let is = listing_of_all c.args.dialect all due
          (subst (λ (b : List ℕ). IsListing c.args.dialect b due) (kept all known) listed) in
          written_dumps (writing g.W.Sink c.args.out.now c.write_text.new.out) due c.args.dialect all
          c.write_text.result is wrote;
    }

pub returns-clause-tree : goal.returns-clause-tree
returns-clause-tree g c =
    let kept = said_of_read _ c.in_ok-bytes.field-0 c.in-Some.bytes c.in-Some.is c.in_ok-bytes.ensures.bytes in
    tree_of_done c.args.dialect (reading g.F.Feed c.args.source.now _) c.keep_source.new.tree c.write_text.result
    (record { kept = c.in-Some.bytes.items; tree_is = c.in_ok-keep_source.ensures; told = kept })
