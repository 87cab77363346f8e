use Rattle.std.proofs.Common.{◌≡◌, ◌∙◌, ◌<◌, ap, sym, subst, ℕ, List, ◌++◌, map, length, Ok, append_assoc}
use Rattle.std.proofs.Common.{append-nil, arith}
use Rattle.std.proofs.lemmas.Result.{err_from_is_err_and}
use Rattle.source_files.specs.Makers.{making}
use Rattle.scip_records.specs.declared.records.Document.{Document}
use Rattle.scip_query.specs.Tables.{numbers}
use Rattle.scip_site.proofs.SnapshotShowLemmas.{makes_none}
use Rattle.scip_site.specs.Making.{MakesFiles, in_folder, page_file_at, listing_at, listings, pages}
use Rattle.scip_site.proofs.MakingLemmas.{more_made, not_made, one_more}
use Rattle.scip_site.proofs.making.make_each.Goals as goal

pub loop-number-init : goal.loop-number-init
loop-number-init g c = record {
  right = c.requires;
  files = makes_none (g.O.MakeFiles.made c.args.made.now);
  listed = sym (append-nil c.args.listed.now.script.items);
}

pub loop-number-preserved : goal.loop-number-preserved
loop-number-preserved g c =
    let index = c.args.site.now.queries.now in
    let sources = c.args.site.now.sources.now in
    let n : ℕ = c.loop-number.number in
    record {
      right = c.make_page.ensures.right;
      files = more_made (page_file_at index sources) (in_folder c.args.folder.now) g.O.MakeFiles c.args.made.now
          c.loop-number.made c.make_page.new.made n c.loop-number.invariant.files
          (Ok tt) c.in_ok-make_page.ensures.files;
      listed = c.in_ok-make_page.ensures.listed
          ∙ ap (λ (l : List ℕ). l ++ listing_at index sources n) c.loop-number.invariant.listed
          ∙ append_assoc c.args.listed.now.script.items (listings index sources (numbers n))
          (listing_at index sources n)
          ∙ ap (λ (l : List ℕ). c.args.listed.now.script.items ++ l) (sym (one_more (listing_at index sources) n));
    }

pub returns-in_err-make_page-clause-files : goal.returns-in_err-make_page-clause-files
returns-in_err-make_page-clause-files g c =
    let p = err_from_is_err_and c.from_residual.result c.from_residual.ensures.1 in
    let index = c.args.site.now.queries.now in
    let sources = c.args.site.now.sources.now in
    let within : c.loop-number.number < length index.documents =
    subst (λ (ds : List Document). c.loop-number.number < length ds) c.documents-count.ensures (omega arith) in
    rw (p.1, p.2) (not_made (page_file_at index sources) (in_folder c.args.folder.now) g.O.MakeFiles
    c.args.made.now c.loop-number.made c.make_page.new.made c.loop-number.number c.loop-number.invariant.files
    (length index.documents) within c.in_err-make_page.field-0.0 c.in_err-make_page.ensures.files)

pub returns-clause-files : goal.returns-clause-files
returns-clause-files g c =
    let index = c.args.site.now.queries.now in
    let sources = c.args.site.now.sources.now in
    let all : c.loop-number.number ≡ length index.documents =
    subst (λ (ds : List Document). c.loop-number.number ≡ length ds) c.documents-count.ensures (omega arith) in
    subst (λ (n : ℕ). MakesFiles (making g.O.MakeFiles c.args.made.now c.loop-number.made)
    (map (in_folder c.args.folder.now) (pages index sources (numbers n))) (Ok tt)) all c.loop-number.invariant.files

pub returns-clause-listed : goal.returns-clause-listed
returns-clause-listed g c =
    let index = c.args.site.now.queries.now in
    let sources = c.args.site.now.sources.now in
    let all : c.loop-number.number ≡ length index.documents =
    subst (λ (ds : List Document). c.loop-number.number ≡ length ds) c.documents-count.ensures (omega arith) in
    c.loop-number.invariant.listed
    ∙ ap (λ (n : ℕ). c.args.listed.now.script.items ++ listings index sources (numbers n)) all
