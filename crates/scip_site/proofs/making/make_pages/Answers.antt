use Rattle.std.proofs.Common.{◌≡◌, ◌∙◌, subst, sym, ℕ, List, true, false, Ok, Err}
use Rattle.std.proofs.lemmas.Result.{err_from_is_err_and}
use Rattle.streams.specs.Writers.{writing}
use Rattle.scip_records.specs.declared.records.Document.{Document}
use Rattle.scip_query.specs.Tables.{IsByPath}
use Rattle.scip_pages.specs.Site.{Sources}
use Rattle.scip_site.specs.Making.{is_bare}
use Rattle.scip_site.specs.Reading.{AllAreKept, ReadsInto}
use Rattle.scip_site.proofs.MakingLemmas.{bare_so, nothing_made, nothing_read, made_so}
use Rattle.scip_site.proofs.making.make_pages.Goals as goal

pub returns-in_err-order : goal.returns-in_err-order
returns-in_err-order g c =
    let p = err_from_is_err_and c.from_residual.result c.from_residual.ensures.1 in
    let folders = c.args.folders.now in
    rw (p.1, p.2) (nothing_read g.O.MakeFiles g.M.Sink
    (g.F.ReadFiles.gives c.args.files.now) folders.root.now folders.to.now c.args.queries.now c.args.made.now
    c.args.messages.now)

pub returns-in_err-sources : goal.returns-in_err-sources
returns-in_err-sources g c =
    let p = err_from_is_err_and c.from_residual-in_err-sources.result
    c.from_residual-in_err-sources.ensures.1 in
    let folders = c.args.folders.now in
    let gives = g.F.ReadFiles.gives c.args.files.now in
    let messages = writing g.M.Sink c.args.messages.now c.read_all.new.messages in
    rw (p.1, p.2) (nothing_made g.O.MakeFiles g.M.Sink gives folders.root.now
    folders.to.now c.args.queries.now c.args.made.now c.args.messages.now c.read_all.new.messages
    c.in_err-sources.field-0.0
    (subst (λ (ds : List Document). ReadsInto gives folders.root.now ds messages (Err c.in_err-sources.field-0.0))
    c.documents-documents.ensures c.in_err-sources.ensures))

pub returns-then-is_bare : goal.returns-then-is_bare
returns-then-is_bare g c =
    let folders = c.args.folders.now in
    let gives = g.F.ReadFiles.gives c.args.files.now in
    let messages = writing g.M.Sink c.args.messages.now c.read_all.new.messages in
    let sources : Sources = c.deref.result.now in
    bare_so g.O.MakeFiles g.M.Sink gives folders.root.now folders.to.now
    c.args.queries.now c.args.made.now c.args.messages.now c.read_all.new.messages sources
    (subst (λ (ds : List Document). AllAreKept gives folders.root.now ds sources messages) c.documents-documents.ensures
    (subst (λ (s : Sources). AllAreKept gives folders.root.now c.documents-documents.result.now s messages)
    (sym c.deref.ensures.value) c.in_ok-sources.ensures))
    (subst (λ (ds : List Document). is_bare ds sources ≡ true) c.documents-documents.ensures
    (sym c.is_bare.ensures ∙ c.if-is_bare.true))

pub returns-in_err-make_all : goal.returns-in_err-make_all
returns-in_err-make_all g c =
    let p = err_from_is_err_and c.from_residual-in_err-make_all.result
    c.from_residual-in_err-make_all.ensures.1 in
    let folders = c.args.folders.now in
    let gives = g.F.ReadFiles.gives c.args.files.now in
    let messages = writing g.M.Sink c.args.messages.now c.read_all.new.messages in
    let sources : Sources = c.deref-2.result.now in
    let order : List ℕ = c.deref-3.result.now in
    rw (p.1, p.2) (made_so g.O.MakeFiles g.M.Sink gives folders.root.now folders.to.now
    c.args.queries.now c.args.made.now c.args.messages.now c.read_all.new.messages sources
    (subst (λ (ds : List Document). AllAreKept gives folders.root.now ds sources messages) c.documents-documents.ensures
    (subst (λ (s : Sources). AllAreKept gives folders.root.now c.documents-documents.result.now s messages)
    (sym c.deref-2.ensures.value) c.in_ok-sources.ensures))
    c.make_all.new.made order
    (subst (λ (ds : List Document). is_bare ds sources ≡ false) c.documents-documents.ensures
    (subst (λ (s : Sources). is_bare c.documents-documents.result.now s ≡ false)
    (c.deref.ensures.value ∙ sym c.deref-2.ensures.value)
    (sym c.is_bare.ensures ∙ c.if-is_bare.false)))
    (subst (λ (ds : List Document). IsByPath ds order) c.documents-documents.ensures
    (subst (λ (l : List ℕ). IsByPath c.documents-documents.result.now l) (sym c.deref-3.ensures.value)
    c.in_ok-order.ensures))
    (Err c.in_err-make_all.field-0.0) c.in_err-make_all.ensures)

pub returns : goal.returns
returns g c =
    let folders = c.args.folders.now in
    let gives = g.F.ReadFiles.gives c.args.files.now in
    let messages = writing g.M.Sink c.args.messages.now c.read_all.new.messages in
    let sources : Sources = c.deref-2.result.now in
    let order : List ℕ = c.deref-3.result.now in
    made_so g.O.MakeFiles g.M.Sink gives folders.root.now folders.to.now
    c.args.queries.now c.args.made.now c.args.messages.now c.read_all.new.messages sources
    (subst (λ (ds : List Document). AllAreKept gives folders.root.now ds sources messages) c.documents-documents.ensures
    (subst (λ (s : Sources). AllAreKept gives folders.root.now c.documents-documents.result.now s messages)
    (sym c.deref-2.ensures.value) c.in_ok-sources.ensures))
    c.make_all.new.made order
    (subst (λ (ds : List Document). is_bare ds sources ≡ false) c.documents-documents.ensures
    (subst (λ (s : Sources). is_bare c.documents-documents.result.now s ≡ false)
    (c.deref.ensures.value ∙ sym c.deref-2.ensures.value)
    (sym c.is_bare.ensures ∙ c.if-is_bare.false)))
    (subst (λ (ds : List Document). IsByPath ds order) c.documents-documents.ensures
    (subst (λ (l : List ℕ). IsByPath c.documents-documents.result.now l) (sym c.deref-3.ensures.value)
    c.in_ok-order.ensures))
    (Ok tt) c.in_ok-make_all.ensures
