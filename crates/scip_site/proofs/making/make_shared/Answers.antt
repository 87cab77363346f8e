use Rattle.std.proofs.Common.{◌++◌, Ok, Err}
use Rattle.std.specs.Prelude.{codes}
use Rattle.std.proofs.lemmas.Result.{err_from_is_err_and}
use Rattle.scip_site.specs.declared.styles.TheConstants.{STYLE, SEARCH}
use Rattle.scip_site.proofs.MakingLemmas.{both, stops, one, same_text}
use Rattle.scip_site.proofs.making.make_shared.Goals as goal

pub returns-in_err-make : goal.returns-in_err-make
returns-in_err-make g c =
    let p = err_from_is_err_and c.from_residual.result c.from_residual.ensures.1 in
    let filer = g.O.MakeFiles in
    let folder = c.args.folder.now in
    let fault = c.in_err-make.field-0.0 in
    rw (p.1, p.2) (stops filer c.args.made.now c.make.new.made (one folder (codes "pages.css") STYLE.now)
    (one folder (codes "search.js") SEARCH.now ++ one folder (codes "symbols.js") c.args.script.now
    ++ one folder (codes "index.html") c.args.first.now) fault
    (same_text filer c.args.made.now c.make.new.made folder (codes "pages.css") c.as_bytes.result.now STYLE.now
    (Err fault) c.as_bytes.ensures.value c.in_err-make.ensures))

pub returns-in_err-make-2 : goal.returns-in_err-make-2
returns-in_err-make-2 g c =
    let p = err_from_is_err_and c.from_residual-in_err-make-2.result
    c.from_residual-in_err-make-2.ensures.1 in
    let filer = g.O.MakeFiles in
    let folder = c.args.folder.now in
    let css = one folder (codes "pages.css") STYLE.now in
    let search = one folder (codes "search.js") SEARCH.now in
    let others = one folder (codes "symbols.js") c.args.script.now
    ++ one folder (codes "index.html") c.args.first.now in
    let fault = c.in_err-make-2.field-0.0 in
    rw (p.1, p.2) (both filer c.args.made.now c.make.new.made c.make-2.new.made css (search ++ others)
    (same_text filer c.args.made.now c.make.new.made folder (codes "pages.css") c.as_bytes.result.now STYLE.now
    (Ok tt) c.as_bytes.ensures.value c.in_ok-make.ensures) (Err fault)
    (stops filer c.make.new.made c.make-2.new.made search others fault
    (same_text filer c.make.new.made c.make-2.new.made folder (codes "search.js") c.as_bytes-2.result.now SEARCH.now
    (Err fault) c.as_bytes-2.ensures.value c.in_err-make-2.ensures)))

pub returns-in_err-make-3 : goal.returns-in_err-make-3
returns-in_err-make-3 g c =
    let p = err_from_is_err_and c.from_residual-in_err-make-3.result
    c.from_residual-in_err-make-3.ensures.1 in
    let filer = g.O.MakeFiles in
    let folder = c.args.folder.now in
    let css = one folder (codes "pages.css") STYLE.now in
    let search = one folder (codes "search.js") SEARCH.now in
    let symbols = one folder (codes "symbols.js") c.args.script.now in
    let first = one folder (codes "index.html") c.args.first.now in
    let fault = c.in_err-make-3.field-0.0 in
    rw (p.1, p.2) (both filer c.args.made.now c.make.new.made c.make-3.new.made css (search ++ symbols ++ first)
    (same_text filer c.args.made.now c.make.new.made folder (codes "pages.css") c.as_bytes.result.now STYLE.now
    (Ok tt) c.as_bytes.ensures.value c.in_ok-make.ensures) (Err fault)
    (both filer c.make.new.made c.make-2.new.made c.make-3.new.made search (symbols ++ first)
    (same_text filer c.make.new.made c.make-2.new.made folder (codes "search.js") c.as_bytes-2.result.now SEARCH.now
    (Ok tt) c.as_bytes-2.ensures.value c.in_ok-make-2.ensures) (Err fault)
    (stops filer c.make-2.new.made c.make-3.new.made symbols first fault c.in_err-make-3.ensures)))

pub returns : goal.returns
returns g c =
    let filer = g.O.MakeFiles in
    let folder = c.args.folder.now in
    let css = one folder (codes "pages.css") STYLE.now in
    let search = one folder (codes "search.js") SEARCH.now in
    let symbols = one folder (codes "symbols.js") c.args.script.now in
    let first = one folder (codes "index.html") c.args.first.now in
    let done = c.make-4.result in
    both filer c.args.made.now c.make.new.made c.make-4.new.made css (search ++ symbols ++ first)
    (same_text filer c.args.made.now c.make.new.made folder (codes "pages.css") c.as_bytes.result.now STYLE.now
    (Ok tt) c.as_bytes.ensures.value c.in_ok-make.ensures) done
    (both filer c.make.new.made c.make-2.new.made c.make-4.new.made search (symbols ++ first)
    (same_text filer c.make.new.made c.make-2.new.made folder (codes "search.js") c.as_bytes-2.result.now SEARCH.now
    (Ok tt) c.as_bytes-2.ensures.value c.in_ok-make-2.ensures) done
    (both filer c.make-2.new.made c.make-3.new.made c.make-4.new.made symbols first c.in_ok-make-3.ensures done
    c.make-4.ensures))
