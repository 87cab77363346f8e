use Rattle.std.proofs.Common.{Option, sym, subst}
use Rattle.std.specs.Prelude.{IfOk}
use Rattle.std.specs.Option.{option_map}
use Rattle.std.specs.String.{string_bytes}
use Rattle.command_line.specs.declared.options.sources.SourceList.{SourceList}
use Rattle.programs.specs.NoSources.{NoneFoundIn, is_told}
use Rattle.programs.proofs.starting.none_found_by.Goals as goal

pub returns-in-Some : goal.returns-in-Some
returns-in-Some g c =
    let options = c.args.options.now in
    let root = string_bytes options.root in
    let By : Option SourceList → Type 0 = λ sources.
    IfOk c.none_listed.result (λ line. NoneFoundIn (g.F.LookAgain.passes c.args.host.now.files.now root) root sources
    c.args.tree.now (is_told c.args.host.now.is_watched options) (option_map string_bytes line)) in
    subst By (sym c.in-Some.is) (rw (c.as_str.ensures.value, c.is_told-is_told.ensures) at c.none_listed.ensures)

pub returns-in-None : goal.returns-in-None
returns-in-None g c =
    let options = c.args.options.now in
    let root = string_bytes options.root in
    let By : Option SourceList → Type 0 = λ sources.
    IfOk c.none_found.result (λ line. NoneFoundIn (g.F.LookAgain.passes c.args.host.now.files.now root) root sources
    c.args.tree.now (is_told c.args.host.now.is_watched options) (option_map string_bytes line)) in
    subst By (sym c.in-None.is) (rw (c.as_str-in-None.ensures.value, c.is_told-is_told.ensures) at c.none_found.ensures)
