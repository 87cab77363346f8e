use Rattle.std.proofs.Common.{◌∙◌, arith, subst, sym}
use Rattle.source_files.specs.SourceLists.{AreSeen}
use Rattle.source_files.proofs.SourceListLemmas.{names_again, names_nothing, names_path, seen_more}
use Rattle.source_files.proofs.source_list.add_line.Goals as goal

pub returns-then-is_empty-clause-added : goal.returns-then-is_empty-clause-added
returns-then-is_empty-clause-added c =
    names_nothing c.args.line c.args.text.now c.bare_line-bare.result.now c.args.paths.now.items
    c.bare_line-bare.ensures (sym c.is_empty.ensures ∙ c.if-is_empty.true)

pub returns-then-is_seen-clause-added : goal.returns-then-is_seen-clause-added
returns-then-is_seen-clause-added c =
    names_again c.args.line c.args.text.now c.bare_line-bare.result.now c.args.paths.now.items
    c.bare_line-bare.ensures
    (sym (c.requires c.bare_line-bare.result.now) ∙ (sym c.is_seen.ensures ∙ c.if-is_seen.true))

pub returns-clause-added : goal.returns-clause-added
returns-clause-added c =
    names_path c.args.line c.args.text.now c.bare_line-bare.result.now c.args.paths.now.items
    c.push_path.new.paths.items c.bare_line-bare.ensures
    (omega (arith, c.if-len-ge-MAX_FILES.false, c.len.ensures))
    (c.is_good_path.ensures.0 c.if-not-is_good_path.false)
    (sym (c.requires c.bare_line-bare.result.now) ∙ (sym c.is_seen.ensures ∙ c.if-is_seen.false))
    c.in_ok-push_path.ensures

pub returns-clause-seen : goal.returns-clause-seen
returns-clause-seen c =
    subst (AreSeen c.see.new.seen) (sym c.in_ok-push_path.ensures)
    (seen_more c.args.seen.now c.see.new.seen c.args.paths.now.items c.bare_line-bare.result.now c.args.line
    c.in_ok-see.ensures c.requires)
