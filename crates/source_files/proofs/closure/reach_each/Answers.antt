use Rattle.std.proofs.Common.{ap, arith, length, map, not, string_bytes}
use Rattle.std.proofs.lemmas.Result.{err_from_is_err_and}
use Rattle.source_files.specs.Closures.{Gathered, paths_in}
use Rattle.source_files.proofs.ReachedLemmas.{at_most, ends_far, level_falls, level_far, none_to_look, some_to_look}
use Rattle.source_files.proofs.ReachedLemmas.{starts_far, stops_in, too_many_far}
use Rattle.source_files.proofs.closure.reach_each.Goals as goal

pub loop-known-init : goal.loop-known-init
loop-known-init g c =
    starts_far (g.F.ReadFiles.finds c.args.looking.now.files.now)
    (g.F.ReadFiles.gives c.args.looking.now.files.now) (g.I.FindImports.tells c.args.looking.now.finder.now)
    c.args.looking.now.leaves_out c.args.links_options (map string_bytes c.args.looking.now.roots.now) c.args.sources.now
    (paths_in c.args.known) (paths_in c.first_fresh.new.known) (map string_bytes c.in_ok-fresh.fresh.items)
    c.nothing-all.result c.nothing-all.ensures c.in_ok-fresh.ensures

pub returns-in_err-fresh-2 : goal.returns-in_err-fresh-2
returns-in_err-fresh-2 g c =
    λ listed same.
    let p = err_from_is_err_and c.from_residual-in_err-fresh-2.result c.from_residual-in_err-fresh-2.ensures.1 in
    rw (p.1, p.2) (stops_in (g.F.ReadFiles.finds c.args.looking.now.files.now)
    (g.F.ReadFiles.gives c.args.looking.now.files.now) (g.I.FindImports.tells c.args.looking.now.finder.now)
    c.args.looking.now.leaves_out c.args.links_options (map string_bytes c.args.looking.now.roots.now) c.args.sources.now
    c.args.looking.now.is_wanted c.requires.wanted c.requires.lenient (paths_in c.args.known) (paths_in c.loop-known.known)
    (map string_bytes c.loop-known.fresh.items) (map string_bytes c.deref.result.now) c.loop-known.all
    c.in_err-fresh-2.field-0.0 (ap (map string_bytes) c.deref.ensures.value) c.loop-known.invariant
    c.in_err-fresh-2.ensures.stops listed same)

pub returns-then-are_too_many : goal.returns-then-are_too_many
returns-then-are_too_many g c =
    let level = c.in_ok-fresh-2.ensures.level in
    too_many_far (g.F.ReadFiles.finds c.args.looking.now.files.now)
    (g.F.ReadFiles.gives c.args.looking.now.files.now) (g.I.FindImports.tells c.args.looking.now.finder.now)
    c.args.looking.now.leaves_out c.args.links_options (map string_bytes c.args.looking.now.roots.now) c.args.sources.now
    (paths_in c.args.known) (paths_in c.reach_level.new.known) (map string_bytes c.in_ok-fresh-2.fresh.items)
    c.reach_level.new.all
    (level_far (g.F.ReadFiles.finds c.args.looking.now.files.now)
    (g.F.ReadFiles.gives c.args.looking.now.files.now) (g.I.FindImports.tells c.args.looking.now.finder.now)
    c.args.looking.now.leaves_out c.args.links_options (map string_bytes c.args.looking.now.roots.now) c.args.sources.now
    c.args.looking.now.is_wanted c.requires.wanted (paths_in c.args.known) (paths_in c.loop-known.known)
    (paths_in c.reach_level.new.known) (map string_bytes c.loop-known.fresh.items)
    (map string_bytes c.deref.result.now) (map string_bytes c.in_ok-fresh-2.fresh.items) c.loop-known.all
    c.reach_level.new.all level.0 (ap (map string_bytes) c.deref.ensures.value) c.loop-known.invariant level.1 level.2
    level.3)
    (omega (
      arith,
      c.are_too_many.ensures.0 c.if-are_too_many.true,
      c.len.ensures,
      ap (λ (all : Gathered). length all.found) c.all-in-loop-known.view_is,
    ))

pub loop-known-smaller : goal.loop-known-smaller
loop-known-smaller g c =
    let level = c.in_ok-fresh-2.ensures.level in
    level_falls (not c.args.links_options) c.loop-known.all c.reach_level.new.all level.0 (paths_in c.loop-known.known)
    (paths_in c.reach_level.new.known) (map string_bytes c.loop-known.fresh.items)
    (map string_bytes c.in_ok-fresh-2.fresh.items)
    (some_to_look c.loop-known.fresh.items c.loop-known.fresh.len c.is_empty.result
    (omega (arith, c.loop-known.fresh.ok.0))
    c.is_empty.ensures c.loop-known-test.true) level.2
    (at_most (length c.args.sources.now) c.len.result (length c.reach_level.new.all.found) c.are_too_many.result
    c.are_too_many.ensures c.if-are_too_many.false
    (omega (
      arith,
      c.len.ensures,
      c.all-in-loop-known.inside.found.ok.0,
      ap (λ (all : Gathered). length all.found) c.all-in-loop-known.view_is,
    ))) level.3

pub loop-known-preserved : goal.loop-known-preserved
loop-known-preserved g c =
    let level = c.in_ok-fresh-2.ensures.level in
    level_far (g.F.ReadFiles.finds c.args.looking.now.files.now)
    (g.F.ReadFiles.gives c.args.looking.now.files.now) (g.I.FindImports.tells c.args.looking.now.finder.now)
    c.args.looking.now.leaves_out c.args.links_options (map string_bytes c.args.looking.now.roots.now) c.args.sources.now
    c.args.looking.now.is_wanted c.requires.wanted (paths_in c.args.known) (paths_in c.loop-known.known)
    (paths_in c.reach_level.new.known) (map string_bytes c.loop-known.fresh.items)
    (map string_bytes c.deref.result.now) (map string_bytes c.in_ok-fresh-2.fresh.items) c.loop-known.all
    c.reach_level.new.all level.0 (ap (map string_bytes) c.deref.ensures.value) c.loop-known.invariant level.1 level.2
    level.3

pub returns : goal.returns
returns g c =
    ends_far (g.F.ReadFiles.finds c.args.looking.now.files.now)
    (g.F.ReadFiles.gives c.args.looking.now.files.now) (g.I.FindImports.tells c.args.looking.now.finder.now)
    c.args.looking.now.leaves_out c.args.links_options (map string_bytes c.args.looking.now.roots.now) c.args.sources.now
    (paths_in c.args.known) (paths_in c.loop-known.known) (map string_bytes c.loop-known.fresh.items) c.loop-known.all
    (none_to_look c.loop-known.fresh.items c.loop-known.fresh.len c.is_empty.result
    (omega (arith, c.loop-known.fresh.ok.0))
    c.is_empty.ensures c.loop-known-test.false)
    c.loop-known.invariant
