use Rattle.std.proofs.Common.{◌∙◌, [], List, ap, map, not, string_bytes, subst}
use Rattle.source_files.specs.Closures.{AddsFresh, Gathered, paths_in, wanted_in, with_more}
use Rattle.source_files.specs.Reached.{Told}
use Rattle.source_files.proofs.closure.reach_level.Goals as goal

pub returns-clause-level : goal.returns-clause-level
returns-clause-level g c =
    let level = c.level.view_is ∙ c.in_ok-level.ensures in (
      c.in_ok-looked.looked.items,
      c.in_ok-looked.ensures,
      c.in_ok-add_gathered.ensures ∙ ap (with_more c.args.all.now) c.in_ok-level.ensures,
      subst (λ (files : List Told). AddsFresh (wanted_in (not c.args.links_options) files) (paths_in c.args.known.now)
          (paths_in c.fresh_of.new.known) [] (map string_bytes c.in_ok-fresh.fresh.items))
          (c.deref.ensures.value ∙ ap (λ (all : Gathered). all.found) level) c.in_ok-fresh.ensures,
    )
