use Rattle.std.proofs.Common.{refl}
use Rattle.std.proofs.lemmas.Result.{err_from_is_err_and}
use Rattle.streams.specs.Readers.{reading}
use Rattle.streams.specs.Writers.{writing}
use Rattle.protoscip.specs.Indexes.{recorded_of}
use Rattle.protoscip.proofs.HeadlineFileLemmas.{files_of_build, files_of_built}
use Rattle.protoscip.proofs.HeadlineNavigableLemmas.{answers}
use Rattle.protoscip.proofs.SessionLemmas.{unbuilt, unserved, all_served, no_files}
use Rattle.protoscip.proofs.sessions.session_in.Goals as goal

-- where the tree isn't built

pub returns-in_err-index-clause-files : goal.returns-in_err-index-clause-files
returns-in_err-index-clause-files g c =
    let p = err_from_is_err_and c.from_residual.result c.from_residual.ensures.1 in
    rw (p.1, p.2) (files_of_build
    (g.C.Chooses.allows c.args.talk.now.chooser.now) c.args.talk.now.settings.now c.args.tree.now
    c.args.run.now.workers
    c.in_err-index.field-0.0 c.in_err-index.ensures.refused)

pub returns-in_err-index-clause-served : goal.returns-in_err-index-clause-served
returns-in_err-index-clause-served g c =
    let p = err_from_is_err_and c.from_residual.result c.from_residual.ensures.1 in
    rw (p.1, p.2) (unbuilt c.args.talk.now.manner (reading g.F.Feed c.args.commands.now c.args.commands.now)
    (writing g.W.Sink c.args.answers.now c.args.answers.now) (g.C.Chooses.allows c.args.talk.now.chooser.now)
    c.args.talk.now.settings.now c.args.tree.now c.args.run.now.workers c.in_err-index.field-0.0
    c.in_err-index.ensures.refused (record { unread = refl; unwritten = refl }))

-- where the conversation stops

pub returns-in_err-converse-clause-served : goal.returns-in_err-converse-clause-served
returns-in_err-converse-clause-served g c =
    let p = err_from_is_err_and c.from_residual-in_err-converse.result c.from_residual-in_err-converse.ensures.1 in
    rw (p.1, p.2) (unserved c.args.talk.now.manner (reading g.F.Feed c.args.commands.now c.converse.new.commands)
    (writing g.W.Sink c.args.answers.now c.converse.new.answers)
    (g.C.Chooses.allows c.args.talk.now.chooser.now) c.args.talk.now.settings.now c.args.tree.now c.args.run.now.workers
    c.in_ok-index.field-0 c.in_ok-index.ensures.built c.in_err-converse.field-0.0 c.in_err-converse.ensures)

pub returns-in_err-converse-clause-files : goal.returns-in_err-converse-clause-files
returns-in_err-converse-clause-files g c =
    let p = err_from_is_err_and c.from_residual-in_err-converse.result c.from_residual-in_err-converse.ensures.1 in
    rw (p.1, p.2) (no_files c.args.talk.now.manner (reading g.F.Feed c.args.commands.now c.converse.new.commands)
    (writing g.W.Sink c.args.answers.now c.converse.new.answers)
    c.args.tree.now c.in_ok-index.field-0.index c.in_err-converse.field-0.0 c.in_err-converse.ensures)

-- where it ends

pub returns-clause-served : goal.returns-clause-served
returns-clause-served g c =
    all_served c.args.talk.now.manner (reading g.F.Feed c.args.commands.now c.converse.new.commands)
    (writing g.W.Sink c.args.answers.now
    c.converse.new.answers)
    (g.C.Chooses.allows c.args.talk.now.chooser.now) c.args.talk.now.settings.now c.args.tree.now c.args.run.now.workers
    c.in_ok-index.field-0 c.in_ok-index.ensures.built c.in_ok-converse.field-0 c.in_ok-converse.ensures

pub returns-clause-navigable : goal.returns-clause-navigable
returns-clause-navigable g c =
    answers (g.C.Chooses.allows c.args.talk.now.chooser.now) c.args.talk.now.settings.now c.args.tree.now
    c.headline_of_tree.ensures
    c.args.talk.now.manner (reading g.F.Feed c.args.commands.now c.converse.new.commands)
    (writing g.W.Sink c.args.answers.now c.converse.new.answers) c.args.run.now.workers
    (recorded_of c.in_ok-index.field-0.choices c.in_ok-index.field-0.told)
    (returns-clause-served g c)

pub returns-clause-told : goal.returns-clause-told
returns-clause-told g c =
    files_of_built (g.C.Chooses.allows c.args.talk.now.chooser.now) c.args.talk.now.settings.now c.args.tree.now
    c.in_ok-index.field-0
    c.in_ok-index.ensures.built
