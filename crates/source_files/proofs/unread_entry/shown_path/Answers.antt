use Rattle.std.proofs.lemmas.Str.{IsUtf8-past_char}
use Rattle.source_files.proofs.UnreadEntryLemmas.{shown_empty, shown_step}
use Rattle.source_files.proofs.unread_entry.shown_path.Goals as goal

pub loop-character-preserved : goal.loop-character-preserved
loop-character-preserved c =
    let held = c.loop-character.invariant in
    let parts = c.in-Some.ensures.steps.0 in (
      IsUtf8-past_char _ _ c.in-Some.character held.0 parts,
      shown_step _ _ _ _ _ c.in-Some.character held.0 parts c.in_ok-push_character.ensures held.1,
    )

pub returns : goal.returns
returns c = shown_empty _ _ _ c.in-None.ensures.steps.0.0 c.loop-character.invariant.1
