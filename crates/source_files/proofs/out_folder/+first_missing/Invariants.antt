use Rattle.source_files.proofs.out_folder.+first_missing.Given as goal

-- so many folders may still be missing
abbrev pub decreases-first_missing : goal.decreases-first_missing
decreases-first_missing g l = l.room
