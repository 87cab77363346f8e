use Rattle.source_files.proofs.out_file.+make_folder.Given as goal

-- so many folders may still be missing
abbrev pub decreases-make_folder : goal.decreases-make_folder
decreases-make_folder g l = l.room
