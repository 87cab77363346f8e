use Rattle.std.proofs.Common.{◌∙◌}
use Rattle.proto_options.proofs.FileLemmas.{gives_found, gives_only, gives_memory}
use Rattle.proto_options.proofs.reading.options_of.Goals as goal

pub returns-clause-found : goal.returns-clause-found
returns-clause-found c =
    gives_found c.args.lexed.now c.args.file.now _ _ _ c.file_options.result c.requires.derives
    (c.in_ok-scope.ensures ∙ c.in_ok-copy_of.ensures ∙ c.requires.packaged) c.new.ensures c.file_options.ensures

pub returns-clause-only : goal.returns-clause-only
returns-clause-only c =
    gives_only c.args.lexed.now c.args.file.now _ _ _ c.file_options.result
    (c.in_ok-scope.ensures ∙ c.in_ok-copy_of.ensures ∙ c.requires.packaged) c.new.ensures c.file_options.ensures

pub returns-clause-memory : goal.returns-clause-memory
returns-clause-memory c =
    gives_memory c.args.lexed.now c.args.file.now _ _ _ c.file_options.result c.requires.derives
    (c.in_ok-scope.ensures ∙ c.in_ok-copy_of.ensures ∙ c.requires.packaged) c.new.ensures c.file_options.ensures
