use Rattle.std.proofs.Common.{rules}
use Rattle.proto_decl.proofs.declaring.declare_with.Goals as goal

pub new-requires : goal.new-requires
new-requires c = record {
  form = c.args.form;
  lexed = c.args.lexed.now;
  file = c.args.file.now;
  is_lexed = c.are_lexed.ensures;
  derives = c.requires;
  of_file = search rules;
}
