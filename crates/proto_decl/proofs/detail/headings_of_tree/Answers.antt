use Rattle.proto_decl.proofs.DetailLemmas.{items_headed}
use Rattle.proto_decl.proofs.detail.headings_of_tree.Goals as goal

pub returns : goal.returns
returns c = λ surrounding.
    items_headed c.args.lexed.now c.args.file.now
    (c.spans_of_tokens.ensures.items c.args.lexed.now.text c.args.lexed.now.tokens c.args.file.now c.requires)
    surrounding
