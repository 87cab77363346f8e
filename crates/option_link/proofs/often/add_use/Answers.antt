use Rattle.option_link.proofs.TypeListLemmas.{type_more}
use Rattle.option_link.proofs.often.add_use.Goals as goal

pub returns : goal.returns
returns c =
    type_more c.args.files.names.now c.args.types.now.items c.push.new.self.items _ c.in_ok-found.ensures
    c.in_ok-push.ensures.items c.requires.found
