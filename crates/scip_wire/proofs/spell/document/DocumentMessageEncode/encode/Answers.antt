use Rattle.scip_wire.proofs.OutputLemmas.{alike, both}
use Rattle.scip_wire.proofs.SpellingHalfLemmas.{halves_joined, front_short, back_short}
use Rattle.scip_wire.proofs.spell.document.DocumentMessageEncode.encode.Goals as goal

pub encode_front-requires : goal.encode_front-requires
encode_front-requires g c = front_short (g.D.DocumentParts.document c.args.self.now.document.now) c.requires

pub encode_back-requires : goal.encode_back-requires
encode_back-requires g c = back_short (g.D.DocumentParts.document c.args.self.now.document.now) c.requires

pub returns : goal.returns
returns g c =
    alike (halves_joined (g.D.DocumentParts.document c.args.self.now.document.now))
    (both c.encode_front.ensures c.encode_back.ensures)
