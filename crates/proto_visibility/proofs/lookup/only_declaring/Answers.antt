use Rattle.proto_visibility.proofs.lookup.only_declaring.Goals as goal

pub returns-in-None : goal.returns-in-None
returns-in-None c = λ number alone. c.in-None.ensures number alone.there alone.declares
