use Rattle.std.proofs.Common.{List, ℕ, map, sym, subst}
use denote.Ref.{Bor}
use Rattle.option_link.specs.Contexts.{HasWords}
use Rattle.option_link.proofs.TargetNameLemmas.{none_wordless}
use Rattle.option_link.proofs.LoopLemmas.{some_of, none_of}
use Rattle.option_link.proofs.WordLemmas.{now}
use Rattle.option_link.proofs.naming.Asked.target_of_words.Goals as goal

pub target_by-requires-clause-words : goal.target_by-requires-clause-words
target_by-requires-clause-words c =
    subst (λ (ws : List (Bor (List ℕ))). HasWords c.args.self.text.now c.args.name.now (map now ws))
    (sym c.as_slice.ensures.value) (some_of _ _ _ c.in-Some.is c.in_ok-words.ensures)

pub returns-in-None : goal.returns-in-None
returns-in-None c =
    let self = c.args.self in
    none_wordless self.files.names.now self.files.known.now self.file self.text.now self.option.now c.args.number
    c.args.name.now c.args.name.now.role c.args.context (none_of _ _ c.in-None.is c.in_ok-words.ensures)
