use Rattle.std.proofs.Common.{List, ℕ, map, subst, sym}
use denote.Ref.{Bor}
use Rattle.proto_options.specs.declared.names.OptionRole.TheVariants as role
use Rattle.option_link.specs.Contexts.{HasWords}
use Rattle.option_link.proofs.TargetNameLemmas.{none_wordless}
use Rattle.option_link.proofs.LoopLemmas.{some_of, none_of}
use Rattle.option_link.proofs.WordLemmas.{now}
use Rattle.option_link.proofs.naming.Asked.behind_in_set.Goals as goal

pub behind_words-requires-clause-words : goal.behind_words-requires-clause-words
behind_words-requires-clause-words c =
    subst (λ (ws : List (Bor (List ℕ))). HasWords c.args.self.text.now c.args.name.now (map now ws))
    (sym c.as_slice.ensures.value) (some_of _ _ _ c.in-Some.is c.in_ok-words.ensures)

pub returns-in-None : goal.returns-in-None
returns-in-None c =
    let self = c.args.self in
    λ at names. absurd (none_wordless self.files.names.now self.files.known.now self.file self.text.now self.option.now
    c.args.number c.args.name.now role.Extension c.args.context (none_of _ _ c.in-None.is c.in_ok-words.ensures) at
    names)
