use Rattle.std.proofs.Common.{◌↔◌, List, ℕ, rules, subst}
use Rattle.std.specs.List.{Contains}
use Rattle.std.proofs.lemmas.List.Sorted.{IsNonDecreasingBy-from_sort_by_key}
use Rattle.option_link.specs.declared.place.DeclaredPlace.{DeclaredPlace}
use Rattle.option_link.specs.Contexts.{IsMessageNamed}
use Rattle.option_link.proofs.MessageKindLemmas.{sorted_messages}
use Rattle.option_link.proofs.messages.messages_of.Goals as goal

pub returns : goal.returns
returns c =
    sorted_messages c.args.table.now _ c.in_ok-all.all.items (record { all = c.sort_unstable_by_key.new.self })
    (subst (λ (name : List ℕ). (message : DeclaredPlace) → Contains c.in_ok-all.all.items message
    ↔ IsMessageNamed c.args.table.now name message) c.options_message-name.ensures c.in_ok-all.ensures)
    c.sort_unstable_by_key.ensures.permutation
    (IsNonDecreasingBy-from_sort_by_key (λ (one : DeclaredPlace). one.file) c.sort_unstable_by_key.new.self.items
    c.sort_unstable_by_key.ensures.sorted (λ a r q k. search rules))
