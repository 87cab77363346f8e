use Rattle.std.proofs.Common.{◌↔◌, ℕ, IfOk, MatchOption, ap, sym, subst}
use Rattle.std.specs.List.{Contains}
use Rattle.std.proofs.lemmas.Option.{slice_get_within}
use Rattle.proto_options.specs.declared.names.OptionName.{OptionName}
use Rattle.proto_visibility.specs.Files.{IsSource}
use Rattle.proto_visibility.specs.Reaches.{LinksOptions}
use Rattle.option_link.specs.declared.target.OptionTarget.{OptionTarget}
use Rattle.option_link.specs.Linked.{LinkedOptions}
use Rattle.option_link.specs.OptionNames.{IsGap, IsOptionTarget}
use Rattle.option_link.specs.Uncertain.{IsInDoubt, IsUncertainName}
use Rattle.proto_link.specs.Uncertain.{IsFirstUnreadIf}
use Rattle.option_link.proofs.linker.OptionLinker.targets.Goals as goal

pub new-often-requires : goal.new-often-requires
new-often-requires c = c.self.invariant.1

pub invariant_of-asked : goal.invariant_of-asked
invariant_of-asked c = record { same_said = c.self.invariant.3 }

pub invariant_of-files : goal.invariant_of-files
invariant_of-files c = record {
  in_order = c.self.invariant.0.in_order;
  same_files = ap (λ (o : LinkedOptions). o.files) c.new-often.ensures;
  same_known = ap (λ (o : LinkedOptions). o.known) c.new-often.ensures;
}

pub all_targets-requires-clause-source : goal.all_targets-requires-clause-source
all_targets-requires-clause-source c =
    subst (λ (o : LinkedOptions). IsSource o.files c.args.file) (sym c.self.view_is) c.requires.source

pub all_targets-requires-clause-links : goal.all_targets-requires-clause-links
all_targets-requires-clause-links c =
    subst (λ (o : LinkedOptions). LinksOptions o.files c.args.file) (sym c.self.view_is) c.requires.links

pub returns-clause-targets : goal.returns-clause-targets
returns-clause-targets c =
    subst (λ (o : LinkedOptions). IfOk c.all_targets.result (λ found. (target : OptionTarget)
    → Contains found.targets target
    ↔ IsOptionTarget o.files o.known c.args.file c.args.text.now c.args.option.now target)) c.self.view_is
    c.all_targets.ensures.targets

pub returns-clause-gap : goal.returns-clause-gap
returns-clause-gap c =
    subst (λ (o : LinkedOptions). IfOk c.all_targets.result (λ found. MatchOption found.gap
    ((number : ℕ) (name : OptionName)
    → IsGap o.files o.known c.args.file c.args.text.now c.args.option.now number name → ⊥)
    (λ number. (name : OptionName)
    × IsGap o.files o.known c.args.file c.args.text.now c.args.option.now number name))) c.self.view_is
    c.all_targets.ensures.gap

pub first_unread-requires : goal.first_unread-requires
first_unread-requires c = slice_get_within _ c.args.file c.requires.source.file c.requires.source.numbered

pub all_targets-requires-clause-first : goal.all_targets-requires-clause-first
all_targets-requires-clause-first c =
    subst (λ (o : LinkedOptions). IsFirstUnreadIf o.files c.args.file c.first_unread.result) (sym c.self.view_is)
    c.first_unread.ensures

pub returns-clause-uncertain : goal.returns-clause-uncertain
returns-clause-uncertain c =
    subst (λ (o : LinkedOptions). IfOk c.all_targets.result (λ found. MatchOption found.uncertain
    ((number behind : ℕ) → IsInDoubt o.files o.known c.args.file c.args.text.now c.args.option.now number behind → ⊥)
    (IsUncertainName o.files o.known c.args.file c.args.text.now c.args.option.now))) c.self.view_is
    c.all_targets.ensures.uncertain
