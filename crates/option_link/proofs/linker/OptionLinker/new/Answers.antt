use Rattle.std.proofs.Common.{List, length, ap, sym, ◌∙◌, subst}
use Rattle.proto_visibility.specs.Files.{File}
use Rattle.option_link.specs.declared.facts.OptionFacts.{OptionFacts}
use Rattle.proto_link.specs.Uncertain.{AreFirstUnread}
use Rattle.option_link.specs.Linked.{LinkedOptions}
use Rattle.option_link.proofs.linker.OptionLinker.new.Goals as goal

abbrev linked_with : List OptionFacts → List File → LinkedOptions
linked_with known files = record { files = files; known = known }

pub invariant_of-result : goal.invariant_of-result
invariant_of-result c = (
  record {
    each = c.requires.each ∙ sym (ap length (c.keep_messages.ensures ∙ (c.keep_types.ensures ∙ c.in_ok-table.ensures)));
    in_order = c.requires.in_order;
  },
  c.in_ok-often.ensures,
  subst (λ (files : List File). AreFirstUnread files (length files) c.in_ok-unread.unread.items)
      (sym (c.keep_messages.ensures ∙ (c.keep_types.ensures ∙ c.in_ok-table.ensures))) c.in_ok-unread.ensures,
  c.in_ok-said.ensures,
)

pub returns : goal.returns
returns c = ap (linked_with c.args.known.now) (c.keep_messages.ensures ∙ (c.keep_types.ensures ∙ c.in_ok-table.ensures))
