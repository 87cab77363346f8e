use Rattle.std.proofs.Common.{◌∙◌, ap, sym, length}
use Rattle.std.specs.List.{prefix_len}
use Rattle.comment_texts.specs.Nul.{is_plain}
use Rattle.comment_texts.proofs.NulLemmas.{none_shown}
use Rattle.comment_texts.proofs.nul.without_nul.Goals as goal

pub returns-then-plain_len-as_str : goal.returns-then-plain_len-as_str
returns-then-plain_len-as_str c =
    sym (none_shown c.args.text
    (sym (c.plain_len.ensures.value ∙ ap (prefix_len is_plain) c.as_str.ensures)
    ∙ (c.if-plain_len-as_str.true ∙ ap length c.as_str-2.ensures)))
