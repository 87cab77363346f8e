-- `--comments`: how the texts of comments are given.
use Rattle.std.specs.Prelude.{List, [], ◌∷◌, codes, if◌then◌else◌}
use Rattle.std.specs.Str.{bytes_eq}
use Rattle.clap.specs.Words.{Row, Rule, Text}
use Rattle.comment_texts.specs.declared.form.CommentForm.{CommentForm}
use Rattle.comment_texts.specs.declared.form.CommentForm.TheVariants.{Raw, Clean}
use Rattle.command_line.specs.Arguments.{WordList, option_rule, or_default, taking_words}
use Rattle.command_line.specs.Options.Real.{text_by_real}

abbrev pub comments_words : List Text
comments_words = codes "raw" ∷ codes "clean" ∷ []

abbrev pub comments_rule : WordList → Rule
comments_rule words = or_default (codes "raw") (taking_words words (option_rule (codes "comments")))

-- what each word says; `clap` refuses every other text
abbrev pub comments_in : Text → CommentForm
comments_in text = if bytes_eq text (codes "clean") then Clean else Raw

abbrev pub comments_of : List Row → CommentForm
comments_of rows = comments_in (text_by_real (codes "comments") (codes "clean") rows)
