-- The forms in which texts of comments are given.
use Rattle.comment_texts.specs.declared.form.CommentForm.{CommentForm}
use Rattle.comment_texts.specs.declared.form.CommentForm.TheVariants.{Raw, Clean, RawWithoutNul, CleanWithoutNul}

-- the same form, with U+FFFD in place of each NUL
abbrev pub nul_replaced : CommentForm → CommentForm
nul_replaced Raw = RawWithoutNul
nul_replaced Clean = CleanWithoutNul
nul_replaced RawWithoutNul = RawWithoutNul
nul_replaced CleanWithoutNul = CleanWithoutNul
