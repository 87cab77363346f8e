use Rattle.std.proofs.Common.{◌≡◌, ◌∙◌, ◌<◌, refl, List, [], ◌∷◌, length, arith}
use Rattle.proto_lex.specs.Lexed.{Lexed}
use Rattle.proto_lex.specs.declared.token.Comment.{Comment}
use Rattle.comment_texts.specs.declared.form.CommentForm.{CommentForm}
use Rattle.comment_texts.specs.declared.form.CommentForm.TheVariants.{Raw, Clean, RawWithoutNul, CleanWithoutNul}
use Rattle.proto_decl.specs.Comments.{texts_in}
use Rattle.proto_decl.proofs.comments.texts_in.Goals as goal

-- what isn't there is as short in each form
empty_in : (form : CommentForm) (lexed : Lexed) → [] ≡ texts_in form lexed []
empty_in Raw lexed = refl
empty_in Clean lexed = refl
empty_in RawWithoutNul lexed = refl
empty_in CleanWithoutNul lexed = refl

none_in : (form : CommentForm) (lexed : Lexed) (comments : List Comment) → length comments < 1
    → [] ≡ texts_in form lexed comments
none_in form lexed [] none = empty_in form lexed
none_in form lexed (comment ∷ others) none = absurd (omega (arith, none))

pub returns-in-empty : goal.returns-in-empty
returns-in-empty c =
    c.borrowed.ensures ∙ none_in c.args.form c.args.lexed.now c.args.comments.now c.in-empty.len_below
