-- Where the package statement stands among the items of a file.
use Rattle.std.proofs.Common.{◌≡◌, Option, Some, None, List, [], ◌++◌, refl, sym, ◌∙◌, ap, subst, append_assoc}
use Rattle.proto_lex.specs.declared.span.Span.{Span}
use Rattle.proto_grammar.specs.declared.dialect.Dialect.{Dialect}
use Rattle.proto_grammar.specs.declared.dialect.Syntax.{Syntax}
use Rattle.proto_grammar.specs.declared.tree.FileItem.{FileItem}
use Rattle.proto_grammar.specs.declared.tree.File.{File}
use Rattle.proto_grammar.specs.Lexeme.{Lexeme}
use Rattle.proto_grammar.specs.Terminal.{is_end}
use Rattle.proto_grammar.specs.Grammar.Repetition.{Until}
use Rattle.proto_grammar.specs.Grammar.Repetition.Until.{done, more}
use Rattle.std.proofs.lemmas.Option.{same_Some}
use Rattle.proto_parse.specs.Grammar.Files.{empty_file, IsStatement, IsFile}
use Rattle.proto_parse.specs.Grammar.Files.IsStatement.{empty, import, package_statement, option, message, enum}
use Rattle.proto_parse.specs.Grammar.Files.IsStatement.{service, extend}
use Rattle.proto_parse.specs.Grammar.Files.IsFileWithin.{file}
use Rattle.proto_parse.specs.Walk.{Mark, Among, PackageIsAmongItems}
use Rattle.proto_parse.proofs.Walk.Then.{each_then, item_then, names_then, between_are}
use Rattle.proto_parse.specs.Walk.Among.{none as no_marks}
use Rattle.proto_parse.proofs.Walk.Marks.{Puts, each_then-append, until_puts, statement_items, package_marks}
use Rattle.proto_parse.proofs.Walk.Past.{over}
use Rattle.proto_parse.proofs.GrammarTailLemmas.{syntax_past}
use Rattle.proto_parse.proofs.GrammarTailLemmas.IsTail.{here}
use Rattle.proto_steps.specs.Limits.{max_message_depth}

-- a package's name stays
statement_keeps : (syntax : Syntax) (f g : File) (a b : List Lexeme) (components : List Span)
    → IsStatement max_message_depth syntax f a g b → f.package_name ≡ Some components → g.package_name ≡ Some components
statement_keeps syntax f g a b components (empty s) set = set
statement_keeps syntax f g a b components (import i) set = set
statement_keeps syntax f g a b components (package_statement none_yet p) set =
    absurd (let both : None ≡ Some components = sym none_yet ∙ set in cc)
statement_keeps syntax f g a b components (option o) set = set
statement_keeps syntax f g a b components (message m i) set = set
statement_keeps syntax f g a b components (enum i) set = set
statement_keeps syntax f g a b components (service i) set = set
statement_keeps syntax f g a b components (extend e) set = set

statements_keep : (syntax : Syntax) (f g : File) (a b : List Lexeme) (components : List Span)
    → Until is_end (IsStatement max_message_depth syntax) f a g b → f.package_name ≡ Some components
    → g.package_name ≡ Some components
statements_keep syntax f g a b components (done e) set = set
statements_keep syntax f g a b components (more {t = t} {b = c} further first behind) set =
    statements_keep syntax t g c b components behind (statement_keeps syntax f t a c components first set)

-- the components are between the items before and those behind
abbrev AreBetween : (components : List Span) → List FileItem → List Lexeme → Type 0
AreBetween components items tokens =
    (before : List FileItem)
    × ((behind : List FileItem) × ((items ≡ before ++ behind)
    × Among (each_then item_then before (names_then components (each_then item_then behind []))) tokens))

-- what a chain of statements with a package statement puts behind the items of a file
abbrev Places : List Span → File → File → List Lexeme → Type 0
Places components f g a = (items : List FileItem) × (g.items ≡ f.items ++ items) × AreBetween components items a

-- a statement before the package statement
one_before : (components : List Span) (f t g : File) (a b : List Lexeme)
    → ((marks : List Mark) → Among marks b → Puts (λ (x : File). x.items) item_then f a t b marks)
    → Places components t g b → Places components f g a
one_before components f t g a b puts (items, all, (before, (behind, (split, among)))) =
    let now = puts (each_then item_then before (names_then components (each_then item_then behind []))) among in (
      now.0 ++ items,
      all ∙ ap (λ front. front ++ items) now.1 ∙ append_assoc f.items now.0 items,
      (
        now.0 ++ before,
        (
          behind,
          (
            ap (λ rest. now.0 ++ rest) split ∙ sym (append_assoc now.0 before behind),
            rw (each_then-append item_then now.0 before (names_then components (each_then item_then behind []))) now.2,
          ),
        ),
      ),
    )

places : (syntax : Syntax) (f g : File) (a c : List Lexeme) (components : List Span)
    → Until is_end (IsStatement max_message_depth syntax) f a g c → f.package_name ≡ None
    → g.package_name ≡ Some components
    → Places components f g a
places syntax f g a c components (done e) none_yet set =
    absurd (let both : None ≡ Some components = sym none_yet ∙ set in cc)
places syntax f g a c components
    (more {b = b} further (package_statement {components = x} none p) rest) none_yet set =
    let later = until_puts (λ (y : File). y.items) item_then (statement_items syntax)
    (record f { package_name = Some x }) g b c rest [] no_marks in
    let same : x ≡ components =
    same_Some x components (sym (statements_keep syntax (record f { package_name = Some x }) g b c x rest refl)
    ∙ set) in
    (later.0, later.1, ([], (later.0, (refl, rw (← same) (package_marks p later.2)))))
places syntax f g a c components (more {t = t} {b = b} further (empty s) rest) none_yet set =
    one_before components f t g a b (statement_items syntax f t a b (empty s))
    (places syntax t g b c components rest none_yet set)
places syntax f g a c components (more {t = t} {b = b} further (import i) rest) none_yet set =
    one_before components f t g a b (statement_items syntax f t a b (import i))
    (places syntax t g b c components rest none_yet set)
places syntax f g a c components (more {t = t} {b = b} further (option o) rest) none_yet set =
    one_before components f t g a b (statement_items syntax f t a b (option o))
    (places syntax t g b c components rest none_yet set)
places syntax f g a c components (more {t = t} {b = b} further (message m i) rest) none_yet set =
    one_before components f t g a b (statement_items syntax f t a b (message m i))
    (places syntax t g b c components rest none_yet set)
places syntax f g a c components (more {t = t} {b = b} further (enum i) rest) none_yet set =
    one_before components f t g a b (statement_items syntax f t a b (enum i))
    (places syntax t g b c components rest none_yet set)
places syntax f g a c components (more {t = t} {b = b} further (service i) rest) none_yet set =
    one_before components f t g a b (statement_items syntax f t a b (service i))
    (places syntax t g b c components rest none_yet set)
places syntax f g a c components (more {t = t} {b = b} further (extend e) rest) none_yet set =
    one_before components f t g a b (statement_items syntax f t a b (extend e))
    (places syntax t g b c components rest none_yet set)

among_items : {a b : List Lexeme} (components : List Span) (items all : List FileItem) → all ≡ items
    → ((marks : List Mark) → Among marks b → Among marks a) → AreBetween components items b
    → PackageIsAmongItems (Some components) all a
among_items {a} components items all same earlier (before, (behind, (split, among))) = (
  before,
  (
    behind,
    (same ∙ split, subst (λ (ms : List Mark). Among ms a) (between_are before behind components) (earlier _ among)),
  ),
)

by_name : (syntax : Syntax) (g : File) (a b c : List Lexeme) (name : Option (List Span)) → g.package_name ≡ name
    → ((marks : List Mark) → Among marks b → Among marks a)
    → Until is_end (IsStatement max_message_depth syntax) empty_file b g c → PackageIsAmongItems name g.items a
by_name syntax g a b c None is earlier u = tt
by_name syntax g a b c (Some components) is earlier u =
    let p = places syntax empty_file g b c components u refl is in
    among_items components p.0 g.items p.1 earlier p.2

pub package_among_items : {dialect : Dialect} {a : List Lexeme} (g : File) → IsFile dialect a g
    → PackageIsAmongItems g.package_name g.items a
package_among_items {a = a} g (file {b = b} {c = c} {syntax = syntax} s u) =
    by_name syntax g a b c g.package_name refl (λ marks among. over (syntax_past s here) among) u
