-- The options of a file are those of its derivation, and no others.
use Rattle.std.proofs.Common.{◌≡◌, ℕ, Bool, true, false, Result, Ok, Err}
use Rattle.std.proofs.Common.{List, [], ◌∷◌, ◌++◌, length, refl, sym, ◌∙◌, ap, subst, codes, IfOk, IfErr}
use Rattle.std.proofs.Common.{MatchResult}
use Rattle.std.specs.List.{AllZip}
use Rattle.std.proofs.lemmas.List.{append_assoc, append-nil}
use Rattle.proto_lex.specs.declared.token.TokenKind.TheVariants.{Identifier, Semicolon, Equals}
use Rattle.proto_grammar.specs.declared.dialect.Dialect.TheVariants.{All}
use Rattle.proto_grammar.specs.declared.dialect.Syntax.{Syntax}
use Rattle.proto_grammar.specs.declared.fault.SyntaxFault.{SyntaxFault}
use Rattle.proto_grammar.specs.declared.tree.File.{File as FileTree}
use Rattle.proto_grammar.specs.declared.tree.Import.{Import}
use Rattle.proto_lex.specs.declared.span.Span.{Span}
use Rattle.proto_grammar.specs.Lexeme.{Lexeme, Place, place_of, start_of}
use Rattle.proto_grammar.specs.Gives.{Fails, Gives}
use Rattle.proto_grammar.specs.declared.dialect.CustomOptions.TheVariants.{Skip}
use Rattle.proto_grammar.specs.declared.fault.SyntaxFault.TheVariants.{Memory}
use Rattle.proto_lex.specs.Lexed.{Lexed}
use Rattle.proto_parse.specs.Derives.{Derives}
use Rattle.proto_parse.proofs.Found.Files.{as_relation}
use Rattle.proto_parse.specs.Limits.{max_message_depth}
use Rattle.proto_decl.specs.Declares.{package_scope}
use Rattle.proto_grammar.specs.Terminal.{first_is, of_kind, is_word, is_end}
use Rattle.proto_grammar.specs.Syntax.{extends}
use Rattle.proto_grammar.specs.Grammar.Repetition.{One, Until}
use Rattle.proto_grammar.specs.Grammar.Repetition.One.{one}
use Rattle.proto_grammar.specs.Grammar.Repetition.Until.{done, more}
use Rattle.proto_grammar.proofs.RepetitionStepLemmas.{same_ok, read_as}
use Rattle.proto_grammar.proofs.RepetitionUntilLemmas.{until_at-step}
use Rattle.proto_grammar.proofs.TerminalTokenLemmas.{one_next}
use Rattle.proto_parse.specs.Grammar.Files.{IsSyntax, IsImport, IsPackage, IsStatement, IsFileWithin, SpellsJoined}
use Rattle.proto_parse.specs.Grammar.Files.IsSyntax.{proto3, proto2, no_statement}
use Rattle.proto_parse.specs.Grammar.Files.IsImport.{import}
use Rattle.proto_parse.specs.Grammar.Files.IsPackage.{package_statement}
use Rattle.proto_parse.specs.Grammar.Files.IsStatement.{empty as statements-empty, import as statements-import}
use Rattle.proto_parse.specs.Grammar.Files.IsStatement.{package_statement as statements-package_statement}
use Rattle.proto_parse.specs.Grammar.Files.IsStatement.{option as statements-option, message as statements-message}
use Rattle.proto_parse.specs.Grammar.Files.IsStatement.{enum as statements-enum, service as statements-service}
use Rattle.proto_parse.specs.Grammar.Files.IsStatement.{extend as statements-extend}
use Rattle.proto_parse.specs.Grammar.Files.IsFileWithin.{file}
use Rattle.proto_parse.specs.Grammar.Messages.{IsInside}
use Rattle.proto_parse.proofs.Choices.{named, message_begins, enum_begins, service_begins, extend_begins, import_begins}
use Rattle.proto_parse.proofs.Choices.{package_begins}
use Rattle.proto_options.specs.declared.elements.Element.TheVariants as of_a
use Rattle.proto_options.specs.declared.options.FileOption.{FileOption}
use Rattle.proto_options.specs.declared.statements.Within.TheVariants as within
use Rattle.proto_options.specs.declared.statements.Statement.{Statement}
use Rattle.proto_options.specs.declared.statements.Statement.TheVariants.{Passed, Braces}
use Rattle.proto_options.specs.Elements.{Placed, of_message, of_enum, of_service, of_extend, of_inside, of_statement}
use Rattle.proto_options.specs.Elements.{of_statements, settings_of}
use Rattle.proto_options.specs.Laws.{EachFileHasOptions, OneListOfOptions}
use Rattle.proto_options.specs.Options.{IsOptionAt, AreOptionsOf}
use Rattle.proto_options.specs.Reading.Statements.{statement_of, file_statement_of}
use Rattle.proto_options.specs.Reading.Walk.{passed_at, statement_by, statement_at, item_at, inside_at, file_items_at}
use Rattle.proto_options.specs.Reading.Walk.{file_at}
use Rattle.proto_options.proofs.EachLemmas.{file_listed}
use Rattle.proto_options.proofs.WalkFallLemmas.{items_fall, inside_leaves}
use Rattle.proto_options.proofs.FrontLemmas.{begins_one, begins_then, clear_then, kind_clear, name_clear}
use Rattle.proto_options.proofs.FrontLemmas.{literals_clear}
use Rattle.proto_options.proofs.FrontLemmas.{joined_clear, import_kind_clear}
use Rattle.proto_options.proofs.KeptLemmas.{Walks, carried, kept_all, walks_then}
use Rattle.proto_options.proofs.WalkLemmas.{word_parts, other_begins, semicolon_walks, option_item_walks}
use Rattle.proto_options.proofs.WalkLemmas.{other_item_walks, passed_walks, enum_walks}
use Rattle.proto_options.proofs.WalkMessageLemmas.{statement_walks, extend_walks, message_walks, inside_walks}
use Rattle.proto_options.proofs.WalkMessageLemmas.{service_walks}
use Rattle.proto_options.proofs.Exact.Settings.{setting_exact}

file_word : (word : List ℕ) (a : List Lexeme) → first_is (is_word word) a ≡ true
    → file_statement_of a ≡ file_statement_of (named word ∷ [])
file_word word [] is = cc
file_word word (t ∷ rest) is = by_parts (word_parts word t is).0 (word_parts word t is).1
  where
    by_parts : t.kind ≡ Identifier → t.spelling ≡ word
        → file_statement_of (t ∷ rest) ≡ file_statement_of (named word ∷ [])
    by_parts e f = rw (e, f) refl

-- if all sources are accepted, extends declare fields
all_extend : {a b : List Lexeme} {syntax : Syntax} → IsSyntax All a syntax b → extends syntax ≡ true
all_extend (proto3 k q t s) = refl
all_extend (proto2 k q t s) = refl
all_extend (no_statement p q) = refl

module _ (end levels : ℕ) (scope : List ℕ) where
  -- a statement of a file that is no option
  by_word : (is : Statement) (settings : List Placed) {a b : List Lexeme}
      → (first_is (of_kind Semicolon) a ≡ false) × (first_is (is_word (codes "option")) a ≡ false)
      → statement_of within.File a ≡ is
      → Walks end (statement_by is within.File (inside_at levels) scope scope) settings a b
      → Walks end (item_at within.File (inside_at levels) scope scope) settings a b
  by_word is settings isnt e walks =
      other_item_walks end within.File scope (statement_at within.File (inside_at levels) scope scope) settings isnt.0
      isnt.1 (statement_walks end within.File (inside_at levels) scope scope is settings e walks)

  import_walks : {a b : List Lexeme} {x : Import} → IsImport a x b → Walks end passed_at [] a b
  import_walks (import keyword kind literal literals semicolon) =
      passed_walks end
      (begins_then Semicolon Semicolon end (begins_one Semicolon Semicolon end keyword)
      (clear_then Semicolon Semicolon end (import_kind_clear Semicolon Semicolon end (refl, refl) kind)
      (literals_clear Semicolon Semicolon end (refl, refl) literal literals))) semicolon

  package_walks : {a b : List Lexeme} {x : List Span} → IsPackage a x b → Walks end passed_at [] a b
  package_walks (package_statement keyword words semicolon) =
      passed_walks end
      (begins_then Semicolon Semicolon end (begins_one Semicolon Semicolon end keyword)
      (name_clear Semicolon Semicolon end (refl, refl) (refl, refl) words)) semicolon

  statement_is_walked : (syntax : Syntax) → extends syntax ≡ true → {from to : FileTree} {a b : List Lexeme}
      (s : IsStatement levels syntax from a to b)
      → Walks end (item_at within.File (inside_at levels) scope scope) (of_statement scope levels syntax s) a b
  statement_is_walked syntax declares (statements-empty s) =
      semicolon_walks end within.File scope (statement_at within.File (inside_at levels) scope scope) s
  statement_is_walked syntax declares (statements-import {a = a} i) =
      by_word Passed [] (other_begins (codes "import") a refl (import_begins i))
      (file_word (codes "import") a (import_begins i)) (import_walks i)
  statement_is_walked syntax declares (statements-package_statement {a = a} first p) =
      by_word Passed [] (other_begins (codes "package") a refl (package_begins p))
      (file_word (codes "package") a (package_begins p)) (package_walks p)
  statement_is_walked syntax declares (statements-option o) =
      option_item_walks end within.File of_a.File scope (statement_at within.File (inside_at levels) scope scope) refl o
  statement_is_walked syntax declares (statements-message {a = a} tree m) =
      by_word (Braces within.Message) (of_message scope (of_inside syntax levels) m)
      (other_begins (codes "message") a refl (message_begins tree m))
      (file_word (codes "message") a (message_begins tree m))
      (message_walks end (inside_at levels) (inside_leaves levels) syntax (IsInside syntax levels)
      (of_inside syntax levels) (inside_walks end syntax declares levels) scope m)
  statement_is_walked syntax declares (statements-enum {a = a} e) =
      by_word (Braces within.Enum) (of_enum scope e) (other_begins (codes "enum") a refl (enum_begins e))
      (file_word (codes "enum") a (enum_begins e)) (enum_walks end (inside_at levels) (inside_leaves levels) scope e)
  statement_is_walked syntax declares (statements-service {a = a} s) =
      by_word (Braces within.Service) (of_service scope s)
      (other_begins (codes "service") a refl (service_begins s)) (file_word (codes "service") a (service_begins s))
      (service_walks end (inside_at levels) scope s)
  statement_is_walked syntax declares (statements-extend {a = a} {extend = tree} e) =
      by_word (Braces within.Extend) (of_extend scope syntax (of_inside syntax levels) e)
      (other_begins (codes "extend") a refl (extend_begins tree e))
      (file_word (codes "extend") a (extend_begins tree e))
      (extend_walks end (inside_at levels) (inside_leaves levels) syntax (IsInside syntax levels)
      (of_inside syntax levels) (inside_walks end syntax declares levels) declares scope e)

  statements_walk : (syntax : Syntax) → extends syntax ≡ true → {from to : FileTree} {a b : List Lexeme}
      (u : Until is_end (IsStatement levels syntax) from a to b)
      → Walks end (file_items_at levels scope) (of_statements scope levels syntax u) a b
  unfolding file_items_at
  statements_walk syntax declares (done {a = a} ended) = record {
    kept = λ options.
        rw (
          until_at-step is_end (item_at within.File (inside_at levels) scope scope)
              (items_fall within.File levels scope scope) options (place_of end a),
          ended,
        ) refl;
  }
  statements_walk syntax declares (more {a = a} {b = b} {c = c} further s others) =
      let first = statement_is_walked syntax declares s in
      let rest = statements_walk syntax declares others in
      record {
        kept = λ options.
            rw (
              until_at-step is_end (item_at within.File (inside_at levels) scope scope)
                  (items_fall within.File levels scope scope) options (place_of end a),
              further,
            )
            (walks_then end (of_statement scope levels syntax s) (of_statements scope levels syntax others) options
            (place_of end b) (place_of end c) _ _ (first.kept options) (λ all. rest.kept all));
      }

  more_left : {a b : List Lexeme} {span : Span} {test : Lexeme → Bool} → One test a span b → is_end a ≡ false
  more_left (one is) = refl

  -- the statement of the version is read past
  version_walks : {a b c d e : List Lexeme} {keyword equals semicolon : Span} {text : List ℕ}
      → One (is_word (codes "syntax")) a keyword b → One (of_kind Equals) b equals c → SpellsJoined c text d
      → One (of_kind Semicolon) d semicolon e → (options : List FileOption)
      → file_items_at levels scope options (place_of end a) ≡ file_items_at levels scope options (place_of end e)
  unfolding file_items_at
  version_walks {a = a} keyword equals texts semicolon options =
      let item = by_word Passed [] (other_begins (codes "syntax") a refl (one_next keyword))
      (file_word (codes "syntax") a (one_next keyword))
      (passed_walks end
      (begins_then Semicolon Semicolon end (begins_one Semicolon Semicolon end keyword)
      (clear_then Semicolon Semicolon end (kind_clear Semicolon Semicolon end Equals (refl, refl) equals)
      (joined_clear Semicolon Semicolon end (refl, refl) texts))) semicolon) in
      rw (
        until_at-step is_end (item_at within.File (inside_at levels) scope scope)
            (items_fall within.File levels scope scope) options (place_of end a),
        more_left keyword,
        item.kept options,
      ) refl

  all_walked : {a b : List Lexeme} {syntax : Syntax} → IsSyntax All a syntax b → (options : List FileOption)
      → file_items_at levels scope options (place_of end a) ≡ file_items_at levels scope options (place_of end b)
  all_walked (proto3 keyword equals texts semicolon) options = version_walks keyword equals texts semicolon options
  all_walked (proto2 keyword equals texts semicolon) options = version_walks keyword equals texts semicolon options
  all_walked (no_statement p q) options = refl

  -- what is read of a file is what is at the places of its derivation
  file_walked : {a : List Lexeme} {x : FileTree} (d : IsFileWithin levels All a x)
      → (rest : Place) × (file_at levels scope (place_of end a) ≡ carried (kept_all end (settings_of scope d) []) rest)
  unfolding file_at
  file_walked (file {c = c} {syntax = syntax} version statements) =
      let its = statements_walk syntax (all_extend version) statements in
      (place_of end c, all_walked version [] ∙ its.kept [])

-- ---- options at places

module _ (end : ℕ) where
  kept_exact : (places : List Placed) (options found : List FileOption) → AllZip IsOptionAt places found
      → kept_all end places options ≡ Ok (options ++ found)
  kept_exact [] options [] each = ap read_as (sym (append-nil options))
  kept_exact [] options (this ∷ found) each = absurd each
  kept_exact (p ∷ places) options [] each = absurd each
  kept_exact (p ∷ places) options (this ∷ found) each =
      let is = each.0 in
      rw (setting_exact end is.named, ← is.scope, ← is.element)
      (kept_exact places (options ++ this ∷ []) found each.1
      ∙ ap read_as (append_assoc options (this ∷ []) found))

  pub options_exact : (levels : ℕ) (scope : List ℕ) {a : List Lexeme} {x : FileTree} (d : IsFileWithin levels All a x)
      (options : List FileOption) → AllZip IsOptionAt (settings_of scope d) options
      → (rest : Place) × (file_at levels scope (place_of end a) ≡ Ok (options, rest))
  options_exact levels scope d options each =
      let w = file_walked end levels scope d in
      (w.0, w.1 ∙ rw (kept_exact (settings_of scope d) [] options each) refl)

  pub options_found : (levels : ℕ) (scope : List ℕ) {a : List Lexeme} {x : FileTree} (d : IsFileWithin levels All a x)
      (options : List FileOption) (rest : Place) → file_at levels scope (place_of end a) ≡ Ok (options, rest)
      → AllZip IsOptionAt (settings_of scope d) options
  options_found levels scope d options rest e =
      let its = file_listed scope d in
      let read = options_exact levels scope d its.options its.each in
      let same : its.options ≡ options =
      ap (λ (y : List FileOption × Place). y.0)
      (same_ok (its.options, read.0) (options, rest) (sym read.1 ∙ e)) in
      subst (λ (all : List FileOption). AllZip IsOptionAt (settings_of scope d) all) same its.each

-- ---- what the second reading gives

-- where options are read, a fault is want of memory
only_memory : {Y : Type 0} (fault : SyntaxFault) (read : Result Y SyntaxFault) (x : Y) → Fails Skip fault read
    → read ≡ Ok x → fault ≡ Memory
only_memory Memory read x fails e = refl
only_memory fault read x fails e = cc

pub gives_found : (lexed : Lexed) (tree : FileTree) (scope : List ℕ) (place rest : Place)
    (result : Result (List FileOption) SyntaxFault)
    → Derives All lexed.text lexed.tokens tree → scope ≡ package_scope lexed.text tree
    → place ≡ start_of lexed.text lexed.tokens
    → Gives Skip (λ x. x) rest result (file_at max_message_depth scope place)
    → IfOk result (AreOptionsOf All lexed tree)
gives_found lexed tree scope place rest (Err fault) d e f gives = tt
gives_found lexed tree scope place rest (Ok options) d e f gives =
    record {
      derives = as_relation d;
      each = options_found (length lexed.text) max_message_depth (package_scope lexed.text tree) (as_relation d) options
          rest
          (rw (e, f) at gives);
    }

pub gives_only : (lexed : Lexed) (tree : FileTree) (scope : List ℕ) (place rest : Place)
    (result : Result (List FileOption) SyntaxFault)
    → scope ≡ package_scope lexed.text tree → place ≡ start_of lexed.text lexed.tokens
    → Gives Skip (λ x. x) rest result (file_at max_message_depth scope place)
    → (options : List FileOption) → AreOptionsOf All lexed tree options
    → MatchResult result (λ found. found ≡ options) (λ fault. fault ≡ Memory)
gives_only lexed tree scope place rest (Ok found) e f gives options are =
    let read = options_exact (length lexed.text) max_message_depth (package_scope lexed.text tree) are.derives options
    are.each in
    let given : file_at max_message_depth (package_scope lexed.text tree) (start_of lexed.text lexed.tokens)
    ≡ Ok (found, rest) = rw (e, f) at gives in
    ap (λ (y : List FileOption × Place). y.0) (same_ok (found, rest) (options, read.0) (sym given ∙ read.1))
gives_only lexed tree scope place rest (Err fault) e f gives options are =
    let read = options_exact (length lexed.text) max_message_depth (package_scope lexed.text tree) are.derives options
    are.each in
    let given : Fails Skip fault (file_at max_message_depth (package_scope lexed.text tree)
    (start_of lexed.text lexed.tokens)) = rw (e, f) at gives in
    only_memory fault _ (options, read.0) given read.1

-- and it is so whatever is in braces
pub gives_memory : (lexed : Lexed) (tree : FileTree) (scope : List ℕ) (place rest : Place)
    (result : Result (List FileOption) SyntaxFault)
    → Derives All lexed.text lexed.tokens tree → scope ≡ package_scope lexed.text tree
    → place ≡ start_of lexed.text lexed.tokens
    → Gives Skip (λ x. x) rest result (file_at max_message_depth scope place)
    → IfErr result (λ fault. fault ≡ Memory)
gives_memory lexed tree scope place rest (Ok found) d e f gives = tt
gives_memory lexed tree scope place rest (Err fault) d e f gives =
    let its = file_listed (package_scope lexed.text tree) (as_relation d) in
    gives_only lexed tree scope place rest (Err fault) e f gives its.options
    (record { derives = as_relation d; each = its.each })

-- a file that derives has a list of options
pub some_list : EachFileHasOptions
some_list dialect lexed tree d =
    let its = file_listed (package_scope lexed.text tree) (as_relation d) in
    (its.options, record { derives = as_relation d; each = its.each })

-- a file has one list of options at most
pub one_list : OneListOfOptions
one_list lexed tree a b are its =
    let scope = package_scope lexed.text tree in
    let x = options_exact (length lexed.text) max_message_depth scope are.derives a are.each in
    let y = options_exact (length lexed.text) max_message_depth scope its.derives b its.each in
    ap (λ (z : List FileOption × Place). z.0) (same_ok (a, x.0) (b, y.0) (sym x.1 ∙ y.1))
