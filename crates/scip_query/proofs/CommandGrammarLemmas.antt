-- The grammar of commands: `Found` of what is read, `Exact` of what is in the grammar.
use Rattle.std.proofs.Common.{◌≡◌, ℕ, ◌≤◌, ◌==◌, Bool, true, false, not, ◌&&◌, List, [], ◌∷◌, ◌++◌, length, cond}
use Rattle.std.proofs.Common.{refl, sym, ◌∙◌, ap, subst, append_assoc, arith}
use Rattle.std.specs.Prelude.{None, Some, nat_le, nat_lt, codes}
use Rattle.std.specs.List.{list_all}
use Rattle.std.specs.Option.{option_and_then, option_map}
use Rattle.std.specs.Str.{bytes_eq, is_utf8}
use Rattle.std.proofs.lemmas.Bool.Decides.{nat_tests}
use Rattle.std.proofs.lemmas.List.Sums.{AllPass-from_list_all, list_all-from_AllPass}
use Rattle.std.proofs.lemmas.Slice.Eq.{bytes_eq-Decides}
use Rattle.std.proofs.lemmas.Str.{IsUtf8-from_is_utf8, is_utf8-from_IsUtf8}
use Rattle.std.proofs.lemmas.Bool.{and_parts, ltb-true, leb-true, le-leb, lt-ltb}
use Rattle.basics.proofs.ListLemmas.{map_some}
use Rattle.scip_query.specs.declared.position.Position.{Position}
use Rattle.scip_query.specs.declared.command.Question.{Question}
use Rattle.scip_query.specs.declared.command.Question.TheVariants.{Definitions, References, Documentation}
use Rattle.scip_query.specs.Commands.{Command, Ask, Symbols, IsCommand, ask, symbols, IsNumber, IsPath, word_of, space}
use Rattle.scip_query.specs.Commands.{is_digit, value_of, max_digits, max_number}
use Rattle.scip_query.specs.CommandReading.{Parts, parts_of, is_written, at_most, number_of, path_of, question_of}
use Rattle.scip_query.specs.CommandReading.{ask_of, command_of}
use Rattle.scip_query.proofs.CommandLemmas.{bind_some, parts_found, parts_exact}
use Rattle.scip_query.proofs.CommandLemmas.{number_written, number_unwritten}

pub same_bytes : (xs ys : List ℕ) → bytes_eq xs ys ≡ true → xs ≡ ys
same_bytes xs ys e = (bytes_eq-Decides xs ys).0 e

no_digit : (b : ℕ) → is_digit b ≡ true → (b == 32) ≡ false
no_digit b e = grind (arith, nat_tests)

pub no_space : (word : List ℕ) → list_all is_digit word ≡ true → list_all (λ b. not (b == 32)) word ≡ true
no_space [] e = refl
no_space (b ∷ word) e =
    let parts = and_parts (is_digit b) (list_all is_digit word) e in
    ap (λ t. not t && list_all (λ x. not (x == 32)) word) (no_digit b parts.0) ∙ no_space word parts.1

-- ---- numbers and paths

pub number_found : (word : List ℕ) (n : ℕ) → number_of word ≡ Some n → IsNumber word n
number_found word n e = by (is_written word) refl where
  within : is_written word ≡ true → (t : Bool) → nat_le (value_of word) max_number ≡ t
      → cond t (Some (value_of word)) None ≡ Some n → IsNumber word n
  within written true le f =
      let parts = and_parts (list_all is_digit word) (nat_lt 0 (length word) && nat_le (length word) max_digits)
      written in
      let lengths = and_parts (nat_lt 0 (length word)) (nat_le (length word) max_digits) parts.1 in
      let value : value_of word ≡ n = cc in
      record {
        digits = AllPass-from_list_all is_digit word parts.0;
        some = ltb-true 0 (length word) lengths.0;
        few = leb-true (length word) max_digits lengths.1;
        value = value;
        small = subst (λ k. k ≤ max_number) value (leb-true (value_of word) max_number le);
      }
  within written false le f = absurd cc

  by : (t : Bool) → is_written word ≡ t → IsNumber word n
  by true written = within written (nat_le (value_of word) max_number) refl (sym (number_written word written) ∙ e)
  by false unwritten = let none : None ≡ Some n = sym (number_unwritten word unwritten) ∙ e in absurd cc

pub number_exact : (word : List ℕ) (n : ℕ) → IsNumber word n → number_of word ≡ Some n
number_exact word n is =
    let digits : list_all is_digit word ≡ true = list_all-from_AllPass is_digit word is.digits in
    let written : is_written word ≡ true =
    ap (λ b. b && (nat_lt 0 (length word) && nat_le (length word) max_digits)) digits
    ∙ ap (λ b. b && nat_le (length word) max_digits) (lt-ltb 0 (length word) is.some)
    ∙ le-leb (length word) max_digits is.few in
    number_written word written ∙ ap at_most is.value
    ∙ ap (λ b. cond b (Some n) None) (le-leb n max_number is.small)

pub path_found : (bytes path : List ℕ) → path_of bytes ≡ Some path → (bytes ≡ path) × IsPath bytes
unfolding path_of
path_found bytes path e = by (nat_lt 0 (length bytes)) refl (is_utf8 bytes) refl e where
  by : (a : Bool) → nat_lt 0 (length bytes) ≡ a → (b : Bool) → is_utf8 bytes ≡ b
      → cond (a && b) (Some bytes) None ≡ Some path → (bytes ≡ path) × IsPath bytes
  by true some true text f =
      (cc, record { some = ltb-true 0 (length bytes) some; text = IsUtf8-from_is_utf8 bytes text })
  by true some false text f = absurd cc
  by false some b text f = absurd cc

pub path_exact : (path : List ℕ) → IsPath path → path_of path ≡ Some path
unfolding path_of
path_exact path is =
    ap (λ b. cond (b && is_utf8 path) (Some path) None) (lt-ltb 0 (length path) is.some)
    ∙ ap (λ b. cond b (Some path) None) (is_utf8-from_IsUtf8 path is.text)

-- ---- questions

question_found : (word : List ℕ) (question : Question) → question_of word ≡ Some question → word ≡ word_of question
unfolding question_of
question_found word question e =
    by (bytes_eq word (codes "def")) refl (bytes_eq word (codes "ref")) refl (bytes_eq word (codes "doc")) refl e where
      by : (a : Bool) → bytes_eq word (codes "def") ≡ a → (b : Bool) → bytes_eq word (codes "ref") ≡ b → (c : Bool)
          → bytes_eq word (codes "doc") ≡ c
          → cond a (Some Definitions) (cond b (Some References) (cond c (Some Documentation) None)) ≡ Some question
          → word ≡ word_of question
      by true is b not_b c not_c f = let same : Definitions ≡ question = cc in
          same_bytes word (codes "def") is ∙ ap word_of same
      by false not_a true is c not_c f = let same : References ≡ question = cc in
          same_bytes word (codes "ref") is ∙ ap word_of same
      by false not_a false not_b true is f = let same : Documentation ≡ question = cc in
          same_bytes word (codes "doc") is ∙ ap word_of same
      by false not_a false not_b false not_c f = absurd cc

pub regroup : (l c path : List ℕ) → l ++ space ++ c ++ space ++ path ≡ l ++ 32 ∷ (c ++ 32 ∷ path)
regroup l c path = simp append_assoc

pub behind_word : (word l c path : List ℕ)
    → word ++ space ++ l ++ space ++ c ++ space ++ path ≡ word ++ 32 ∷ (l ++ 32 ∷ (c ++ 32 ∷ path))
behind_word word l c path = simp append_assoc

ask_found : (question : Question) (line : List ℕ) (command : Command) → ask_of question line ≡ Some command
    → IsCommand (word_of question ++ 32 ∷ line) command
unfolding ask_of
ask_found question line command e =
    let first = bind_some (parts_of line) _ command e in
    let n = bind_some (number_of first.0.word) _ command first.2 in
    let second = bind_some (parts_of first.0.behind) _ command n.2 in
    let m = bind_some (number_of second.0.word) _ command second.2 in
    let position : Position = record { line = n.0; column = m.0 } in
    let path = map_some (Ask question position) (path_of second.0.behind) command m.2 in
    let is = path_found second.0.behind path.0 path.1 in
    let shape : line ≡ first.0.word ++ 32 ∷ (second.0.word ++ 32 ∷ second.0.behind) =
    parts_found line first.0 first.1 ∙ ap (λ l. first.0.word ++ 32 ∷ l) (parts_found first.0.behind second.0 second.1)
    in
    let named : IsCommand (word_of question ++ 32 ∷ line) (Ask question position second.0.behind) =
    subst (λ l. IsCommand l (Ask question position second.0.behind))
    (behind_word (word_of question) first.0.word second.0.word second.0.behind
    ∙ ap (λ l. word_of question ++ 32 ∷ l) (sym shape))
    (ask {question = question} {p = position} (number_found first.0.word n.0 n.1)
    (number_found second.0.word m.0 m.1) is.1) in
    subst (IsCommand (word_of question ++ 32 ∷ line)) (ap (Ask question position) is.0 ∙ path.2) named

ask_exact : (question : Question) (l c path : List ℕ) (p : Position) → IsNumber l p.line → IsNumber c p.column
    → IsPath path
    → ask_of question (l ++ 32 ∷ (c ++ 32 ∷ path)) ≡ Some (Ask question p path)
unfolding ask_of
ask_exact question l c path p is_line is_column is_path =
    rw (
      parts_exact l (c ++ 32 ∷ path) (no_space l (list_all-from_AllPass is_digit l is_line.digits)),
      number_exact l p.line is_line,
      parts_exact c path (no_space c (list_all-from_AllPass is_digit c is_column.digits)),
      number_exact c p.column is_column,
      path_exact path is_path,
    ) refl

-- ---- commands

pub command_found : (line : List ℕ) (command : Command) → command_of line ≡ Some command → IsCommand line command
unfolding command_of
command_found line command e =
    let first = bind_some (parts_of line) _ command e in
    by first.0 first.1 (bytes_eq first.0.word (codes "sym")) refl first.2 where
      by : (parts : Parts) → parts_of line ≡ Some parts → (t : Bool) → bytes_eq parts.word (codes "sym") ≡ t
          → cond t (option_map Symbols (path_of parts.behind))
          (option_and_then (λ question. ask_of question parts.behind) (question_of parts.word)) ≡ Some command
          → IsCommand line command
      by parts read true is f =
          let path = map_some Symbols (path_of parts.behind) command f in
          let found = path_found parts.behind path.0 path.1 in
          let shape : line ≡ codes "sym" ++ 32 ∷ parts.behind =
          parts_found line parts read ∙ ap (λ w. w ++ 32 ∷ parts.behind) (same_bytes parts.word (codes "sym") is) in
          subst (IsCommand line) (ap Symbols found.0 ∙ path.2)
          (subst (λ l. IsCommand l (Symbols parts.behind)) (sym shape) (symbols found.1))
      by parts read false not_sym f =
          let question = bind_some (question_of parts.word) _ command f in
          let shape : line ≡ word_of question.0 ++ 32 ∷ parts.behind =
          parts_found line parts read
          ∙ ap (λ w. w ++ 32 ∷ parts.behind) (question_found parts.word question.0 question.1) in
          subst (λ l. IsCommand l command) (sym shape) (ask_found question.0 parts.behind command question.2)

asked : (question : Question) (l c path : List ℕ) (p : Position) → IsNumber l p.line → IsNumber c p.column → IsPath path
    → command_of (word_of question ++ space ++ l ++ space ++ c ++ space ++ path) ≡ Some (Ask question p path)
unfolding command_of question_of
asked Definitions l c path p is_line is_column is_path =
    ap (ask_of Definitions) (regroup l c path) ∙ ask_exact Definitions l c path p is_line is_column is_path
asked References l c path p is_line is_column is_path =
    ap (ask_of References) (regroup l c path) ∙ ask_exact References l c path p is_line is_column is_path
asked Documentation l c path p is_line is_column is_path =
    ap (ask_of Documentation) (regroup l c path) ∙ ask_exact Documentation l c path p is_line is_column is_path

listed : (path : List ℕ) → IsPath path → command_of (codes "sym" ++ space ++ path) ≡ Some (Symbols path)
unfolding command_of
listed path is = ap (option_map Symbols) (path_exact path is)

pub command_exact : {line : List ℕ} {command : Command} → IsCommand line command → command_of line ≡ Some command
command_exact (ask {question = question} {line = l} {column = c} {path = path} {p = p} is_line is_column is_path) =
    asked question l c path p is_line is_column is_path
command_exact (symbols {path = path} is) = listed path is
