-- Colons of a line, and the grammar of more commands: `Found` of what is read, `Exact` of what is in the grammar.
use Rattle.std.proofs.Common.{◌≡◌, ℕ, ◌+◌, ◌-◌, ◌<◌, ◌≤◌, ◌==◌, Bool, true, false, not, ◌&&◌, List, [], ◌∷◌}
use Rattle.std.proofs.Common.{◌++◌, length, take, drop, get_or, cond, refl, sym, ◌∙◌, ap, subst, append_assoc, arith}
use Rattle.std.specs.Prelude.{Option, None, Some, IfSome, codes}
use Rattle.std.specs.List.{list_all}
use Rattle.std.specs.Option.{option_map, option_and_then}
use Rattle.std.specs.Str.{bytes_eq}
use borrow.Author.Tests.{eqb-true}
use Rattle.std.proofs.lemmas.Bool.{and_parts}
use Rattle.std.proofs.lemmas.Bool.Decides.{nat_tests}
use Rattle.std.proofs.Math.Seq.{take-append_seam}
use Rattle.std.proofs.lemmas.List.{length-append, length-take-le, take-append-le, drop-append-le, drop-drop}
use Rattle.std.proofs.lemmas.List.{drop_all, take_all, take_more}
use Rattle.std.proofs.lemmas.List.Sums.{list_all-from_AllPass}
use Rattle.basics.proofs.ListLemmas.{map_some}
use Rattle.scip_query.specs.declared.position.Position.{Position}
use Rattle.scip_query.specs.declared.command.Question.TheVariants.{Definitions}
use Rattle.scip_query.specs.Commands.{Command, Ask, IsCommand, IsNumber, IsPath, space, is_digit}
use Rattle.scip_query.specs.CommandReading.{Parts, with_first, parts_of, number_of, path_of, question_of}
use Rattle.scip_query.specs.CommandReading.{command_of}
use Rattle.scip_query.specs.MoreCommands.{MoreCommand, Known, Signature, Outline, Find, Help, IsMoreCommand}
use Rattle.scip_query.specs.MoreCommands.{known, signature, outline, finding, place, help}
use Rattle.scip_query.specs.MoreCommandReading.{parts_before, last_parts_of, from_zero, counted_of, signature_of}
use Rattle.scip_query.specs.MoreCommandReading.{place_of, worded_of, known_or, more_command_of}
use Rattle.scip_query.specs.Tables.LastParts.{parts_at}
use Rattle.scip_query.proofs.CommandLemmas.{bind_some, parts_found, parts_exact}
use Rattle.scip_query.proofs.CommandGrammarLemmas.{same_bytes, no_space, number_found, number_exact, path_found}
use Rattle.scip_query.proofs.CommandGrammarLemmas.{path_exact, regroup, behind_word, command_found}
use Rattle.scip_query.proofs.CommandGrammarLemmas.{command_exact}

-- ---- the last colon so far

-- with one byte more behind
abbrev with_last : ℕ → Parts → Parts
with_last b parts = record { word = parts.word; behind = parts.behind ++ b ∷ [] }

first_colon : (line : List ℕ) (b : ℕ) (colon : Bool)
    → cond colon (Some (record { word = []; behind = line ++ b ∷ [] })) None
    ≡ option_map (with_last b) (cond colon (Some (record { word = []; behind = line })) None)
first_colon line b true = refl
first_colon line b false = refl

last_more : (line : List ℕ) (b : ℕ)
    → last_parts_of (line ++ b ∷ [])
    ≡ cond (b == 58) (Some (record { word = line; behind = [] })) (option_map (with_last b) (last_parts_of line))
last_more [] b = refl
last_more (a ∷ line) b =
    ap (parts_before a (line ++ b ∷ [])) (last_more line b) ∙ by (b == 58) (last_parts_of line) where
      by : (t : Bool) (o : Option Parts)
          → parts_before a (line ++ b ∷ [])
          (cond t (Some (record { word = line; behind = [] })) (option_map (with_last b) o))
          ≡ cond t (Some (record { word = a ∷ line; behind = [] })) (option_map (with_last b) (parts_before a line o))
      by true o = refl
      by false (Some parts) = refl
      by false None = first_colon line b (a == 58)

-- a place before a list's end parts the list and one with a byte more alike
parts_on : (line : List ℕ) (b : ℕ) (k : ℕ) → k < length line
    → parts_at (line ++ b ∷ []) (Some k) ≡ option_map (with_last b) (parts_at line (Some k))
parts_on line b k inside =
    rw (take-append-le k line (b ∷ []) (omega arith), drop-append-le (k + 1) line (b ∷ []) (omega arith)) refl

parts_here : (line : List ℕ) (b : ℕ)
    → parts_at (line ++ b ∷ []) (Some (length line)) ≡ Some (record { word = line; behind = [] })
parts_here line b =
    rw (
      take-append_seam line (b ∷ []),
      drop_all (length line + 1) (line ++ b ∷ [])
          (omega (arith, length-append line (b ∷ []))),
    ) refl

-- the last colon of a line, and of the line with a byte more
last_colon : (line : List ℕ) (b : ℕ) (found : Option ℕ) → IfSome found (λ k. k < length line)
    → parts_at line found ≡ last_parts_of line
    → parts_at (line ++ b ∷ []) (cond (b == 58) (Some (length line)) found) ≡ last_parts_of (line ++ b ∷ [])
last_colon line b found inside so_far = by (b == 58) found inside so_far ∙ sym (last_more line b) where
  by : (t : Bool) (o : Option ℕ) → IfSome o (λ k. k < length line) → parts_at line o ≡ last_parts_of line
      → parts_at (line ++ b ∷ []) (cond t (Some (length line)) o)
      ≡ cond t (Some (record { word = line; behind = [] })) (option_map (with_last b) (last_parts_of line))
  by true o within f = parts_here line b
  by false None within f = ap (option_map (with_last b)) f
  by false (Some k) within f = parts_on line b k within ∙ ap (option_map (with_last b)) f

pub colon_on : (line : List ℕ) (at b : ℕ) (found : Option ℕ) → at < length line → b ≡ get_or line at 0
    → IfSome found (λ k. k < at) → parts_at (take at line) found ≡ last_parts_of (take at line)
    → parts_at (take (at + 1) line) (cond (b == 58) (Some at) found) ≡ last_parts_of (take (at + 1) line)
colon_on line at b found inside is within so_far =
    let count : length (take at line) ≡ at = length-take-le at line (omega arith) in
    let more : take (at + 1) line ≡ take at line ++ b ∷ [] =
    take_more line at 0 inside ∙ ap (λ x. take at line ++ x ∷ []) (sym is) in
    rw more
    (ap (λ n. parts_at (take at line ++ b ∷ []) (cond (b == 58) (Some n) found)) (sym count)
    ∙ last_colon (take at line) b found (subst (λ n. IfSome found (λ k. k < n)) (sym count) within) so_far)

pub colon_within : (at b : ℕ) (found : Option ℕ) → IfSome found (λ k. k < at)
    → IfSome (cond (b == 58) (Some at) found) (λ k. k < at + 1)
colon_within at b found within = by (b == 58) found within where
  by : (t : Bool) (o : Option ℕ) → IfSome o (λ k. k < at) → IfSome (cond t (Some at) o) (λ k. k < at + 1)
  by true o h = omega arith
  by false None h = tt
  by false (Some k) h = omega (arith, h)

-- at the end of the line: what is in front of that place, and what is behind it
pub colon_parts : (line : List ℕ) (at k : ℕ) (found : Option ℕ) (front rest behind : List ℕ) → length line ≤ at
    → found ≡ Some k → parts_at (take at line) found ≡ last_parts_of (take at line) → front ≡ take k line
    → rest ≡ drop k line → behind ≡ drop 1 rest
    → last_parts_of line ≡ Some (record { word = front; behind = behind })
colon_parts line at k found front rest behind past is far f r b =
    let left : behind ≡ drop (k + 1) line = b ∙ ap (drop 1) r ∙ drop-drop 1 k line in
    let here : parts_at line found ≡ last_parts_of line =
    subst (λ l. parts_at l found ≡ last_parts_of l) (take_all at line past) far in
    rw (f, left) (sym here ∙ ap (parts_at line) is)

-- ---- the last colon

last_found : (line : List ℕ) (parts : Parts) → last_parts_of line ≡ Some parts
    → line ≡ parts.word ++ 58 ∷ parts.behind
last_found [] parts e = absurd cc
last_found (b ∷ line) parts e = by (last_parts_of line) (last_found line) e where
  at : (t : Bool) → (b == 58) ≡ t → cond t (Some (record { word = []; behind = line })) None ≡ Some parts
      → b ∷ line ≡ parts.word ++ 58 ∷ parts.behind
  at true colon f =
      let first : Parts = record { word = []; behind = line } in
      let same : first ≡ parts = cc in
      ap (λ x. x ∷ line) (eqb-true b 58 colon) ∙ ap (λ (p : Parts). p.word ++ 58 ∷ p.behind) same
  at false other f = absurd cc

  by : (o : Option Parts) → ((inner : Parts) → o ≡ Some inner → line ≡ inner.word ++ 58 ∷ inner.behind)
      → parts_before b line o ≡ Some parts → b ∷ line ≡ parts.word ++ 58 ∷ parts.behind
  by (Some inner) rest f =
      let same : with_first b inner ≡ parts = cc in
      ap (λ l. b ∷ l) (rest inner refl) ∙ ap (λ (p : Parts). p.word ++ 58 ∷ p.behind) same
  by None rest f = at (b == 58) refl f

no_last : (line : List ℕ) → list_all (λ b. not (b == 58)) line ≡ true → last_parts_of line ≡ None
no_last [] e = refl
no_last (b ∷ line) e = by (b == 58) refl e (no_last line) where
  by : (t : Bool) → (b == 58) ≡ t → (not t && list_all (λ x. not (x == 58)) line) ≡ true
      → (list_all (λ x. not (x == 58)) line ≡ true → last_parts_of line ≡ None)
      → parts_before b line (last_parts_of line) ≡ None
  by true colon f rest = absurd cc
  by false other f rest = ap (parts_before b line) (rest f) ∙ rw other refl

last_exact : (word behind : List ℕ) → list_all (λ b. not (b == 58)) behind ≡ true
    → last_parts_of (word ++ 58 ∷ behind) ≡ Some (record { word = word; behind = behind })
last_exact [] behind e = ap (parts_before 58 behind) (no_last behind e)
last_exact (b ∷ word) behind e = ap (parts_before b (word ++ 58 ∷ behind)) (last_exact word behind e)

no_colon_digit : (b : ℕ) → is_digit b ≡ true → (b == 58) ≡ false
no_colon_digit b e = grind (arith, nat_tests)

no_colon : (word : List ℕ) → list_all is_digit word ≡ true → list_all (λ b. not (b == 58)) word ≡ true
no_colon [] e = refl
no_colon (b ∷ word) e =
    let parts = and_parts (is_digit b) (list_all is_digit word) e in
    ap (λ t. not t && list_all (λ x. not (x == 58)) word) (no_colon_digit b parts.0) ∙ no_colon word parts.1

-- ---- numbers that count from 1

counted_found : (word : List ℕ) (n : ℕ) → counted_of word ≡ Some n → IsNumber word (n + 1)
counted_found word n e =
    let number = bind_some (number_of word) from_zero n e in
    by number.0 (number_found word number.0 number.1) (number.0 == 0) refl number.2 where
      by : (k : ℕ) → IsNumber word k → (t : Bool) → (k == 0) ≡ t → cond t None (Some (k - 1)) ≡ Some n
          → IsNumber word (n + 1)
      by k is true none f = absurd cc
      by k is false some f =
          let same : k - 1 ≡ n = cc in
          let more : k ≡ n + 1 = grind (arith, nat_tests) in
          subst (IsNumber word) more is

counted_exact : (word : List ℕ) (n : ℕ) → IsNumber word (n + 1) → counted_of word ≡ Some n
counted_exact word n is =
    let some : (n + 1 == 0) ≡ false = grind (arith, nat_tests) in
    let less : n + 1 - 1 ≡ n = omega arith in
    ap (λ o. option_and_then from_zero o) (number_exact word (n + 1) is)
    ∙ ap (λ t. cond t None (Some (n + 1 - 1))) some ∙ ap Some less

-- ---- what is behind a word

signature_found : (line : List ℕ) (command : MoreCommand) → signature_of line ≡ Some command
    → IsMoreCommand (codes "sig" ++ 32 ∷ line) command
unfolding signature_of
signature_found line command e =
    let first = bind_some (parts_of line) _ command e in
    let n = bind_some (number_of first.0.word) _ command first.2 in
    let second = bind_some (parts_of first.0.behind) _ command n.2 in
    let m = bind_some (number_of second.0.word) _ command second.2 in
    let position : Position = record { line = n.0; column = m.0 } in
    let path = map_some (Signature position) (path_of second.0.behind) command m.2 in
    let is = path_found second.0.behind path.0 path.1 in
    let shape : line ≡ first.0.word ++ 32 ∷ (second.0.word ++ 32 ∷ second.0.behind) =
    parts_found line first.0 first.1 ∙ ap (λ l. first.0.word ++ 32 ∷ l) (parts_found first.0.behind second.0 second.1)
    in
    let named : IsMoreCommand (codes "sig" ++ 32 ∷ line) (Signature position second.0.behind) =
    subst (λ l. IsMoreCommand l (Signature position second.0.behind))
    (behind_word (codes "sig") first.0.word second.0.word second.0.behind
    ∙ ap (λ l. codes "sig" ++ 32 ∷ l) (sym shape))
    (signature {p = position} (number_found first.0.word n.0 n.1)
    (number_found second.0.word m.0 m.1) is.1) in
    subst (IsMoreCommand (codes "sig" ++ 32 ∷ line)) (ap (Signature position) is.0 ∙ path.2) named

signature_exact : (l c path : List ℕ) (p : Position) → IsNumber l p.line → IsNumber c p.column → IsPath path
    → signature_of (l ++ 32 ∷ (c ++ 32 ∷ path)) ≡ Some (Signature p path)
unfolding signature_of
signature_exact l c path p is_line is_column is_path =
    rw (
      parts_exact l (c ++ 32 ∷ path) (no_space l (list_all-from_AllPass is_digit l is_line.digits)),
      number_exact l p.line is_line,
      parts_exact c path (no_space c (list_all-from_AllPass is_digit c is_column.digits)),
      number_exact c p.column is_column,
      path_exact path is_path,
    ) refl

colons : (path l c : List ℕ) → path ++ codes ":" ++ l ++ codes ":" ++ c ≡ (path ++ 58 ∷ l) ++ 58 ∷ c
colons path l c = simp append_assoc

place_found : (line : List ℕ) (command : MoreCommand) → place_of line ≡ Some command
    → IsMoreCommand (codes "pos" ++ 32 ∷ line) command
unfolding place_of
place_found line command e =
    let last = bind_some (last_parts_of line) _ command e in
    let m = bind_some (counted_of last.0.behind) _ command last.2 in
    let first = bind_some (last_parts_of last.0.word) _ command m.2 in
    let n = bind_some (counted_of first.0.behind) _ command first.2 in
    let position : Position = record { line = n.0; column = m.0 } in
    let asked : List ℕ → MoreCommand = λ path. Known (Ask Definitions position path) in
    let path = map_some asked (path_of first.0.word) command n.2 in
    let is = path_found first.0.word path.0 path.1 in
    let shape : line ≡ (first.0.word ++ 58 ∷ first.0.behind) ++ 58 ∷ last.0.behind =
    last_found line last.0 last.1
    ∙ ap (λ l. l ++ 58 ∷ last.0.behind) (last_found last.0.word first.0 first.1) in
    let named : IsMoreCommand (codes "pos" ++ 32 ∷ line) (asked first.0.word) =
    subst (λ l. IsMoreCommand l (asked first.0.word))
    (ap (λ l. codes "pos" ++ 32 ∷ l) (colons first.0.word first.0.behind last.0.behind ∙ sym shape))
    (place {p = position} is.1 (counted_found first.0.behind n.0 n.1) (counted_found last.0.behind m.0 m.1)) in
    subst (IsMoreCommand (codes "pos" ++ 32 ∷ line)) (ap asked is.0 ∙ path.2) named

place_exact : (path l c : List ℕ) (p : Position) → IsPath path → IsNumber l (p.line + 1) → IsNumber c (p.column + 1)
    → place_of ((path ++ 58 ∷ l) ++ 58 ∷ c) ≡ Some (Known (Ask Definitions p path))
unfolding place_of
place_exact path l c p is_path is_line is_column =
    rw (
      last_exact (path ++ 58 ∷ l) c (no_colon c (list_all-from_AllPass is_digit c is_column.digits)),
      counted_exact c p.column is_column,
      last_exact path l (no_colon l (list_all-from_AllPass is_digit l is_line.digits)),
      counted_exact l p.line is_line,
      path_exact path is_path,
    ) refl

-- ---- commands

worded_found : (line : List ℕ) (parts : Parts) (command : MoreCommand) → line ≡ parts.word ++ 32 ∷ parts.behind
    → worded_of parts ≡ Some command → IsMoreCommand line command
unfolding worded_of
worded_found line parts command shape e =
    by (bytes_eq parts.word (codes "sig")) refl (bytes_eq parts.word (codes "out")) refl
    (bytes_eq parts.word (codes "find")) refl (bytes_eq parts.word (codes "pos")) refl e where
      worded : (word : List ℕ) → bytes_eq parts.word word ≡ true → word ++ 32 ∷ parts.behind ≡ line
      worded word is = ap (λ w. w ++ 32 ∷ parts.behind) (sym (same_bytes parts.word word is)) ∙ sym shape

      by : (a : Bool) → bytes_eq parts.word (codes "sig") ≡ a → (b : Bool) → bytes_eq parts.word (codes "out") ≡ b
          → (c : Bool) → bytes_eq parts.word (codes "find") ≡ c → (d : Bool) → bytes_eq parts.word (codes "pos") ≡ d
          → cond a (signature_of parts.behind)
          (cond b (option_map Outline (path_of parts.behind))
          (cond c (option_map Find (path_of parts.behind)) (cond d (place_of parts.behind) None))) ≡ Some command
          → IsMoreCommand line command
      by true is b not_b c not_c d not_d f =
          subst (λ l. IsMoreCommand l command) (worded (codes "sig") is) (signature_found parts.behind command f)
      by false not_a true is c not_c d not_d f =
          let path = map_some Outline (path_of parts.behind) command f in
          let found = path_found parts.behind path.0 path.1 in
          subst (λ l. IsMoreCommand l command) (worded (codes "out") is)
          (subst (IsMoreCommand (codes "out" ++ 32 ∷ parts.behind)) (ap Outline found.0 ∙ path.2) (outline found.1))
      by false not_a false not_b true is d not_d f =
          let text = map_some Find (path_of parts.behind) command f in
          let found = path_found parts.behind text.0 text.1 in
          subst (λ l. IsMoreCommand l command) (worded (codes "find") is)
          (subst (IsMoreCommand (codes "find" ++ 32 ∷ parts.behind)) (ap Find found.0 ∙ text.2) (finding found.1))
      by false not_a false not_b false not_c true is f =
          subst (λ l. IsMoreCommand l command) (worded (codes "pos") is) (place_found parts.behind command f)
      by false not_a false not_b false not_c false not_d f = absurd cc

pub more_found : (line : List ℕ) (command : MoreCommand) → more_command_of line ≡ Some command
    → IsMoreCommand line command
unfolding more_command_of
more_found line command e = by (command_of line) refl e where
  alone : (t : Bool) → bytes_eq line (codes "help") ≡ t
      → cond t (Some Help) (option_and_then worded_of (parts_of line)) ≡ Some command → IsMoreCommand line command
  alone true is f =
      let same : Help ≡ command = cc in
      subst (IsMoreCommand line) same
      (subst (λ l. IsMoreCommand l Help) (sym (same_bytes line (codes "help") is)) help)
  alone false other f =
      let parts = bind_some (parts_of line) worded_of command f in
      worded_found line parts.0 command (parts_found line parts.0 parts.1) parts.2

  by : (o : Option Command) → command_of line ≡ o → known_or line o ≡ Some command → IsMoreCommand line command
  by (Some old) read f =
      let same : Known old ≡ command = cc in
      subst (IsMoreCommand line) same (known (command_found line old read))
  by None read f = alone (bytes_eq line (codes "help")) refl f

known_exact : (line : List ℕ) (command : Command) → IsCommand line command
    → more_command_of line ≡ Some (Known command)
unfolding more_command_of
known_exact line command is = ap (known_or line) (command_exact is)

signed : (l c path : List ℕ) (p : Position) → IsNumber l p.line → IsNumber c p.column → IsPath path
    → more_command_of (codes "sig" ++ space ++ l ++ space ++ c ++ space ++ path) ≡ Some (Signature p path)
unfolding more_command_of command_of question_of worded_of
signed l c path p is_line is_column is_path =
    ap signature_of (regroup l c path) ∙ signature_exact l c path p is_line is_column is_path

outlined_by : (path : List ℕ) → IsPath path → more_command_of (codes "out" ++ space ++ path) ≡ Some (Outline path)
unfolding more_command_of command_of question_of worded_of
outlined_by path is = ap (option_map Outline) (path_exact path is)

found_by_text : (text : List ℕ) → IsPath text → more_command_of (codes "find" ++ space ++ text) ≡ Some (Find text)
unfolding more_command_of command_of question_of worded_of
found_by_text text is = ap (option_map Find) (path_exact text is)

placed : (path l c : List ℕ) (p : Position) → IsPath path → IsNumber l (p.line + 1) → IsNumber c (p.column + 1)
    → more_command_of (codes "pos" ++ space ++ path ++ codes ":" ++ l ++ codes ":" ++ c)
    ≡ Some (Known (Ask Definitions p path))
unfolding more_command_of command_of question_of worded_of
placed path l c p is_path is_line is_column =
    ap place_of (colons path l c) ∙ place_exact path l c p is_path is_line is_column

helped : more_command_of (codes "help") ≡ Some Help
unfolding more_command_of command_of
helped = refl

pub more_exact : {line : List ℕ} {command : MoreCommand} → IsMoreCommand line command
    → more_command_of line ≡ Some command
more_exact (known {line = line} {command = command} is) = known_exact line command is
more_exact (signature {line = l} {column = c} {path = path} {p = p} is_line is_column is_path) =
    signed l c path p is_line is_column is_path
more_exact (outline {path = path} is) = outlined_by path is
more_exact (finding {text = text} is) = found_by_text text is
more_exact (place {path = path} {line = l} {column = c} {p = p} is_path is_line is_column) =
    placed path l c p is_path is_line is_column
more_exact help = helped
