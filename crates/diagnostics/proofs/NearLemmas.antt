-- What of a long line is near a place: the rest of it isn't shown.
use Rattle.std.proofs.Common.{◌≡◌, ◌∙◌, ap, ap₂, refl, sym, subst, ℕ, zero, suc, ◌+◌, ◌-◌, ◌≤◌, ◌<◌, ◌⊎◌, inl, inr}
use Rattle.std.proofs.Common.{Bool, true, false, cond, not, List, [], ◌∷◌, length, take, drop, ◌++◌, arith}
use Rattle.std.proofs.Common.{length-append, length-drop, reverse}
use Rattle.std.specs.Prelude.{codes, nat_eq, nat_lt, slice_index}
use Rattle.std.specs.List.{after_last, before_first, onto_first, prefix_len, suffix_len}
use Rattle.std.proofs.lemmas.Bool.{lt-ltb, eq-eqb, cases_lt}
use Rattle.std.proofs.lemmas.List.{drop-append-le, drop-drop, length-reverse, length-take-le, reverse-append}
use Rattle.std.proofs.lemmas.List.{take-append-drop, take-append-le, take-take, take_all}
use Rattle.std.proofs.lemmas.List.Folds.{prefix_len-append}
use Rattle.std.proofs.lemmas.List.Sums.{prefix_len-le-length}
use Rattle.proto_lex.specs.Ascii.{carriage_return}
use Rattle.proto_lex.specs.Bytes.{starts}
use Rattle.proto_lex.specs.Position.{is_line_end}
use Rattle.diagnostics.specs.Characters.{characters, goes_on}
use Rattle.diagnostics.specs.Excerpts.{Parts, blanks, carets, last_of, line_room, mark_line, parts_in, room, shown_line}
use Rattle.diagnostics.specs.Excerpts.{where_cut}
use Rattle.diagnostics.specs.Places.{without_return}
use Rattle.diagnostics.specs.Shown.{marks, shown_text}
use Rattle.diagnostics.specs.Tables.Steps.{both, near, parts_between}
use Rattle.diagnostics.proofs.CharacterLemmas.{first_is}

-- ---- the first characters of a longer text

front_onto : (n x : ℕ) (all some : List (List ℕ)) → n < length some → take n all ≡ take n some
    → take n (onto_first x all) ≡ take n (onto_first x some)
front_onto zero x all some more same = refl
front_onto (suc n) x all [] more same = absurd (omega (arith, more))
front_onto (suc n) x [] (b ∷ some) more same = absurd cc
front_onto (suc n) x (a ∷ all) (b ∷ some) more same = cc

onto_kept : (n x : ℕ) (all some : List (List ℕ)) (c : List ℕ) (cs : List (List ℕ)) → some ≡ c ∷ cs
    → n < length (onto_first x some) → (n < length some → take n all ≡ take n some)
    → take n (onto_first x all) ≡ take n (onto_first x some)
onto_kept n x all some c cs is more same =
    let less : n < length some =
    subst (λ (l : List (List ℕ)). n < length (onto_first x l) → n < length l) (sym is) (λ h. h) more in
    front_onto n x all some less (same less)

front_more : (n x : ℕ) (all some : List (List ℕ)) → n < length ((x ∷ []) ∷ some)
    → ((m : ℕ) → m < length some → take m all ≡ take m some)
    → take n ((x ∷ []) ∷ all) ≡ take n ((x ∷ []) ∷ some)
front_more zero x all some more same = refl
front_more (suc n) x all some more same = ap (λ (l : List (List ℕ)). (x ∷ []) ∷ l) (same n (omega (arith, more)))

front_by : (n x y : ℕ) (xs ys : List ℕ) (t : Bool) → goes_on y ≡ t
    → ((m : ℕ) → m < length (characters (y ∷ xs))
    → take m (characters (y ∷ (xs ++ ys))) ≡ take m (characters (y ∷ xs)))
    → n < length (cond t (onto_first x (characters (y ∷ xs))) ((x ∷ []) ∷ characters (y ∷ xs)))
    → take n (cond t (onto_first x (characters (y ∷ (xs ++ ys)))) ((x ∷ []) ∷ characters (y ∷ (xs ++ ys))))
    ≡ take n (cond t (onto_first x (characters (y ∷ xs))) ((x ∷ []) ∷ characters (y ∷ xs)))
front_by n x y xs ys true is same more =
    onto_kept n x (characters (y ∷ (xs ++ ys))) (characters (y ∷ xs)) _ _ (first_is y xs) more (same n)
front_by n x y xs ys false is same more =
    front_more n x (characters (y ∷ (xs ++ ys))) (characters (y ∷ xs)) more same

front_same : (xs ys : List ℕ) (n : ℕ) → n < length (characters xs)
    → take n (characters (xs ++ ys)) ≡ take n (characters xs)
front_same [] ys n more = absurd (omega (arith, more))
front_same (x ∷ []) ys zero more = refl
front_same (x ∷ []) ys (suc n) more = absurd (omega (arith, more))
front_same (x ∷ y ∷ xs) ys n more = front_by n x y xs ys (goes_on y) refl (front_same (y ∷ xs) ys) more

-- ---- its last ones

back_more : (n : ℕ) (c : List ℕ) (cs : List (List ℕ)) → n < length cs
    → (n < length (c ∷ cs)) × (last_of n (c ∷ cs) ≡ last_of n cs)
back_more n c cs more =
    let one : length (c ∷ cs) - n ≡ suc (length cs - n) = omega (arith, more) in
    (omega (arith, more), ap (λ m. drop m (c ∷ cs)) one)

back_onto : (n x : ℕ) (cs : List (List ℕ)) → n < length cs
    → (n < length (onto_first x cs)) × (last_of n (onto_first x cs) ≡ last_of n cs)
back_onto n x [] more = absurd (omega (arith, more))
back_onto n x (c ∷ cs) more =
    let one : length (c ∷ cs) - n ≡ suc (length cs - n) = omega (arith, more) in
    (more, ap (λ m. drop m ((x ∷ c) ∷ cs)) one ∙ sym (ap (λ m. drop m (c ∷ cs)) one))

back_by : (n x : ℕ) (cs : List (List ℕ)) (t : Bool) → n < length cs
    → (n < length (cond t (onto_first x cs) ((x ∷ []) ∷ cs)))
    × (last_of n (cond t (onto_first x cs) ((x ∷ []) ∷ cs)) ≡ last_of n cs)
back_by n x cs true more = back_onto n x cs more
back_by n x cs false more = back_more n (x ∷ []) cs more

back_same : (n : ℕ) (xs ys : List ℕ) → n < length (characters ys)
    → (n < length (characters (xs ++ ys))) × (last_of n (characters (xs ++ ys)) ≡ last_of n (characters ys))
back_same n [] ys more = (more, refl)
back_same n (x ∷ xs) ys more =
    let before = back_same n xs ys more in
    let now = back_by n x (characters (xs ++ ys)) (starts goes_on (xs ++ ys)) before.0 in
    (now.0, now.1 ∙ before.1)

-- ---- a line that goes on

abbrev pub stays : ℕ → Bool
stays byte = not (is_line_end byte)

line_goes_on : (xs ys : List ℕ) → length ys ≤ suffix_len stays ys
    → after_last is_line_end (xs ++ ys) ≡ after_last is_line_end xs ++ ys
line_goes_on xs ys whole =
    let all : prefix_len stays (reverse ys) ≡ length (reverse ys) =
    omega (arith, whole, prefix_len-le-length stays (reverse ys), length-reverse ys) in
    let sum : suffix_len stays (xs ++ ys) ≡ length (reverse ys) + suffix_len stays xs =
    ap (prefix_len stays) (reverse-append xs ys) ∙ prefix_len-append stays (reverse ys) (reverse xs)
    ∙ ap (λ t. cond t (length (reverse ys) + suffix_len stays xs) (prefix_len stays (reverse ys)))
    (eq-eqb (prefix_len stays (reverse ys)) (length (reverse ys)) all) in
    let from : length (xs ++ ys) - suffix_len stays (xs ++ ys) ≡ length xs - suffix_len stays xs =
    omega (arith, sum, length-append xs ys, length-reverse ys) in
    ap (λ n. drop n (xs ++ ys)) from ∙ drop-append-le (length xs - suffix_len stays xs) xs ys (omega arith)

-- an end of a text in which no line ends has the last characters of the text's last line
pub wide_is : (text : List ℕ) (n : ℕ) → length (drop n text) ≤ suffix_len stays (drop n text)
    → near < length (characters (drop n text))
    → last_of near (characters (drop n text)) ≡ last_of near (characters (after_last is_line_end text))
wide_is text n whole more =
    sym (back_same near (after_last is_line_end (take n text)) (drop n text) more).1
    ∙ ap (λ (l : List ℕ). last_of near (characters l))
    (sym (line_goes_on (take n text) (drop n text) whole) ∙ ap (after_last is_line_end) (take-append-drop n text))

-- ---- the front of a line

some_bytes : (n : ℕ) (xs : List ℕ) → n < length (characters xs) → 0 < length xs
some_bytes n [] more = absurd (omega (arith, more))
some_bytes n (x ∷ xs) more = omega arith

take_few : (n : ℕ) (xs : List ℕ) → length (take n xs) ≤ n
take_few zero xs = omega arith
take_few (suc n) [] = omega arith
take_few (suc n) (x ∷ xs) = omega (arith, take_few n xs)

front_near : (len : ℕ) (front rest : List ℕ) → near < length (characters (drop len front))
    → (take len front ≡ take len (front ++ rest))
    × (take near (characters (drop len front)) ≡ take near (characters (drop len (front ++ rest))))
front_near len front rest more =
    let fits : len ≤ length front =
    omega (arith, length-drop len front, some_bytes near (drop len front) more) in (
      sym (take-append-le len front rest fits),
      sym (front_same (drop len front) rest near more)
          ∙ ap (λ (l : List ℕ). take near (characters l)) (sym (drop-append-le len front rest fits)),
    )

return_kept : (k : ℕ) (line : List ℕ) (t : Bool) → k < length line
    → take k (cond t (take (length line - 1) line) line) ≡ take k line
return_kept k line true more = take-take k (length line - 1) line (omega (arith, more))
return_kept k line false more = refl

abbrev pub line_of_front : List ℕ → List ℕ
line_of_front text = without_return (before_first is_line_end text)

front_kept : (text : List ℕ) (k : ℕ) → k < prefix_len stays text → take k (line_of_front text) ≡ take k text
front_kept text k more =
    let line = take (prefix_len stays text) text in
    let len : length line ≡ prefix_len stays text =
    length-take-le (prefix_len stays text) text (prefix_len-le-length stays text) in
    return_kept k line (nat_eq (slice_index line (length line - 1)) carriage_return) (omega (arith, more, len))
    ∙ take-take k (prefix_len stays text) text (omega (arith, more))

window_in : (text : List ℕ) (w : ℕ) → length (take w text) ≤ prefix_len stays (take w text)
    → length (take w text) ≤ prefix_len stays text
window_in text w whole =
    let window = take w text in
    let behind = prefix_len stays (drop w text) in
    let all : prefix_len stays window ≡ length window =
    omega (arith, whole, prefix_len-le-length stays window) in
    let sum : prefix_len stays text ≡ length window + behind =
    sym (ap (prefix_len stays) (take-append-drop w text)) ∙ prefix_len-append stays window (drop w text)
    ∙ ap (λ t. cond t (length window + behind) (prefix_len stays window))
    (eq-eqb (prefix_len stays window) (length window) all) in
    omega (arith, sum)

-- a front of a text in which no line ends has the first bytes of its line, and behind them its first characters
pub front_is : (text : List ℕ) (w len : ℕ) → length (take w text) ≤ prefix_len stays (take w text)
    → near < length (characters (drop len (take (length (take w text) - 1) text)))
    → (take len (take (length (take w text) - 1) text) ≡ take len (line_of_front text))
    × (take near (characters (drop len (take (length (take w text) - 1) text)))
    ≡ take near (characters (drop len (line_of_front text))))
front_is text w len whole more =
    let k = length (take w text) - 1 in
    let some : 0 < length (drop len (take k text)) = some_bytes near (drop len (take k text)) more in
    let inside : k < prefix_len stays text =
    omega (arith, some, length-drop len (take k text), take_few k text, window_in text w whole) in
    let is : take k text ++ drop k (line_of_front text) ≡ line_of_front text =
    ap (λ (l : List ℕ). l ++ drop k (line_of_front text)) (sym (front_kept text k inside))
    ∙ take-append-drop k (line_of_front text) in
    subst (λ (line : List ℕ). (take len (take k text) ≡ take len line)
    × (take near (characters (drop len (take k text))) ≡ take near (characters (drop len line)))) is
    (front_near len (take k text) (drop k (line_of_front text)) more)

-- ---- what is shown of it

-- what is near the marked part
abbrev pub near_of : (before marked behind : List (List ℕ)) → Parts
near_of before marked behind = record { before = last_of near before; marked = marked; behind = take near behind }

abbrev cut_parts : Parts → Parts
cut_parts parts = near_of parts.before parts.marked parts.behind

abbrev IsCutTo : (few count : ℕ) → Type 0
IsCutTo few count = (few ≡ count) ⊎ ((few ≡ near) × (near ≤ count))

first_few : (cs : List (List ℕ)) → IsCutTo (length (take near cs)) (length cs)
first_few cs = by (cases_lt near (length cs))
  where
    by : (near < length cs) ⊎ (length cs ≤ near) → IsCutTo (length (take near cs)) (length cs)
    by (inl more) = inr (length-take-le near cs (omega (arith, more)), omega (arith, more))
    by (inr few) = inl (ap length (take_all near cs few))

last_few : (cs : List (List ℕ)) → IsCutTo (length (last_of near cs)) (length cs)
last_few cs = by (cases_lt near (length cs))
  where
    by : (near < length cs) ⊎ (length cs ≤ near) → IsCutTo (length (last_of near cs)) (length cs)
    by (inl more) =
        inr (omega (arith, more, length-drop (length cs - near) cs), omega (arith, more))
    by (inr few) = inl (omega (arith, few, length-drop (length cs - near) cs))

few_alike : (r few count more : ℕ) → r < near → IsCutTo few count → nat_lt r (more + few) ≡ nat_lt r (more + count)
few_alike r few count more small (inl same) = ap (λ n. nat_lt r (more + n)) same
few_alike r few count more small (inr cut) =
    lt-ltb r (more + few) (omega (arith, small, cut.0)) ∙ sym (lt-ltb r (more + count) (omega (arith, small, cut.1)))

alone_alike : (r few count : ℕ) → r < near → IsCutTo few count → nat_lt r few ≡ nat_lt r count
alone_alike r few count small (inl same) = ap (nat_lt r) same
alone_alike r few count small (inr cut) =
    lt-ltb r few (omega (arith, small, cut.0)) ∙ sym (lt-ltb r count (omega (arith, small, cut.1)))

room_alike : (few count marked last all : ℕ) → IsCutTo few count → IsCutTo last all
    → nat_lt line_room (few + marked + last) ≡ nat_lt line_room (count + marked + all)
room_alike few count marked last all before behind =
    let turn : few + marked + all ≡ marked + all + few = omega arith in
    let back : marked + all + count ≡ count + marked + all = omega arith in
    few_alike line_room last all (few + marked) (omega arith) behind
    ∙ ap (nat_lt line_room) turn ∙ few_alike line_room few count (marked + all) (omega arith) before
    ∙ ap (nat_lt line_room) back

room_same : (parts : Parts) → room (cut_parts parts) ≡ room parts
room_same parts =
    ap (λ t. cond t 100 200)
    (room_alike (length (last_of near parts.before)) (length parts.before) (length parts.marked)
    (length (take near parts.behind)) (length parts.behind) (last_few parts.before) (first_few parts.behind))

room_small : (t : Bool) → cond t 100 200 < near
room_small true = omega arith
room_small false = omega arith

last_again : (r : ℕ) (cs : List (List ℕ)) → r ≤ near → last_of r (last_of near cs) ≡ last_of r cs
last_again r cs small =
    let from : length cs - near + (length (last_of near cs) - r) ≡ length cs - r =
    omega (arith, small, length-drop (length cs - near) cs) in
    drop-drop (length (last_of near cs) - r) (length cs - near) cs ∙ ap (λ n. drop n cs) from

abbrev before_by : ℕ → Parts → List ℕ
before_by r parts =
    where_cut (nat_lt r (length parts.before)) (codes "...") ++ shown_text (last_of r parts.before)

abbrev behind_by : ℕ → Parts → List ℕ
behind_by r parts =
    shown_text (take (r - length parts.marked) parts.behind)
    ++ where_cut (nat_lt r (length parts.marked + length parts.behind)) (codes "...")

before_same : (r : ℕ) (parts : Parts) → r < near → before_by r (cut_parts parts) ≡ before_by r parts
before_same r parts small =
    ap₂ (λ t (cs : List (List ℕ)). where_cut t (codes "...") ++ shown_text cs)
    (alone_alike r (length (last_of near parts.before)) (length parts.before) small (last_few parts.before))
    (last_again r parts.before (omega (arith, small)))

behind_same : (r : ℕ) (parts : Parts) → r < near → behind_by r (cut_parts parts) ≡ behind_by r parts
behind_same r parts small =
    ap₂ (λ (cs : List (List ℕ)) t. shown_text cs ++ where_cut t (codes "..."))
    (take-take (r - length parts.marked) near parts.behind (omega (arith, small)))
    (few_alike r (length (take near parts.behind)) (length parts.behind) (length parts.marked) small
    (first_few parts.behind))

line_same : (parts : Parts) → shown_line (cut_parts parts) ≡ shown_line parts
line_same parts =
    let small = room_small (nat_lt line_room (length parts.before + length parts.marked + length parts.behind)) in
    ap (λ r. before_by r (cut_parts parts) ++ shown_text (take r parts.marked) ++ behind_by r (cut_parts parts))
    (room_same parts)
    ∙ ap₂ (λ (a b : List ℕ). a ++ shown_text (take (room parts) parts.marked) ++ b)
    (before_same (room parts) parts small) (behind_same (room parts) parts small)

mark_same : (parts : Parts) → mark_line (cut_parts parts) ≡ mark_line parts
mark_same parts =
    let small = room_small (nat_lt line_room (length parts.before + length parts.marked + length parts.behind)) in
    ap (λ r. marks (codes " ") (before_by r (cut_parts parts)) ++ carets (shown_text (take r parts.marked)))
    (room_same parts)
    ∙ ap (λ (a : List ℕ). marks (codes " ") a ++ carets (shown_text (take (room parts) parts.marked)))
    (before_same (room parts) parts small)

both_same : (number : List ℕ) (parts : Parts) → both number (cut_parts parts) ≡ both number parts
both_same number parts =
    ap₂ (λ (line mark : List ℕ). (codes "\n  " ++ number ++ codes " | " ++ line)
    ++ (codes "\n  " ++ blanks number ++ codes " | " ++ mark))
    (line_same parts) (mark_same parts)

near_same : (b c m n g h : List (List ℕ)) → b ≡ last_of near c → m ≡ n → take near g ≡ take near h
    → near_of b m g ≡ near_of c n h
near_same b c m n g h before marked behind =
    ap₂ (λ (x y : List (List ℕ)). record { before = x; marked = m; behind = y })
    (ap (last_of near) before ∙ last_again near c (omega arith)) behind
    ∙ ap (λ (x : List (List ℕ)). near_of c x h) marked

-- what is shown of what is near is what is shown of the line
pub both_near : (number front back before marked behind : List ℕ) (len : ℕ)
    → characters before ≡ last_of near (characters (after_last is_line_end front))
    → marked ≡ take len (line_of_front back)
    → take near (characters behind) ≡ take near (characters (drop len (line_of_front back)))
    → both number (parts_in before marked behind) ≡ both number (parts_between front back len)
both_near number front back before marked behind len is_before is_marked is_behind =
    sym (both_same number (parts_in before marked behind))
    ∙ ap (both number)
    (near_same (characters before) (characters (after_last is_line_end front)) (characters marked)
    (characters (take len (line_of_front back))) (characters behind) (characters (drop len (line_of_front back)))
    is_before (ap characters is_marked) is_behind)
    ∙ both_same number (parts_between front back len)
