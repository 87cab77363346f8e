-- Bytes in which a prefix is left out at some places (`Shortened`): what is put behind them.
use Rattle.std.proofs.Common.{◌≡◌, ℕ, ◌+◌, ◌≤◌, ◌<◌, List, [], ◌∷◌, ◌++◌, length, take, drop}
use Rattle.std.proofs.Common.{Bool, true, false, cond, get_or}
use Rattle.std.proofs.Common.{refl, sym, ap, ◌∙◌, arith, append_assoc, append-nil, length-append}
use Rattle.std.specs.Prelude.{vec_len, vec_capacity}
use Rattle.std.proofs.lemmas.List.{length-drop, take_all, drop_all, take-append-le, drop-append-le, at_drop_more}
use Rattle.scip_wire.specs.Outputs.{IsPut, put}
use Rattle.scip_wire.specs.Shortened.{in_full, distance_sum, bytes_in, IsPlaced, IsBegun, LeavesOut}
use Rattle.scip_wire.specs.Shortened.{HasShortened, IsShortened}
use Rattle.scip_wire.specs.declared.spell.shortened.Shortened.{Shortened}

-- ---- lists

-- what is put behind both parts of a text and what follows them
behind : (before prefix u more : List ℕ) → before ++ (prefix ++ (u ++ more)) ≡ (before ++ (prefix ++ u)) ++ more
behind before prefix u more =
    sym (append_assoc before (prefix ++ u) more ∙ ap (λ l. before ++ l) (append_assoc prefix u more))

-- bytes behind the rest are behind the whole
rest_grows : (prefix rest distances more : List ℕ) → distance_sum distances ≤ length rest
    → in_full prefix (rest ++ more) distances ≡ in_full prefix rest distances ++ more
rest_grows prefix rest [] more fits = refl
rest_grows prefix rest (distance ∷ distances) more fits =
    let inside : distance ≤ length rest = omega (arith, fits) in
    let left : distance_sum distances ≤ length (drop distance rest) = omega (arith, fits, length-drop distance rest) in
    ap (λ l. l ++ (prefix ++ in_full prefix (drop distance (rest ++ more)) distances))
    (take-append-le distance rest more inside)
    ∙ ap (λ l. take distance rest ++ (prefix ++ in_full prefix l distances)) (drop-append-le distance rest more inside)
    ∙ ap (λ l. take distance rest ++ (prefix ++ l)) (rest_grows prefix (drop distance rest) distances more left)
    ∙ behind (take distance rest) prefix (in_full prefix (drop distance rest) distances) more

-- a prefix behind the whole rest is behind the whole
prefix_ends : (prefix rest distances : List ℕ) (distance : ℕ) → distance_sum distances + distance ≡ length rest
    → in_full prefix rest (distances ++ distance ∷ []) ≡ in_full prefix rest distances ++ prefix
prefix_ends prefix rest [] distance whole =
    ap (λ l. l ++ (prefix ++ drop distance rest)) (take_all distance rest (omega (arith, whole)))
    ∙ ap (λ l. rest ++ (prefix ++ l)) (drop_all distance rest (omega (arith, whole)))
    ∙ ap (λ l. rest ++ l) (append-nil prefix)
prefix_ends prefix rest (one ∷ distances) distance whole =
    let left : distance_sum distances + distance ≡ length (drop one rest) = omega (arith, whole, length-drop one rest)
    in
    ap (λ l. take one rest ++ (prefix ++ l)) (prefix_ends prefix (drop one rest) distances distance left)
    ∙ behind (take one rest) prefix (in_full prefix (drop one rest) distances) prefix

sum_with : (distances : List ℕ) (distance : ℕ)
    → distance_sum (distances ++ distance ∷ []) ≡ distance_sum distances + distance
sum_with [] distance = omega arith
sum_with (one ∷ distances) distance = omega (arith, sum_with distances distance)

-- one more distance of those that are left
module _ (distances : List ℕ) (i : ℕ) (inside : i < length distances) where
  pub place_further : (prefix left before after : List ℕ) → before ≡ take (get_or distances i 0) left
      → after ≡ drop (get_or distances i 0) left
      → before ++ (prefix ++ in_full prefix after (drop (i + 1) distances)) ≡ in_full prefix left (drop i distances)
  place_further prefix left before after taken dropped =
      let others = drop (i + 1) distances in
      ap (λ l. l ++ (prefix ++ in_full prefix after others)) taken
      ∙ ap (λ l. take (get_or distances i 0) left ++ (prefix ++ in_full prefix l others)) dropped
      ∙ sym (at_drop_more (λ ys. in_full prefix left ys) distances i 0 inside)

  pub sum_further : distance_sum (drop i distances) ≡ get_or distances i 0 + distance_sum (drop (i + 1) distances)
  sum_further = at_drop_more (λ ys. distance_sum ys) distances i 0 inside

-- ---- leaving a prefix out

pub prefix_left_out : (old now : Shortened) (bytes after : List ℕ) (distance : ℕ) → bytes ≡ old.prefix.items ++ after
    → now.prefix ≡ old.prefix → now.rest ≡ old.rest → now.distances.items ≡ old.distances.items ++ distance ∷ []
    → now.last ≡ length old.rest.items
    → (old.last ≤ length old.rest.items → old.last + distance ≡ length old.rest.items)
    → LeavesOut old now bytes after
prefix_left_out old now bytes after distance split prefix rest distances last whole = record {
  text = λ m.
      let sum : distance_sum old.distances.items + distance ≡ length old.rest.items =
      omega (arith, m.total, whole m.within) in
      let same : bytes_in now ≡ bytes_in old ++ old.prefix.items =
      ap (λ x. in_full x.items now.rest.items now.distances.items) prefix
      ∙ ap (λ x. in_full old.prefix.items x.items now.distances.items) rest
      ∙ ap (λ x. in_full old.prefix.items old.rest.items x) distances
      ∙ prefix_ends old.prefix.items old.rest.items old.distances.items distance sum in
      ap (λ l. l ++ after) same ∙ append_assoc (bytes_in old) old.prefix.items after
      ∙ ap (λ l. bytes_in old ++ l) (sym split);
  placed = λ m. record {
    total =
        omega (arith, last, m.total, whole m.within, ap distance_sum distances, sum_with old.distances.items distance);
    within = omega (arith, last, ap (λ x. length x.items) rest);
  };
  rest = rest;
  short = omega (arith, ap length split, length-append old.prefix.items after);
}

-- ---- as an output

-- bytes were added to the rest, and nothing else changed
pub grown : (old now : Shortened) (more : List ℕ) → now.prefix.items ≡ old.prefix.items
    → now.distances.items ≡ old.distances.items → now.last ≡ old.last → now.rest.items ≡ old.rest.items ++ more
    → vec_len now.rest ≤ vec_len old.rest + length more → vec_capacity old.rest ≤ vec_capacity now.rest
    → IsPlaced old → HasShortened old now more
grown old now more prefix distances last rest len capacity m = record {
  text =
      ap (λ x. in_full x now.rest.items now.distances.items) prefix
      ∙ ap (λ x. in_full old.prefix.items x now.distances.items) rest
      ∙ ap (λ x. in_full old.prefix.items (old.rest.items ++ more) x) distances
      ∙ rest_grows old.prefix.items old.rest.items old.distances.items more (omega (arith, m.total, m.within));
  len = len;
  capacity = capacity;
  placed = record {
    total = omega (arith, last, m.total, ap distance_sum distances);
    within = omega (arith, last, m.within, ap length rest, length-append old.rest.items more);
  };
}

-- a prefix was left out, or none, and what is left of the bytes was put into the rest, if there was room
pub grown_behind : (old mid now : Shortened) (bytes after : List ℕ) (done : Bool) → LeavesOut old mid bytes after
    → now.prefix.items ≡ mid.prefix.items → now.distances.items ≡ mid.distances.items → now.last ≡ mid.last
    → now.rest.items ≡ cond done (mid.rest.items ++ after) mid.rest.items
    → vec_len now.rest ≡ cond done (vec_len mid.rest + length after) (vec_len mid.rest)
    → (vec_len mid.rest + length after ≤ vec_capacity mid.rest → done ≡ true)
    → vec_capacity mid.rest ≤ vec_capacity now.rest
    → IsPlaced old → vec_len old.rest + length bytes ≤ vec_capacity old.rest → HasShortened old now bytes
grown_behind old mid now bytes after true leaves prefix distances last rest len room capacity m fits =
    let had = grown mid now after prefix distances last rest (omega (arith, len)) capacity (leaves.placed m) in
    let same_len : vec_len mid.rest ≡ vec_len old.rest = ap vec_len leaves.rest in
    let same_room : vec_capacity mid.rest ≡ vec_capacity old.rest = ap vec_capacity leaves.rest in
    record {
      text = had.text ∙ leaves.text m;
      len = omega (arith, had.len, same_len, leaves.short);
      capacity = omega (arith, capacity, same_room);
      placed = had.placed;
    }
grown_behind old mid now bytes after false leaves prefix distances last rest len room capacity m fits =
    let same_len : vec_len mid.rest ≡ vec_len old.rest = ap vec_len leaves.rest in
    let same_room : vec_capacity mid.rest ≡ vec_capacity old.rest = ap vec_capacity leaves.rest in
    let none : false ≡ true = room (omega (arith, fits, same_len, same_room, leaves.short)) in
    absurd cc

module _ {W : Type 0} where
  -- bytes that come behind those that one with room for them has
  pub put_shortened : (a b : W) (old now : Shortened) (bytes : List ℕ)
      → (IsPlaced old → vec_len old.rest + length bytes ≤ vec_capacity old.rest → HasShortened old now bytes)
      → IsPut (IsShortened {W = W}) a old b now bytes
  put_shortened a b old now bytes step =
      put (λ sink begun earlier h fits.
      let had : HasShortened begun old earlier = h (omega (arith, fits, length-append earlier bytes)) in
      let room : vec_len old.rest + length bytes ≤ vec_capacity old.rest =
      omega (arith, fits, had.len, had.capacity, length-append earlier bytes) in
      let has : HasShortened old now bytes = step had.placed room in
      record {
        text = has.text ∙ ap (λ l. l ++ bytes) had.text ∙ append_assoc (bytes_in begun) earlier bytes;
        len = omega (arith, has.len, had.len, length-append earlier bytes);
        capacity = omega (arith, has.capacity, had.capacity);
        placed = has.placed;
      })

  -- all that was put into one that had room for it
  pub all_shortened : (a b : W) (room : ℕ) (begun now : Shortened) (bytes : List ℕ) → IsBegun room begun
      → length bytes ≤ room → IsPut (IsShortened {W = W}) a begun b now bytes → (bytes_in now ≡ bytes) × IsPlaced now
  all_shortened a b room begun now bytes begins fits (put f) =
      let placed : IsPlaced begun = record {
        total = begins.last ∙ sym (ap distance_sum begins.distances);
        within = omega (arith, begins.last);
      } in
      let at_first : HasShortened begun begun [] = record {
        text = sym (append-nil (bytes_in begun));
        len = omega arith;
        capacity = omega arith;
        placed = placed;
      } in
      let none : bytes_in begun ≡ [] =
      ap (λ x. in_full begun.prefix.items x begun.distances.items) begins.rest
      ∙ ap (λ x. in_full begun.prefix.items [] x) begins.distances in
      let has : HasShortened begun now bytes =
      f a begun [] (λ ok. at_first) (omega (arith, begins.len, begins.has_room, fits)) in
      (has.text ∙ ap (λ l. l ++ bytes) none, has.placed)
