-- Full names in two parts: which are the same, and what they are hashed by.
use Rattle.std.proofs.Common.{◌≡◌, ◌∙◌, sym, ap, refl, subst, ℕ, ◌-◌, ◌<◌, ◌≤◌, ◌==◌, ◌&&◌, Bool, true, false}
use Rattle.std.proofs.Common.{List, [], ◌∷◌, ◌++◌, length, get_or, take, drop, arith, length-append, ◌↔◌}
use Rattle.std.proofs.Common.{Option, Some, None, MatchOption}
use Rattle.std.proofs.lemmas.Bool.{false≢true, eqb-true}
use Rattle.std.proofs.lemmas.Grind.{fold-append}
use Rattle.std.proofs.lemmas.List.{append_assoc, append_cancel_left, take-append-drop}
use Rattle.std.proofs.Math.Seq.{take-length}
use Rattle.std.specs.Bool.{nat_eq, IsTrue}
use Rattle.std.specs.Cmp.Lexicographic.{pointwise, bytes_decides}
use Rattle.std.specs.Str.{bytes_eq}
use Rattle.proto_decl.specs.Names.{qualified, hash64_byte, hash64_on, hash64, hash64_front}
use Rattle.proto_parse.proofs.RefusedLemmas.{heads, tails}

-- ---- what they are hashed by

-- a scope's bytes, a dot, and a name's
pub hash64_behind : (scope name : List ℕ) → hash64_on (hash64_front scope) name ≡ hash64 (qualified scope name)
hash64_behind [] name = refl
hash64_behind (byte ∷ scope) name = sym (fold-append hash64_byte 0 (byte ∷ scope) (46 ∷ name))

-- ---- which are the same

and_more : (first whole front rest : Bool) → whole ≡ (front && rest) → (first && whole) ≡ ((first && front) && rest)
and_more true whole front rest e = e
and_more false whole front rest e = refl

-- fronts of one length
pub same_fronts : (front other name other_name : List ℕ) → length front ≡ length other
    → pointwise nat_eq (front ++ name) (other ++ other_name)
    ≡ (pointwise nat_eq front other && pointwise nat_eq name other_name)
same_fronts [] [] name other_name e = refl
same_fronts [] (b ∷ other) name other_name e = absurd (omega (arith, e))
same_fronts (a ∷ front) [] name other_name e = absurd (omega (arith, e))
same_fronts (a ∷ front) (b ∷ other) name other_name e =
    and_more (nat_eq a b) (pointwise nat_eq (front ++ name) (other ++ other_name)) (pointwise nat_eq front other)
    (pointwise nat_eq name other_name) (same_fronts front other name other_name (omega (arith, e)))

pub same_scopes : (scope other name other_name : List ℕ) → length scope ≡ length other
    → bytes_eq (qualified scope name) (qualified other other_name) ≡ (bytes_eq scope other && bytes_eq name other_name)
same_scopes [] [] name other_name e = refl
same_scopes [] (b ∷ other) name other_name e = absurd (omega (arith, e))
same_scopes (a ∷ scope) [] name other_name e = absurd (omega (arith, e))
same_scopes (a ∷ scope) (b ∷ other) name other_name e =
    same_fronts (a ∷ scope) (b ∷ other) (46 ∷ name) (46 ∷ other_name) e

-- of two lists that are one, each in two parts, the longer first part begins with the shorter one
record Between (front rest other other_rest : List ℕ) : Type 0 where
  between : List ℕ
  other_is : other ≡ front ++ between
  rest_is : rest ≡ between ++ other_rest

parted : (front rest other other_rest : List ℕ) → length front < length other → front ++ rest ≡ other ++ other_rest
    → Between front rest other other_rest
parted [] rest other other_rest less e = record { between = other; other_is = refl; rest_is = e }
parted (a ∷ front) rest [] other_rest less e = absurd (omega (arith, less))
parted (a ∷ front) rest (b ∷ other) other_rest less e =
    let head = heads e in
    let more = parted front rest other other_rest (omega (arith, less))
    (tails e) in
    record {
      between = more.between;
      other_is = λ i. sym head i ∷ more.other_is i;
      rest_is = more.rest_is;
    }

-- what stands between the full names of a scope and of one in it, and the name that is behind it
record Outside (scope name inner other : List ℕ) : Type 0 where
  between : List ℕ
  inner_is : inner ≡ qualified scope between
  name_is : name ≡ between ++ 46 ∷ other

outside_at : (a : ℕ) (front name inner other : List ℕ) (found : Between (a ∷ front) (46 ∷ name) inner (46 ∷ other))
    → length (a ∷ front) < length inner → (between : List ℕ) → found.between ≡ between
    → Outside (a ∷ front) name inner other
outside_at a front name inner other found less [] e =
    let none = ap length (found.other_is ∙ ap (λ b. (a ∷ front) ++ b) e) in
    absurd (omega (arith, less, none, length-append (a ∷ front) []))
outside_at a front name inner other found less (byte ∷ between) e =
    let rest : 46 ∷ name ≡ byte ∷ (between ++ 46 ∷ other) = found.rest_is ∙ ap (λ b. b ++ 46 ∷ other) e in
    let dot = heads rest in
    record {
      between = between;
      inner_is = found.other_is
          ∙ (ap (λ b. (a ∷ front) ++ b) e ∙ ap (λ b. (a ∷ front) ++ b ∷ between) (sym dot));
      name_is = tails rest;
    }

outside : (scope name inner other : List ℕ) → length scope < length inner
    → qualified scope name ≡ qualified inner other → Outside scope name inner other
outside scope name [] other less e = absurd (omega (arith, less))
outside [] name (b ∷ inner) other less e = record { between = b ∷ inner; inner_is = refl; name_is = e }
outside (a ∷ front) name (b ∷ inner) other less e =
    let found = parted (a ∷ front) (46 ∷ name) (b ∷ inner) (46 ∷ other) less e in
    outside_at a front name (b ∷ inner) other found less found.between refl

-- a name in the scope between is one of the scope around it
nested : (scope between rest : List ℕ) → 0 < length (qualified scope between)
    → qualified scope (between ++ 46 ∷ rest) ≡ qualified (qualified scope between) rest
nested [] [] rest some = absurd (omega (arith, some))
nested [] (b ∷ between) rest some = refl
nested (a ∷ scope) between rest some = sym (append_assoc (a ∷ scope) (46 ∷ between) (46 ∷ rest))

-- names in one scope
same_names : (inner rest other : List ℕ) → qualified inner rest ≡ qualified inner other → rest ≡ other
same_names [] rest other e = e
same_names (b ∷ inner) rest other e =
    tails (append_cancel_left (b ∷ inner) (46 ∷ rest) (46 ∷ other) e)

pub found_outside : (scope name inner other between rest : List ℕ) (same : Bool) → length scope < length inner
    → inner ≡ qualified scope between → name ≡ between ++ 46 ∷ rest → same ≡ pointwise nat_eq rest other
    → IsTrue same ↔ (qualified scope name ≡ qualified inner other)
found_outside scope name inner other between rest same less inner_is name_is same_is = (
  λ t. whole ∙ ap (qualified inner) ((bytes_decides rest other).0 (sym same_is ∙ t)),
  λ e. same_is ∙ (bytes_decides rest other).1 (same_names inner rest other (sym whole ∙ e)),
)
  where
    some : 0 < length (qualified scope between)
    some = subst (λ n. 0 < length n) inner_is (omega (arith, less))

    whole : qualified scope name ≡ qualified inner rest
    whole = ap (qualified scope) name_is ∙ (nested scope between rest some ∙ ap (λ n. qualified n rest) (sym inner_is))

pub not_outside : (scope name inner other : List ℕ) → length scope < length inner
    → ((rest : List ℕ) → inner ≡ qualified scope rest → ⊥) → qualified scope name ≡ qualified inner other → ⊥
not_outside scope name inner other less none e =
    let found = outside scope name inner other less e in
    none found.between found.inner_is

pub no_rest : (scope name inner other between : List ℕ) → length scope < length inner → inner ≡ qualified scope between
    → ((rest : List ℕ) → name ≡ between ++ 46 ∷ rest → ⊥) → qualified scope name ≡ qualified inner other → ⊥
no_rest scope name inner other between less inner_is none e =
    let found = outside scope name inner other less e in
    let same = same_names scope found.between between (sym found.inner_is ∙ inner_is) in
    none other (found.name_is ∙ ap (λ b. b ++ 46 ∷ other) same)

-- ---- what is behind the front of a name

take_front : (front rest : List ℕ) → take (length front) (front ++ rest) ≡ front
take_front [] rest = refl
take_front (byte ∷ front) rest = ap (λ xs. byte ∷ xs) (take_front front rest)

pub no_front : (name front rest : List ℕ) → pointwise nat_eq (take (length front) name) front ≡ false
    → name ≡ front ++ rest → ⊥
no_front name front rest unlike is =
    let same = ap (take (length front)) is ∙ take_front front rest in
    false≢true (sym unlike ∙ (bytes_decides (take (length front) name) front).1 same)

pub nothing_behind : {X : Type 0} (now : X → List ℕ) (found : Option X) (name front : List ℕ) → found ≡ None
    → pointwise nat_eq (take (length front) name) front ≡ false
    → MatchOption found ((rest : List ℕ) → name ≡ front ++ 46 ∷ rest → ⊥) (λ rest. name ≡ front ++ 46 ∷ now rest)
nothing_behind now None name front none unlike = λ rest. no_front name front (46 ∷ rest) unlike
nothing_behind now (Some rest) name front none unlike = absurd cc

pub begins_so : (bytes : List ℕ) (first : ℕ) → 1 ≤ length bytes → get_or bytes 0 0 ≡ first
    → bytes ≡ first ∷ take (length bytes - 1) (drop 1 bytes)
begins_so [] first some is = absurd (omega (arith, some))
begins_so (byte ∷ bytes) first some is =
    let size : length (byte ∷ bytes) - 1 ≡ length bytes = omega arith in
    let same = ap (λ n. take n bytes) size ∙ take-length bytes in
    λ i. is i ∷ sym same i

pub front_is : (name front more : List ℕ) → pointwise nat_eq (take (length front) name) front ≡ true
    → more ≡ drop (length front) name → name ≡ front ++ more
front_is name front more alike behind =
    let same = (bytes_decides (take (length front) name) front).0 alike in
    sym (take-append-drop (length front) name) ∙ (λ i. same i ++ sym behind i)

pub not_behind : (name front more rest : List ℕ) → name ≡ front ++ more → (more ≡ 46 ∷ rest → ⊥)
    → name ≡ front ++ 46 ∷ rest → ⊥
not_behind name front more rest is other e = other (append_cancel_left front more (46 ∷ rest) (sym is ∙ e))

pub qualified_empty : (scope name : List ℕ) → (length scope == 0) ≡ true → qualified scope name ≡ name
qualified_empty [] name e = refl
qualified_empty (byte ∷ scope) name e = absurd (omega (arith, eqb-true (length (byte ∷ scope)) 0 e))

qualified_some : (scope name : List ℕ) → (length scope == 0) ≡ false → qualified scope name ≡ scope ++ 46 ∷ name
qualified_some [] name e = absurd (false≢true (sym e))
qualified_some (byte ∷ scope) name e = refl

pub scope_behind : {X : Type 0} (now : X → List ℕ) (found : Option X) (scope outer : List ℕ)
    → (length outer == 0) ≡ false
    → MatchOption found ((rest : List ℕ) → scope ≡ outer ++ 46 ∷ rest → ⊥) (λ rest. scope ≡ outer ++ 46 ∷ now rest)
    → MatchOption found ((rest : List ℕ) → scope ≡ qualified outer rest → ⊥)
    (λ rest. scope ≡ qualified outer (now rest))
scope_behind now None scope outer some none = λ rest e. none rest (e ∙ qualified_some outer rest some)
scope_behind now (Some rest) scope outer some is = is ∙ sym (qualified_some outer (now rest) some)

-- an answer that is true exactly if two lists are one
pub by_same : (answer : Bool) (xs ys : List ℕ) → (IsTrue answer ↔ (xs ≡ ys)) → answer ≡ bytes_eq xs ys
by_same true xs ys is = sym ((bytes_decides xs ys).1 (is.0 refl))
by_same false xs ys is = by (bytes_eq xs ys) refl
  where
    by : (same : Bool) → bytes_eq xs ys ≡ same → false ≡ bytes_eq xs ys
    by true e = absurd (false≢true (is.1 ((bytes_decides xs ys).0 e)))
    by false e = sym e
