-- Names that are joined by dots: of parts without a dot one text is made by one list.
use Rattle.std.proofs.Common.{◌≡◌, ◌∙◌, sym, ap, refl, subst, ℕ, zero, suc, ◌<◌, ◌==◌, Bool, true, false, List}
use Rattle.std.proofs.Common.{[], ◌∷◌, length, take, arith}
use Rattle.std.specs.Prelude.{not}
use Rattle.std.specs.List.{All, list_all, slice_split, onto_first}
use Rattle.std.proofs.lemmas.List.Elements.{All-nil, All-cons, All-head, All-tail, All-take}
use Rattle.std.proofs.lemmas.List.Splits.{slice_split-cons_yes, slice_split-cons_no, slice_split_none, slice_split_at}
use Rattle.std.proofs.lemmas.List.Splits.{length-slice_split}
use Rattle.proto_decl.specs.Names.{IsSimple, dotted, components_of}
use Rattle.proto_decl.specs.Laws.{component_names}
use Rattle.proto_decl.specs.declared.uses.Component.{Component}
use Rattle.basics.proofs.BoolLemmas.{first_no}

abbrev is_dot : ℕ → Bool
is_dot byte = byte == 46

-- a text without a dot
abbrev pub HasNoDot : List ℕ → Type 0
HasNoDot name = All (λ byte. is_dot byte ≡ false) name

simple_no_dot : (name : List ℕ) → list_all (λ byte. not (byte == 46)) name ≡ true → HasNoDot name
simple_no_dot [] e = All-nil (λ (byte : ℕ). is_dot byte ≡ false)
simple_no_dot (byte ∷ name) e =
    let p = first_no (is_dot byte) (list_all (λ b. not (b == 46)) name) e in
    All-cons (λ (b : ℕ). is_dot b ≡ false) byte name p.0 (simple_no_dot name p.1)

-- the parts of a text between its dots have none
onto_no_dot : (byte : ℕ) (parts : List (List ℕ)) → is_dot byte ≡ false → All HasNoDot parts
    → All HasNoDot (onto_first byte parts)
onto_no_dot byte [] none all =
    All-cons HasNoDot (byte ∷ []) []
    (All-cons (λ (b : ℕ). is_dot b ≡ false) byte [] none (All-nil (λ (b : ℕ). is_dot b ≡ false))) (All-nil HasNoDot)
onto_no_dot byte (part ∷ parts) none all =
    All-cons HasNoDot (byte ∷ part) parts
    (All-cons (λ (b : ℕ). is_dot b ≡ false) byte part none (All-head HasNoDot part parts all))
    (All-tail HasNoDot part parts all)

parts_no_dot : (name : List ℕ) → All HasNoDot (slice_split is_dot name)
parts_no_dot [] = All-cons HasNoDot [] [] (All-nil (λ (b : ℕ). is_dot b ≡ false)) (All-nil HasNoDot)
parts_no_dot (byte ∷ name) = by (is_dot byte) refl (parts_no_dot name)
  where
    by : (b : Bool) → is_dot byte ≡ b → All HasNoDot (slice_split is_dot name)
        → All HasNoDot (slice_split is_dot (byte ∷ name))
    by true e others = subst (All HasNoDot) (sym (slice_split-cons_yes is_dot byte name e))
        (All-cons HasNoDot [] (slice_split is_dot name) (All-nil (λ (b : ℕ). is_dot b ≡ false)) others)
    by false e others = subst (All HasNoDot) (sym (slice_split-cons_no is_dot byte name e))
        (onto_no_dot byte (slice_split is_dot name) e others)

-- the components of what is joined are they
of_dotted : (names : List (List ℕ)) → 0 < length names → All HasNoDot names → components_of (dotted names) ≡ names
of_dotted [] some all = absurd (omega (arith, some))
of_dotted (name ∷ []) some all = slice_split_none is_dot name (All-head HasNoDot name [] all)
of_dotted (name ∷ (next ∷ others)) some all =
    slice_split_at is_dot name 46 (dotted (next ∷ others)) (All-head HasNoDot name (next ∷ others) all) refl
    ∙ ap (λ (parts : List (List ℕ)). name ∷ parts)
    (of_dotted (next ∷ others) (omega arith) (All-tail HasNoDot name (next ∷ others) all))

one_list : (names others : List (List ℕ)) → 0 < length names → 0 < length others → All HasNoDot names
    → All HasNoDot others → dotted names ≡ dotted others → names ≡ others
one_list names others some more all also same =
    sym (of_dotted names some all) ∙ (ap components_of same ∙ of_dotted others more also)

-- so where the first components of a name are joined as those of a package's name, they are the same
simple_names : (components : List Component) → All (λ (c : Component). IsSimple c.name) components
    → All HasNoDot (component_names components)
simple_names [] all = All-nil HasNoDot
simple_names (c ∷ cs) all =
    All-cons HasNoDot c.name (component_names cs)
    (simple_no_dot c.name (All-head (λ (d : Component). IsSimple d.name) c cs all).no_dot)
    (simple_names cs (All-tail (λ (d : Component). IsSimple d.name) c cs all))

take_some : {X : Type 0} (count : ℕ) (xs : List X) → 0 < count → 0 < length xs → 0 < length (take count xs)
take_some zero xs one some = one
take_some (suc count) [] one some = some
take_some (suc count) (x ∷ xs) one some = omega arith

names_some : (components : List Component) → 0 < length components → 0 < length (component_names components)
names_some [] some = some
names_some (c ∷ cs) some = omega arith

pub same_front : (name : List ℕ) (count few : ℕ) (components : List Component) → 0 < count → 0 < few
    → 0 < length components → All (λ (c : Component). IsSimple c.name) components
    → dotted (component_names (take few components)) ≡ dotted (take count (components_of name))
    → take count (components_of name) ≡ component_names (take few components)
same_front name count few components one some more simple same =
    one_list (take count (components_of name)) (component_names (take few components))
    (take_some count (components_of name) one (omega (arith, length-slice_split is_dot name)))
    (names_some (take few components) (take_some few components some more))
    (All-take HasNoDot count (components_of name) (parts_no_dot name))
    (simple_names (take few components) (All-take (λ (c : Component). IsSimple c.name) few components simple))
    (sym same)
