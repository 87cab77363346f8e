-- Packed numbers: whether they can be read, and what is added then.
use Rattle.std.proofs.Common.{◌≡◌, refl, ap, sym, ◌∙◌, subst, ℕ, Bool, true, false, List, [], ◌∷◌, ◌++◌, length, Option}
use Rattle.std.proofs.Common.{Some, None, Result, Ok, Err}
use Rattle.std.specs.Prelude.{◌==◌, IfErr, OnOk, is_some}
use Rattle.std.proofs.lemmas.Option.{same_Some}
use Rattle.std.proofs.lemmas.List.{append-nil}
use Rattle.scip_wire.specs.declared.wire_fault.WireFault.{WireFault}
use Rattle.scip_wire.specs.declared.wire_fault.WireFault.TheVariants.{Memory}
use Rattle.scip_wire.specs.Fields.{max_varint_len}
use Rattle.scip_wire.specs.Decodes.{low_32_bits}
use Rattle.scip_wire.specs.Gives.{Gives}
use Rattle.scip_wire.specs.Reading.{◌>>=◌, fold_at, varint_at, add_more, packed_step, packed_at, readable}
use Rattle.scip_wire.proofs.GivesLemmas.{is_memory}
use Rattle.scip_wire.proofs.ReadingFoldLemmas.{fold_done, fold_unread, there_are, there_are_none, goes_on}
use Rattle.scip_wire.proofs.DecodesLemmas.{varint_shortens, fold_of_packed}

-- whether numbers are packed doesn't depend on those in front
some_more : (s : List ℕ) (o : Option (List ℕ)) → is_some (o >>= add_more s) ≡ is_some o
some_more s None = refl
some_more s (Some ns) = refl

pub packed_goes_on : (bytes rest : List ℕ) (value : ℕ) (empty : Bool) → empty ≡ (length bytes == 0) → empty ≡ false
    → varint_at max_varint_len bytes ≡ Some (value, rest) → is_some (packed_at rest) ≡ is_some (packed_at bytes)
unfolding packed_at packed_step
packed_goes_on bytes rest value empty known there e =
    sym (some_more (low_32_bits value ∷ []) (packed_at rest))
    ∙ (ap is_some (sym (fold_of_packed rest (low_32_bits value ∷ [])))
    ∙ ap is_some (goes_on (varint_at max_varint_len) packed_step bytes [] empty known varint_shortens there value rest
    (low_32_bits value ∷ []) e refl))

pub packed_stops : (bytes : List ℕ) (empty : Bool) → empty ≡ (length bytes == 0) → empty ≡ false
    → varint_at max_varint_len bytes ≡ None → is_some (packed_at bytes) ≡ false
unfolding packed_at
packed_stops bytes empty known there none =
    let b = there_are bytes empty known there in
    ap (λ l. is_some (fold_at (varint_at max_varint_len) packed_step l [])) b.2
    ∙ ap is_some (fold_unread (varint_at max_varint_len) packed_step b.0 b.1 []
    (ap (varint_at max_varint_len) (sym b.2) ∙ none))

pub packed_done : (bytes : List ℕ) (empty : Bool) → empty ≡ (length bytes == 0) → empty ≡ true
    → is_some (packed_at bytes) ≡ true
unfolding packed_at
packed_done bytes empty known done =
    ap (λ l. is_some (fold_at (varint_at max_varint_len) packed_step l [])) (there_are_none bytes empty known done)
    ∙ ap is_some (fold_done (varint_at max_varint_len) packed_step [])

-- what a reader of packed numbers answers, of which it is known whether they can be read
pub packed_added : (r : Result (Unit {0}) WireFault) (bytes front now : List ℕ) → is_some (packed_at bytes) ≡ true
    → Gives (λ _. now) r (fold_at (varint_at max_varint_len) packed_step bytes front)
    → OnOk r (now ≡ front ++ readable (packed_at bytes))
packed_added r bytes front now is gives =
    added r (packed_at bytes) is (subst (Gives (λ _. now) r) (fold_of_packed bytes front) gives) where
      added : (r : Result (Unit {0}) WireFault) (o : Option (List ℕ)) → is_some o ≡ true
          → Gives (λ _. now) r (o >>= add_more front) → OnOk r (now ≡ front ++ readable o)
      added (Ok u) None is gives = absurd (cc)
      added (Ok u) (Some ns) is gives = same_Some now (front ++ ns) (sym gives)
      added (Err e) o is gives = tt

pub packed_memory : (r : Result (Unit {0}) WireFault) (bytes front now : List ℕ) → is_some (packed_at bytes) ≡ true
    → Gives (λ _. now) r (fold_at (varint_at max_varint_len) packed_step bytes front) → IfErr r (λ e. e ≡ Memory)
packed_memory r bytes front now is gives =
    memory r (packed_at bytes) is (subst (Gives (λ _. now) r) (fold_of_packed bytes front) gives) where
      memory : (r : Result (Unit {0}) WireFault) (o : Option (List ℕ)) → is_some o ≡ true
          → Gives (λ _. now) r (o >>= add_more front) → IfErr r (λ e. e ≡ Memory)
      memory (Ok u) o is gives = tt
      memory (Err e) None is gives = absurd (cc)
      memory (Err e) (Some ns) is gives = is_memory e (Some (front ++ ns)) (front ++ ns) gives refl

pub none_added : (o : Option (List ℕ)) (front : List ℕ) → is_some o ≡ false → front ≡ front ++ readable o
none_added None front is = sym (append-nil front)
none_added (Some ns) front is = absurd (cc)
