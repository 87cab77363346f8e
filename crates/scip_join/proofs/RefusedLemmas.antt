-- Pieces are refused for two documents just where the indexes have them.
use Rattle.std.proofs.Common.{◌≡◌, inl, inr, ℕ, ◌≤◌, Bool}
use Rattle.std.proofs.Common.{None, Some, List, [], ◌∷◌, length, map}
use Rattle.std.proofs.Common.{refl, sym, ◌∙◌, ap, subst, arith, cond}
use Rattle.std.specs.List.{filter}
use Rattle.std.specs.List.Sorted.{IsPermutation}
use Rattle.std.specs.Str.{bytes_eq}
use Rattle.std.proofs.lemmas.List.{length-map}
use Rattle.std.proofs.lemmas.List.Sorted.{sum_by-IsPermutation}
use Rattle.std.proofs.lemmas.List.Sums.{length-filter}
use Rattle.scip_records.specs.declared.records.Index.{Index}
use Rattle.scip_join.specs.declared.choices.JoinChoices.{JoinChoices}
use Rattle.scip_join.specs.declared.join_fault.JoinFault.{JoinFault}
use Rattle.scip_join.specs.declared.join_fault.JoinFault.TheVariants.{OtherRoot, OtherEncoding, Twice, Memory}
use Rattle.scip_join.specs.declared.piece.Piece.{Piece}
use Rattle.scip_join.specs.Joined.{latest_with}
use Rattle.scip_join.specs.Refused.{IsOnce, AreOnce, IsTwice, IsAllowed, MayRefuse}
use Rattle.scip_join.specs.Gathered.{Gathered, gathered, piece_of}
use Rattle.scip_join.specs.Tables.{first_pair, piece_cmp, IsOrdered, IsRefusedPair, RefusesPieces}
use Rattle.scip_join.specs.Steps.{IsSettled}
use Rattle.scip_join.proofs.TableLemmas.{ascends, heads, kept_at}
use Rattle.scip_join.proofs.TablePairLemmas.{least_pair, own_paths, with_path}
use Rattle.scip_join.proofs.JoinedLemmas.{latest_pieces, path_of, pieces_with, Numbered}

pub same_length : {X : Type 0} (p : X → Bool) (xs ys : List X) → IsPermutation xs ys
    → length (filter p ys) ≡ length (filter p xs)
same_length p xs ys moved =
    length-filter p ys ∙ sum_by-IsPermutation (λ x. cond (p x) 1 0) xs ys moved ∙ sym (length-filter p xs)

module _ (indexes : List Index) (ordered : List Piece)
    (in_order : IsOrdered piece_cmp (latest_pieces indexes) ordered) where
  -- so many documents have a path
  as_many : (path : List ℕ) → length (latest_with indexes path) ≡ length (with_path path ordered)
  as_many path =
      sym (length-map (latest_with indexes path) piece_of) ∙ ap length (sym (pieces_with indexes path))
      ∙ sym (same_length (λ (p : Piece). bytes_eq p.path path) (latest_pieces indexes) ordered in_order.permutation)

  once_if : (path : List ℕ) → length (with_path path ordered) ≤ 1 → IsOnce indexes path
  once_if path le = omega (arith, as_many path, le)

  pub all_once : first_pair ordered ≡ None → AreOnce indexes
  all_once none path =
      once_if path (own_paths ordered (ascends path_of (latest_pieces indexes) ordered in_order) none path)

  -- the first two of a list that is made of another
  two_of : (later earlier : Piece) (rest : List Piece) (ns : List Numbered)
      → map piece_of ns ≡ later ∷ earlier ∷ rest
      → (n : Numbered) × (m : Numbered) × (others : List Numbered) × (ns ≡ n ∷ m ∷ others)
      × (piece_of n ≡ later) × (piece_of m ≡ earlier)
  two_of later earlier rest [] e = absurd cc
  two_of later earlier rest (n ∷ []) e = absurd cc
  two_of later earlier rest (n ∷ m ∷ others) e =
      let first = heads (piece_of n) later (piece_of m ∷ map piece_of others) (earlier ∷ rest) e in
      let second = heads (piece_of m) earlier (map piece_of others) rest first.1 in
      (n, m, others, refl, first.0, second.0)

  pub twice : (later earlier : Piece) → first_pair ordered ≡ Some (later, earlier)
      → IsTwice indexes (record { path = later.path; earlier = earlier.index; later = later.index })
  twice later earlier e =
      let pair = least_pair ordered (ascends path_of (latest_pieces indexes) ordered in_order) later earlier e in
      let made : map piece_of (latest_with indexes later.path) ≡ later ∷ earlier ∷ pair.rest =
      sym (pieces_with indexes later.path)
      ∙ sym (kept_at path_of (latest_pieces indexes) ordered in_order later) ∙ pair.first_two in
      let two = two_of later earlier pair.rest (latest_with indexes later.path) made in
      let n = two.0 in
      let m = two.1 in
      record {
        document = n.1;
        other = m.1;
        earlier = two.2;
        latest = two.3 ∙ ap (λ (k : ℕ). (k, n.1) ∷ m ∷ two.2) (ap (λ (p : Piece). p.index) two.4)
            ∙ ap (λ (k : ℕ). (later.index, n.1) ∷ (k, m.1) ∷ two.2) (ap (λ (p : Piece). p.index) two.5);
        least = λ path less. once_if path (pair.least path less);
      }

pub may_refuse : (choices : JoinChoices) (indexes : List Index) (fault : JoinFault)
    → RefusesPieces choices.replace (latest_pieces indexes) fault → MayRefuse choices indexes fault
may_refuse choices indexes OtherRoot refused = absurd refused
may_refuse choices indexes OtherEncoding refused = absurd refused
may_refuse choices indexes Memory refused = tt
may_refuse choices indexes (Twice two) refused =
    let pair = refused.refused in (
      pair.0,
      subst (IsTwice indexes) (sym pair.4)
          (twice indexes refused.ordered refused.in_order pair.1 pair.2 pair.3),
    )

pub allowed : (choices : JoinChoices) (indexes : List Index) (new : Gathered)
    → IsSettled (gathered choices indexes) new → IsAllowed choices indexes
allowed choices indexes new settled = elim settled.allowed [
  | inl asked ↦ inl asked
  | inr own ↦ inr (all_once indexes own.ordered own.in_order own.none)
]

-- what a pair is refused for, all pieces are
pub refuses : (replace : Bool) (all ordered : List Piece) (fault : JoinFault) → IsOrdered piece_cmp all ordered
    → IsRefusedPair replace (first_pair ordered) fault → RefusesPieces replace all fault
refuses replace all ordered OtherRoot in_order refused = absurd refused
refuses replace all ordered OtherEncoding in_order refused = absurd refused
refuses replace all ordered Memory in_order refused = tt
refuses replace all ordered (Twice two) in_order refused =
    record { ordered = ordered; in_order = in_order; refused = refused }
