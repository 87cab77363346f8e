-- Sources that see no included file: their uses name no declarations of included files.
use Rattle.std.proofs.Common.{◌≡◌, ◌∙◌, ◌↔◌, ◌+◌, ℕ, Bool, true, false, inl, inr, List, length, IsTrue, sym, ap, subst, arith}
use Rattle.std.proofs.lemmas.Bool.{cases_lt, false≢true}
use Rattle.std.proofs.lemmas.Option.{same_Some, slice_get_within}
use Rattle.proto_decl.specs.Facts.{Facts}
use Rattle.proto_visibility.specs.Files.{File, IsIncludedAt}
use Rattle.proto_visibility.specs.Sees.{Sees}
use Rattle.proto_visibility.specs.Knows.{IsEntityOf}
use Rattle.proto_visibility.specs.Knows.IsEntityOf.{packaged, declared}
use Rattle.proto_visibility.specs.declared.lookup.Entity.{Entity}
use Rattle.proto_visibility.specs.declared.lookup.Entity.TheVariants as link
use Rattle.scip_model.specs.Chosen.{Chosen}
use Rattle.scip_model.specs.Tables.ExternalLists.{Pair, Adds, IsOfSource, NoneIncluded, NoneSeen}

-- a file is included or not
not_both : (files : List File) (number : ℕ) → IsIncludedAt files number true → IsIncludedAt files number false → ⊥
not_both files number is isnt =
    false≢true
    (isnt.2 ∙ (ap (λ (f : File). f.is_included) (same_Some isnt.0 is.0 (sym isnt.1 ∙ is.1)) ∙ sym is.2))

pub none-seen : (files : List File) (source first : ℕ) → NoneIncluded files first → NoneSeen files source first
none-seen files source first none number less is sees = not_both files number is (none number less)

-- one file more that the source doesn't see
pub seen-more : (files : List File) (source count : ℕ) (seen : Bool) → NoneSeen files source count
    → (IsTrue seen ↔ Sees files source count) → seen ≡ false → NoneSeen files source (count + 1)
seen-more files source count seen before exact unseen number less is sees = elim (cases_lt number count) [
  | inl earlier ↦ before number earlier is sees
  | inr last ↦ (
      let one : number ≡ count = omega (arith, last, less) in
      false≢true (sym unseen ∙ exact.1 (subst (Sees files source) one sees)))
]

abbrev file-of : Entity → ℕ
file-of (link.Package count) = 0
file-of (link.Declared file index) = file

-- what a name's part names is in the file that declares it
owner-of : {owner count : ℕ} {facts : Facts} {name : List ℕ} {part : Entity} (file index : ℕ)
    → IsEntityOf owner facts name count part → part ≡ link.Declared file index → owner ≡ file
owner-of file index (packaged prefix) same = cc
owner-of file index (declared at full) same = ap file-of same

module _ (files : List File) (chosen : Chosen) (source : ℕ) (none : NoneSeen files source (length files)) where
  none-of-source : (x : Pair) → IsOfSource files chosen source x → ⊥
  none-of-source x is =
      let used = is.of_uses.is in
      let part = used.of_parts in
      let owned = used.is_target.names.owned in
      let owner = owner-of x.0 x.1 (used.is_target.named part.index part.element part.stands) part.is.is in
      none x.0 (slice_get_within files x.0 part.is.file part.is.numbered)
      (part.is.file, part.is.numbered, sym part.is.included) (subst (Sees files source) owner owned.gives.sees)

  pub adds-none : (named : List Pair) → Adds (IsOfSource files chosen source) named named
  adds-none named = λ x. (
    λ there. inl there,
    λ either. elim either [ inl kept ↦ kept | inr is ↦ absurd (none-of-source x is) ],
  )
