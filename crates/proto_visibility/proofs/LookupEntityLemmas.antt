-- What a full name names in one file.
use Rattle.std.proofs.Common.{◌≡◌, ℕ, Bool, List, Some, None, refl, ap, sym, ◌∙◌, subst, position}
use Rattle.std.specs.List.{Contains, slice_get}
use Rattle.std.specs.Str.{bytes_eq}
use Rattle.std.proofs.lemmas.Bool.{false≢true}
use Rattle.std.proofs.lemmas.Slice.Eq.{bytes_eq-Decides}
use Rattle.proto_decl.specs.Facts.{Facts}
use Rattle.proto_decl.specs.Laws.{IsEntity}
use Rattle.proto_decl.specs.Laws.IsEntity.{packaged as entity_packaged, declared as entity_declared}
use Rattle.proto_decl.specs.declared.declaration.Declaration.{Declaration}
use Rattle.proto_visibility.specs.declared.lookup.Entity.TheVariants.{Package, Declared}
use Rattle.proto_visibility.specs.declared.names.DeclaredAt.{DeclaredAt}
use Rattle.proto_visibility.specs.declared.names.Names.{Names}
use Rattle.proto_visibility.specs.Files.{File, HasFacts}
use Rattle.proto_visibility.specs.Knows.{IsPrefix, IsEntityOf}
use Rattle.proto_visibility.specs.Tables.GivenNames.{owned_at, AreNames, AreNamesOf}
use Rattle.proto_visibility.specs.Knows.IsEntityOf.{packaged, declared}
use Rattle.basics.proofs.FirstLemmas.{found_at, position-none}
use Rattle.proto_visibility.proofs.FileFactLemmas.{one_list_of_facts}

-- the declaration has the name
abbrev pub has_name : List ℕ → Declaration → Bool
has_name name declaration = bytes_eq declaration.full_name name

pub found_entity : (number : ℕ) (facts : Facts) (name : List ℕ) (count index : ℕ)
    → position (has_name name) facts.declarations ≡ Some index
    → IsEntityOf number facts name count (Declared number index)
found_entity number facts name count index found =
    let at = found_at (has_name name) facts.declarations index found in
    declared at.1 ((bytes_eq-Decides at.0.full_name name).0 at.2)

prefix_if : (facts : Facts) (name n : List ℕ) → n ≡ name → position (has_name name) facts.declarations ≡ None
    → IsEntity facts n → IsPrefix facts.package_name n
prefix_if facts name n same none (entity_packaged {count = count} some few) = (count, some, few, refl)
prefix_if facts name n same none (entity_declared {declaration = d} there) =
    let fails = position-none (has_name name) facts.declarations none there.0 d there.1 in
    absurd (false≢true (sym fails ∙ (ap (has_name name) there.2 ∙ (bytes_eq-Decides d.full_name name).1 same)))

pub package_entity : (number : ℕ) (facts : Facts) (name : List ℕ) (count : ℕ)
    → position (has_name name) facts.declarations ≡ None → IsEntity facts name
    → IsEntityOf number facts name count (Package count)
package_entity number facts name count none is = packaged (prefix_if facts name name refl none is)

pub listed_entity : (number : ℕ) (facts : Facts) (names : Names) (name : List ℕ) (count index : ℕ)
    → AreNamesOf number facts names
    → (one : DeclaredAt) × Contains (owned_at names.declared name) one × (one.file ≡ number) × (one.index ≡ index)
    → IsEntityOf number facts name count (Declared number index)
listed_entity number facts names name count index are listed =
    let d = are.declared name listed.0 listed.1 listed.2 in
    declared (subst (λ i. slice_get facts.declarations i ≡ Some d.0) listed.3 d.1) d.2

-- the tables of all files, seen from one
pub names_of_file : (files : List File) (names : Names) (number : ℕ) (facts : Facts) → AreNames files names
    → HasFacts files number facts → AreNamesOf number facts names
names_of_file files names number facts are has = record {
  declared = λ name one there here.
      let at = (are.declared name one).0 there in
      let by = at.1 in
      let its = by.2 in
      let d = its.3 in
      let file_is : at.0 ≡ number = ap (λ (x : DeclaredAt). x.file) (sym d.is) ∙ here in
      let same : its.0 ≡ facts =
      one_list_of_facts files number its.0 facts
      (record { file = by.0; numbered = subst (λ n. slice_get files n ≡ Some by.0) file_is by.1; known = its.1 })
      has in
      let index : its.2 ≡ one.index = ap (λ (x : DeclaredAt). x.index) (sym d.is) in (
        d.declaration,
        subst (λ i. slice_get facts.declarations i ≡ Some d.declaration) index
            (subst (λ (f : Facts). slice_get f.declarations its.2 ≡ Some d.declaration) same d.stands),
        d.named,
      );
  packaged = λ name there.
      let prefix = (are.packaged name number).0 there in
      subst (λ (f : Facts). IsPrefix f.package_name name)
      (one_list_of_facts files number prefix.1 facts
      (record { file = prefix.0; numbered = prefix.2; known = prefix.3 }) has) prefix.4;
  in_order = are.in_order;
}
