-- Whether two files that are seen give a name.
use Rattle.std.proofs.Common.{◌≡◌, ◌≢◌, ◌↔◌, ◌⊎◌, inl, inr, ℕ, ◌+◌, ◌<◌, ◌≤◌, Bool, true, false, IsTrue, List, length}
use Rattle.std.proofs.Common.{Option, Some, None, MatchOption, refl, ap, sym, ◌∙◌, subst, arith}
use Rattle.std.specs.List.{Contains, slice_get}
use Rattle.std.specs.Option.{is_some}
use Rattle.std.proofs.lemmas.Bool.{cases_lt, cases_order, false≢true}
use Rattle.std.proofs.lemmas.Option.{same_Some, slice_get_within}
use Rattle.basics.proofs.FirstLemmas.{contained, contained_at}
use Rattle.proto_decl.specs.declared.declaration.DeclarationKind.TheVariants.{Message}
use Rattle.proto_visibility.specs.declared.lookup.Role.{Role}
use Rattle.proto_visibility.specs.declared.names.DeclaredAt.{DeclaredAt}
use Rattle.proto_visibility.specs.declared.names.Names.{Names}
use Rattle.proto_visibility.specs.Files.{File, IsPresent}
use Rattle.proto_visibility.specs.Sees.{Sees}
use Rattle.proto_visibility.specs.Knows.{NameKind, IsGiving, IsGivenTwice, SeesGiving, admits}
use Rattle.proto_visibility.specs.Knows.NameKind.{OfPackage}
use Rattle.proto_visibility.specs.Tables.GivenNames.{owned_at, AreNames, IsDeclaring, AreOfFiles, IsBeside}
use Rattle.proto_visibility.specs.Tables.GivenNames.{IsDeclaringBeside, AreTwoDeclaring}
use Rattle.proto_visibility.proofs.LookupListedLemmas.{listed_iff}

-- ---- one that isn't left out

pub present_iff : (files : List File) (number : ℕ) → number < length files → (found : Option ℕ)
    → MatchOption found ((file : File) → slice_get files number ≡ Some file → file.is_left_out ≡ true)
    (λ one. (one ≡ number) × IsPresent files one)
    → IsTrue (is_some found) ↔ IsPresent files number
present_iff files number within None out = (
  λ t. absurd (false≢true t),
  λ is. absurd (false≢true (sym is.present ∙ out is.file is.numbered)),
)
present_iff files number within (Some one) here = (λ t. subst (IsPresent files) here.0 here.1, λ is. refl)

-- ---- declarations beside those of a file

-- what is read behind the end of a list of declarations
abbrev pub nowhere : DeclaredAt
nowhere = record { file = 0; index = 0; kind = Message }

module _ (files : List File) (declared : List DeclaredAt) (row : List ℕ) (admits : NameKind → Bool)
    (beside : Option ℕ) where
  -- none of the first so many is one
  abbrev pub NoneBesideUpTo : (count : ℕ) → Type 0
  NoneBesideUpTo count = (k : ℕ) (one : DeclaredAt) → k < count → slice_get declared k ≡ Some one
      → IsBeside files row admits beside one → ⊥

  pub none_beside_more : (count : ℕ) (one : DeclaredAt) → slice_get declared count ≡ Some one
      → (IsBeside files row admits beside one → ⊥) → NoneBesideUpTo count → NoneBesideUpTo (count + 1)
  none_beside_more count one stands isnt so_far k other h at is = elim (cases_lt k count) [
    | inl before ↦ so_far k other before at is
    | inr last ↦ (
        let here : k ≡ count = omega (arith, h, last) in
        let same : other ≡ one = same_Some other one (sym at ∙ (ap (slice_get declared) here ∙ stands)) in
        isnt (subst (IsBeside files row admits beside) same is))
  ]

  pub none_beside : (count : ℕ) → length declared ≤ count → NoneBesideUpTo count → (number : ℕ)
      → IsDeclaringBeside files row declared admits beside number → ⊥
  none_beside count all so_far number is =
      let at = contained_at declared is.0 is.1 in
      let within = slice_get_within declared at.0 is.0 at.1 in
      so_far at.0 is.0 (omega (arith, all, within)) at.1 is.3

  pub one_beside : (k : ℕ) (one : DeclaredAt) → slice_get declared k ≡ Some one → IsBeside files row admits beside one
      → IsDeclaringBeside files row declared admits beside one.file
  one_beside k one stands is = (one, contained declared k one stands, refl, is)

-- ---- two that declare

some_same : (a b : ℕ) → Some a ≡ Some b → a ≡ b
some_same a b e = cc

something : (a : ℕ) → Some a ≡ None → ⊥
something a e = cc

unequal : (a b : ℕ) → (a < b) ⊎ (b < a) → a ≡ b → ⊥
unequal a b (inl h) e = omega (arith, h, e)
unequal a b (inr h) e = omega (arith, h, e)

module _ (files : List File) (row : List ℕ) (declared : List DeclaredAt) (admits : NameKind → Bool) where
  pub two_iff : (first : ℕ) → IsDeclaringBeside files row declared admits None first → (found : Option ℕ)
      → MatchOption found ((number : ℕ) → IsDeclaringBeside files row declared admits (Some first) number → ⊥)
      (IsDeclaringBeside files row declared admits (Some first))
      → IsTrue (is_some found) ↔ AreTwoDeclaring files row declared admits
  two_iff first is (Some second) other = (λ t. (first, second, is, other), λ two. refl)
  two_iff first is None none = (λ t. absurd (false≢true t), λ two. absurd (only two))
    where
      again : (number : ℕ) → IsDeclaringBeside files row declared admits None number → number ≡ first
      again number its = by (cases_order number first)
        where
          by : (number ≡ first) ⊎ ((number < first) ⊎ (first < number)) → number ≡ first
          by (inl same) = same
          by (inr apart) = absurd (none number (
            its.0,
            its.1,
            its.2,
            record {
              admitted = its.3.admitted;
              there = its.3.there;
              present = its.3.present;
              apart = λ e. unequal number first apart (sym its.2 ∙ some_same its.0.file first e);
            },
          ))

      anyone : (beside : Option ℕ) (number : ℕ) → IsDeclaringBeside files row declared admits beside number
          → IsDeclaringBeside files row declared admits None number
      anyone beside number its = (
        its.0,
        its.1,
        its.2,
        record {
          admitted = its.3.admitted;
          there = its.3.there;
          present = its.3.present;
          apart = something its.0.file;
        },
      )

      only : AreTwoDeclaring files row declared admits → ⊥
      only two =
          let second = two.3 in
          second.3.apart (ap Some (second.2 ∙ (again two.1 (anyone (Some two.0) two.1 second)
          ∙ sym (again two.0 two.2))))

  pub none_two : ((number : ℕ) → IsDeclaringBeside files row declared admits None number → ⊥)
      → AreTwoDeclaring files row declared admits → ⊥
  none_two none two = none two.0 two.2

-- ---- by the tables

module _ (files : List File) (file : ℕ) (names : Names) (are : AreNames files names) (role : Role) (name row : List ℕ)
    (sees : (other : ℕ) → Contains row other ↔ Sees files file other) (declared : admits role OfPackage ≡ false) where
  abbrev listed : List DeclaredAt
  listed = owned_at names.declared name

  declaring : (number : ℕ) → IsGiving files (admits role) name number → IsDeclaring listed (admits role) number
  declaring number is = elim ((listed_iff files names are role name number).1 is)
      [ inl d ↦ d | inr p ↦ absurd (false≢true (sym declared ∙ p.0)) ]

  twice_from : AreTwoDeclaring files row listed (admits role) → IsGivenTwice files file (admits role) name
  twice_from two = record {
    first = two.0;
    second = two.1;
    first_gives = gives two.0 two.2;
    second_gives = gives two.1 two.3;
    first_present = subst (IsPresent files) two.2.2 two.2.3.present;
    second_present = subst (IsPresent files) two.3.2 two.3.3.present;
    apart = λ same. two.3.3.apart (ap Some (two.3.2 ∙ sym same));
  }
    where
      gives : {beside : Option ℕ} (number : ℕ) → IsDeclaringBeside files row listed (admits role) beside number
          → SeesGiving files file (admits role) name number
      gives number is = record {
        sees = subst (Sees files file) is.2 ((sees is.0.file).0 is.3.there);
        giving = (listed_iff files names are role name number).0 (inl (is.0, is.1, is.2, is.3.admitted));
      }

  twice_to : IsGivenTwice files file (admits role) name → AreTwoDeclaring files row listed (admits role)
  twice_to is = (
    is.first,
    is.second,
    beside None is.first is.first_gives is.first_present (something is.first),
    beside (Some is.first) is.second is.second_gives is.second_present
        (λ e. is.apart (sym (some_same is.second is.first e))),
  )
    where
      beside : (other : Option ℕ) (number : ℕ) → SeesGiving files file (admits role) name number
          → IsPresent files number → Some number ≢ other → IsDeclaringBeside files row listed (admits role) other number
      beside other number gives present apart =
          let d = declaring number gives.giving in (
            d.0,
            d.1,
            d.2,
            record {
              admitted = d.3;
              there = subst (Contains row) (sym d.2) ((sees number).1 gives.sees);
              present = subst (IsPresent files) (sym d.2) present;
              apart = λ e. apart (ap Some (sym d.2) ∙ e);
            },
          )

  pub twice_iff : (answer : Bool) → IsTrue answer ↔ AreTwoDeclaring files row listed (admits role)
      → IsTrue answer ↔ IsGivenTwice files file (admits role) name
  twice_iff answer same = (λ t. twice_from (same.0 t), λ is. same.1 (twice_to is))

  -- the declarations that have a name are of files
  pub of_files : AreOfFiles files listed
  of_files one there =
      let at = (are.declared name one).0 there in
      let its = at.1.2 in
      subst (λ n. n < length files) (sym (ap (λ (x : DeclaredAt). x.file) its.3.is))
      (slice_get_within files at.0 at.1.0 at.1.1)
