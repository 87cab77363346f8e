-- In files that can be linked a symbol's text is that of one entity.
use Rattle.std.proofs.Common.{◌≡◌, ◌≢◌, ◌∙◌, inl, inr, ℕ, ◌<◌, Bool, true, false, cond, ◌||◌, Some, List, [], ◌∷◌, ◌++◌}
use Rattle.std.proofs.Common.{map, take, length, refl, sym, ap, subst, arith}
use Rattle.std.specs.Prelude.{All, Contains}
use Rattle.std.specs.List.{slice_get, list_any}
use Rattle.std.specs.Str.{bytes_eq}
use Rattle.std.proofs.lemmas.Bool.{cases_lt}
use Rattle.std.proofs.lemmas.Slice.Eq.{bytes_eq-Decides}
use Rattle.std.proofs.lemmas.List.Elements.{All-contains, All-head, Contains-append_cases}
use Rattle.std.proofs.lemmas.List.Elements.{Contains-append_left, Contains-append_right}
use Rattle.std.proofs.lemmas.Option.{same_Some}
use Rattle.basics.proofs.BoolLemmas.{never}
use Rattle.basics.proofs.ListLemmas.{in_front, behind_it, only, in_nothing, contains_map}
use Rattle.basics.proofs.FirstLemmas.{contained, contained_at}
use Rattle.proto_decl.specs.Names.{dotted}
use Rattle.proto_decl.specs.Facts.{Facts}
use Rattle.proto_decl.specs.Laws.{names_of, component_names, AreHeld}
use Rattle.proto_decl.specs.declared.declaration.DeclarationStep.{DeclarationStep}
use Rattle.proto_decl.specs.declared.declaration.Declaration.{Declaration}
use Rattle.proto_decl.proofs.LawAncestorLemmas.{heads}
use Rattle.proto_visibility.specs.Files.{File, HasFacts}
use Rattle.proto_visibility.specs.Reaches.{IsReachable}
use Rattle.proto_visibility.specs.declared.clash.Duplicates.TheVariants.{Keep}
use Rattle.proto_visibility.proofs.FileFactLemmas.{one_list_of_facts}
use Rattle.scip_symbol.specs.Package.{Package, IsPackage}
use Rattle.scip_symbol.specs.Entities.{Entity, OfFile, OfPackage, OfDeclaration, IsEntity, IsIdentifier}
use Rattle.scip_symbol.specs.OneEntity.{IsWithoutClash, IsAmong}
use Rattle.scip_symbol.proofs.OneEntityClashLemmas.{names-last, last-same}
pub use Rattle.scip_model.specs.Tables.KnownFacts.{AreApart}
use Rattle.scip_model.specs.Packages.{Packages, names_at, path_at, path_if_there}
use Rattle.scip_model.specs.Named.{text_of}
use Rattle.scip_model.specs.Repeated.{Home, home_of_file, outermost_name, namespaces_before, declaration_in}
use Rattle.scip_model.specs.Repeated.{file_namespace, HasOutermost}
use Rattle.scip_model.proofs.NamedEntityLemmas.{declaration-is}
use Rattle.scip_model.proofs.RepeatedNamespaceLemmas.{one-namespace, namespace-no-identifier}

-- the facts of a reachable file
pub record AreReachable (files : List File) (number : ℕ) (facts : Facts) : Type 0 where
  pub is_reachable : IsReachable files number
  pub known : HasFacts files number facts

-- a declaration of the file that is in no other, with this full name
record IsOutermost (files : List File) (number : ℕ) (full_name : List ℕ) : Type 0 where
  facts : Facts
  declaration : Declaration
  known : HasFacts files number facts
  listed : Contains facts.declarations declaration
  outermost : length declaration.path ≡ 1
  named : declaration.full_name ≡ full_name

in-reachable : {files : List File} {number : ℕ} {name : List ℕ} → IsReachable files number
    → IsOutermost files number name → HasOutermost files number name
in-reachable reachable is = record {
  facts = is.facts;
  declaration = is.declaration;
  is_reachable = reachable;
  known = is.known;
  listed = is.listed;
  outermost = is.outermost;
  named = is.named;
}

-- ---- the way to a declaration, and what is before it

-- of an entity that is a declaration: the namespaces before it, and the path to it
spaces-in : Entity → List (List ℕ)
spaces-in (OfFile path) = []
spaces-in (OfPackage components) = []
spaces-in (OfDeclaration components path) = components

path-in : Entity → List DeclarationStep
path-in (OfFile path) = []
path-in (OfPackage components) = []
path-in (OfDeclaration components path) = path

-- the name of its first step
first-names : List DeclarationStep → List (List ℕ)
first-names path = take 1 (map (λ (step : DeclarationStep). step.name) path)

first-outer : (outer inner : List DeclarationStep) → outer ≢ [] → first-names (outer ++ inner) ≡ first-names outer
unfolding first-names
first-outer [] inner some = absurd (some refl)
first-outer (step ∷ outer) inner some = refl

first-last : (outer : List DeclarationStep) (s t : DeclarationStep) → s.name ≡ t.name
    → first-names (outer ++ s ∷ []) ≡ first-names (outer ++ t ∷ [])
unfolding first-names
first-last [] s t e = ap (λ (n : List ℕ). n ∷ []) e
first-last (step ∷ outer) s t e = refl

-- what is before it goes by that name alone
spaces-of : Home → Facts → List (List ℕ) → List (List ℕ)
spaces-of home facts names =
    cond (list_any (bytes_eq (dotted (component_names facts.package_name ++ names))) home.repeated)
    (file_namespace home.path ∷ component_names facts.package_name) (component_names facts.package_name)

spaces-are : (home : Home) (facts : Facts) (d : Declaration)
    → namespaces_before home facts d ≡ spaces-of home facts (first-names d.path)
unfolding first-names spaces-of
spaces-are home facts d = refl

same-spaces : (home : Home) (facts : Facts) (d e : Declaration) → first-names d.path ≡ first-names e.path
    → namespaces_before home facts d ≡ namespaces_before home facts e
same-spaces home facts d e same =
    spaces-are home facts d ∙ (ap (spaces-of home facts) same ∙ sym (spaces-are home facts e))

-- ---- names that are there

any-there : (xs : List (List ℕ)) (x : List ℕ) → Contains xs x → list_any (bytes_eq x) xs ≡ true
any-there [] x h = absurd (in_nothing x h)
any-there (y ∷ ys) x h = elim (Contains-append_cases (y ∷ []) ys x h) [
  | inl one ↦ rw ((bytes_eq-Decides x y).1 (sym (only y x one))) refl
  | inr more ↦ right (bytes_eq x y) (list_any (bytes_eq x) ys) (any-there ys x more)
]
  where
    right : (b c : Bool) → c ≡ true → (b || c) ≡ true
    right true c e = refl
    right false c e = e

-- a way to a declaration begins with one step
begins : (path : List DeclarationStep) → path ≢ []
    → (first : DeclarationStep) × (rest : List DeclarationStep) × (path ≡ (first ∷ []) ++ rest)
begins [] some = absurd (some refl)
begins (first ∷ rest) some = (first, rest, refl)

first-of-all : (path rest : List DeclarationStep) (first : DeclarationStep) → path ≡ (first ∷ []) ++ rest
    → take 1 (map (λ (step : DeclarationStep). step.name) path) ≡ first.name ∷ []
first-of-all path rest first e = ap (λ (l : List DeclarationStep). take 1 (map (λ (step : DeclarationStep). step.name) l)) e

-- what is listed by a function is that of an element
pub from-map : {X Y : Type 0} (f : X → Y) (xs : List X) (y : Y) → Contains (map f xs) y
    → (x : X) × Contains xs x × (f x ≡ y)
from-map f [] y h = absurd (in_nothing y h)
from-map f (x ∷ xs) y h = elim (Contains-append_cases (f x ∷ []) (map f xs) y h) [
  | inl one ↦ (x, in_front x xs, only (f x) y one)
  | inr more ↦ (let rest = from-map f xs y more in (rest.0, behind_it x xs rest.0 rest.1, rest.2))
]

module _ (files : List File) (ids : Packages) (apart : AreApart files ids) where
  held : (number : ℕ) (facts : Facts) → AreReachable files number facts → AreHeld facts.package_name facts.declarations
  held number facts reachable = apart.spelled.held facts (apart.origins number facts reachable.known)

  named : (number : ℕ) (facts : Facts) (d : Declaration) → AreReachable files number facts
      → Contains facts.declarations d
      → d.full_name ≡ dotted (component_names facts.package_name ++ names_of d.path)
  named number facts d reachable listed =
      All-contains (λ (x : Declaration). x.full_name ≡ dotted (component_names facts.package_name ++ names_of x.path))
      facts.declarations d (AreHeld.full_names (held number facts reachable)) listed

  -- the outermost declaration on the way to one is there
  outermost-there : (number : ℕ) (facts : Facts) (d : Declaration) → AreReachable files number facts
      → Contains facts.declarations d → IsOutermost files number (outermost_name facts d)
  outermost-there number facts d reachable listed =
      let some = All-contains (λ (x : Declaration). x.path ≢ []) facts.declarations d
      (apart.spelled.paths facts (apart.origins number facts reachable.known)) listed in
      let way = begins d.path some in
      let holder = AreHeld.holder (held number facts reachable) d (way.0 ∷ []) way.1 listed way.2 (λ e. cc) in
      record {
        facts = facts;
        declaration = holder.0;
        known = reachable.known;
        listed = holder.1;
        outermost = ap length holder.2;
        named = named number facts holder.0 reachable holder.1
            ∙ (ap (λ (l : List DeclarationStep). dotted (component_names facts.package_name ++ names_of l)) holder.2
            ∙ ap (λ (names : List (List ℕ)). dotted (component_names facts.package_name ++ names))
            (sym (first-of-all d.path way.1 way.0 way.2)));
      }

  -- of two files that declare outermost one full name the later repeats it
  repeats : (earlier later : ℕ) (name : List ℕ) → earlier < later → HasOutermost files earlier name
      → HasOutermost files later name → list_any (bytes_eq name) (names_at ids.repeated later) ≡ true
  repeats earlier later name before had has =
      any-there (names_at ids.repeated later) name
      ((apart.repeated.exact later name).1 (record { has = has; earlier = earlier; before = before; had = had }))

  -- so they are of one file where it is repeated in neither
  one-outermost-file : (m n : ℕ) (name : List ℕ) → IsReachable files m → IsReachable files n → IsOutermost files m name
      → IsOutermost files n name → list_any (bytes_eq name) (names_at ids.repeated m) ≡ false
      → list_any (bytes_eq name) (names_at ids.repeated n) ≡ false → m ≡ n
  one-outermost-file m n name a b is its p q = elim (cases_lt m n) [
    | inl less ↦ never (sym q ∙ repeats m n name less (in-reachable a is) (in-reachable b its))
    | inr more ↦ elim (cases_lt n m) [
      | inl less ↦ never (sym p ∙ repeats n m name less (in-reachable b its) (in-reachable a is))
      | inr same ↦ omega (arith, more, same)
    ]
  ]

  path-is : (number : ℕ) (facts : Facts) → (known : HasFacts files number facts) → path_at files number ≡ known.file.path
  path-is number facts known = ap path_if_there known.numbered

  -- declarations with the same before them, whose ways begin with one name, are of one file
  one-file : (m n : ℕ) (f g : Facts) (d e : Declaration) → AreReachable files m f → AreReachable files n g
      → Contains f.declarations d → Contains g.declarations e
      → namespaces_before (home_of_file files ids m) f d ≡ namespaces_before (home_of_file files ids n) g e
      → first-names d.path ≡ first-names e.path → m ≡ n
  unfolding first-names
  one-file m n f g d e a b listed its same first =
      by (list_any (bytes_eq (outermost_name f d)) (names_at ids.repeated m))
      (list_any (bytes_eq (outermost_name g e)) (names_at ids.repeated n)) refl refl same
    where
      no-package : (path : List ℕ) (number : ℕ) (facts : Facts) (rest : List (List ℕ)) → AreReachable files number facts
          → file_namespace path ∷ rest ≡ component_names facts.package_name → ⊥
      no-package path number facts rest reachable e =
          namespace-no-identifier path
          (All-head IsIdentifier (file_namespace path) rest
          (subst (All IsIdentifier) (sym e)
          (apart.spelled.named facts (apart.origins number facts reachable.known)).of_components))

      one-outermost : component_names f.package_name ≡ component_names g.package_name
          → outermost_name f d ≡ outermost_name g e
      one-outermost packages =
          ap (λ (names : List (List ℕ)). dotted (names ++ take 1 (map (λ (step : DeclarationStep). step.name) d.path)))
          packages
          ∙ ap (λ (names : List (List ℕ)). dotted (component_names g.package_name ++ names)) first

      by : (t u : Bool) → list_any (bytes_eq (outermost_name f d)) (names_at ids.repeated m) ≡ t
          → list_any (bytes_eq (outermost_name g e)) (names_at ids.repeated n) ≡ u
          → cond t (file_namespace (path_at files m) ∷ component_names f.package_name) (component_names f.package_name)
          ≡ cond u (file_namespace (path_at files n) ∷ component_names g.package_name) (component_names g.package_name) → m ≡ n
      by true true p q same =
          apart.own m n a.known.file b.known.file a.known.numbered b.known.numbered
          (sym (path-is m f a.known) ∙ (one-namespace (path_at files m) (path_at files n) (heads same)
          ∙ path-is n g b.known))
      by true false p q same = absurd (no-package (path_at files m) n g (component_names f.package_name) b same)
      by false true p q same = absurd (no-package (path_at files n) m f (component_names g.package_name) a (sym same))
      by false false p q same =
          let one = one-outermost same in
          one-outermost-file m n (outermost_name f d) a.is_reachable b.is_reachable (outermost-there m f d a listed)
          (subst (IsOutermost files n) (sym one) (outermost-there n g e b its)) p
          (subst (λ (name : List ℕ). list_any (bytes_eq name) (names_at ids.repeated n) ≡ false) (sym one) q)

  one-index : (m n i j : ℕ) (f g : Facts) (d e : Declaration) → AreReachable files m f → AreReachable files n g
      → slice_get f.declarations i ≡ Some d → slice_get g.declarations j ≡ Some e → m ≡ n
      → d.full_name ≡ e.full_name → i ≡ j
  one-index m n i j f g d e a b at there numbers full =
      (apart.one_name Keep files apart.origins apart.clear m i n j d e numbers
      (record { facts = f; is_reachable = a.is_reachable; known = a.known; stands = at })
      (record { facts = g; is_reachable = b.is_reachable; known = b.known; stands = there }) full).1

  -- in one file a full name is that of one declaration
  one-declaration : (m n : ℕ) (f g : Facts) (i j : ℕ) (d e : Declaration) → AreReachable files m f → AreReachable files n g
      → slice_get f.declarations i ≡ Some d → slice_get g.declarations j ≡ Some e → m ≡ n
      → names_of d.path ≡ names_of e.path → (i ≡ j) × (d ≡ e)
  one-declaration m n f g i j d e a b at there numbers names =
      let facts : f ≡ g =
      one_list_of_facts files n f g (subst (λ x. HasFacts files x f) numbers a.known) b.known in
      let full : d.full_name ≡ e.full_name =
      named m f d a (contained f.declarations i d at)
      ∙ (ap (λ (x : Facts). dotted (component_names x.package_name ++ names_of d.path)) facts
      ∙ (ap (λ (l : List (List ℕ)). dotted (component_names g.package_name ++ l)) names
      ∙ sym (named n g e b (contained g.declarations j e there)))) in
      let one = one-index m n i j f g d e a b at there numbers full in (
        one,
        same_Some d e (sym (subst (λ (x : Facts). slice_get x.declarations j ≡ Some d) facts
            (subst (λ k. slice_get f.declarations k ≡ Some d) one at)) ∙ there),
      )

  -- ---- two reachable files

  module _ (m n : ℕ) (f g : Facts) (a : AreReachable files m f) (b : AreReachable files n g) where
    -- their declarations
    abbrev pub both : List Entity
    both = map (declaration_in (home_of_file files ids m) f) f.declarations
        ++ map (declaration_in (home_of_file files ids n) g) g.declarations

    pub in-first : (d : Declaration) → Contains f.declarations d
        → IsAmong both (declaration_in (home_of_file files ids m) f d)
    in-first d listed = Contains-append_left (map (declaration_in (home_of_file files ids m) f) f.declarations)
        (map (declaration_in (home_of_file files ids n) g) g.declarations)
        (declaration_in (home_of_file files ids m) f d)
        (contains_map (declaration_in (home_of_file files ids m) f) f.declarations d listed)

    pub in-second : (d : Declaration) → Contains g.declarations d
        → IsAmong both (declaration_in (home_of_file files ids n) g d)
    in-second d listed = Contains-append_right (map (declaration_in (home_of_file files ids m) f) f.declarations)
        (map (declaration_in (home_of_file files ids n) g) g.declarations)
        (declaration_in (home_of_file files ids n) g d)
        (contains_map (declaration_in (home_of_file files ids n) g) g.declarations d listed)

    -- where an entity is listed
    record Found (y : Entity) : Type 0 where
      number : ℕ
      facts : Facts
      reachable : AreReachable files number facts
      index : ℕ
      found : Declaration
      at : slice_get facts.declarations index ≡ Some found
      same : declaration_in (home_of_file files ids number) facts found ≡ y
      back : (d : Declaration) → Contains facts.declarations d
          → Contains both (declaration_in (home_of_file files ids number) facts d)

    find : (y : Entity) → Contains both y → Found y
    find y there = elim (Contains-append_cases (map (declaration_in (home_of_file files ids m) f) f.declarations)
        (map (declaration_in (home_of_file files ids n) g) g.declarations) y there) [
          | inl one ↦ (
              let of = from-map (declaration_in (home_of_file files ids m) f) f.declarations y one in
              let place = contained_at f.declarations of.0 of.1 in
              record {
                number = m;
                facts = f;
                reachable = a;
                index = place.0;
                found = of.0;
                at = place.1;
                same = of.2;
                back = in-first;
              })
          | inr two ↦ (
              let of = from-map (declaration_in (home_of_file files ids n) g) g.declarations y two in
              let place = contained_at g.declarations of.0 of.1 in
              record {
                number = n;
                facts = g;
                reachable = b;
                index = place.0;
                found = of.0;
                at = place.1;
                same = of.2;
                back = in-second;
              })
        ]

    holder : (components : List (List ℕ)) (outer inner : List DeclarationStep) → outer ≢ []
        → Contains both (OfDeclaration components (outer ++ inner)) → Contains both (OfDeclaration components outer)
    unfolding spaces-in path-in
    holder components outer inner some h =
        let of = find (OfDeclaration components (outer ++ inner)) h in
        let home = home_of_file files ids of.number in
        let way : of.found.path ≡ outer ++ inner = ap path-in of.same in
        let other = AreHeld.holder (held of.number of.facts of.reachable) of.found outer inner
        (contained of.facts.declarations of.index of.found of.at) way some in
        let first : first-names other.0.path ≡ first-names of.found.path =
        ap first-names other.2 ∙ (sym (first-outer outer inner some) ∙ ap first-names (sym way)) in
        let before : namespaces_before home of.facts other.0 ≡ components =
        same-spaces home of.facts other.0 of.found first ∙ ap spaces-in of.same in
        subst (λ (x : Entity). Contains both x)
        (ap (λ (l : List (List ℕ)). OfDeclaration l other.0.path) before
        ∙ ap (λ (l : List DeclarationStep). OfDeclaration components l) other.2) (of.back other.0 other.1)

    one-step : (components : List (List ℕ)) (outer : List DeclarationStep) (step other : DeclarationStep)
        → Contains both (OfDeclaration components (outer ++ step ∷ []))
        → Contains both (OfDeclaration components (outer ++ other ∷ [])) → step.name ≡ other.name → step ≡ other
    unfolding spaces-in path-in
    one-step components outer step other h k e =
        let of = find (OfDeclaration components (outer ++ step ∷ [])) h in
        let by = find (OfDeclaration components (outer ++ other ∷ [])) k in
        let way : of.found.path ≡ outer ++ step ∷ [] = ap path-in of.same in
        let its : by.found.path ≡ outer ++ other ∷ [] = ap path-in by.same in
        let numbers = one-file of.number by.number of.facts by.facts of.found by.found of.reachable by.reachable
        (contained of.facts.declarations of.index of.found of.at)
        (contained by.facts.declarations by.index by.found by.at)
        (ap spaces-in of.same ∙ sym (ap spaces-in by.same))
        (ap first-names way ∙ (first-last outer step other e ∙ ap first-names (sym its))) in
        let one = one-declaration of.number by.number of.facts by.facts of.index by.index of.found by.found
        of.reachable by.reachable of.at by.at numbers
        (ap names_of way ∙ (names-last outer step other e ∙ ap names_of (sym its))) in
        last-same outer step other (sym way ∙ (ap (λ (x : Declaration). x.path) one.1 ∙ its))

    without-clash : IsWithoutClash both
    without-clash = record { holder = holder; one_name = one-step }

    -- one text, one entity, in whatever packages
    pub one-text : (id its_id : Package) → IsPackage id → IsPackage its_id → (entity other : Entity) → IsEntity entity
        → IsEntity other → IsAmong both entity → IsAmong both other → text_of id entity ≡ text_of its_id other
        → entity ≡ other
    unfolding text_of
    one-text id its_id good fine entity other is its among also same =
        apart.symbols id its_id both good fine without-clash entity other is its among also same

    -- so a declaration's text is that of one declaration
    pub one-declared : (id its_id : Package) → IsPackage id → IsPackage its_id → (i j : ℕ) (d e : Declaration)
        → slice_get f.declarations i ≡ Some d → slice_get g.declarations j ≡ Some e
        → text_of id (declaration_in (home_of_file files ids m) f d)
        ≡ text_of its_id (declaration_in (home_of_file files ids n) g e) → (m ≡ n) × (i ≡ j)
    unfolding spaces-in path-in
    one-declared id its_id good fine i j d e at there same =
        let listed = contained f.declarations i d at in
        let its = contained g.declarations j e there in
        let from = apart.origins m f a.known in
        let back = apart.origins n g b.known in
        let entity = one-text id its_id good fine (declaration_in (home_of_file files ids m) f d)
        (declaration_in (home_of_file files ids n) g e)
        (declaration-is (home_of_file files ids m) f d (apart.spelled.named f from) (apart.spelled.paths f from) listed)
        (declaration-is (home_of_file files ids n) g e (apart.spelled.named g back) (apart.spelled.paths g back) its)
        (in-first d listed) (in-second e its) same in
        let way : d.path ≡ e.path = ap path-in entity in
        let numbers = one-file m n f g d e a b listed its (ap spaces-in entity) (ap first-names way) in
        (numbers, (one-declaration m n f g i j d e a b at there numbers (ap names_of way)).0)
