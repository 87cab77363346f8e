-- The declarations of files in whose facts a full name is that of one declaration are without a clash.
use Rattle.std.proofs.Common.{◌≡◌, ◌≢◌, ⊎_elim, ℕ, List, [], ◌∷◌, ◌++◌, map, ap, sym, ◌∙◌, subst}
use Rattle.std.specs.Prelude.{Contains}
use Rattle.std.proofs.lemmas.List.{append_cancel_left}
use Rattle.std.proofs.lemmas.List.Elements.{All-contains, Contains-append_left, Contains-append_right}
use Rattle.std.proofs.lemmas.List.Elements.{Contains-append_cases, Contains-push}
use Rattle.basics.proofs.ListLemmas.{only, in_nothing}
use Rattle.proto_decl.specs.Names.{dotted}
use Rattle.proto_decl.specs.Laws.{scoped, names_of, component_names, AreHeld}
use Rattle.proto_decl.proofs.LawAncestorLemmas.{heads}
use Rattle.proto_decl.specs.Facts.{Facts}
use Rattle.proto_decl.specs.declared.declaration.DeclarationStep.{DeclarationStep}
use Rattle.proto_decl.specs.declared.declaration.Declaration.{Declaration}
use Rattle.scip_symbol.specs.Entities.{Entity, OfFile, OfPackage, OfDeclaration}
use Rattle.scip_symbol.specs.OneEntity.{declaration_at, declarations_of, AreWithoutClash, IsWithoutClash}

module _ {A B : Type 0} (f : A → B) where
  record From (xs : List A) (y : B) : Type 0 where
    source : A
    listed : Contains xs source
    same : f source ≡ y

  from-map : (xs : List A) (y : B) → Contains (map f xs) y → From xs y
  from-map [] y h = absurd (in_nothing y h)
  from-map (x ∷ xs) y h = ⊎_elim
      (λ e. record {
        source = x;
        listed = Contains-append_left (x ∷ []) xs x (Contains-push [] x);
        same = only (f x) y e;
      })
      (λ k. let found = from-map xs y k in
      record {
        source = found.source;
        listed = Contains-append_right (x ∷ []) xs found.source found.listed;
        same = found.same;
      })
      (Contains-append_cases (f x ∷ []) (map f xs) y h)

  into-map : (xs : List A) (x : A) → Contains xs x → Contains (map f xs) (f x)
  into-map [] x h = absurd (in_nothing x h)
  into-map (z ∷ xs) x h = ⊎_elim
      (λ e. Contains-append_left (f z ∷ []) (map f xs) (f x)
      (subst (λ (t : A). Contains (f z ∷ []) (f t)) (only z x e) (Contains-push [] (f z))))
      (λ k. Contains-append_right (f z ∷ []) (map f xs) (f x) (into-map xs x k))
      (Contains-append_cases (z ∷ []) xs x h)

-- of a declaration: the components of its package, the path to it, and the components of its full name
abbrev components_in : Entity → List (List ℕ)
components_in (OfFile path) = []
components_in (OfPackage components) = components
components_in (OfDeclaration components path) = components

abbrev path_in : Entity → List DeclarationStep
path_in (OfFile path) = []
path_in (OfPackage components) = []
path_in (OfDeclaration components path) = path

abbrev names_in : Entity → List (List ℕ)
names_in entity = components_in entity ++ names_of (path_in entity)

-- ---- names of steps

pub names-last : (pre : List DeclarationStep) (s t : DeclarationStep) → s.name ≡ t.name
    → names_of (pre ++ s ∷ []) ≡ names_of (pre ++ t ∷ [])
names-last [] s t e = ap (λ (n : List ℕ). n ∷ []) e
names-last (p ∷ []) s t e = ap (λ (n : List ℕ). scoped p.kind p.name (n ∷ [])) e
names-last (p ∷ (q ∷ pre)) s t e = ap (scoped p.kind p.name) (names-last (q ∷ pre) s t e)

pub last-same : (pre : List DeclarationStep) (s t : DeclarationStep) → pre ++ s ∷ [] ≡ pre ++ t ∷ [] → s ≡ t
last-same pre s t e = heads (append_cancel_left pre (s ∷ []) (t ∷ []) e)

-- ---- where declarations are listed

record Found (files : List Facts) (y : Entity) : Type 0 where
  facts : Facts
  among : Contains files facts
  found : Declaration
  listed : Contains facts.declarations found
  same : declaration_at facts found ≡ y

find : (files : List Facts) (y : Entity) → Contains (declarations_of files) y → Found files y
find [] y h = absurd (in_nothing y h)
find (facts ∷ files) y h = ⊎_elim
    (λ k. let of = from-map (declaration_at facts) facts.declarations y k in
    record {
      facts = facts;
      among = Contains-append_left (facts ∷ []) files facts (Contains-push [] facts);
      found = of.source;
      listed = of.listed;
      same = of.same;
    })
    (λ k. let of = find files y k in
    record {
      facts = of.facts;
      among = Contains-append_right (facts ∷ []) files of.facts of.among;
      found = of.found;
      listed = of.listed;
      same = of.same;
    })
    (Contains-append_cases (map (declaration_at facts) facts.declarations) (declarations_of files) y h)

pub put : (files : List Facts) (facts : Facts) (d : Declaration) → Contains files facts → Contains facts.declarations d
    → Contains (declarations_of files) (declaration_at facts d)
put [] facts d h k = absurd (in_nothing facts h)
put (first ∷ files) facts d h k = ⊎_elim
    (λ e. Contains-append_left (map (declaration_at first) first.declarations) (declarations_of files)
    (declaration_at facts d)
    (subst (λ (x : Facts). Contains (map (declaration_at x) x.declarations) (declaration_at facts d))
    (sym (only first facts e)) (into-map (declaration_at facts) facts.declarations d k)))
    (λ n. Contains-append_right (map (declaration_at first) first.declarations) (declarations_of files)
    (declaration_at facts d) (put files facts d n k))
    (Contains-append_cases (first ∷ []) files facts h)

module _ (files : List Facts) (apart : AreWithoutClash files) where
  held : (facts : Facts) → Contains files facts → AreHeld facts.package_name facts.declarations
  held facts h = All-contains (λ (x : Facts). AreHeld x.package_name x.declarations) files facts apart.held h

  named : (facts : Facts) (d : Declaration) → Contains files facts → Contains facts.declarations d
      → d.full_name ≡ dotted (names_in (declaration_at facts d))
  named facts d h k =
      All-contains (λ (x : Declaration). x.full_name ≡ dotted (component_names facts.package_name ++ names_of x.path))
      facts.declarations d (AreHeld.full_names (held facts h)) k

  holder : (components : List (List ℕ)) (outer inner : List DeclarationStep) → outer ≢ []
      → Contains (declarations_of files) (OfDeclaration components (outer ++ inner))
      → Contains (declarations_of files) (OfDeclaration components outer)
  holder components outer inner some h =
      let of = find files (OfDeclaration components (outer ++ inner)) h in
      let other = AreHeld.holder (held of.facts of.among) of.found outer inner of.listed
      (ap path_in of.same) some in
      subst (λ (x : Entity). Contains (declarations_of files) x)
      (ap (λ (l : List DeclarationStep). OfDeclaration (component_names of.facts.package_name) l) other.2
      ∙ ap (λ (x : Entity). OfDeclaration (components_in x) outer) of.same)
      (put files of.facts other.0 of.among other.1)

  one_name : (components : List (List ℕ)) (outer : List DeclarationStep) (step other : DeclarationStep)
      → Contains (declarations_of files) (OfDeclaration components (outer ++ step ∷ []))
      → Contains (declarations_of files) (OfDeclaration components (outer ++ other ∷ [])) → step.name ≡ other.name
      → step ≡ other
  one_name components outer step other h k e =
      let of = find files (OfDeclaration components (outer ++ step ∷ [])) h in
      let by = find files (OfDeclaration components (outer ++ other ∷ [])) k in
      let last = ap (λ (l : List (List ℕ)). components ++ l) (names-last outer step other e) in
      let names = ap names_in of.same ∙ (last ∙ sym (ap names_in by.same)) in
      let whole = named of.facts of.found of.among of.listed
      ∙ (ap dotted names ∙ sym (named by.facts by.found by.among by.listed)) in
      let one = apart.one_name of.facts by.facts of.found by.found of.among by.among of.listed by.listed whole in
      last-same outer step other (ap path_in (sym of.same ∙ (one ∙ by.same)))

pub without-clash : (files : List Facts) → AreWithoutClash files → IsWithoutClash (declarations_of files)
without-clash files apart = record { holder = holder files apart; one_name = one_name files apart }
