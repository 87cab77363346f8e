-- What the parts of a target name has symbols.
use Rattle.std.proofs.Common.{◌≡◌, ◌∙◌, sym, ap, refl, subst, ◌≢◌, ℕ, zero, suc, ◌<◌, ◌==◌, Bool}
use Rattle.std.proofs.Common.{true, false, List, [], ◌∷◌, ◌++◌, length, take, arith, length-append}
use Rattle.std.specs.List.{All, Contains, list_all}
use Rattle.std.proofs.lemmas.Bool.{and_parts}
use Rattle.std.proofs.lemmas.Bool.Decides.{nat_tests}
use Rattle.std.proofs.lemmas.List.Elements.{All-nil, All-cons, All-head, All-tail, All-append, All-take, All-contains}
use Rattle.std.proofs.lemmas.List.Splits.{slice_split_none, slice_split_at, length-slice_split}
use Rattle.proto_link.proofs.TargetLemmas.{is_of_type as resolved_known}
use Rattle.proto_lex.specs.Bytes.{is_letter, is_word}
use Rattle.proto_lex.specs.Lexes.{Spells}
use Rattle.proto_lex.specs.Lexes.Spells.{literal, sign, identifier, integer, float}
use Rattle.proto_lex.specs.declared.token.TokenKind.{TokenKind}
use Rattle.proto_lex.specs.declared.token.TokenKind.TheVariants.{Identifier}
use Rattle.proto_lex.proofs.PieceFound.{sign_cases}
use Rattle.proto_decl.specs.Names.{dotted, components_of}
use Rattle.proto_decl.specs.Facts.{Facts, AreOfSomeFile}
use Rattle.proto_decl.specs.Laws.{scoped, names_of, component_names}
use Rattle.proto_decl.specs.declared.declaration.DeclarationKind.{DeclarationKind}
use Rattle.proto_decl.specs.declared.declaration.DeclarationKind.TheVariants.{Message, Enum, Service, Field, Oneof}
use Rattle.proto_decl.specs.declared.declaration.DeclarationKind.TheVariants.{Value, Method}
use Rattle.proto_decl.specs.declared.declaration.DeclarationStep.{DeclarationStep}
use Rattle.proto_decl.specs.declared.declaration.Declaration.{Declaration}
use Rattle.proto_decl.specs.declared.uses.Use.{Use}
use Rattle.basics.proofs.BoolLemmas.{never}
use Rattle.scip_symbol.specs.Entities.{IsIdentifier}
use Rattle.proto_visibility.specs.Files.{File, HasFacts, HaveOrigins}
use Rattle.proto_visibility.specs.Knows.{NameKind, Knows, IsEntityOf, is_type}
use Rattle.proto_visibility.specs.Knows.Knows.{declared as known_declared, packaged as known_packaged}
use Rattle.proto_link.specs.Targets.{IsTarget}
use Rattle.proto_visibility.specs.Knows.IsEntityOf.{packaged as named_package, declared as named_declared}
use Rattle.proto_link.specs.declared.target.Target.{Target}
use Rattle.proto_visibility.specs.declared.lookup.Entity.{Entity}
use Rattle.scip_model.specs.Tables.Listing.{IsNameable, AreNameable}
use Rattle.scip_model.specs.Tables.KnownFacts.{AreIdentifiers}

-- identifiers have no dots

abbrev is_dot : ℕ → Bool
is_dot byte = byte == 46

abbrev NoDots : List ℕ → Type 0
NoDots name = All (λ byte. is_dot byte ≡ false) name

letter_no_dot : (b : ℕ) → is_letter b ≡ true → is_dot b ≡ false
letter_no_dot b e = grind (arith, nat_tests)

word_no_dot : (b : ℕ) → is_word b ≡ true → is_dot b ≡ false
word_no_dot b e = grind (arith, nat_tests)

words_no_dots : (others : List ℕ) → list_all is_word others ≡ true → NoDots others
words_no_dots [] e = All-nil (λ (byte : ℕ). is_dot byte ≡ false)
words_no_dots (b ∷ others) e = let p = and_parts (is_word b) (list_all is_word others) e in
    All-cons (λ (byte : ℕ). is_dot byte ≡ false) b others (word_no_dot b p.0) (words_no_dots others p.1)

is_identifier : TokenKind → Bool
is_identifier Identifier = true
is_identifier _ = false

pub spelled_no_dots : {k : TokenKind} {name : List ℕ} → Spells k name → k ≡ Identifier → NoDots name
unfolding is_identifier
spelled_no_dots (identifier {b} {others} e f) is =
    All-cons (λ (byte : ℕ). is_dot byte ≡ false) b others (letter_no_dot b e) (words_no_dots others f)
spelled_no_dots (integer e) is = never (ap is_identifier is)
spelled_no_dots (float e) is = never (ap is_identifier is)
spelled_no_dots (literal e ends) is = never (ap is_identifier is)
spelled_no_dots (sign {b} {k} e) is =
    never (sym (sign_cases (λ b k. is_identifier k ≡ false) b k e refl refl refl refl refl refl refl refl refl refl refl
    refl refl refl refl refl) ∙ ap is_identifier is)

-- the components of joined identifiers are they
of_dotted : (names : List (List ℕ)) → 0 < length names → All IsIdentifier names → components_of (dotted names) ≡ names
of_dotted [] some all = absurd (omega (arith, some))
of_dotted (name ∷ []) some all = slice_split_none is_dot name (spelled_no_dots (All-head IsIdentifier name [] all) refl)
of_dotted (name ∷ (next ∷ others)) some all =
    slice_split_at is_dot name 46 (dotted (next ∷ others))
    (spelled_no_dots (All-head IsIdentifier name (next ∷ others) all) refl) refl
    ∙ ap (λ (parts : List (List ℕ)). name ∷ parts)
    (of_dotted (next ∷ others) (omega arith) (All-tail IsIdentifier name (next ∷ others) all))

-- the names on a way
scoped_all : (kind : DeclarationKind) (name : List ℕ) (inner : List (List ℕ)) → IsIdentifier name
    → All IsIdentifier inner → All IsIdentifier (scoped kind name inner)
scoped_all Enum name inner is all = all
scoped_all Message name inner is all = All-cons IsIdentifier name inner is all
scoped_all Service name inner is all = All-cons IsIdentifier name inner is all
scoped_all Field name inner is all = All-cons IsIdentifier name inner is all
scoped_all Oneof name inner is all = All-cons IsIdentifier name inner is all
scoped_all Value name inner is all = All-cons IsIdentifier name inner is all
scoped_all Method name inner is all = All-cons IsIdentifier name inner is all

scoped_some : (kind : DeclarationKind) (name : List ℕ) (inner : List (List ℕ)) → 0 < length inner
    → 0 < length (scoped kind name inner)
scoped_some Enum name inner some = some
scoped_some Message name inner some = omega arith
scoped_some Service name inner some = omega arith
scoped_some Field name inner some = omega arith
scoped_some Oneof name inner some = omega arith
scoped_some Value name inner some = omega arith
scoped_some Method name inner some = omega arith

abbrev IsNamedStep : DeclarationStep → Type 0
IsNamedStep step = IsIdentifier step.name

way_all : (path : List DeclarationStep) → All IsNamedStep path → All IsIdentifier (names_of path)
way_all [] all = All-nil IsIdentifier
way_all (step ∷ []) all = All-cons IsIdentifier step.name [] (All-head IsNamedStep step [] all) (All-nil IsIdentifier)
way_all (step ∷ (next ∷ others)) all =
    scoped_all step.kind step.name (names_of (next ∷ others)) (All-head IsNamedStep step (next ∷ others) all)
    (way_all (next ∷ others) (All-tail IsNamedStep step (next ∷ others) all))

way_some : (path : List DeclarationStep) → path ≢ [] → 0 < length (names_of path)
way_some [] some = absurd (some refl)
way_some (step ∷ []) some = omega arith
way_some (step ∷ (next ∷ others)) some =
    scoped_some step.kind step.name (names_of (next ∷ others)) (way_some (next ∷ others) (λ e. cc))

-- the components of a declared full name are identifiers
pub declared_all : (facts : Facts) → AreIdentifiers → AreOfSomeFile facts → (d : Declaration)
    → Contains facts.declarations d → All IsIdentifier (components_of d.full_name)
declared_all facts spelled origin d listed =
    let named = spelled.named facts origin in
    let package_name = component_names facts.package_name in
    let way = names_of d.path in
    let steps = All-contains (λ (x : Declaration). All IsNamedStep x.path) facts.declarations d named.of_steps listed in
    let some = way_some d.path
    (All-contains (λ (x : Declaration). x.path ≢ []) facts.declarations d (spelled.paths facts origin) listed) in
    let all = All-append IsIdentifier package_name way named.of_components (way_all d.path steps) in
    let full : d.full_name ≡ dotted (package_name ++ way) =
    All-contains (λ (x : Declaration). x.full_name ≡ dotted (package_name ++ names_of x.path)) facts.declarations d
    (spelled.held facts origin).full_names listed in
    subst (λ (names : List (List ℕ)). All IsIdentifier names)
    (sym (ap components_of full
    ∙ of_dotted (package_name ++ way) (omega (arith, some, length-append package_name way)) all)) all

-- a resolved name is a known type's

known_all : {files : List File} {file : ℕ} → HaveOrigins files → AreIdentifiers → {name : List ℕ} {kind : NameKind}
    → Knows files file name kind → is_type kind ≡ true → All IsIdentifier (components_of name)
known_all origins spelled (known_declared {seen = seen} {facts = facts} {declaration = d} sees has listed) type =
    declared_all facts spelled (origins seen facts has) d listed
known_all origins spelled (known_packaged sees has some few) type = never type

take_some : {X : Type 0} (count : ℕ) (xs : List X) → 0 < count → 0 < length xs → take count xs ≢ []
take_some zero xs one some = absurd (omega (arith, one))
take_some (suc count) [] one some = absurd (omega (arith, some))
take_some (suc count) (x ∷ xs) one some = λ e. cc

pub part_nameable : (files : List File) (owner : ℕ) (facts : Facts) (name text : List ℕ) (count : ℕ) (part : Entity)
    → HasFacts files owner facts → All IsIdentifier (components_of name) → 0 < count
    → IsEntityOf owner facts text count part → IsNameable files name part
part_nameable files owner facts name text count part has all one (named_package prefix) = (
  take_some count (components_of name) one (omega (arith, length-slice_split is_dot name)),
  All-take IsIdentifier count (components_of name) all,
)
part_nameable files owner facts name text count part has all one (named_declared {declaration = d} at full) =
    (facts, d, record { has_facts = has; numbered = at })

pub target_nameable : (files : List File) (source : ℕ) → HaveOrigins files → AreIdentifiers
    → (type_use : Use) (target : Target) → IsTarget files source type_use target → AreNameable files target
target_nameable files source origins spelled type_use target is = λ index part e.
    let known = resolved_known is.names.resolves in
    part_nameable files is.owner is.facts target.name _ _ part is.known
    (known_all origins spelled known.known known.admitted) (omega arith) (is.named index part e)
