-- What holds a declaration of a file is declared there too, and full names are those of the scopes on the path.
use Rattle.std.proofs.Common.{◌≡◌, ◌≢◌, ℕ, List, [], ◌∷◌, ◌++◌, map, refl, ap, sym, ◌∙◌, subst, append_assoc}
use Rattle.std.specs.Prelude.{All, Contains}
use Rattle.std.specs.List.{AllByRecursion, AllZip, flat_map}
use Rattle.std.proofs.lemmas.List.{append-nil}
use Rattle.std.proofs.lemmas.List.Elements.{All-from_recursion, recursion_from_All, All-contains, Contains-append_left}
use Rattle.std.proofs.lemmas.List.Elements.{Contains-append_right}
use Rattle.basics.proofs.ListLemmas.{in_front, behind_it, each_weaker as each-weaker}
use Rattle.proto_lex.specs.Lexed.{Lexed, part_of}
use Rattle.proto_lex.specs.declared.span.Span.{Span}
use Rattle.comment_texts.specs.declared.form.CommentForm.{CommentForm}
use Rattle.proto_decl.specs.declared.form.FactForm.{FactForm}
use Rattle.proto_parse.specs.tree.Heading.{Heading}
use Rattle.proto_parse.specs.tree.Head.{Head}
use Rattle.proto_parse.specs.tree.Head.TheVariants as head
use Rattle.proto_parse.specs.tree.Enum.{Enum}
use Rattle.proto_parse.specs.tree.Method.{Method}
use Rattle.proto_parse.specs.tree.Leaf.{Leaf}
use Rattle.proto_parse.specs.tree.Leaf.TheVariants as leaf
use Rattle.proto_parse.specs.tree.FileItem.{FileItem}
use Rattle.proto_parse.specs.tree.FileItem.TheVariants as item
use Rattle.proto_parse.specs.tree.File.{File}
use Rattle.proto_parse.specs.Tree.{Body}
use Rattle.proto_parse.specs.Tree.Body.{NoMore, LeafThen, BlockThen}
use Rattle.proto_decl.specs.Names.{qualified, dotted, components_at, small_letters}
use Rattle.proto_decl.specs.Declares.{heading_name, step_named, step_to, outline_at, inside, beside, within}
use Rattle.proto_decl.specs.Declares.{scope_heading, in_head, package_spans, file_surrounding, outlines_of}
use Rattle.proto_decl.specs.Walked.{in_enum, in_leaf, in_body, in_item}
use Rattle.proto_decl.proofs.WalkedLemmas.{outlines_are}
use Rattle.proto_decl.specs.Declares.{IsDeclaration}
use Rattle.proto_decl.specs.Facts.{Facts, AreFactsOf}
use Rattle.proto_decl.specs.declared.declaration.DeclarationKind.{DeclarationKind}
use Rattle.proto_decl.specs.declared.declaration.DeclarationKind.TheVariants as kind
use Rattle.proto_decl.specs.declared.declaration.DeclarationStep.{DeclarationStep}
use Rattle.proto_decl.specs.declared.declaration.Declaration.{Declaration}
use Rattle.proto_decl.specs.declared.declaration.Outline.{Outline}
use Rattle.proto_decl.specs.declared.surrounding.Surrounding.{Surrounding}
use Rattle.proto_lex.specs.Lexes.{Spells, identifier, sign}
use Rattle.proto_lex.specs.declared.token.TokenKind.TheVariants.{Identifier}
pub use Rattle.proto_parse.proofs.RefusedLemmas.{heads, tails}
use Rattle.proto_decl.specs.Laws.{scoped, names_of, component_names, AreNamed, AreHeld}

-- ---- lists

module _ {A : Type 0} (P : A → Type 0) where
  each-append : (xs ys : List A) → AllByRecursion P xs → AllByRecursion P ys → AllByRecursion P (xs ++ ys)
  each-append [] ys h k = k
  each-append (x ∷ xs) ys h k = (h.0, each-append xs ys h.1 k)

  each-front : (xs ys : List A) → AllByRecursion P (xs ++ ys) → AllByRecursion P xs
  each-front [] ys h = tt
  each-front (x ∷ xs) ys h = (h.0, each-front xs ys h.1)

  each-behind : (xs ys : List A) → AllByRecursion P (xs ++ ys) → AllByRecursion P ys
  each-behind [] ys h = h
  each-behind (x ∷ xs) ys h = each-behind xs ys h.1

-- ---- names that aren't empty, joined by dots

abbrev AreSome : List (List ℕ) → Type 0
AreSome names = AllByRecursion (λ name. name ≢ []) names

abbrev StepsAreSome : List DeclarationStep → Type 0
StepsAreSome path = AllByRecursion (λ step. step.name ≢ []) path

dotted-push : (first name : List ℕ) (others : List (List ℕ))
    → dotted (first ∷ (others ++ name ∷ [])) ≡ dotted (first ∷ others) ++ (46 ∷ name)
dotted-push first name [] = refl
dotted-push first name (next ∷ others) =
    ap (λ t. first ++ (46 ∷ t)) (dotted-push next name others)
    ∙ sym (append_assoc first (46 ∷ dotted (next ∷ others)) (46 ∷ name))

dotted-some : (x : List ℕ) (xs : List (List ℕ)) → x ≢ [] → dotted (x ∷ xs) ≢ []
dotted-some [] xs some e = some refl
dotted-some (b ∷ x) [] some e = cc
dotted-some (b ∷ x) (y ∷ xs) some e = cc

qualified-some : (scope name : List ℕ) → scope ≢ [] → qualified scope name ≡ scope ++ (46 ∷ name)
qualified-some [] name some = absurd (some refl)
qualified-some (b ∷ scope) name some = refl

qualified-dotted : (names : List (List ℕ)) (name : List ℕ) → AreSome names
    → qualified (dotted names) name ≡ dotted (names ++ name ∷ [])
qualified-dotted [] name h = refl
qualified-dotted (x ∷ xs) name h =
    qualified-some (dotted (x ∷ xs)) name (dotted-some x xs h.0) ∙ sym (dotted-push x name xs)

-- ---- the scopes on a path

abbrev scopes : List DeclarationStep → List (List ℕ)
scopes [] = []
scopes (step ∷ path) = scoped step.kind step.name (scopes path)

scoped-append : (k : DeclarationKind) (name : List ℕ) (xs ys : List (List ℕ))
    → scoped k name (xs ++ ys) ≡ scoped k name xs ++ ys
scoped-append kind.Message name xs ys = refl
scoped-append kind.Enum name xs ys = refl
scoped-append kind.Service name xs ys = refl
scoped-append kind.Field name xs ys = refl
scoped-append kind.Oneof name xs ys = refl
scoped-append kind.Value name xs ys = refl
scoped-append kind.Method name xs ys = refl

scoped-some : (k : DeclarationKind) (name : List ℕ) (xs : List (List ℕ)) → name ≢ [] → AreSome xs
    → AreSome (scoped k name xs)
scoped-some kind.Message name xs some h = (some, h)
scoped-some kind.Enum name xs some h = h
scoped-some kind.Service name xs some h = (some, h)
scoped-some kind.Field name xs some h = (some, h)
scoped-some kind.Oneof name xs some h = (some, h)
scoped-some kind.Value name xs some h = (some, h)
scoped-some kind.Method name xs some h = (some, h)

scopes-some : (path : List DeclarationStep) → StepsAreSome path → AreSome (scopes path)
scopes-some [] h = tt
scopes-some (step ∷ path) h = scoped-some step.kind step.name (scopes path) h.0 (scopes-some path h.1)

scopes-push : (path : List DeclarationStep) (x : DeclarationStep)
    → scopes (path ++ x ∷ []) ≡ scopes path ++ scoped x.kind x.name []
scopes-push [] x = refl
scopes-push (step ∷ path) x =
    ap (scoped step.kind step.name) (scopes-push path x)
    ∙ scoped-append step.kind step.name (scopes path) (scoped x.kind x.name [])

names-push : (path : List DeclarationStep) (x : DeclarationStep)
    → names_of (path ++ x ∷ []) ≡ scopes path ++ x.name ∷ []
names-push [] x = refl
names-push (step ∷ []) x = scoped-append step.kind step.name [] (x.name ∷ [])
names-push (step ∷ (next ∷ path)) x =
    ap (scoped step.kind step.name) (names-push (next ∷ path) x)
    ∙ scoped-append step.kind step.name (scopes (next ∷ path)) (x.name ∷ [])

-- the scope of what stands in a declaration
abbrev scope_in : DeclarationKind → (scope name : List ℕ) → List ℕ
scope_in kind.Message scope name = qualified scope name
scope_in kind.Enum scope name = scope
scope_in kind.Service scope name = qualified scope name
scope_in kind.Field scope name = qualified scope name
scope_in kind.Oneof scope name = qualified scope name
scope_in kind.Value scope name = qualified scope name
scope_in kind.Method scope name = qualified scope name

scope-push : (k : DeclarationKind) (names : List (List ℕ)) (name : List ℕ) → AreSome names
    → scope_in k (dotted names) name ≡ dotted (names ++ scoped k name [])
scope-push kind.Message names name h = qualified-dotted names name h
scope-push kind.Enum names name h = ap dotted (sym (append-nil names))
scope-push kind.Service names name h = qualified-dotted names name h
scope-push kind.Field names name h = qualified-dotted names name h
scope-push kind.Oneof names name h = qualified-dotted names name h
scope-push kind.Value names name h = qualified-dotted names name h
scope-push kind.Method names name h = qualified-dotted names name h

-- ---- the declarations of a file, each with those that it holds behind it

abbrev inner_of : Surrounding → DeclarationStep → Surrounding
inner_of s step = record { scope = scope_in step.kind s.scope step.name; path = s.path ++ step ∷ [] }

data AreIn : Surrounding → List Outline → Type 0 where
  none : {s : Surrounding} → AreIn s []
  node : {s : Surrounding} (step : DeclarationStep) {o : Outline} {inner others : List Outline}
      → o.path ≡ s.path ++ step ∷ [] → o.full_name ≡ qualified s.scope step.name
      → AreIn (inner_of s step) inner → AreIn s others → AreIn s (o ∷ (inner ++ others))

and-then : {s : Surrounding} {xs ys : List Outline} → AreIn s xs → AreIn s ys → AreIn s (xs ++ ys)
and-then none h = h
and-then {s = s} {ys = ys} (node step {o = o} {inner = inner} {others = others} p n i h) k =
    subst (λ (l : List Outline). AreIn s (o ∷ l)) (sym (append_assoc inner others ys)) (node step p n i (and-then h k))

module _ (text : List ℕ) where
  one : (s : Surrounding) (k : DeclarationKind) (heading : Heading) {inner others : List Outline}
      → AreIn (inner_of s (step_to text k heading)) inner → AreIn s others
      → AreIn s (outline_at text s k heading ∷ (inner ++ others))
  one s k heading i h = node (step_to text k heading) refl refl i h

  alone : (s : Surrounding) (k : DeclarationKind) (heading : Heading) (inner : List Outline)
      → AreIn (inner_of s (step_to text k heading)) inner → AreIn s (outline_at text s k heading ∷ inner)
  alone s k heading inner i =
      subst (λ (l : List Outline). AreIn s (outline_at text s k heading ∷ l)) (append-nil inner)
      (one s k heading i none)

  values-in : (s : Surrounding) (headings : List Heading)
      → AreIn s (flat_map (λ (h : Heading). outline_at text s kind.Value h ∷ []) headings)
  values-in s [] = none
  values-in s (h ∷ headings) = one s kind.Value h none (values-in s headings)

  methods-in : (s : Surrounding) (methods : List Method)
      → AreIn s (flat_map (λ (m : Method). outline_at text s kind.Method m.heading ∷ []) methods)
  methods-in s [] = none
  methods-in s (m ∷ methods) = one s kind.Method m.heading none (methods-in s methods)

  enum-in : (s : Surrounding) (enum : Enum) → AreIn s (in_enum text s enum)
  enum-in s enum = alone s kind.Enum enum.heading _ (values-in (beside text s kind.Enum enum.heading) enum.values)

  leaf-in : (s : Surrounding) (l : Leaf) → AreIn s (in_leaf text s l)
  leaf-in s (leaf.Enum enum) = enum-in s enum
  leaf-in s (leaf.Field field) = one s kind.Field field.heading none none
  leaf-in s (leaf.MapField field) = one s kind.Field field.heading none none

  -- a block, in which these are
  head-in : (s : Surrounding) (h : Head) (inner : List Outline) → AreIn (within text s (scope_heading h)) inner
      → AreIn s (in_head text s h ++ inner)
  head-in s (head.Message heading) inner i = alone s kind.Message heading inner i
  head-in s (head.Group group) inner i =
      node (step_named kind.Field (small_letters (heading_name text group.heading))) refl refl none
      (alone s kind.Message group.heading inner i)
  head-in s (head.Oneof heading) inner i = one s kind.Oneof heading none i
  head-in s (head.Extend type) inner i = i

  body-in : (s : Surrounding) (body : Body) → AreIn s (in_body text s body)
  body-in s NoMore = none
  body-in s (LeafThen l others) = and-then (leaf-in s l) (body-in s others)
  body-in s (BlockThen h inner others) =
      let below = in_body text (within text s (scope_heading h)) inner in
      subst (AreIn s) (append_assoc (in_head text s h) below (in_body text s others))
      (and-then (head-in s h below (body-in (within text s (scope_heading h)) inner)) (body-in s others))

  item-in : (s : Surrounding) (i : FileItem) → AreIn s (in_item text s i)
  item-in s (item.Block block) =
      head-in s block.head _ (body-in (within text s (scope_heading block.head)) block.body)
  item-in s (item.Enum enum) = enum-in s enum
  item-in s (item.Service service) =
      alone s kind.Service service.heading _ (methods-in (inside text s kind.Service service.heading) service.methods)

  items-in : (s : Surrounding) (items : List FileItem) → AreIn s (flat_map (in_item text s) items)
  items-in s [] = none
  items-in s (i ∷ items) = and-then (item-in s i) (items-in s items)

-- ---- full names

-- its full name is that of the scopes on its path, below these components
abbrev IsNamedFrom : (components : List (List ℕ)) → Outline → Type 0
IsNamedFrom components o = o.full_name ≡ dotted (components ++ names_of o.path)

named-in : (components : List (List ℕ)) → AreSome components → {s : Surrounding} {outlines : List Outline}
    → AreIn s outlines
    → StepsAreSome s.path → s.scope ≡ dotted (components ++ scopes s.path)
    → AllByRecursion (λ o. StepsAreSome o.path) outlines → AllByRecursion (IsNamedFrom components) outlines
named-in components some none steps scope named = tt
named-in components some {s} (node step {o = o} {inner = inner} {others = others} p n i h) steps scope named =
    let there : StepsAreSome (s.path ++ step ∷ []) = subst StepsAreSome p named.0 in
    let all : AreSome (components ++ scopes s.path) =
    each-append (λ name. name ≢ []) components (scopes s.path) some (scopes-some s.path steps) in
    let full : o.full_name ≡ dotted (components ++ names_of o.path) =
    n ∙ (ap (λ (t : List ℕ). qualified t step.name) scope
    ∙ (qualified-dotted (components ++ scopes s.path) step.name all ∙ ap dotted (
    append_assoc components (scopes s.path) (step.name ∷ [])
    ∙ ap (λ (l : List (List ℕ)). components ++ l) (sym (names-push s.path step) ∙ ap names_of (sym p))))) in
    let inner_scope : scope_in step.kind s.scope step.name ≡ dotted (components ++ scopes (s.path ++ step ∷ [])) =
    ap (λ (t : List ℕ). scope_in step.kind t step.name) scope
    ∙ (scope-push step.kind (components ++ scopes s.path) step.name all ∙ ap dotted (
    append_assoc components (scopes s.path) (scoped step.kind step.name [])
    ∙ ap (λ (l : List (List ℕ)). components ++ l) (sym (scopes-push s.path step)))) in (
      full,
      each-append (IsNamedFrom components) inner others
          (named-in components some i there inner_scope (each-front (λ o. StepsAreSome o.path) inner others named.1))
          (named-in components some h steps scope (each-behind (λ o. StepsAreSome o.path) inner others named.1)),
    )

-- ---- holders

record Leads (outlines : List Outline) (path : List DeclarationStep) : Type 0 where
  outline : Outline
  listed : Contains outlines outline
  same : outline.path ≡ path

-- its path below another, and each prefix of that leads to one of the declarations
record IsHeldFrom (path : List DeclarationStep) (outlines : List Outline) (o : Outline) : Type 0 where
  rest : List DeclarationStep
  below : o.path ≡ path ++ rest
  held : (outer inner : List DeclarationStep) → outer ≢ [] → rest ≡ outer ++ inner → Leads outlines (path ++ outer)

one-step : (step : DeclarationStep) (outer inner : List DeclarationStep) → outer ≢ [] → step ∷ [] ≡ outer ++ inner
    → step ∷ [] ≡ outer
one-step step [] inner some e = absurd (some refl)
one-step step (y ∷ []) inner some e = ap (λ (t : DeclarationStep). t ∷ []) (heads e)
one-step step (y ∷ (z ∷ outer)) inner some e = absurd cc

module _ (s : Surrounding) (step : DeclarationStep) (o : Outline) (inner others : List Outline)
    (p : o.path ≡ s.path ++ step ∷ []) where
  deeper-leads : (rest : List DeclarationStep)
      → ((outer behind : List DeclarationStep) → outer ≢ [] → rest ≡ outer ++ behind
      → Leads inner ((s.path ++ step ∷ []) ++ outer))
      → (outer behind : List DeclarationStep) → outer ≢ [] → step ∷ rest ≡ outer ++ behind
      → Leads (o ∷ (inner ++ others)) (s.path ++ outer)
  deeper-leads rest h [] behind some e = absurd (some refl)
  deeper-leads rest h (y ∷ []) behind some e =
      record {
        outline = o;
        listed = in_front o (inner ++ others);
        same = p ∙ ap (λ (t : DeclarationStep). s.path ++ t ∷ []) (heads e);
      }
  deeper-leads rest h (y ∷ (z ∷ outer)) behind some e =
      let found = h (z ∷ outer) behind (λ q. cc) (tails e) in
      record {
        outline = found.outline;
        listed = behind_it o (inner ++ others) found.outline
            (Contains-append_left inner others found.outline found.listed);
        same = found.same ∙ (append_assoc s.path (step ∷ []) (z ∷ outer)
            ∙ ap (λ (t : DeclarationStep). s.path ++ (t ∷ (z ∷ outer))) (heads e));
      }

  deeper : (x : Outline) → IsHeldFrom (s.path ++ step ∷ []) inner x → IsHeldFrom s.path (o ∷ (inner ++ others)) x
  deeper x is = record {
    rest = step ∷ is.rest;
    below = is.below ∙ append_assoc s.path (step ∷ []) is.rest;
    held = deeper-leads is.rest is.held;
  }

  wider : (x : Outline) → IsHeldFrom s.path others x → IsHeldFrom s.path (o ∷ (inner ++ others)) x
  wider x is = record {
    rest = is.rest;
    below = is.below;
    held = λ outer behind some e.
        let found = is.held outer behind some e in
        record {
          outline = found.outline;
          listed = behind_it o (inner ++ others) found.outline
              (Contains-append_right inner others found.outline found.listed);
          same = found.same;
        };
  }

  itself : IsHeldFrom s.path (o ∷ (inner ++ others)) o
  itself = record {
    rest = step ∷ [];
    below = p;
    held = λ outer behind some e. record {
      outline = o;
      listed = in_front o (inner ++ others);
      same = p ∙ ap (λ (l : List DeclarationStep). s.path ++ l) (one-step step outer behind some e);
    };
  }

held-in : {s : Surrounding} {outlines : List Outline} → AreIn s outlines
    → AllByRecursion (IsHeldFrom s.path outlines) outlines
held-in none = tt
held-in {s} (node step {o = o} {inner = inner} {others = others} p n i h) = (
  itself s step o inner others p,
  each-append (IsHeldFrom s.path (o ∷ (inner ++ others))) inner others
      (each-weaker _ _ (deeper s step o inner others p) inner (held-in i))
      (each-weaker _ _ (wider s step o inner others p) others (held-in h)),
)

-- ---- from outlines to declarations

identifier-some : (name : List ℕ) → Spells Identifier name → name ≢ []
identifier-some name (identifier h t) e = cc
identifier-some name (sign h) e = cc

names-some : (names : List (List ℕ)) → AllByRecursion (Spells Identifier) names → AreSome names
names-some [] h = tt
names-some (x ∷ xs) h = (identifier-some x h.0, names-some xs h.1)

steps-some : (path : List DeclarationStep) → AllByRecursion (λ step. Spells Identifier step.name) path
    → StepsAreSome path
steps-some [] h = tt
steps-some (x ∷ xs) h = (identifier-some x.name h.0, steps-some xs h.1)

component-names : (text : List ℕ) (spans : List Span)
    → component_names (components_at text spans) ≡ map (part_of text) spans
component-names text [] = refl
component-names text (span ∷ spans) = ap (λ (l : List (List ℕ)). part_of text span ∷ l) (component-names text spans)

module _ (form : CommentForm) (lexed : Lexed) where
  named-outlines : (outlines : List Outline) (declarations : List Declaration)
      → AllZip (IsDeclaration form lexed) outlines declarations
      → AllByRecursion (λ d. All (λ step. Spells Identifier step.name) d.path) declarations
      → AllByRecursion (λ o. StepsAreSome o.path) outlines
  named-outlines [] [] z h = tt
  named-outlines [] (d ∷ ds) z h = absurd z
  named-outlines (o ∷ os) [] z h = absurd z
  named-outlines (o ∷ os) (d ∷ ds) z h = (
    subst StepsAreSome z.0.path
        (steps-some d.path (recursion_from_All (λ step. Spells Identifier step.name) d.path h.0)),
    named-outlines os ds z.1 h.1,
  )

  named-declarations : (components : List (List ℕ)) (outlines : List Outline) (declarations : List Declaration)
      → AllZip (IsDeclaration form lexed) outlines declarations
      → AllByRecursion (IsNamedFrom components) outlines
      → AllByRecursion (λ d. d.full_name ≡ dotted (components ++ names_of d.path)) declarations
  named-declarations components [] [] z h = tt
  named-declarations components [] (d ∷ ds) z h = absurd z
  named-declarations components (o ∷ os) [] z h = absurd z
  named-declarations components (o ∷ os) (d ∷ ds) z h = (
    z.0.full_name ∙ (h.0 ∙ ap (λ (l : List DeclarationStep). dotted (components ++ names_of l)) (sym z.0.path)),
    named-declarations components os ds z.1 h.1,
  )

  record Stands (declarations : List Declaration) (path : List DeclarationStep) : Type 0 where
    found : Declaration
    listed : Contains declarations found
    same : found.path ≡ path

  stands : (outlines : List Outline) (declarations : List Declaration)
      → AllZip (IsDeclaration form lexed) outlines declarations
      → AllByRecursion (λ o. Stands declarations o.path) outlines
  stands [] ds z = tt
  stands (o ∷ os) [] z = absurd z
  stands (o ∷ os) (d ∷ ds) z = (
    record { found = d; listed = in_front d ds; same = z.0.path },
    each-weaker (λ x. Stands ds x.path) (λ x. Stands (d ∷ ds) x.path)
        (λ x h. record { found = h.found; listed = behind_it d ds h.found h.listed; same = h.same }) os
        (stands os ds z.1),
  )

  held-declarations : (all : List Outline) (outlines : List Outline) (declarations : List Declaration)
      → AllZip (IsDeclaration form lexed) outlines declarations
      → AllByRecursion (IsHeldFrom [] all) outlines
      → AllByRecursion (λ d. (outer inner : List DeclarationStep) → outer ≢ [] → d.path ≡ outer ++ inner
      → Leads all outer) declarations
  held-declarations all [] [] z h = tt
  held-declarations all [] (d ∷ ds) z h = absurd z
  held-declarations all (o ∷ os) [] z h = absurd z
  held-declarations all (o ∷ os) (d ∷ ds) z h = (
    (λ outer inner some e. h.0.held outer inner some (sym h.0.below ∙ (sym z.0.path ∙ e))),
    held-declarations all os ds z.1 h.1,
  )

pub declarations-held : (form : FactForm) (number : ℕ) (lexed : Lexed) (file : File) (facts : Facts)
    → AreFactsOf form number lexed file facts
    → AreNamed facts.package_name facts.declarations → AreHeld facts.package_name facts.declarations
declarations-held form number lexed file facts are named =
    let text = lexed.text in
    let s = file_surrounding text file in
    let all : List Outline = outlines_of text file in
    let components : List (List ℕ) = component_names facts.package_name in
    let tree : AreIn s all = subst (AreIn s) (outlines_are text s file.items) (items-in text s file.items) in
    let some : AreSome components =
    names-some components (recursion_from_All (Spells Identifier) components named.of_components) in
    let same : components ≡ map (part_of text) (package_spans file.package_name) =
    ap component_names are.package_name ∙ component-names text (package_spans file.package_name) in
    let scope : s.scope ≡ dotted (components ++ []) = ap dotted (sym (append-nil components ∙ same)) in
    let steps = recursion_from_All
    (λ (d : Declaration). All (λ step. Spells Identifier step.name) d.path) facts.declarations named.of_steps in
    let full = named-in components some tree tt scope
    (named-outlines form.comments lexed all facts.declarations are.declarations steps) in
    let held = held-declarations form.comments lexed all all facts.declarations are.declarations (held-in tree) in
    record {
      holder = λ d outer inner has e more.
          let leads = All-contains
          (λ (x : Declaration). (outer inner : List DeclarationStep) → outer ≢ [] → x.path ≡ outer ++ inner
          → Leads all outer) facts.declarations d
          (All-from_recursion _ facts.declarations held) has outer inner more e in
          let comments = form.comments in
          let stand = All-contains (λ (x : Outline). Stands comments lexed facts.declarations x.path) all leads.outline
          (All-from_recursion _ all (stands comments lexed all facts.declarations are.declarations)) leads.listed in
          (stand.found, stand.listed, stand.same ∙ leads.same);
      full_names = All-from_recursion _ facts.declarations
          (named-declarations form.comments lexed components all facts.declarations are.declarations full);
    }
