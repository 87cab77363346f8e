-- The grammar of symbols (`scip.proto`, the comment of `Symbol`), production by production: a text spells a part.
use Rattle.std.specs.Prelude.{◌≡◌, ◌≢◌, ℕ, true, List, [], ◌∷◌, ◌++◌, codes}
use Rattle.std.specs.List.{list_all}
use Rattle.scip_symbol.specs.Names.{is_identifier_character, is_simple_identifier, doubled, space, backtick}
use Rattle.scip_symbol.specs.Parts.{IsScheme, IsPart}
use Rattle.scip_symbol.specs.declared.symbol.Suffix.{Suffix}
use Rattle.scip_symbol.specs.declared.symbol.Suffix.TheVariants as suffix
use Rattle.scip_symbol.specs.declared.symbol.Descriptor.{Descriptor}
use Rattle.scip_symbol.specs.declared.symbol.GlobalSymbol.{GlobalSymbol}
use Rattle.scip_symbol.specs.declared.symbol.SymbolParts.{SymbolParts}
use Rattle.scip_symbol.specs.declared.symbol.SymbolParts.TheVariants.{Local, Global}

-- <scheme>: "any UTF-8, escape spaces with double space"
pub data SpellsScheme : (text scheme : List ℕ) → Type 0 where
  scheme : {scheme : List ℕ} → IsScheme scheme → SpellsScheme (doubled space scheme) scheme

-- <manager>, <package-name> and <version>: "same as above, use the placeholder '.' to indicate an empty value"
pub data SpellsPart : (text part : List ℕ) → Type 0 where
  empty : SpellsPart (codes ".") []
  part : {b : ℕ} {others : List ℕ} → IsPart (b ∷ others) → SpellsPart (doubled space (b ∷ others)) (b ∷ others)

-- <identifier> ::= <simple-identifier> | '`' (<escaped-character>)+ '`', where an escaped character is "any UTF-8,
-- escape backticks with double backtick"
pub data SpellsName : (text name : List ℕ) → Type 0 where
  simple : {name : List ℕ} → is_simple_identifier name ≡ true → SpellsName name name
  quoted : {name : List ℕ} → name ≢ [] → SpellsName (codes "`" ++ doubled backtick name ++ codes "`") name

abbrev pub descriptor : (name : List ℕ) → Suffix → Descriptor
descriptor name suffix = record { name = name; suffix = suffix }

pub data SpellsDescriptor : (text : List ℕ) → Descriptor → Type 0 where
  -- <namespace> ::= <name> '/'
  namespace : {word name : List ℕ} → SpellsName word name
      → SpellsDescriptor (word ++ codes "/") (descriptor name suffix.Namespace)
  -- <type> ::= <name> '#'
  type_ : {word name : List ℕ} → SpellsName word name
      → SpellsDescriptor (word ++ codes "#") (descriptor name suffix.«Type»)
  -- <term> ::= <name> '.'
  term : {word name : List ℕ} → SpellsName word name
      → SpellsDescriptor (word ++ codes ".") (descriptor name suffix.Term)
  -- <meta> ::= <name> ':'
  meta : {word name : List ℕ} → SpellsName word name
      → SpellsDescriptor (word ++ codes ":") (descriptor name suffix.Meta)
  -- <macro> ::= <name> '!'
  macro : {word name : List ℕ} → SpellsName word name
      → SpellsDescriptor (word ++ codes "!") (descriptor name suffix.Macro)
  -- <method> ::= <name> '(' (<method-disambiguator>)? ').', where a disambiguator is a simple identifier
  method : {word name disambiguator : List ℕ} → SpellsName word name
      → list_all is_identifier_character disambiguator ≡ true
      → SpellsDescriptor (word ++ codes "(" ++ disambiguator ++ codes ").")
      (descriptor name (suffix.Method disambiguator))
  -- <type-parameter> ::= '[' <name> ']'
  type_parameter : {word name : List ℕ} → SpellsName word name
      → SpellsDescriptor (codes "[" ++ word ++ codes "]") (descriptor name suffix.TypeParameter)
  -- <parameter> ::= '(' <name> ')'
  parameter : {word name : List ℕ} → SpellsName word name
      → SpellsDescriptor (codes "(" ++ word ++ codes ")") (descriptor name suffix.Parameter)

-- (<descriptor>)+
pub data SpellsDescriptors : (text : List ℕ) → List Descriptor → Type 0 where
  last : {word : List ℕ} {d : Descriptor} → SpellsDescriptor word d → SpellsDescriptors word (d ∷ [])
  more : {word words : List ℕ} {d : Descriptor} {others : List Descriptor}
      → SpellsDescriptor word d → SpellsDescriptors words others → SpellsDescriptors (word ++ words) (d ∷ others)

-- <symbol> ::= <scheme> ' ' <package> ' ' (<descriptor>)+ | 'local ' <local-id>, where <package> ::= <manager> ' '
-- <package-name> ' ' <version> and <local-id> ::= <simple-identifier>
pub data SpellsSymbol : (text : List ℕ) → SymbolParts → Type 0 where
  local : {name : List ℕ} → is_simple_identifier name ≡ true → SpellsSymbol (codes "local " ++ name) (Local name)
  global : {scheme manager name version descriptors : List ℕ} {s : GlobalSymbol}
      → SpellsScheme scheme s.scheme → SpellsPart manager s.manager → SpellsPart name s.name
      → SpellsPart version s.version
      → SpellsDescriptors descriptors s.descriptors
      → SpellsSymbol (scheme ++ codes " " ++ manager ++ codes " " ++ name ++ codes " " ++ version ++ codes " "
      ++ descriptors) (Global s)
