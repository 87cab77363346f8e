-- What is read of a file beside its facts.
use Rattle.std.proofs.Common.{◌≡◌, ◌∙◌, Bool, true, ℕ, Option, List, [], ◌∷◌, map, ap, refl, subst, sym}
use Rattle.std.proofs.lemmas.Bool.{false≢true}
use Rattle.proto_lex.specs.declared.span.Span.{Span}
use Rattle.proto_lex.specs.declared.token.Token.{Token}
use Rattle.proto_lex.specs.declared.hashes.Hashes.{Hashes}
use Rattle.proto_lex.specs.Lexed.{IsLexed, Lexed, part_of}
use Rattle.proto_lex.specs.Lexes.{LexesWith}
use Rattle.proto_lex.specs.Text.{IsText}
use Rattle.proto_parse.specs.dialect.Dialect.{Dialect}
use Rattle.proto_parse.specs.dialect.Dialect.TheVariants.{Proto3, All}
use Rattle.proto_parse.specs.Syntax.{hashes_in}
use Rattle.proto_parse.specs.tree.File.{File}
use Rattle.proto_parse.specs.Derives.{Derives}
use Rattle.proto_decl.specs.Declares.{package_scope, package_spans}
use Rattle.proto_decl.specs.Names.{components_at, dotted}
use Rattle.proto_decl.specs.declared.uses.Component.{Component}
use Rattle.scip_build.specs.Parsed.{asks_options, HasLexing, IsBesideIf}
use Rattle.option_link.specs.declared.facts.OptionFacts.{OptionFacts}

-- if names in options are linked, the dialect is that of all sources
pub derives_all : (dialect : Dialect) (options : Bool) → asks_options dialect options ≡ true → (text : List ℕ)
    (tokens : List Token) (tree : File) → Derives dialect text tokens tree → Derives All text tokens tree
derives_all (Proto3 custom) options asked text tokens tree derives = absurd (false≢true asked)
derives_all All options asked text tokens tree derives = derives

lexing_all : (dialect : Dialect) (options : Bool) → asks_options dialect options ≡ true → (bytes : List ℕ)
    (lexed : Lexed) → HasLexing dialect bytes lexed → HasLexing All bytes lexed
lexing_all (Proto3 custom) options asked bytes lexed has = absurd (false≢true asked)
lexing_all All options asked bytes lexed has = has

-- the lexing of a text, where a `#` begins a comment as the dialect has it
pub lexing_in : (dialect : Dialect) (hashes : Hashes) (bytes : List ℕ) (lexed : Lexed) → hashes ≡ hashes_in dialect
    → IsText bytes → lexed.text ≡ bytes → LexesWith hashes bytes lexed.tokens lexed.comments
    → IsLexed lexed.text lexed.tokens lexed.comments → HasLexing dialect bytes lexed
lexing_in dialect hashes bytes lexed is text of_bytes lexes is_lexed = record {
  text = text;
  of_bytes = of_bytes;
  lexes = subst (λ h. LexesWith h bytes lexed.tokens lexed.comments) is lexes;
  is_lexed = is_lexed;
}

-- so what is known beside a file's facts is that of its lexing
pub beside_from : (dialect : Dialect) (options asked is_included : Bool) (bytes : List ℕ) (lexed : Lexed)
    (beside : Option OptionFacts) → asked ≡ asks_options dialect options
    → ((bytes : List ℕ) → (asked ≡ true → HasLexing All bytes lexed) → IsBesideIf asked bytes is_included beside)
    → HasLexing dialect bytes lexed → IsBesideIf (asks_options dialect options) bytes is_included beside
beside_from dialect options asked is_included bytes lexed beside is given has =
    subst (λ flag. IsBesideIf flag bytes is_included beside) is
    (given bytes (λ yes. lexing_all dialect options (sym is ∙ yes) bytes lexed has))

names_at : (text : List ℕ) (spans : List Span)
    → map (λ (component : Component). component.name) (components_at text spans) ≡ map (part_of text) spans
names_at text [] = refl
names_at text (span ∷ spans) = ap (λ names. part_of text span ∷ names) (names_at text spans)

-- the names of the components of a file's package, joined by dots, are its full name
pub package_of_names : (text : List ℕ) (tree : File) (components : List Component)
    → components ≡ components_at text (package_spans tree.package_name)
    → dotted (map (λ (component : Component). component.name) components) ≡ package_scope text tree
package_of_names text tree components are =
    ap (λ (cs : List Component). dotted (map (λ (component : Component). component.name) cs)) are
    ∙ ap dotted (names_at text (package_spans tree.package_name))
