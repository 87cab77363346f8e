use Rattle.std.proofs.Common.{◌≡◌, ◌⊎◌, IfErr, ap, subst}
use Rattle.proto_grammar.specs.Lexeme.{Place, lexemes_of, start_of}
use Rattle.proto_grammar.specs.declared.fault.SyntaxFault.TheVariants.{Memory}
use Rattle.proto_parse.specs.Refused.{IsRefused}
use Rattle.proto_parse.proofs.RefusedFileLemmas.{given_found, given_exact, given_refused}
use Rattle.proto_parse.proofs.parsing.parse_with.Goals as goal

pub returns-clause-found : goal.returns-clause-found
returns-clause-found c =
    let left : c.new.result.left ≡ lexemes_of c.args.tokens.now.text c.args.tokens.now.tokens =
    ap (λ (place : Place). place.left) c.new.ensures in
    rw (← left) (given_found c.args.dialect c.new.result c.file.new.parser _ c.file.ensures)

pub returns-clause-only : goal.returns-clause-only
returns-clause-only c =
    let left : c.new.result.left ≡ lexemes_of c.args.tokens.now.text c.args.tokens.now.tokens =
    ap (λ (place : Place). place.left) c.new.ensures in
    rw (← left) (given_exact c.args.dialect c.new.result c.file.new.parser _ c.file.ensures)

pub returns-clause-fault : goal.returns-clause-fault
returns-clause-fault c =
    let start : c.new.result ≡ start_of c.args.tokens.now.text c.args.tokens.now.tokens = c.new.ensures in
    subst (λ (place : Place). IfErr c.file.result
    (λ fault. (fault ≡ Memory) ⊎ IsRefused c.args.dialect place.left place.end fault)) start
    (given_refused c.args.dialect c.new.result c.file.new.parser _ c.file.ensures)
