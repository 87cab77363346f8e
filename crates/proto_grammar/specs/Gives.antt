-- What a step of the parser gives, beside what can be read from the tokens.
use Rattle.std.specs.Prelude.{◌≡◌, Result, Ok, Err}
use Rattle.proto_grammar.specs.declared.dialect.CustomOptions.{CustomOptions}
use Rattle.proto_grammar.specs.declared.dialect.CustomOptions.TheVariants.{Refuse}
use Rattle.proto_grammar.specs.declared.fault.SyntaxFault.{SyntaxFault}
use Rattle.proto_grammar.specs.declared.fault.SyntaxFault.TheVariants.{CustomOption, Aggregate, Extend, Memory}

-- A fault is the one that reading meets, and one of custom options only if they are refused. Lack of memory says
-- nothing about the text.
abbrev pub Fails : {Y : Type 0} → CustomOptions → SyntaxFault → Result Y SyntaxFault → Type 0
Fails custom (CustomOption offset) read = (custom ≡ Refuse) × (read ≡ Err (CustomOption offset))
Fails custom (Aggregate offset) read = (custom ≡ Refuse) × (read ≡ Err (Aggregate offset))
Fails custom (Extend offset) read = (custom ≡ Refuse) × (read ≡ Err (Extend offset))
Fails custom Memory read = Unit {0}
Fails custom fault read = read ≡ Err fault

-- The result shows what is read, and the place behind it. A step that has no choice of what is done with custom
-- options gives what it gives if they are read past.
abbrev pub Gives : {X Y R : Type 0} → CustomOptions → (X → Y) → R → Result X SyntaxFault
    → Result (Y × R) SyntaxFault → Type 0
Gives custom shown rest (Ok x) read = read ≡ Ok (shown x, rest)
Gives custom shown rest (Err fault) read = Fails custom fault read
