-- What a rule of a log says of the faults with its name. (The texts are this project's own.)
use Rattle.std.specs.Prelude.{ℕ, cond, List, codes}
use Rattle.std.specs.Str.{bytes_eq}

-- of faults of a source among others; of all other faults that a run stops for it
abbrev pub tree_text : List ℕ → List ℕ
tree_text name =
    cond (bytes_eq name (codes "Duplicate"))
    (codes "Two declarations have one full name. With --duplicates keep each is kept for the files that see it.")
    (cond (bytes_eq name (codes "MissingImport"))
    (codes "An import names a file that is not below ROOT, and in no folder that --include names.")
    (cond (bytes_eq name (codes "Unresolved"))
    (codes "A use of a type names none that its source sees, by the scoping rules.")
    (cond (bytes_eq name (codes "Ambiguous"))
    (codes "A use of a type names one that several files declare which its source sees.")
    (cond (bytes_eq name (codes "Option"))
    (codes "A name in an option names nothing that may stand there.")
    (cond (bytes_eq name (codes "Uncertain"))
    (codes "A name may mean another declaration, of a file that cannot be read.")
    (cond (bytes_eq name (codes "Unreadable"))
    (codes "A file or folder cannot be read.")
    (cond (bytes_eq name (codes "BadPath"))
    (codes "A path is too long, not UTF-8, or no path of a document.")
    (codes "A run stops for it, and no index is made."))))))))

-- of faults of a source's syntax
abbrev pub grammar_text : List ℕ → List ℕ
grammar_text name =
    cond (bytes_eq name (codes "Grammar"))
    (codes "The source is not in the grammar of its syntax: at this place another token has to stand.")
    (cond (bytes_eq name (codes "NotProto3"))
    (codes "A source begins with syntax = \"proto3\"; with --accept all it may be proto2. Editions are not read.")
    (cond (bytes_eq name (codes "CustomOption"))
    (codes "Options with parentheses are refused by default; --accept all and --custom-options skip take them.")
    (cond (bytes_eq name (codes "Aggregate"))
    (codes "Option values in braces are refused by default; --accept all and --custom-options skip take them.")
    (cond (bytes_eq name (codes "Extend"))
    (codes "Extensions are refused by default; --accept all reads them, and --custom-options skip reads past them.")
    (cond (bytes_eq name (codes "TwoPackages"))
    (codes "A source has one package statement at most.")
    (cond (bytes_eq name (codes "ImportEscape"))
    (codes "The path of an import is written without escapes.")
    (cond (bytes_eq name (codes "TooDeep"))
    (codes "Messages and groups nest at most 64 deep.")
    (tree_text name))))))))

-- of faults of a source's characters and tokens
abbrev pub lexing_text : List ℕ → List ℕ
lexing_text name =
    cond (bytes_eq name (codes "TooLong"))
    (codes "A source has at most 67108864 bytes.")
    (cond (bytes_eq name (codes "NotUtf8"))
    (codes "A source is UTF-8. With --accept all, comments need not be.")
    (cond (bytes_eq name (codes "BadByte"))
    (codes "A character stands where no token of the grammar has it.")
    (cond (bytes_eq name (codes "OpenString"))
    (codes "A string ends on the line on which it begins.")
    (cond (bytes_eq name (codes "OpenComment"))
    (codes "A comment that begins with /* ends with */.")
    (cond (bytes_eq name (codes "BadEscape"))
    (codes "A backslash in a string begins one of the escapes of the grammar.")
    (cond (bytes_eq name (codes "BadNumber"))
    (codes "A run of letters and digits that begins with a digit is a number.")
    (grammar_text name)))))))
