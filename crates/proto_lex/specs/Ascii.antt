-- The bytes that the grammar of proto3 names, in ASCII, and last those of a byte order mark.
use Rattle.std.specs.Prelude.{ℕ}

abbrev pub nul : ℕ
nul = 0

abbrev pub tab : ℕ
tab = 9

abbrev pub line_feed : ℕ
line_feed = 10

abbrev pub carriage_return : ℕ
carriage_return = 13

abbrev pub space : ℕ
space = 32

abbrev pub double_quote : ℕ
double_quote = 34

abbrev pub hash : ℕ
hash = 35

abbrev pub single_quote : ℕ
single_quote = 39

abbrev pub open_parenthesis : ℕ
open_parenthesis = 40

abbrev pub close_parenthesis : ℕ
close_parenthesis = 41

abbrev pub star : ℕ
star = 42

abbrev pub plus : ℕ
plus = 43

abbrev pub comma : ℕ
comma = 44

abbrev pub minus : ℕ
minus = 45

abbrev pub dot : ℕ
dot = 46

abbrev pub slash : ℕ
slash = 47

abbrev pub zero : ℕ
zero = 48

abbrev pub one : ℕ
one = 49

abbrev pub seven : ℕ
seven = 55

abbrev pub nine : ℕ
nine = 57

abbrev pub colon : ℕ
colon = 58

abbrev pub semicolon : ℕ
semicolon = 59

abbrev pub less : ℕ
less = 60

abbrev pub equals : ℕ
equals = 61

abbrev pub greater : ℕ
greater = 62

abbrev pub upper_a : ℕ
upper_a = 65

abbrev pub upper_e : ℕ
upper_e = 69

abbrev pub upper_f : ℕ
upper_f = 70

abbrev pub upper_u : ℕ
upper_u = 85

abbrev pub upper_x : ℕ
upper_x = 88

abbrev pub upper_z : ℕ
upper_z = 90

abbrev pub open_bracket : ℕ
open_bracket = 91

abbrev pub backslash : ℕ
backslash = 92

abbrev pub close_bracket : ℕ
close_bracket = 93

abbrev pub underscore : ℕ
underscore = 95

abbrev pub lower_a : ℕ
lower_a = 97

abbrev pub lower_e : ℕ
lower_e = 101

abbrev pub lower_f : ℕ
lower_f = 102

abbrev pub lower_u : ℕ
lower_u = 117

abbrev pub lower_x : ℕ
lower_x = 120

abbrev pub lower_z : ℕ
lower_z = 122

abbrev pub open_brace : ℕ
open_brace = 123

abbrev pub close_brace : ℕ
close_brace = 125

abbrev pub delete : ℕ
delete = 127

-- the byte order mark: U+FEFF in UTF-8
abbrev pub mark_first : ℕ
mark_first = 239

abbrev pub mark_second : ℕ
mark_second = 187

abbrev pub mark_third : ℕ
mark_third = 191
