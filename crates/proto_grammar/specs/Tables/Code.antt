-- A code of blocks, by which their values are told apart: two are equal where their codes are.
use Rattle.std.specs.Prelude.{◌≡◌, refl}
use Rattle.std.specs.Coded.{Coded, code_by, coded×}
use Rattle.std.proofs.Common.{ap}
use base.Stored.{Gv, gnil, gnum, gcons}
use Rattle.proto_grammar.specs.contracts.tree.Leaf as leaves
use Rattle.proto_grammar.specs.contracts.tree.Head as heads
use Rattle.proto_grammar.specs.declared.tree.Head.{Head}
use Rattle.proto_grammar.specs.Tree.{Body, BlockTree}
use Rattle.proto_grammar.specs.Tree.Body.{NoMore, LeafThen, BlockThen}

abbrev first : Gv → Gv
first gnil = gnil
first (gnum n) = gnil
first (gcons a b) = a

abbrev rest : Gv → Gv
rest gnil = gnil
rest (gnum n) = gnil
rest (gcons a b) = b

abbrev pub code_of : Body → Gv
code_of NoMore = gnil
code_of (LeafThen leaf others) = gcons (gnum 0) (gcons (leaves.the_row.coded.code leaf) (code_of others))
code_of (BlockThen head inner others) =
    gcons (gnum 1) (gcons (heads.the_row.coded.code head) (gcons (code_of inner) (code_of others)))

pub same_body : (a b : Body) → code_of a ≡ code_of b → a ≡ b
same_body NoMore NoMore e = refl
same_body NoMore (LeafThen leaf others) e = absurd cc
same_body NoMore (BlockThen head inner others) e = absurd cc
same_body (LeafThen leaf others) NoMore e = absurd cc
same_body (LeafThen leaf others) (LeafThen other rests) e =
    let one : leaf ≡ other = leaves.the_row.coded.inj leaf other (ap (λ g. first (rest g)) e) in
    let all : others ≡ rests = same_body others rests (ap (λ g. rest (rest g)) e) in
    cc
same_body (LeafThen leaf others) (BlockThen head inner rests) e = absurd cc
same_body (BlockThen head inner others) NoMore e = absurd cc
same_body (BlockThen head inner others) (LeafThen leaf rests) e = absurd cc
same_body (BlockThen head inner others) (BlockThen other inside rests) e =
    let one : head ≡ other = heads.the_row.coded.inj head other (ap (λ g. first (rest g)) e) in
    let within : inner ≡ inside = same_body inner inside (ap (λ g. first (rest (rest g))) e) in
    let all : others ≡ rests = same_body others rests (ap (λ g. rest (rest (rest g))) e) in
    cc

abbrev pub body_code : Coded Body
body_code = record { code = code_of; inj = same_body }

abbrev pub block_code : Coded BlockTree
block_code =
    code_by (Head × Body) (coded× heads.the_row.coded body_code) (λ b. (b.head, b.body))
    (λ p. record { head = p.0; body = p.1 }) (λ _. refl)
