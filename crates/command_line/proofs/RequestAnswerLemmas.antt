-- What the answers of `clap` ask for.
use Rattle.std.proofs.Common.{◌≡◌, ◌≢◌, Bool, List, [], ◌∷◌, inl, inr, true, refl, Option}
use Rattle.clap.specs.Words.{HasKind, Kinds, Row, Text, is_simple, is_simple_and_free, kind_of}
use Rattle.clap.specs.declared.error.Error.{Error}
use Rattle.clap.specs.declared.error.kind.ErrorKind.TheVariants as kind
use Rattle.clap.proofs.OnLiterals.{clap_on_literals}
use Rattle.command_line.specs.Program.{command_line}
use Rattle.command_line.specs.Requests.{IsRefused, Prints}
use Rattle.command_line.specs.Asks.{AsksBy, AsksFor, is_unfit}
use Rattle.command_line.specs.declared.options.WordLists.{WordLists}
use Rattle.command_line.specs.declared.request.Request.{Request}
use Rattle.command_line.specs.declared.request.Request.TheVariants as request

pub command_line_is_simple : (lists : WordLists) → is_simple_and_free (command_line lists) ≡ true
unfolding clap_on_literals
command_line_is_simple lists = refl

pub command_line_is_walked : (lists : WordLists) → is_simple (command_line lists) ≡ true
unfolding clap_on_literals
command_line_is_walked lists = refl

-- words without a fault ask for the program that they name, if nothing is unfit
pub asks_program : (on_terminal : Bool) (kinds : Kinds) (program : Option (Text × List Row)) (r : Request) → kinds ≡ []
    → AsksFor on_terminal (is_unfit program) program r → AsksBy on_terminal kinds program r
asks_program on_terminal [] program r e names = names
asks_program on_terminal (k ∷ ks) program r e names = absurd cc

-- words with a fault ask for what its answer is
pub asks_answer : (on_terminal : Bool) (kinds : Kinds) (program : Option (Text × List Row)) (e : Error) (r : Request)
    → HasKind kinds e → (kind_of e ≢ kind.OutOfMemory) × Prints (kind_of e) r → AsksBy on_terminal kinds program r
asks_answer on_terminal [] program e r (inl memory) p = absurd (p.0 memory)
asks_answer on_terminal [] program e r (inr among) p = absurd among
asks_answer on_terminal (k ∷ ks) program e r (inl memory) p = absurd (p.0 memory)
asks_answer on_terminal (k ∷ ks) program e r (inr among) p = (kind_of e, among, p.1)

-- an answer that is neither help nor the version is a refusal
pub refuses : (r : Request) → Prints kind.ValueValidation r → IsRefused r
refuses (request.Dump options) p = absurd p
refuses (request.Query options) p = absurd p
refuses (request.Ask options) p = absurd p
refuses (request.Snapshot options) p = absurd p
refuses (request.Pages options) p = absurd p
refuses (request.Join options) p = absurd p
refuses (request.Index given) p = absurd p
refuses (request.Shell given) p = absurd p
refuses (request.Print text) (inl help) = absurd cc
refuses (request.Print text) (inr version) = absurd cc
refuses (request.Refuse text) p = tt
