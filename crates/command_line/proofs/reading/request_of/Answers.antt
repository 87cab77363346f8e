use Rattle.std.proofs.Common.{◌∙◌, ap, ap₂, sym, subst, map, string_bytes, List, Option}
use Rattle.std.proofs.lemmas.Result.{IfOk-weaker}
use Rattle.clap.specs.Words.{Kinds, HasKind, Row, Text, fault_of, is_simple, is_simple_and_free, subcommand_of}
use Rattle.command_line.specs.Asks.{AsksFor, is_unfit}
use Rattle.command_line.proofs.RequestAnswerLemmas.{asks_answer, asks_program, command_line_is_simple}
use Rattle.command_line.proofs.RequestAnswerLemmas.{command_line_is_walked}
use Rattle.command_line.proofs.reading.request_of.Goals as goal

pub returns-in-Ok : goal.returns-in-Ok
returns-in-Ok c =
    let lists = c.new-lists.result in
    let is_line = c.in_ok-program.ensures in
    let words = ap (map string_bytes) c.as_slice.ensures.value in
    let none = c.in-Ok.ensures.kinds (ap is_simple_and_free is_line ∙ command_line_is_simple lists) in
    let same = ap₂ fault_of is_line words in
    let rows = c.in-Ok.ensures.matches (ap is_simple is_line ∙ command_line_is_walked lists) in
    let program = rows.1 ∙ ap₂ subcommand_of is_line words in
    IfOk-weaker c.asked.result _ _
    (λ r names. (
      lists,
      c.new-lists.ensures,
      asks_program c.args.on_terminal _ _ r (sym same ∙ none)
          (subst (λ (p : Option (Text × List Row)). AsksFor c.args.on_terminal (is_unfit p) p r) program names),
    ))
    c.asked.ensures

pub returns-in-Err : goal.returns-in-Err
returns-in-Err c =
    let lists = c.new-lists.result in
    let is_line = c.in_ok-program.ensures in
    let some = c.in-Err.ensures.kinds (ap is_simple_and_free is_line ∙ command_line_is_simple lists) in
    let same = ap₂ fault_of is_line (ap (map string_bytes) c.as_slice.ensures.value) in
    IfOk-weaker c.answer.result _ _
    (λ r p. (
      lists,
      c.new-lists.ensures,
      asks_answer c.args.on_terminal _ _ c.in-Err.error r
          (subst (λ (ks : Kinds). HasKind ks c.in-Err.error) same some) p,
    ))
    c.answer.ensures
