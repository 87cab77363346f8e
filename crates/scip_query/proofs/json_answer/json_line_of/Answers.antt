use Rattle.std.specs.String.{string_bytes}
use Rattle.scip_query.proofs.json_answer.json_line_of.Goals as goal

pub returns-clause-reads_back : goal.returns-clause-reads_back
returns-clause-reads_back c = λ shallow.
    (string_bytes c.in_ok-text.text, c.in_ok-push_str.ensures.bytes, c.in_ok-text.ensures.reads_back shallow)
