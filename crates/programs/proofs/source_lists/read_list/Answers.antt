use Rattle.std.proofs.Common.{[], List, Err, refl, subst, ℕ}
use Rattle.streams.specs.Readers.{reading}
use Rattle.streams.specs.Writers.{writing}
use Rattle.programs.specs.Messages.{TellsOne}
use Rattle.programs.specs.SourceLists.{IsListTold, Lists, said_of}
use Rattle.programs.proofs.source_lists.read_list.Goals as goal

pub returns-in-Ok-clause-read : goal.returns-in-Ok-clause-read
returns-in-Ok-clause-read g c = (
  rw c.in-Some.is (record {
    listed = c.in-Ok.listed.items;
    lists = rw c.as_str-file.ensures.value at c.in-Ok.ensures.ok;
    read = (
      record { file = c.in-Some.list.file; listed = c.in-Ok.listed },
      c.fill_list.ensures c.in-Some.list c.in-Some.is,
      refl,
      refl,
    );
  }),
  refl,
)

pub returns-in-Err-clause-refused : goal.returns-in-Err-clause-refused
returns-in-Err-clause-refused g c =
    let fault = c.in-Err.fault in
    let messages = writing g.M.Sink c.args.messages.now c.say_no_list.new.messages in
    let Refuses : List ℕ → Type 0 = λ file.
    Lists (g.F.ReadFiles.gives c.args.files.now) (reading g.I.Feed c.args.input.now c.list_of.new.input) file
    (Err fault) in
    let Says : List ℕ → Type 0 = λ file.
    TellsOne (IsListTold (g.F.LookAgain.blames c.args.files.now [] []) c.args.options.now.explain file fault)
    (said_of fault).status messages c.say_no_list.result in
    record {
      list = c.in-Some.list;
      asked = c.in-Some.is;
      fault = fault;
      refused = subst Refuses c.as_str-file.ensures.value c.in-Err.ensures.err;
      said = subst Says c.as_str-file.ensures.value c.say_no_list.ensures;
    }
