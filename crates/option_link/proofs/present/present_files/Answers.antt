use Rattle.proto_visibility.specs.Files.{IsPresent}
use Rattle.option_link.proofs.ToldLemmas.{tells_none, tells_more}
use Rattle.option_link.proofs.present.present_files.Goals as goal

pub loop-file-init : goal.loop-file-init
loop-file-init c = tells_none (IsPresent c.args.linker.now) c.new-told.result.items c.new-told.ensures.items

pub loop-file-preserved : goal.loop-file-preserved
loop-file-preserved c =
    tells_more (IsPresent c.args.linker.now) c.loop-file.file c.loop-file.told.items c.push.new.self.items
    c.is_present-is.result c.is_present-is.ensures c.in_ok-push.ensures.items c.loop-file.invariant
