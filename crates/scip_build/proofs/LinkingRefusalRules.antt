-- What a stage may refuse, for functions that refuse.
use Rattle.proto_visibility.specs.Linked.MayRefuse.{broken_file, lacks_memory}
use Rattle.scip_build.specs.ParsedFiles.MayRefuseFiles.{files_lack_thread, files_lack_memory}
use Rattle.scip_build.specs.Linking.MayRefuseParsed.{linking_lacks_memory, is_unread, is_duplicate, is_missing}
use Rattle.scip_build.specs.Documents.MayRefuseDocuments.{documents_lack_thread, documents_lack_memory}
use Rattle.scip_build.specs.Documents.MayRefuseLinked.{linked_lack_memory}
use Rattle.scip_build.specs.Making.MayRefuseSkipping.{skipping_lacks_thread, skipping_lacks_memory}

pub ruleset of_files = (files_lack_thread, files_lack_memory)

pub ruleset of_linker = (broken_file, lacks_memory)

pub ruleset of_linking = (linking_lacks_memory, is_unread, is_duplicate, is_missing)

pub ruleset of_documents = (documents_lack_thread, documents_lack_memory)

pub ruleset of_linked = (linked_lack_memory)

pub ruleset of_skipping = (skipping_lacks_thread, skipping_lacks_memory)
