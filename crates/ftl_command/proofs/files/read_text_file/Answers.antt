use Rattle.std.proofs.Common.{[], rules}
use Rattle.ftl_command.proofs.FaultLemmas.{Reaches-first, not_text}
use Rattle.ftl_command.proofs.files.read_text_file.Goals as goal

pub returns-in-Err-Unreadable-clause-fault : goal.returns-in-Err-Unreadable-clause-fault
returns-in-Err-Unreadable-clause-fault g c = search (rules, Reaches-first)

pub returns-in-Err-clause-fault : goal.returns-in-Err-clause-fault
returns-in-Err-clause-fault g c = record {
  of_files = tt;
  says = record {
    reached = Reaches-first _ c.args.file.now [];
    not_utf8 = not_text (g.F.Folder.contents c.args.folder.now c.args.file.now) _ c.in-Err.row c.in-Ok.ensures.held c.in-Err.ensures.found.0 c.in-Err.ensures.found.1;
    unreadable = c.in-Ok.ensures.failed;
  };
}
