use Rattle.std.proofs.Common.{option_copied, string_bytes}
use Rattle.std.proofs.lemmas.Result.{on_ok_weaker}
use Rattle.ftl_files.specs.States.{state_of}
use Rattle.ftl_files.specs.TidyView.{failure_view, read_view}
use Rattle.ftl_files.proofs.ReadLemmas.{read_failed, source_read}
use Rattle.ftl_files.proofs.reading.read_one.Goals as goal

pub returns-in-Ok-clause-read : goal.returns-in-Ok-clause-read
returns-in-Ok-clause-read g c =
    let read = rw c.in-Ok.is at c.in_ok-source.ensures.read in
    on_ok_weaker c.add_read.result
    (λ is. source_read c.args.name.now (read_view c.args.read.now) (read_view c.add_read.new.read) (string_bytes c.in-Ok.source) (state_of g.F.Folder c.args.folder.now)
    (state_of g.F.Folder c.read_source.new.folder) read.0 read.1 is)
    c.add_read.ensures

pub returns-in-Err-clause-read : goal.returns-in-Err-clause-read
returns-in-Err-clause-read g c =
    let read = rw c.in-Err.is at c.in_ok-source.ensures.read in
    on_ok_weaker c.add_failure.result
    (λ is. read_failed c.args.name.now (read_view c.args.read.now) (read_view c.add_failure.new.self) (failure_view c.in-Err.failure) (option_copied c.why_of.result)
    (state_of g.F.Folder c.args.folder.now) (state_of g.F.Folder c.read_source.new.folder) read is)
    c.add_failure.ensures
