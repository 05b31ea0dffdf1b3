use Rattle.std.proofs.Common.{◌≡◌, Bool, false, true, ap, string_bytes}
use Rattle.std.specs.Prelude.{vec_items}
use Rattle.std.proofs.lemmas.Result.{on_ok_weaker}
use Rattle.std.proofs.lemmas.Str.{IsUtf8-string_bytes}
use Rattle.ftl_files.specs.TidyView.{read_view}
use Rattle.ftl_files.proofs.ReadLemmas.{bytes_read, bytes_refused}
use Rattle.ftl_files.proofs.reading.add_bytes.Goals as goal

pub returns-in-Ok : goal.returns-in-Ok
returns-in-Ok c =
    on_ok_weaker c.add_read.result
    (bytes_read c.args.name.now c.args.bytes.items (string_bytes c.in-Ok.source) (read_view c.args.read.now) (read_view c.add_read.new.read) (IsUtf8-string_bytes c.in-Ok.source)
    (ap vec_items c.in-Ok.ensures.ok))
    c.add_read.ensures

pub returns : goal.returns
returns c =
    on_ok_weaker c.add_failure.result
    (bytes_refused c.args.name.now c.args.bytes.items (read_view c.args.read.now) (read_view c.add_failure.new.self) (λ text. let fails : ◌≡◌ {A = Bool} false true = rw c.in-Err.is at (c.from_utf8.ensures.succeeds text) in absurd cc))
    c.add_failure.ensures
