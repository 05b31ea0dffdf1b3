use Rattle.std.proofs.Common.{◌∙◌, ap, string_bytes, ◌++◌}
use Rattle.std.specs.Prelude.{codes, decimal, is_ok}
use Rattle.ftl_files.proofs.NotedLemmas.{noted_by}
use Rattle.ftl_files.proofs.system.FromFiles.note_bytes.Goals as goal

pub returns-in-Ok-clause-noted : goal.returns-in-Ok-clause-noted
returns-in-Ok-clause-noted g c =
    let name = c.args.name.now in
    let row = c.in-Some-bad_row.ensures.row in
    rw (c.in-Some.is)
    (noted_by name c.args.bytes.now (string_bytes c.in-Some.lines) (string_bytes c.push_str.new.self) c.as_str.result.now (is_ok c.push_str.result)
    c.push_str.ensures.bytes row.0
    (c.as_str.ensures.value ∙ c.in-Ok.ensures.ok
    ∙ ap (λ n. codes "ftl: " ++ (name ++ (codes ":" ++ (decimal n ++ codes ": a byte that isn't UTF-8\n")))) row.1))
