use Rattle.std.proofs.lemmas.List.Elements.{Contains-get_or}
use Rattle.fluent_c.proofs.Sources.{handed_on}
use Rattle.fluent_c.proofs.files.checked_files.Goals as goal

pub returns-in_err-read_file-clause-not_utf8 : goal.returns-in_err-read_file-clause-not_utf8
returns-in_err-read_file-clause-not_utf8 c =
    handed_on c.from_residual.result c.from_residual.ensures.1 c.in_err-read_file.ensures.not_utf8
    (λ other. record { file = _; stands = Contains-get_or c.args.files.now c.loop-file.file-index _ c.loop-file-test.true; other = other })
