use Rattle.std.proofs.Common.{All, subst}
use Rattle.std.proofs.lemmas.List.{take_all}
use Rattle.std.proofs.lemmas.List.Elements.{All-more, Contains-get_or}
use Rattle.fluent_c.specs.Linting.{IsUtf8File}
use Rattle.fluent_c.proofs.files.are_files_utf8.Goals as goal

pub returns-then-not-is_file_utf8-clause-not_utf8 : goal.returns-then-not-is_file_utf8-clause-not_utf8
returns-then-not-is_file_utf8-clause-not_utf8 c = λ is. record {
  file = _;
  stands = Contains-get_or c.args.files.now c.loop-file.file-index _ c.loop-file-test.true;
  other = c.is_file_utf8.ensures.not_utf8 c.if-not-is_file_utf8.true;
}

pub loop-file-preserved : goal.loop-file-preserved
loop-file-preserved c =
    All-more IsUtf8File c.args.files.now c.loop-file.file-index _ c.loop-file-test.true c.loop-file.invariant
    (c.is_file_utf8.ensures.utf8 c.if-not-is_file_utf8.false)

pub returns-clause-utf8 : goal.returns-clause-utf8
returns-clause-utf8 c = λ is.
    subst (All IsUtf8File) (take_all c.loop-file.file-index c.args.files.now c.loop-file-test.false) c.loop-file.invariant
