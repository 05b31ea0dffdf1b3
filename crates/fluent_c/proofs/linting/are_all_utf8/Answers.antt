use Rattle.fluent_c.proofs.linting.are_all_utf8.Goals as goal

pub returns-clause-utf8 : goal.returns-clause-utf8
returns-clause-utf8 c = λ is. (
  (c.are_files_utf8.ensures.utf8 c.if-not-are_files_utf8.false, c.are_files_utf8-2.ensures.utf8 c.if-not-are_files_utf8-2.false),
  c.are_utf8.ensures.utf8 is,
)
