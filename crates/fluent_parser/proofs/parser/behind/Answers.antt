use Rattle.fluent_parser.proofs.parser.behind.Goals as goal

pub range_from-requires : goal.range_from-requires
range_from-requires c = λ _. c.requires.boundary c.utf8.text
