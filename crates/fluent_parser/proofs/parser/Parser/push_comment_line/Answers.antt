use Rattle.fluent_parser.proofs.Comments.{level_cuts}
use Rattle.fluent_parser.proofs.parser.Parser.push_comment_line.Goals as goal

pub advance-requires : goal.advance-requires
advance-requires g c = level_cuts c.args.self.now.rest.now c.args.level c.requires.signs
