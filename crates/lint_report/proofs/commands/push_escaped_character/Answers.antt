use Rattle.std.proofs.Common.{sym, string_bytes}
use Rattle.std.specs.Prelude.{encode_utf8}
use Rattle.std.specs.List.{flat_map}
use Rattle.lint_report.specs.Parts.{part_byte}
use Rattle.lint_report.proofs.Characters.{pushed}
use Rattle.lint_report.proofs.Escaped.{plain_character}
use Rattle.lint_report.proofs.commands.push_escaped_character.Goals as goal

pub returns-in-None : goal.returns-in-None
returns-in-None c =
    pushed c.push.result (string_bytes c.push.new.self) (string_bytes c.args.text.now) (encode_utf8 c.args.c)
    (flat_map (part_byte c.args.part) (encode_utf8 c.args.c)) c.push.ensures.bytes (sym (plain_character c.args.part c.args.c c.in-None.ensures.plain))
