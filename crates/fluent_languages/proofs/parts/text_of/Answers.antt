use Rattle.std.proofs.lemmas.Str.{IsUtf8-from_ascii}
use Rattle.fluent_languages.proofs.parts.text_of.Goals as goal

pub unreachable-requires : goal.unreachable-requires
unreachable-requires c = c.in-Err.ensures.cases.0 (IsUtf8-from_ascii c.args.part.now c.requires)
