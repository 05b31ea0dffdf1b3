-- Tags that are looked for.
use Rattle.std.specs.Prelude.{Bool, false, not, ◌&&◌, Option, Some, None}
use Rattle.std.specs.Option.{option_map_or}
use Rattle.std.specs.Str.{bytes_eq}
use Rattle.fluent_grammar.specs.Words.{Text}
use Rattle.lint_findings.specs.Markup.{has_name, opens_in}
use Rattle.lint_findings.specs.Tags.{Tag, tag_name}
use Rattle.lint_markup.specs.declared.wanted.Wanted.{Wanted}
use Rattle.lint_markup.specs.declared.wanted.Wanted.TheVariants as wanted

-- a text has such a tag
abbrev pub is_wanted : Wanted → Text → Bool
is_wanted (wanted.Opening element) = opens_in element.now
is_wanted (wanted.Named name) = has_name name.now

-- ---- of a tag

-- whether it has this name
abbrev pub is_named : Text → Tag → Bool
is_named n tag = option_map_or (bytes_eq n) (tag_name tag) false

-- whether it is such a tag
abbrev pub is_tag : Wanted → Tag → Bool
is_tag (wanted.Opening element) tag = not tag.closes && bytes_eq element.now tag.element
is_tag (wanted.Named name) tag = is_named name.now tag

abbrev pub is_found : Wanted → Option Tag → Bool
is_found wanted None = false
is_found wanted (Some tag) = is_tag wanted tag
