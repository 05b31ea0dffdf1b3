-- What the patterns of a reference and of its translations have to share.
use Rattle.std.specs.Prelude.{Bool, true, false, not, List}
use Rattle.std.specs.List.{list_any}
use Rattle.fluent_project.specs.declared.part.Part.{Part}
use Rattle.fluent_project.specs.declared.part.Part.TheVariants as part

abbrev pub is_wildcard : Part → Bool
is_wildcard (part.Byte byte) = false
is_wildcard part.Locale = false
is_wildcard (part.Wildcard wildcard) = true

abbrev pub has_wildcard : List Part → Bool
has_wildcard parts = list_any is_wildcard parts

abbrev pub has_no_wildcard : List Part → Bool
has_no_wildcard parts = not (has_wildcard parts)

abbrev pub is_locale : Part → Bool
is_locale (part.Byte byte) = false
is_locale part.Locale = true
is_locale (part.Wildcard wildcard) = false

abbrev pub has_locale : List Part → Bool
has_locale parts = list_any is_locale parts
