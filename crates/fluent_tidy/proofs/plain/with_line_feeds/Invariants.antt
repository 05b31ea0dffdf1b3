use Rattle.std.proofs.Common.{◌≡◌, ◌++◌, length, string_bytes}
use Rattle.std.specs.Str.{IsUtf8}
use Rattle.fluent_tidy.specs.TidyText.{with_line_feeds}
use Rattle.fluent_tidy.proofs.plain.with_line_feeds.Given as goal

-- what is left to do
abbrev pub invariant-lines : goal.invariant-lines
invariant-lines l = record {
  utf8 : IsUtf8 l.rest;
  done : string_bytes l.new ++ with_line_feeds l.rest ≡ with_line_feeds l.text;
}

abbrev pub decreases-lines : goal.decreases-lines
decreases-lines l = length l.rest
