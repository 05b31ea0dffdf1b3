-- Line feeds and braces that are found before their lines are read.
use Rattle.std.specs.Prelude.{◌≡◌, ℕ, ◌<◌, ◌≤◌, map, length, drop, Option, Some, None}
use Rattle.std.specs.Simd.Lanes.{mask_l, chunk}
use Rattle.fluent_grammar.specs.Words.{Text, after_line_end}
use Rattle.fluent_tokens.specs.Bytes.{is_line_feed, is_brace}
use Rattle.fluent_tokens.specs.declared.sweep.LineMasks.{LineMasks}

-- the first bytes of a text are known
pub record Tells (told : LineMasks) (text : Text) : Type 0 where
  pub within : told.count ≤ length text
  pub short : told.count ≤ 64
  pub feeds : told.feeds ≡ mask_l (map is_line_feed (chunk 0 told.count text))
  pub braces : told.braces ≡ mask_l (map is_brace (chunk 0 told.count text))

-- Where the next line begins after a line of this many bytes, and what is known of it.
abbrev pub IsNext : Text → ℕ → Option ℕ → LineMasks → Type 0
IsNext text len None told = after_line_end (drop len text) ≡ None
IsNext text len (Some next) told = (after_line_end (drop len text) ≡ Some (drop next text)) × (len < next) × (next ≤ length text) × Tells told (drop next text)
