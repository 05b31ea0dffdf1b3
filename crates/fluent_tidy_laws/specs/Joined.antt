-- The joined text of several sources.
use Rattle.std.specs.Prelude.{◌≡◌, true, not, ◌==◌, if◌then◌else◌, List, [], ◌∷◌, ◌++◌}
use Rattle.std.specs.List.{list_all}
use Rattle.std.specs.Str.{IsUtf8}
use Rattle.fluent_grammar.specs.Words.{Text, line_feed, carriage_return}
use Rattle.fluent_grammar.specs.Tree as t
use Rattle.fluent_grammar.specs.Lines.{ends_line}
use Rattle.fluent_grammar.specs.Tiling.{list}
use Rattle.fluent_tidy_laws.specs.Cut.{cut}

-- a text with a line feed put after it, if it isn't empty and doesn't end in one
abbrev pub line_ended : Text → Text
line_ended [] = []
line_ended (c ∷ cs) = if ends_line (c ∷ cs) then c ∷ cs else (c ∷ cs) ++ (line_feed ∷ [])

-- The joined text: the cut texts in order, each on lines of its own.
abbrev pub joined : List Text → Text
joined [] = []
joined (source ∷ sources) = line_ended (cut source) ++ joined sources

-- the messages and terms of sources, one source after the other
abbrev pub lists : List Text → List t.Entry
lists [] = []
lists (source ∷ sources) = list source ++ lists sources

-- ---- sources that can be joined

-- no carriage return
abbrev pub HasNoReturn : Text → Type 0
HasNoReturn s = list_all (λ c. not (c == carriage_return)) s ≡ true

-- none in any of these
abbrev pub HaveNoReturn : List Text → Type 0
HaveNoReturn [] = Unit {0}
HaveNoReturn (s ∷ ss) = HasNoReturn s × HaveNoReturn ss

-- Each of these is UTF-8, as a `&str` is. Of other bytes trimming means nothing, and a line feed after them may change the last
-- character.
abbrev pub AreUtf8 : List Text → Type 0
AreUtf8 [] = Unit {0}
AreUtf8 (s ∷ ss) = IsUtf8 s × AreUtf8 ss
