-- The elements of a pattern whose indents are still there, and the pattern that they give.
use Rattle.std.specs.Prelude.{◌≡◌, ℕ, min, Bool, true, false, ◌&&◌, ◌==◌, if◌then◌else◌, List, [], ◌∷◌, length, drop, map, Option, Some, None}
use Rattle.std.specs.Str.{trim_end}
use Rattle.fluent_grammar.specs.Words.{Text, spaces}
use Rattle.fluent_grammar.specs.Tree as t
use Rattle.fluent_grammar.specs.Lines.{ends_line, is_blank_text, value_of}
use Rattle.fluent_ast.specs.View.{Element, text, placeable, element_view, elements_of}
use Rattle.fluent_ast.specs.declared.PatternElement.{PatternElement}
use Rattle.fluent_parsed.specs.declared.gathered.IndentedElements.{IndentedElements}

-- how much of an indent is cut off
abbrev pub cut_len : Option ℕ → ℕ → ℕ
cut_len None n = n
cut_len (Some common) n = min n common

-- whether a line begins after an element
abbrev pub line_behind : Element → Bool
line_behind (text s) = ends_line s
line_behind (placeable e) = false

-- an element without its part of the common indent, which a text has that begins a line
abbrev pub dedented_by : Bool → Option ℕ → Element → Element
dedented_by true common (text s) = text (drop (cut_len common (spaces s)) s)
dedented_by false common (text s) = text s
dedented_by line common (placeable e) = placeable e

-- all elements without it
abbrev pub dedented_from : Bool → Option ℕ → List Element → List Element
dedented_from line common [] = []
dedented_from line common (e ∷ es) = dedented_by line common e ∷ dedented_from (line_behind e) common es

-- whether an element is a text of only spaces and line feeds
abbrev pub is_blank : Element → Bool
is_blank (text s) = is_blank_text s
is_blank (placeable e) = false

-- the elements up to the last that is not blank
abbrev pub kept_of : List Element → List Element
kept_of [] = []
kept_of (e ∷ es) = if is_blank e && length (kept_of es) == 0 then [] else e ∷ kept_of es

-- an element without white space at its end, if it is a text
abbrev pub trimmed : Element → Element
trimmed (text s) = text (trim_end s)
trimmed (placeable e) = placeable e

-- elements of which the last is trimmed
abbrev pub last_trimmed : List Element → List Element
last_trimmed [] = []
last_trimmed (e ∷ []) = trimmed e ∷ []
last_trimmed (e ∷ f ∷ es) = e ∷ last_trimmed (f ∷ es)

-- what the elements give, of which the first begins a line or not, under a common indent
abbrev pub value_by : Bool → Option ℕ → List Element → Option t.Elements
value_by line common es = value_of (elements_of (last_trimmed (dedented_from line common (kept_of es))))

-- what elements give that have lost the common indent already
abbrev pub dedented_value : List Element → Option t.Elements
dedented_value es = value_of (elements_of (last_trimmed (kept_of es)))

-- The same of the nodes of a tree, by what the bytes of a text are.
module _ (S : Type 0) (text_of : S → Text) where
  -- the elements of a list as plain data, one by one
  abbrev pub plain_elements : List (PatternElement S) → List Element
  plain_elements es = map (element_view S text_of) es

  -- an element lost its part of the common indent
  abbrev pub IsDedented : Bool → Option ℕ → PatternElement S → PatternElement S → Type 0
  IsDedented line common old new = element_view S text_of new ≡ dedented_by line common (element_view S text_of old)

  -- all elements lost it
  abbrev pub AreDedented : Bool → Option ℕ → List (PatternElement S) → List (PatternElement S) → Type 0
  AreDedented line common old new = plain_elements new ≡ dedented_from line common (plain_elements old)

  -- what the gathered elements give
  abbrev pub gathered_value : IndentedElements S → Option t.Elements
  gathered_value g = value_by g.begins_line g.common_indent (plain_elements g.elements.items)
