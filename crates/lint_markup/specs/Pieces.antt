-- What the code's elements and names stand for.
use Rattle.std.specs.Prelude.{ℕ, ◌==◌, Bool, not, ◌&&◌, ◌||◌, if◌then◌else◌, List, [], ◌∷◌, drop, take, length, Option, Some, None, is_some}
use Rattle.std.specs.List.{list_any}
use Rattle.std.specs.Str.{bytes_eq}
use denote.Ref.{Bor}
use Rattle.fluent_ast.specs.Borrowed.{expression_of}
use Rattle.fluent_ast.specs.declared.PatternElement.{PatternElement}
use Rattle.fluent_ast.specs.declared.PatternElement.TheVariants as element
use Rattle.fluent_grammar.specs.Words.{Text, begins_with, colon, greater, line_feed}
use Rattle.lint_nodes.specs.HasNames.{HasNames}
use Rattle.lint_nodes.specs.declared.name_set.Names.{Names}
use Rattle.lint_findings.specs.Comparison.{union}
use Rattle.lint_findings.specs.Entities.{entity_len, semicolon}
use Rattle.lint_findings.specs.Numbers.{tag_len}
use Rattle.lint_findings.specs.Runs.{object_sign, placeable_text}
use Rattle.lint_findings.specs.Tags.{less, naming, quoted_by, skip_blanks, tag_at, value_at}

-- what an element is in the own text of its pattern
abbrev pub element_text : PatternElement (Bor Text) → Text
element_text (element.TextElement value) = value.now
element_text (element.Placeable expression) = placeable_text (expression_of expression)

-- these names are added
abbrev pub AddsNames : Names → Names → List Text → Type 0
AddsNames old new added = (xs : List Text) → HasNames old xs → HasNames new (union xs added)

-- what follows the tag at the front, if one is there
abbrev pub after_tag : Text → Option Text
after_tag s = if tag_len (tag_at s) == 0 then None else Some (drop (tag_len (tag_at s)) s)

-- ---- bytes inside of a tag, in this quote or in none

-- no tag goes on over it
abbrev pub breaks : Option ℕ → ℕ → Bool
breaks q c = c == less || (c == greater && is_some q)

abbrev pub quote_after : Option ℕ → ℕ → Option ℕ
quote_after None c = quoted_by c
quote_after (Some q) c = if c == q then None else Some q

-- ---- after a blank inside of a tag

-- the value of the attribute that gives a name, if it is at the front
abbrev pub name_after : Text → Option Text
name_after s = if bytes_eq (take 14 s) naming then value_at (skip_blanks (drop 14 s)) else None

-- ---- after `&`

-- the name of the entity at the front, if `;` follows it
abbrev pub ended_after : Text → List Text
ended_after s =
    let n = entity_len s in
    if not (n == 0) && begins_with semicolon (drop n s) then take n s ∷ [] else []

-- the same, if none does
abbrev pub unended_after : Text → Option Text
unended_after s =
    let n = entity_len s in
    if not (n == 0) && not (begins_with semicolon (drop n s)) then Some (take n s) else None

-- ---- where a piece of a text ends

abbrev pub ends_piece : Text → Bool
ends_piece s = begins_with line_feed s || bytes_eq (take 3 s) object_sign

-- ---- values of properties

-- a text that is one: it isn't empty, and has no colon
abbrev pub if_value : Text → Option Text
if_value s = if not (length s == 0) && not (list_any (λ c. c == colon) s) then Some s else None

-- the value after the colon at the front
abbrev pub value_after : Text → Option Text
value_after s = if begins_with colon s then if_value (skip_blanks (drop 1 s)) else None
