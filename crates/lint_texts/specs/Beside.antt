-- What is said of parts of a pair, as the code has them.
use Rattle.std.specs.Prelude.{◌≡◌, Bool, if◌then◌else◌, List, [], ◌∷◌, ◌++◌, map, Option, Some, None, option_map, nat_le, ◌&&◌, ◌*◌, String, Vec}
use Rattle.std.specs.Global.{Global}
use Rattle.std.specs.List.{list_all}
use denote.Ref.{Bor}
use Rattle.fluent_ast.specs.Borrowed.{elements_of, expression_of}
use Rattle.fluent_ast.specs.declared.Pattern.{Pattern}
use Rattle.fluent_ast.specs.declared.PatternElement.{PatternElement}
use Rattle.fluent_ast.specs.declared.PatternElement.TheVariants as element
use Rattle.fluent_grammar.specs.Words.{Text, is_among}
use Rattle.lint_nodes.specs.declared.name_set.Names.{Names}
use Rattle.lint_findings.specs.Comparison.{without}
use Rattle.lint_findings.specs.Doubts as d
use Rattle.lint_findings.specs.Edges as e
use Rattle.lint_findings.specs.Finding as f
use Rattle.lint_findings.specs.Keys.{characters}
use Rattle.lint_findings.specs.Lengths as l
use Rattle.lint_findings.specs.Placeholders as h
use Rattle.lint_findings.specs.Runs.{ends}
use Rattle.lint_findings.specs.Typing as t
use Rattle.lint_markup.specs.InCode.{Adds, AddsSaid, AreNames, Said, said, said_at, said_on_text, spotted_views, texts_in, texts_of}
use Rattle.lint_markup.specs.declared.spotted.Spotted.{Spotted}
use Rattle.lint_texts.specs.InCode.{placeholder_view, sign_view}
use Rattle.lint_texts.specs.declared.ends.Sign.{Sign}
use Rattle.lint_texts.specs.declared.placeholders.Placeholder.{Placeholder}

abbrev pub lost_placeholders : List Placeholder → Names → List d.Spotted
lost_placeholders mine known =
    map (λ name. d.on_text (d.lost_placeholder name)) (without (texts_in known) (h.names (map placeholder_view mine)))

-- of a placeholder of the reference
abbrev pub if_gone : Names → Text → List d.Spotted
if_gone names name = if is_among name (texts_in names) then [] else d.on_text (d.lost_placeholder name) ∷ []

-- that a placeholder is new
abbrev pub new_at : Placeholder → List d.Spotted
new_at placeholder = d.spotted_at placeholder.at.now (d.new_placeholder placeholder.name.now) ∷ []

-- a placeholder, and then others: it is known afterwards
abbrev pub AddsIfNew : Bool → Placeholder → Names → Names → Vec Spotted Global → Vec Spotted Global → Type 0
AddsIfNew all placeholder known names old new =
    AreNames names
    × ((ps : List h.Placeholder) →
    spotted_views new.items ++ map said (h.new_placeholders all (texts_in names) ps)
    ≡ spotted_views old.items ++ map said (h.new_placeholders all (texts_in known) (placeholder_view placeholder ∷ ps)))

abbrev pub new_beside : Bool → Names → List Placeholder → List d.Spotted
new_beside all known mine = h.new_placeholders all (texts_in known) (map placeholder_view mine)

-- this is added, at the whole text
abbrev pub AddsOne : d.Doubt → Vec Spotted Global → Vec Spotted Global → Type 0
AddsOne doubt old new = Adds old new (d.on_text doubt ∷ [])

-- at the first that isn't known, or else at the whole text
abbrev pub said_at_new : Option Text → f.Remark → Said
said_at_new None r = said_on_text r
said_at_new (Some s) r = said_at s r

abbrev pub AddsAt : Vec Spotted Global → Vec Spotted Global → Option (Bor Text) → f.Remark → Type 0
AddsAt old new at r = AddsSaid old new (said_at_new (option_map (λ s. s.now) at) r)

-- the own text of a pattern is the first of its texts
abbrev pub first_text : List Text → Text
first_text [] = []
first_text (s ∷ texts) = s

-- an element may be nothing but blanks
abbrev pub element_may_be_blank : PatternElement (Bor Text) → Bool
element_may_be_blank (element.TextElement value) = l.is_blank value.now
element_may_be_blank (element.Placeable expression) = l.expression_may_be_blank (expression_of expression)

-- ---- of texts

-- what is said of the first that is found in texts
abbrev pub first_said : d.Doubt → (Text → Option Text) → List (String Global) → List d.Spotted
first_said doubt find texts = t.said_at doubt (t.first_found find (texts_of texts))

-- a text is long, and at least five times as long as those of the reference
abbrev pub is_long_beside : List (String Global) → Text → Bool
is_long_beside others s = nat_le 120 (characters s) && nat_le (5 * l.characters_of (texts_of others)) (characters s)

-- a sign that all texts end with
abbrev pub common_sign : Sign → List (String Global) → Option d.Sign
common_sign sign texts = if list_all (e.has_sign (sign_view sign)) (texts_of texts) then Some (sign_view sign) else None

-- of a sign that the ends of a pattern lost
abbrev pub lost_sign : Pattern (Bor Text) → Sign → List d.Spotted
lost_sign pattern sign = e.if_lost (ends (elements_of pattern)) (Some (sign_view sign))
