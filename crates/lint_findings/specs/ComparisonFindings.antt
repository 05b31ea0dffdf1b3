-- The findings of a catalog with a reference.
use Rattle.std.specs.Prelude.{◌-◌, Bool, false, if◌then◌else◌, List, [], ◌∷◌, ◌++◌, length, map, Option, Some, None, is_some, unwrap_or, codes}
use Rattle.std.specs.Option.{option_map_or}
use Rattle.std.specs.List.{flat_map}
use Rattle.std.specs.Str.{bytes_eq}
use Rattle.fluent_grammar.specs.Words.{Text, dot, dollar, is_among}
use Rattle.fluent_grammar.specs.Tree as t
use Rattle.fluent_meaning.specs.Fallback.{with_attribute}
use Rattle.fluent_meaning.specs.Ids.{Ids, find}
use Rattle.fluent_plurals.specs.declared.plurals.LanguagePlurals.{LanguagePlurals}
use Rattle.lint_findings.specs.SyntaxErrors.{in_backticks}
use Rattle.lint_findings.specs.Tiles.{Tile, entry_tile}
use Rattle.lint_findings.specs.Comparison.{Difference, missing_message, obsolete_message, missing_value, obsolete_value, missing_attribute, obsolete_attribute, unknown_variable, missing_variable, unused_variable, untranslated, differences, variables_of, as_message}
use Rattle.lint_findings.specs.Doubts.{Spotted, doubt_remark}
use Rattle.lint_findings.specs.EntryFindings.{finding_in, pattern_text}
use Rattle.lint_findings.specs.Losses.{Loss, losses, loss_remark}
use Rattle.lint_findings.specs.NearNames.{nearest_hint}
use Rattle.lint_findings.specs.Nodes.{Node, expression}
use Rattle.lint_findings.specs.Occurrences.{Occurrence, occurrences, PatternPlace, entry_places}
use Rattle.lint_findings.specs.Pairs.{on_texts}
use Rattle.lint_findings.specs.Runs.{place_of}
use Rattle.lint_findings.specs.Finding.{error, warning, note, Finding, Remark, remark, finding_at}

-- a difference, without its hint
abbrev pub difference_words : Difference → Remark
difference_words missing_message = remark warning (codes "missing-message") (codes "the message has no translation")
difference_words obsolete_message = remark note (codes "obsolete-message") (codes "the reference has no such message")
difference_words missing_value =
    remark error (codes "missing-value") (codes "the value is missing, and the reference has one")
difference_words obsolete_value = remark warning (codes "obsolete-value") (codes "the reference has no value")
difference_words (missing_attribute a) =
    remark error (codes "missing-attribute") (codes "the attribute `." ++ (a ++ codes "` of the reference is missing"))
difference_words (obsolete_attribute a) =
    remark warning (codes "obsolete-attribute") (codes "the reference has no attribute " ++ in_backticks (dot ∷ a))
difference_words (unknown_variable x) =
    remark error (codes "unknown-variable") (codes "the reference has no variable " ++ in_backticks (dollar ∷ x))
difference_words (missing_variable x) =
    remark warning (codes "missing-variable") (codes "the reference shows " ++ in_backticks (dollar ∷ x))
difference_words (unused_variable x) =
    remark note (codes "unused-variable") (codes "the variable `$" ++ (x ++ codes "` of the reference isn't used"))
difference_words untranslated = remark note (codes "untranslated") (codes "the text is the same as in the reference")

-- ---- where a difference is

-- the place of the first attribute of a name, from its dot on
abbrev pub first_attribute_at : Text → List PatternPlace → Option Text
first_attribute_at name [] = None
first_attribute_at name (p ∷ ps) =
    if option_map_or (bytes_eq name) p.attribute false then Some p.name_at else first_attribute_at name ps

abbrev pub is_variable : Text → Node → Bool
is_variable name (expression (t.variable_reference x)) = bytes_eq name x
is_variable name _ = false

abbrev pub first_variable_at : Text → List Occurrence → Option Text
first_variable_at name [] = None
first_variable_at name (o ∷ os) = if is_variable name o.node then Some o.at else first_variable_at name os

-- At an attribute or a variable of the entry, if it has it, and otherwise at the entry.
abbrev pub difference_at : Text → Difference → Text
difference_at s (obsolete_attribute a) = unwrap_or (first_attribute_at a (entry_places s)) s
difference_at s (unknown_variable x) =
    unwrap_or (first_variable_at x (flat_map (λ (p : PatternPlace). occurrences p.pattern_at) (entry_places s))) s
difference_at s _ = s

-- the variable that may be meant, among those of the message of the reference
abbrev pub difference_hint : List Text → Difference → Option Text
difference_hint known (unknown_variable x) = nearest_hint (dollar ∷ []) (λ name. is_among name known) x
difference_hint known _ = None

-- The finding of a difference, of the message of this id at the front of an end of the source. That of the reference is
-- shown with these variables.
abbrev pub difference_finding : Text → Text → Text → List Text → Difference → Finding
difference_finding source id s known d =
    finding_at (length source - length (difference_at s d)) id (record (difference_words d) { hint = difference_hint known d })

-- ---- of an entry

-- the differences of a message of the catalog, at the front of an end of this source
abbrev pub difference_findings : {F : Type 0} → Ids F → Ids F → Text → t.Message → Text → List Finding
difference_findings ids reference source m s =
    map (difference_finding source m.id s (variables_of reference m.id)) (differences ids reference m.id)

-- The finding of what the message of this id loses. It is at the message.
abbrev pub loss_finding : Text → Text → Text → Loss → Finding
loss_finding source id s loss = finding_at (length source - length s) id (loss_remark loss)

-- what it loses, by the plural rules, if plurals are looked at
abbrev pub loss_findings : {F : Type 0} → Ids F → Option LanguagePlurals → Text → t.Message → Text → List Finding
loss_findings reference plurals source m s = map (loss_finding source m.id s) (losses reference plurals m)

-- The finding of what is said of a text, at its piece. The text is at the front of an end of this source.
abbrev pub spotted_finding : Text → Text → Text → Spotted → Finding
spotted_finding source owner at x =
    finding_in source owner at (record (doubt_remark x.doubt) { inside = place_of x.piece (pattern_text at) })

-- of the texts of the message of this id, each at its place
abbrev pub texts_findings : Text → Text → List PatternPlace → List (List Spotted) → List Finding
texts_findings source id [] said = []
texts_findings source id (p ∷ ps) [] = []
texts_findings source id (p ∷ ps) (xs ∷ said) =
    map (spotted_finding source (with_attribute id p.attribute) p.pattern_at) xs ++ texts_findings source id ps said

abbrev pub texts_beside : Text → t.Message → Text → Option t.Message → List Finding
texts_beside source m s None = []
texts_beside source m s (Some o) = texts_findings source m.id (entry_places s) (on_texts m o)

-- what is said of the texts of a message beside those of the reference's
abbrev pub text_findings : {F : Type 0} → Ids F → Text → t.Message → Text → List Finding
text_findings reference source m s = texts_beside source m s (as_message (find reference m.id))

-- of an entry of the catalog, in this source
abbrev pub message_findings : {F : Type 0} → Ids F → Ids F → Option LanguagePlurals → Text → t.Entry → Text → List Finding
message_findings ids reference plurals source (t.message m) s =
    difference_findings ids reference source m s
    ++ (loss_findings reference plurals source m s ++ text_findings reference source m s)
message_findings ids reference plurals source _ s = []

-- of a message of the reference, in this source: whether the catalog has none
abbrev pub missing_findings : {F : Type 0} → Ids F → Text → Tile → List Finding
missing_findings ids source (entry_tile at s (t.message m)) =
    if is_some (as_message (find ids m.id)) then [] else difference_finding source m.id s [] missing_message ∷ []
missing_findings ids source _ = []
