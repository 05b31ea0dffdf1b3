-- What is said of parts of a pair, as the code has them.
use Rattle.std.specs.Prelude.{◌≡◌, Bool, not, ◌&&◌, ◌||◌, if◌then◌else◌, String, List, [], ◌∷◌, ◌++◌, map, Option, Vec, length, nat_lt}
use Rattle.std.specs.List.{flat_map, list_any}
use Rattle.std.specs.Option.{option_to_list}
use Rattle.fluent_grammar.specs.Tree.{Elements}
use Rattle.fluent_grammar.specs.Words.{Text, is_among}
use Rattle.std.specs.Global.{Global}
use Rattle.lint_nodes.specs.HasNames.{HasNames, is_in_set}
use Rattle.lint_nodes.specs.declared.name_set.Names.{Names}
use Rattle.lint_findings.specs.Doubts as d
use Rattle.lint_findings.specs.Entities.{Unended, first_unended}
use Rattle.lint_findings.specs.Markup as m
use Rattle.lint_findings.specs.Runs.{always, runs}
use Rattle.lint_findings.specs.Tags as t
use Rattle.lint_findings.specs.Tags.{tags}
use Rattle.lint_markup.specs.InCode.{Adds, es_of, os_of, said, spotted_views, tags_of, texts_in, texts_of}
use Rattle.lint_markup.specs.declared.pair.Pair.{Pair}
use Rattle.lint_markup.specs.declared.spotted.Spotted.{Spotted}
use Rattle.lint_markup.specs.declared.tags.Tag.{Tag}

-- ---- of tags

abbrev pub of_tags : Pair → List Tag → Elements → Elements → List d.Spotted
of_tags pair others es os = m.of_tags es os (tags (texts_of pair.runs.now)) (tags_of others)

-- of texts of which one has a sign, beside those without broken tags
abbrev pub if_looked_at : Elements → Elements → List d.Spotted
if_looked_at es os = m.if_whole es os (m.broken_tags (nat_lt 0 (length (tags (runs os)))) (runs es))

-- of the elements of tags, beside those
abbrev pub of_elements : Pair → List t.Tag → List t.Tag → List d.Spotted
of_elements pair ts others =
    let known = m.elements_of_tags others in
    if m.has_unknown known ts then m.unknown_elements known [] ts
    else flat_map (m.unbalanced_beside (texts_of pair.runs.now) (texts_of pair.others.now)) known ++ flat_map (m.if_missing ts (os_of pair) others) known

-- of their names
abbrev pub of_names : Pair → List t.Tag → List t.Tag → List d.Spotted
of_names pair ts others =
    let names = m.names_of_tags others in
    m.unknown_names names [] ts ++ m.missing_names (es_of pair) (os_of pair) (m.names_of_tags ts) names

abbrev pub tags_said : Pair → List Tag → List Tag → List d.Spotted
tags_said pair mine others = m.of_tags (es_of pair) (os_of pair) (tags_of mine) (tags_of others)

-- of an element that the others close
abbrev pub unbalanced_of : Pair → Text → List d.Spotted
unbalanced_of pair x = m.unbalanced_beside (texts_of pair.runs.now) (texts_of pair.others.now) x

abbrev pub unbalanced_in : Pair → Names → List d.Spotted
unbalanced_in pair known = flat_map (m.unbalanced_beside (texts_of pair.runs.now) (texts_of pair.others.now)) (texts_in known)

abbrev pub missing_in : Pair → List Tag → List Tag → Names → List d.Spotted
missing_in pair mine others known =
    flat_map (m.if_missing (tags_of mine) (os_of pair) (tags_of others)) (texts_in known)

abbrev pub missing_names_in : Pair → Names → Names → List d.Spotted
missing_names_in pair names known = m.missing_names (es_of pair) (os_of pair) (texts_in names) (texts_in known)

-- not among these names, and without a name in those tags, but always in the reference
abbrev pub is_missing : Names → List Tag → Elements → Text → Bool
is_missing mine others os x =
    (not (list_any (m.is_named x) (tags_of others)) && not (is_among x (texts_in mine))) && always (m.opens_in x) os

abbrev pub missing_name_of : Pair → Text → List d.Spotted
missing_name_of pair name = m.if_name_missing (es_of pair) (os_of pair) name

abbrev pub is_name_missing : Pair → Text → Bool
is_name_missing pair name = always (m.has_name name) (os_of pair) && not (always (m.has_name name) (es_of pair))

-- of elements and of names that aren't among those that are known
abbrev pub new_elements : Names → List Text → List t.Tag → List d.Spotted
new_elements known = m.unknown_elements (texts_in known)

abbrev pub new_names : Names → List Text → List t.Tag → List d.Spotted
new_names known = m.unknown_names (texts_in known)

abbrev pub unknown_element : Names → Text → d.Doubt
unknown_element known x = d.unknown_element (texts_in known) x

abbrev pub unknown_name : Names → Text → d.Doubt
unknown_name known x = d.unknown_name (texts_in known) x

-- of the name of a tag, unless it is known or was seen
abbrev pub if_unknown : Names → Names → Tag → Text → List d.Spotted
if_unknown known seen tag x =
    if is_in_set known x || is_in_set seen x then [] else d.spotted_at tag.at.now (unknown_name known x) ∷ []

-- What a rule says of tags, of which these names were seen: that of a tag was added, and its name may be among those.
abbrev pub AddsBy : (List Text → List t.Tag → List d.Spotted) → t.Tag → Names → Names → Vec Spotted Global → Vec Spotted Global → Type 0
AddsBy rule tag old_seen new_seen old new =
    (ts : List t.Tag) (xs : List Text) → HasNames old_seen xs →
    (ys : List Text) × HasNames new_seen ys × (spotted_views new.items ++ map said (rule ys ts) ≡ spotted_views old.items ++ map said (rule xs (tag ∷ ts)))

-- ---- of entities

-- of one that isn't ended, beside these
abbrev pub unended_said : List Text → Option Unended → List d.Spotted
unended_said known u = map (λ (u : Unended). d.spotted_at u.at (d.broken_entity known u.name)) (option_to_list u)

abbrev pub first_unended_in : List (String Global) → Option Unended
first_unended_in texts = first_unended (texts_of texts)

-- ---- one doubt

-- at a place
abbrev pub AddsDoubt : Text → d.Doubt → Vec Spotted Global → Vec Spotted Global → Type 0
AddsDoubt at doubt old new = Adds old new (d.spotted_at at doubt ∷ [])

-- of the whole text, if it is so
abbrev pub said_if : Bool → d.Doubt → List d.Spotted
said_if is_so doubt = if is_so then d.on_text doubt ∷ [] else []
