-- What the tags of a text say, beside those of the reference's: which aren't ended or closed, which elements and names of
-- elements are new, and which are left out.
use Rattle.std.specs.Prelude.{ℕ, ◌==◌, nat_lt, Bool, true, false, not, ◌&&◌, ◌||◌, if◌then◌else◌, List, [], ◌∷◌, ◌++◌, drop, map, filter, length, Option, Some, None, is_some, codes}
use Rattle.std.specs.List.{flat_map, list_any, list_all}
use Rattle.std.specs.Option.{option_map_or, option_to_list}
use Rattle.std.specs.Str.{bytes_eq}
use Rattle.fluent_grammar.specs.Words.{Text, is_among}
use Rattle.fluent_grammar.specs.Tree.{Elements}
use Rattle.lint_findings.specs.Comparison.{union, without}
use Rattle.lint_findings.specs.Doubts.{Doubt, Spotted, broken_tag, missing_element, missing_name, on_text, spotted_at, unclosed, unknown_element, unknown_name, unopened}
use Rattle.lint_findings.specs.Runs.{always, runs}
use Rattle.lint_findings.specs.Tags.{Tag, first_broken, is_lone, less, tag_name, tags, tags_in}

-- ---- elements and names

-- each once
abbrev pub elements_of_tags : List Tag → List Text
elements_of_tags ts = union [] (map (λ (tag : Tag). tag.element) ts)

abbrev pub names_of_tags : List Tag → List Text
names_of_tags ts = union [] (flat_map (λ tag. option_to_list (tag_name tag)) ts)

abbrev pub opens : Text → Tag → Bool
opens x tag = (not tag.closes && not (is_lone tag)) && bytes_eq x tag.element

abbrev pub ends_element : Text → Tag → Bool
ends_element x tag = tag.closes && bytes_eq x tag.element

abbrev pub opened : Text → List Tag → ℕ
opened x ts = length (filter (opens x) ts)

abbrev pub closed : Text → List Tag → ℕ
closed x ts = length (filter (ends_element x) ts)

-- a text opens an element as often as it closes it
abbrev pub is_even : Text → Text → Bool
is_even x s = opened x (tags_in s) == closed x (tags_in s)

-- ---- tags without an end

abbrev pub broken_tags : Bool → List Text → List Spotted
broken_tags all texts = map (λ at. spotted_at at broken_tag) (option_to_list (first_broken all texts))

-- ---- elements that the reference lacks

-- of the tags after those of some elements, which are known or were seen
abbrev pub unknown_elements : List Text → List Text → List Tag → List Spotted
unknown_elements known seen [] = []
unknown_elements known seen (tag ∷ ts) =
    if is_among tag.element known || is_among tag.element seen then unknown_elements known seen ts
    else spotted_at tag.at (unknown_element known tag.element) ∷ unknown_elements known (tag.element ∷ seen) ts

abbrev pub has_unknown : List Text → List Tag → Bool
has_unknown known ts = list_any (λ (tag : Tag). not (is_among tag.element known)) ts

-- ---- elements that aren't closed

abbrev pub unbalanced_doubt : Text → List Tag → Doubt
unbalanced_doubt x ts = if nat_lt (closed x ts) (opened x ts) then unclosed x else unopened x

abbrev pub first_of : Text → List Tag → Option Tag
first_of x [] = None
first_of x (tag ∷ ts) = if bytes_eq x tag.element then Some tag else first_of x ts

-- of the tags of a text
abbrev pub unbalanced_in : Text → List Tag → List Spotted
unbalanced_in x ts =
    map (λ (tag : Tag). spotted_at tag.at (unbalanced_doubt x ts)) (option_to_list (first_of x ts))

-- of the first text in which an element isn't
abbrev pub unbalanced : Text → List Text → List Spotted
unbalanced x [] = []
unbalanced x (s ∷ texts) = if is_even x s then unbalanced x texts else unbalanced_in x (tags_in s)

-- of an element that each text of the reference closes
abbrev pub unbalanced_beside : List Text → List Text → Text → List Spotted
unbalanced_beside texts others x = if list_all (is_even x) others then unbalanced x texts else []

-- ---- names of elements

abbrev pub if_unknown : List Text → List Text → Tag → Option Text → List Spotted
if_unknown known seen tag None = []
if_unknown known seen tag (Some n) =
    if is_among n known || is_among n seen then [] else spotted_at tag.at (unknown_name known n) ∷ []

abbrev pub seen_with : List Text → Option Text → List Text
seen_with seen None = seen
seen_with seen (Some n) = n ∷ seen

abbrev pub unknown_names : List Text → List Text → List Tag → List Spotted
unknown_names known seen [] = []
unknown_names known seen (tag ∷ ts) =
    if_unknown known seen tag (tag_name tag) ++ unknown_names known (seen_with seen (tag_name tag)) ts

-- whether a tag of a text has a name
abbrev pub has_name : Text → Text → Bool
has_name n s = list_any (λ tag. option_map_or (bytes_eq n) (tag_name tag) false) (tags_in s)

-- of a name that the reference has, whichever variants are chosen
abbrev pub if_name_missing : Elements → Elements → Text → List Spotted
if_name_missing es os n =
    if always (has_name n) os && not (always (has_name n) es) then on_text (missing_name n) ∷ [] else []

-- if the text has no other
abbrev pub missing_names : Elements → Elements → List Text → List Text → List Spotted
missing_names es os names known =
    if length (without names known) == 0 then flat_map (if_name_missing es os) known else []

-- ---- elements that are left out

-- whether a text opens an element
abbrev pub opens_in : Text → Text → Bool
opens_in x s = list_any (λ (tag : Tag). not tag.closes && bytes_eq x tag.element) (tags_in s)

abbrev pub is_named : Text → Tag → Bool
is_named x tag = bytes_eq x tag.element && is_some (tag_name tag)

-- whether the reference has an element without a name, whichever variants are chosen, and the text has no such tag
abbrev pub is_missing : List Tag → Elements → List Tag → Text → Bool
is_missing ts os others x =
    (not (list_any (is_named x) others) && not (is_among x (elements_of_tags ts))) && always (opens_in x) os

abbrev pub if_missing : List Tag → Elements → List Tag → Text → List Spotted
if_missing ts os others x = if is_missing ts os others x then on_text (missing_element x) ∷ [] else []

-- ---- of a text

-- of a text without broken tags, with these tags, beside one of the reference with those
abbrev pub of_tags : Elements → Elements → List Tag → List Tag → List Spotted
of_tags es os ts others =
    let known = elements_of_tags others in
    let names = names_of_tags others in
    (if has_unknown known ts then unknown_elements known [] ts
    else flat_map (unbalanced_beside (runs es) (runs os)) known ++ flat_map (if_missing ts os others) known)
    ++ (unknown_names names [] ts ++ missing_names es os (names_of_tags ts) names)

abbrev pub if_whole : Elements → Elements → List Spotted → List Spotted
if_whole es os [] = of_tags es os (tags (runs es)) (tags (runs os))
if_whole es os (b ∷ bs) = b ∷ bs

abbrev pub has_sign : Text → Bool
has_sign s = list_any (λ c. c == less) s

-- A text is only looked at if it or that of the reference has `<`, and each of that begins a tag before a letter.
abbrev pub markup : Elements → Elements → List Spotted
markup es os =
    if list_any has_sign (runs es ++ runs os) && not (is_some (first_broken true (runs os)))
    then if_whole es os (broken_tags (nat_lt 0 (length (tags (runs os)))) (runs es))
    else []
