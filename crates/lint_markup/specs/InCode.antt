-- What the code's texts, tags and findings stand for.
use Rattle.std.specs.Prelude.{◌≡◌, Bool, if◌then◌else◌, List, [], ◌∷◌, ◌++◌, map, Option, Some, None, codes, option_map, string_bytes, String, Vec}
use Rattle.std.specs.Global.{Global}
use denote.Ref.{Bor}
use Rattle.fluent_ast.specs.Borrowed.{elements_of}
use Rattle.fluent_ast.specs.declared.Pattern.{Pattern}
use Rattle.fluent_grammar.specs.Tree.{Elements}
use Rattle.fluent_grammar.specs.Words.{Text}
use Rattle.lint_nodes.specs.HasNames.{HasNames}
use Rattle.lint_nodes.specs.declared.name_set.Names.{Names}
use Rattle.lint_findings.specs.View.{remark_view}
use Rattle.lint_findings.specs.declared.remark.Remark.{Remark}
use Rattle.lint_findings.specs.Doubts as doubts
use Rattle.lint_findings.specs.Doubts.{doubt_remark}
use Rattle.lint_findings.specs.Entities as entities
use Rattle.lint_findings.specs.Finding as f
use Rattle.lint_findings.specs.Runs.{piece, runs}
use Rattle.lint_findings.specs.Styles as styles
use Rattle.lint_findings.specs.Tags as tags
use Rattle.lint_markup.specs.declared.entities.Unended.{Unended}
use Rattle.lint_markup.specs.declared.keys.Key.{Key}
use Rattle.lint_markup.specs.declared.keys.Key.TheVariants as key
use Rattle.lint_markup.specs.declared.pair.Pair.{Pair}
use Rattle.lint_markup.specs.declared.spotted.Spotted.{Spotted}
use Rattle.lint_markup.specs.declared.styles.Property.{Property}
use Rattle.lint_markup.specs.declared.tags.Tag.{Tag}

-- ---- texts

abbrev pub texts_of : List (String Global) → List Text
texts_of ss = map string_bytes ss

abbrev pub AddsRuns : Vec (String Global) Global → Vec (String Global) Global → List Text → Type 0
AddsRuns old new added = texts_of new.items ≡ texts_of old.items ++ added

-- the patterns of a pair
abbrev pub es_of : Pair → Elements
es_of pair = elements_of pair.pattern.now

abbrev pub os_of : Pair → Elements
os_of pair = elements_of pair.other.now

-- its texts are those of its patterns
pub record AreRunsOf (pair : Pair) : Type 0 where
  pub mine : texts_of pair.runs.now ≡ runs (es_of pair)
  pub theirs : texts_of pair.others.now ≡ runs (os_of pair)

-- ---- names

abbrev pub texts_in : Names → List Text
texts_in names = map (λ s. s.now) names.list.items

-- the names that are looked up are those that are listed
abbrev pub AreNames : Names → Type 0
AreNames names = HasNames names (texts_in names)

-- ---- what is said

-- a remark, and the piece of a text that it is at
pub record Said : Type 0 where
  pub remark : f.Remark
  pub piece : Text

-- a doubt in words
abbrev pub said : doubts.Spotted → Said
said x = record { remark = doubt_remark x.doubt; piece = x.piece }

abbrev pub said_at : Text → f.Remark → Said
said_at s r = record { remark = r; piece = piece s }

abbrev pub said_on_text : f.Remark → Said
said_on_text r = record { remark = r; piece = [] }

abbrev pub spotted_view : Spotted → Said
spotted_view s = record { remark = remark_view s.remark; piece = string_bytes s.piece }

abbrev pub spotted_views : List Spotted → List Said
spotted_views ss = map spotted_view ss

-- these doubts, and no others
abbrev pub AreSaid : List doubts.Spotted → Vec Spotted Global → Type 0
AreSaid xs found = spotted_views found.items ≡ map said xs

abbrev pub Adds : Vec Spotted Global → Vec Spotted Global → List doubts.Spotted → Type 0
Adds old new added = spotted_views new.items ≡ spotted_views old.items ++ map said added

-- what a rule says of texts beside others, and of a pair of patterns
abbrev pub AddsBeside : (List Text → List Text → List doubts.Spotted) → List (String Global) → List (String Global) → Vec Spotted Global → Vec Spotted Global → Type 0
AddsBeside rule texts others old new = Adds old new (rule (texts_of texts) (texts_of others))

abbrev pub AddsOfPair : (Elements → Elements → List doubts.Spotted) → Pair → Vec Spotted Global → Vec Spotted Global → Type 0
AddsOfPair rule pair old new = Adds old new (rule (es_of pair) (os_of pair))

abbrev pub AddsOfPatterns : (Elements → Elements → List doubts.Spotted) → Pattern (Bor Text) → Pattern (Bor Text) → Vec Spotted Global → Vec Spotted Global → Type 0
AddsOfPatterns rule pattern other old new = Adds old new (rule (elements_of pattern) (elements_of other))

abbrev pub AddsSaid : Vec Spotted Global → Vec Spotted Global → Said → Type 0
AddsSaid old new x = spotted_views new.items ≡ spotted_views old.items ++ x ∷ []

-- the remark is that of a doubt
abbrev pub IsOn : doubts.Doubt → Remark → Type 0
IsOn doubt r = remark_view r ≡ doubt_remark doubt

abbrev pub IsHint : Option Text → Option (String Global) → Type 0
IsHint hint made = option_map string_bytes made ≡ hint

-- that the text of an attribute is too long
abbrev pub long_doubt : Key → Text → doubts.Doubt
long_doubt key.Access = doubts.long_access_key
long_doubt key.Command = doubts.long_key

abbrev pub code_of : Key → Text
code_of key.Access = codes "long-access-key"
code_of key.Command = codes "long-key"

-- ---- pieces of texts

abbrev pub tag_view : Tag → tags.Tag
tag_view tag = record { closes = tag.closes; element = tag.element.now; inside = tag.inside.now; at = tag.at.now }

abbrev pub tags_of : List Tag → List tags.Tag
tags_of ts = map tag_view ts

abbrev pub AddsTags : Vec Tag Global → Vec Tag Global → List tags.Tag → Type 0
AddsTags old new added = map tag_view new.items ≡ map tag_view old.items ++ added

abbrev pub unended_view : Unended → entities.Unended
unended_view u = record { name = u.name.now; at = u.at.now }

abbrev pub property_view : Property → styles.Property
property_view p = record { name = p.name.now; unit = option_map (λ s. s.now) p.unit }

-- those of a style, if it can be read
abbrev pub properties_in : Option (Vec Property Global) → Option (List styles.Property)
properties_in style = option_map (λ ps. map property_view ps.items) style

-- the property of a part was added, if it can be read
abbrev pub AddsProperty : Vec Property Global → Vec Property Global → Text → Bool → Type 0
AddsProperty old new s is_read =
    (ps : List styles.Property) →
    option_map (λ qs. map property_view old.items ++ qs) (styles.add_property s ps)
    ≡ (if is_read then Some (map property_view new.items ++ ps) else None)
