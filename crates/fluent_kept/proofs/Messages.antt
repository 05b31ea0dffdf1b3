-- Functions among the ids are no messages: the messages of sources are the same with functions and without.
use Rattle.std.proofs.Common.{◌≡◌, ℕ, suc, Bool, true, false, ◌&&◌, List, [], ◌∷◌, Option, None, Some, cond, refl, ap, sym, ◌∙◌}
use Rattle.std.specs.Cmp.Lexicographic.{same_text}
use Rattle.std.specs.BTreeMap.{insert_entry}
use Rattle.std.specs.Prelude.{IsSomeAnd, codes, is_some}
use Rattle.std.specs.Str.{bytes_eq}
use Rattle.fluent_answers.specs.Answers.{pattern_asked}
use Rattle.fluent_answers.specs.Sources.{ids_of}
use Rattle.fluent_run.specs.DeskView.{desk_ids}
use Rattle.fluent_calls.specs.Functions.{placed, with_functions, with_names}
use Rattle.fluent_calls.specs.declared.callee.Callee.TheVariants as callee
use Rattle.fluent_calls.specs.declared.desk.FunctionDesk.{FunctionDesk}
use Rattle.fluent_grammar.specs.Tree as t
use Rattle.fluent_grammar.specs.Tree.{Elements}
use Rattle.fluent_grammar.specs.Words.{Text}
use Rattle.fluent_ids.proofs.Sorted.{found}
use Rattle.fluent_ids.specs.Found.{message_in}
use Rattle.fluent_meaning.specs.Environment.{Environment}
use Rattle.fluent_meaning.specs.Ids.{Ids, Meaning, attribute_named, find, function, message, number_function, term, with_id, with_ids}
use Rattle.fluent_plurals.specs.declared.plurals.LanguagePlurals.{LanguagePlurals}
use Rattle.fluent_value.specs.Args.{order}
use Rattle.fluent_kept.specs.Answers.{IsFound, found as answered}
use Rattle.fluent_kept.specs.Catalogs.{CallsAs, Catalog, catalog_environment}
use Rattle.fluent_kept.specs.Found.{pattern_of}
use Rattle.fluent_date.specs.declared.date_time.FluentDateTime.{FluentDateTime}
use Rattle.fluent_calls.specs.declared.callee.Callee.{Callee}

module _ (ids : Ids Callee) (name : Text) (f : Callee) (id : Text) where
  if-new : (b : Bool) → bytes_eq id name ≡ b → find ids name ≡ None → message_in (cond b (Some (function f)) (find ids id)) ≡ message_in (find ids id)
  if-new true same none = sym (ap (λ n. message_in (find ids n)) (same_text id name (sym same)) ∙ ap message_in none)
  if-new false apart none = refl

  by-found : (m : Option (Meaning Callee)) → find ids name ≡ m → message_in (find (cond (is_some m && true) ids (insert_entry order ids name (function f))) id) ≡ message_in (find ids id)
  by-found None none = ap message_in (found id name (function f) ids) ∙ if-new (bytes_eq id name) refl none
  by-found (Some m) some = refl

  one-function : message_in (find (with_id false ids (name, function f)) id) ≡ message_in (find ids id)
  one-function = by-found (find ids name) refl

all-functions : (names : List Text) (place : ℕ) (ids : Ids Callee) (id : Text) → message_in (find (with_ids false ids (placed place names)) id) ≡ message_in (find ids id)
all-functions [] place ids id = refl
all-functions (name ∷ names) place ids id =
    all-functions names (suc place) (with_id false ids (name, function (callee.Program place))) id ∙ one-function ids name (callee.Program place) id

with-all : (names : List Text) (ids : Ids Callee) (id : Text) → message_in (find (with_functions names ids) id) ≡ message_in (find ids id)
with-all names ids id = one-function (with_names names ids) (codes "DATETIME") callee.DateTime id ∙ all-functions names 0 ids id

-- the messages of sources with functions are those without
pub messages-same : (names : List Text) (overriding : Bool) (sources : List Text) (id : Text) →
    message_in (find (with_functions names (ids_of overriding sources)) id) ≡ message_in (find (with_functions [] (ids_of overriding sources)) id)
messages-same names overriding sources id = with-all names (ids_of overriding sources) id ∙ sym (with-all [] (ids_of overriding sources) id)

-- the pattern that is asked for is that of the message
abbrev asked-of : Option Text → Option t.Message → Option Elements
asked-of attribute None = None
asked-of None (Some m) = m.value
asked-of (Some name) (Some m) = attribute_named name m.attributes

asked-there : (attribute : Option Text) (m : t.Message) → asked-of attribute (Some m) ≡ pattern_of attribute m
asked-there None m = refl
asked-there (Some name) m = refl

asked-missing : (attribute : Option Text) → asked-of attribute None ≡ None
asked-missing None = refl
asked-missing (Some name) = refl

of-message : {F : Type 0} (attribute : Option Text) (found : Option (Meaning F)) → pattern_asked attribute found ≡ asked-of attribute (message_in found)
of-message attribute None = refl
of-message attribute (Some number_function) = refl
of-message attribute (Some (function f)) = refl
of-message attribute (Some (term m)) = refl
of-message None (Some (message m)) = refl
of-message (Some name) (Some (message m)) = refl

-- so the same is found
pub pattern-same : {F G : Type 0} (attribute : Option Text) (f : Option (Meaning F)) (g : Option (Meaning G)) → message_in f ≡ message_in g → pattern_asked attribute f ≡ pattern_asked attribute g
pattern-same attribute f g same = of-message attribute f ∙ ap (asked-of attribute) same ∙ sym (of-message attribute g)

-- the pattern of a message that is there, and none of one that isn't
pub pattern-there : {F : Type 0} (attribute : Option Text) (found : Option (Meaning F)) (m : t.Message) → message_in found ≡ Some m → pattern_asked attribute found ≡ pattern_of attribute m
pattern-there attribute found m is = of-message attribute found ∙ ap (asked-of attribute) is ∙ asked-there attribute m

pub pattern-missing : {F : Type 0} (attribute : Option Text) (found : Option (Meaning F)) → message_in found ≡ None → pattern_asked attribute found ≡ None
pattern-missing attribute found is = of-message attribute found ∙ ap (asked-of attribute) is ∙ asked-missing attribute

-- the answer by whether there is what was asked for, and whether there is the message
pub is-found : {F : Type 0} (env : Environment FluentDateTime F) (id : Text) (attribute : Option Text) (has_pattern has_message : Bool) →
    has_pattern ≡ is_some (pattern_asked attribute (env.find id)) → has_message ≡ is_some (message_in (env.find id)) → IsFound env id attribute (answered has_pattern has_message)
is-found env id attribute true any has is = sym has
is-found env id attribute false true has is = (sym is, sym has)
is-found env id attribute false false has is = (sym is, sym has)

-- a message that a desk with functions has is that of the catalog
pub calling-message : (catalog : Catalog) (functions : Option (List Text)) (made : FunctionDesk LanguagePlurals) (id : Text) → IsSomeAnd functions (λ names. CallsAs names catalog made) →
    message_in (find (desk_ids made.desk) id) ≡ message_in ((catalog_environment catalog).find id)
calling-message catalog None made id calls = absurd calls
calling-message catalog (Some names) made id calls =
    ap message_in (ap (λ env. env.find id) (calls [])) ∙ messages-same names catalog.settings.overriding catalog.sources id

-- what a desk with functions finds is what the catalog has
pub calling-found : (catalog : Catalog) (functions : Option (List Text)) (made : FunctionDesk LanguagePlurals) (id : Text) (attribute : Option Text) → IsSomeAnd functions (λ names. CallsAs names catalog made) →
    (is_some (pattern_asked attribute (find (desk_ids made.desk) id)) ≡ is_some (pattern_asked attribute ((catalog_environment catalog).find id)))
    × (is_some (message_in (find (desk_ids made.desk) id)) ≡ is_some (message_in ((catalog_environment catalog).find id)))
calling-found catalog None made id attribute calls = absurd calls
calling-found catalog (Some names) made id attribute calls =
    let same = ap message_in (ap (λ env. env.find id) (calls [])) ∙ messages-same names catalog.settings.overriding catalog.sources id in
    (ap is_some (pattern-same attribute (find (desk_ids made.desk) id) ((catalog_environment catalog).find id) same), ap is_some same)
