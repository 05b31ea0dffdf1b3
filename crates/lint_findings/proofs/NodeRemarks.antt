-- The findings of a node: of its flaws, and others, which no law is about.
use Rattle.std.proofs.Common.{◌≡◌, ◌∙◌, false, List, [], ◌∷◌, ◌++◌, map, Option, refl, ap}
use Rattle.std.specs.Prelude.{codes}
use Rattle.std.specs.List.{All}
use Rattle.std.specs.Str.{bytes_eq}
use Rattle.std.proofs.lemmas.List.{map-append}
use Rattle.std.proofs.lemmas.List.Elements.{All-nil, All-cons, All-append}
use Rattle.fluent_grammar.specs.Words.{Text, is_among}
use Rattle.fluent_plurals.specs.declared.plurals.LanguagePlurals.{LanguagePlurals}
use Rattle.fluent_meaning.specs.Ids.{Ids}
use Rattle.lint_findings.specs.Finding.{Finding, Remark}
use Rattle.lint_findings.specs.FindingLaws.{syntax_codes, reference_codes}
use Rattle.lint_findings.specs.Flaws.{Flaw}
use Rattle.lint_findings.specs.Nodes.{Node}
use Rattle.lint_findings.specs.Misuses.{misuse_remark}
use Rattle.fluent_number.specs.declared.plural.PluralCategory.{PluralCategory}
use Rattle.fluent_number.specs.declared.plural.PluralCategory.TheVariants.{ZERO, ONE, TWO, FEW, MANY, OTHER}
use Rattle.lint_findings.specs.Facts.{Fact, quoted_placeable, unused_argument, unknown_value, lacking_category, nearly_category, other_text, node_facts, lacking_remark, fact_remark}
use Rattle.lint_findings.specs.EntryFindings.{flaw_remark, category_remark, escape_remark, node_flaws, node_categories, node_escapes, node_misuses, node_doubts, node_findings, shows_number, finding_in}

-- of a flaw of a node
abbrev pub flaw_finding : {F : Type 0} → Ids F → Ids F → Text → Text → Text → Flaw → Finding
flaw_finding ids reference source owner at flaw = finding_in source owner at (flaw_remark ids reference flaw)

made : {A : Type 0} (make : Remark → Finding) (say : A → Remark) (xs : List A) → map make (map say xs) ≡ map (λ x. make (say x)) xs
made make say [] = refl
made make say (x ∷ xs) = ap (λ ys. make (say x) ∷ ys) (made make say xs)

module _ {F : Type 0} (ids reference : Ids F) (plurals : Option LanguagePlurals) (source owner at : Text) where
  pub node_findings_are : (node : Node) → node_findings ids reference plurals source owner at node
      ≡ map (flaw_finding ids reference source owner at) (node_flaws ids node) ++ map (finding_in source owner at) (node_doubts ids plurals node)
  node_findings_are node =
      let make = finding_in source owner at in
      let flaws = node_flaws ids node in
      map-append make (map (flaw_remark ids reference) flaws) (node_doubts ids plurals node)
      ∙ ap (λ fs. fs ++ map make (node_doubts ids plurals node)) (made make (flaw_remark ids reference) flaws)

-- the codes of junk, and of terms that nothing refers to
abbrev pub lone_codes : List Text
lone_codes = codes "unused-term" ∷ syntax_codes

-- a remark with a code that no law is about
pub record IsPlain (r : Remark) : Type 0 where
  pub no_syntax : is_among r.code lone_codes ≡ false
  pub no_reference : is_among r.code reference_codes ≡ false
  pub no_variant : bytes_eq r.code (codes "duplicate-variant") ≡ false

all_plain : {A : Type 0} (say : A → Remark) → ((x : A) → IsPlain (say x)) → (xs : List A) → All IsPlain (map say xs)
all_plain say h [] = All-nil IsPlain
all_plain say h (x ∷ xs) = All-cons IsPlain (say x) (map say xs) (h x) (all_plain say h xs)

lacking_is_plain : (cs : List PluralCategory) (c : PluralCategory) → IsPlain (lacking_remark cs c)
lacking_is_plain [] ONE = record { no_syntax = refl; no_reference = refl; no_variant = refl }
lacking_is_plain [] ZERO = record { no_syntax = refl; no_reference = refl; no_variant = refl }
lacking_is_plain [] TWO = record { no_syntax = refl; no_reference = refl; no_variant = refl }
lacking_is_plain [] FEW = record { no_syntax = refl; no_reference = refl; no_variant = refl }
lacking_is_plain [] MANY = record { no_syntax = refl; no_reference = refl; no_variant = refl }
lacking_is_plain [] OTHER = record { no_syntax = refl; no_reference = refl; no_variant = refl }
lacking_is_plain (c ∷ cs) d = record { no_syntax = refl; no_reference = refl; no_variant = refl }

fact_is_plain : (fact : Fact) → IsPlain (fact_remark fact)
fact_is_plain (quoted_placeable q) = record { no_syntax = refl; no_reference = refl; no_variant = refl }
fact_is_plain (unused_argument id nodes x) = record { no_syntax = refl; no_reference = refl; no_variant = refl }
fact_is_plain (unknown_value id nodes x raw s) = record { no_syntax = refl; no_reference = refl; no_variant = refl }
fact_is_plain (lacking_category cs c) = lacking_is_plain cs c
fact_is_plain (nearly_category s) = record { no_syntax = refl; no_reference = refl; no_variant = refl }
fact_is_plain (other_text id name s key) = record { no_syntax = refl; no_reference = refl; no_variant = refl }

pub doubts_are_plain : {F : Type 0} (ids : Ids F) (plurals : Option LanguagePlurals) (node : Node) → All IsPlain (node_doubts ids plurals node)
doubts_are_plain ids plurals node =
    let says = category_remark (shows_number node) in
    All-append IsPlain (map says (node_categories plurals node)) _
    (all_plain says (λ c. record { no_syntax = refl; no_reference = refl; no_variant = refl }) (node_categories plurals node))
    (All-append IsPlain (map escape_remark (node_escapes node)) _
    (all_plain escape_remark (λ x. record { no_syntax = refl; no_reference = refl; no_variant = refl }) (node_escapes node))
    (All-append IsPlain (map misuse_remark (node_misuses node)) _
    (all_plain misuse_remark (λ m. record { no_syntax = refl; no_reference = refl; no_variant = refl }) (node_misuses node))
    (all_plain fact_remark fact_is_plain (node_facts ids plurals node))))
