-- What is found of an entry, one after the other.
use Rattle.std.proofs.Common.{◌≡◌, ◌∙◌, ℕ, Bool, true, false, if◌then◌else◌, List, [], ◌++◌, length, map, Option, Some, None, option_to_list, refl, sym, ap, append_assoc}
use Rattle.std.specs.Prelude.{◌==◌, is_some, not}
use Rattle.lint_entries.specs.AttributePlaces.{uncommented}
use Rattle.lint_findings.specs.View.{finding_view}
use Rattle.lint_findings.specs.declared.records.Finding as code
use Rattle.lint_findings.specs.DuplicateIds.{Declaration, duplicate_findings, id_of}
use Rattle.lint_findings.specs.Files.{File}
use Rattle.lint_findings.specs.Finding.{Finding}
use Rattle.lint_findings.specs.Findings.{Rules, findings_if_first, findings_of_entry, own_findings}
use Rattle.lint_findings.specs.UnusedTerms.{unused_findings}
use Rattle.fluent_grammar.specs.Tree as t
use Rattle.fluent_grammar.specs.Words.{Text}
use Rattle.fluent_meaning.specs.Ids.{Ids}
use Rattle.lint_files.specs.PartFindings.{entry_findings_at, offset_in}

-- twice and three times in a row
two_added : (a l m : List Finding) {b c : List Finding} → b ≡ a ++ l → c ≡ b ++ m → c ≡ a ++ (l ++ m)
two_added a l m p q = q ∙ ap (λ z. z ++ m) p ∙ append_assoc a l m

three_added : (a l m n : List Finding) {b c d : List Finding} → b ≡ a ++ l → c ≡ b ++ m → d ≡ c ++ n → d ≡ a ++ (l ++ (m ++ n))
three_added a l m n {b = b} p q r = two_added a l (m ++ n) p (two_added b m n q r)

same_id : (e : t.Entry) → id_of (uncommented e) ≡ id_of e
same_id (t.message m) = refl
same_id (t.term m) = refl
same_id (t.comment c) = refl
same_id (t.group_comment c) = refl
same_id (t.resource_comment c) = refl
same_id (t.junk x) = refl

same_duplicates : (functions : Ids (Unit {0})) (before : List Declaration) (e : t.Entry) (at : ℕ) (id : Text) →
    duplicate_findings functions before e at id ≡ duplicate_findings functions before (uncommented e) at id
same_duplicates functions before (t.message m) at id = refl
same_duplicates functions before (t.term m) at id = refl
same_duplicates functions before (t.comment c) at id = refl
same_duplicates functions before (t.group_comment c) at id = refl
same_duplicates functions before (t.resource_comment c) at id = refl
same_duplicates functions before (t.junk x) at id = refl

-- the same of terms that nothing refers to
pub same_unused : (is_referred : Text → Bool) (e : t.Entry) (at place : ℕ) → at ≡ place → unused_findings is_referred e at ≡ unused_findings is_referred (uncommented e) place
same_unused is_referred (t.message m) at place is = refl
same_unused is_referred (t.term m) at place is = ap (unused_findings is_referred (t.term m)) is
same_unused is_referred (t.comment c) at place is = refl
same_unused is_referred (t.group_comment c) at place is = refl
same_unused is_referred (t.resource_comment c) at place is = refl
same_unused is_referred (t.junk x) at place is = refl

-- what counts if there is no duplicate
if_new : (d : Option code.Finding) (is_new : Bool) (xs : List Finding) → is_some d ≡ not is_new →
    (if is_new then xs else []) ≡ (if length (map finding_view (option_to_list d)) == 0 then xs else [])
if_new None true xs e = refl
if_new None false xs e = absurd cc
if_new (Some f) true xs e = absurd cc
if_new (Some f) false xs e = refl

module _ (rules : Rules) (file : File) (before : List Declaration) (s : Text) (e : t.Entry) (id : Text) where
  -- what is found of it if it is the first
  abbrev if_first : List Finding
  if_first = findings_if_first rules file.source (uncommented e) (offset_in file s) s

  -- the findings of an entry of this id, after its duplicates
  abbrev with_duplicates : List Finding → List Finding
  with_duplicates ds =
      ds ++ (own_findings rules file.source (uncommented e) s ++ (if length ds == 0 then if_first else []))

  pub entry_added : (d : Option code.Finding) (is_new : Bool) (x y z w : List Finding) → id_of e ≡ Some id →
      map finding_view (option_to_list d) ≡ duplicate_findings rules.functions before e (offset_in file s) id → is_some d ≡ not is_new →
      y ≡ x ++ map finding_view (option_to_list d) → z ≡ y ++ own_findings rules file.source (uncommented e) s →
      w ≡ z ++ (if is_new then if_first else []) →
      w ≡ x ++ entry_findings_at rules file before s (uncommented e)
  entry_added d is_new x y z w has_id duplicates new p q r =
      let found = map finding_view (option_to_list d) in
      let own = own_findings rules file.source (uncommented e) s in
      three_added x found own (if is_new then if_first else []) p q r
      ∙ ap (λ l. x ++ (found ++ (own ++ l))) (if_new d is_new if_first new)
      ∙ ap (λ l. x ++ with_duplicates l) (duplicates ∙ same_duplicates rules.functions before e (offset_in file s) id)
      ∙ ap (λ i. x ++ findings_of_entry rules before file.source (uncommented e) (offset_in file s) s i) (sym (same_id e ∙ has_id))
