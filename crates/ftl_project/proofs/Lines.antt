-- What baselines have, line by line, and what they leave out.
use Rattle.std.proofs.Common.{◌≡◌, ◌∙◌, ℕ, zero, suc, ◌+◌, ◌<◌, ◌≤◌, ◌||◌, Bool, true, if◌then◌else◌, not, List, [], ◌∷◌, ◌++◌, String, length, take, drop, get_or, map, refl, ap, sym, string_bytes, drop-cons, add-one, arith, Result, Ok, Err, IfOk}
use Rattle.std.proofs.lemmas.List.{drop_all, map-append}
use Rattle.std.proofs.lemmas.List.Elements.{filter-append}
use Rattle.std.proofs.lemmas.Map.Text.{is_eq-slice_cmp}
use Rattle.std.specs.Global.{Global}
use Rattle.std.specs.List.{flat_map, list_any}
use Rattle.std.specs.Cmp.Lexicographic.{nat_list_eq_equiv, slice_cmp}
use Rattle.std.specs.Ordering.{match_ordering, nat_cmp}
use Rattle.std.specs.String.{string_cmp}
use Rattle.std.specs.Str.{bytes_eq}
use Rattle.std.specs.BTreeMap.{is_at}
use Rattle.std.specs.BTreeSet.{insert_key}
use Rattle.std.specs.declared.cmp.Ordering.{Ordering}
use Rattle.std.specs.declared.cmp.Ordering.TheVariants.{Less, Equal, Greater}
use Rattle.fluent_grammar.specs.Words.{Text, is_among}
use Rattle.fluent_lint.specs.declared.reports.Output.{Output}
use Rattle.lint_findings.specs.Findings.{FileFinding}
use Rattle.lint_findings.specs.Report.{is_shown, shown}
use Rattle.lint_findings.specs.View.{findings_view}
use Rattle.lint_findings.specs.declared.records.File.{File}
use Rattle.lint_findings.specs.declared.records.Finding.{Finding}
use Rattle.lint_report.specs.View.{in_file}
use Rattle.ftl_project.specs.Baselines.{findings_of, is_known, known_line, with_line, with_lines, with_shown, without}
use Rattle.ftl_project.specs.Left.{new_group, new_groups}
use Rattle.ftl_project.specs.Reports.{GroupFound, IsReportBy, all_found, group_view, groups_view, has_failure, text_by}
use Rattle.ftl_project.specs.declared.report.Group.{Group}
use Rattle.ftl_project.specs.declared.report.ProjectReport.{ProjectReport}

-- ---- a line more

match-map : {X Y : Type 0} (f : X → Y) (o : Ordering) (a b c : X) → f (match_ordering o a b c) ≡ match_ordering o (f a) (f b) (f c)
match-map f Less a b c = refl
match-map f Equal a b c = refl
match-map f Greater a b c = refl

-- a text is put where its bytes are
pub line_put : (ks : List (String Global)) (k : String Global) → map string_bytes (insert_key string_cmp ks k) ≡ with_line (map string_bytes ks) (string_bytes k)
line_put [] k = refl
line_put (x ∷ xs) k =
    match-map (map string_bytes) (string_cmp k x) (k ∷ x ∷ xs) (x ∷ xs) (x ∷ insert_key string_cmp xs k)
    ∙ ap (λ l. match_ordering (string_cmp k x) (string_bytes k ∷ string_bytes x ∷ map string_bytes xs) (string_bytes x ∷ map string_bytes xs) (string_bytes x ∷ l)) (line_put xs k)

-- a text is found if its bytes are among them
pub line_found : (ks : List (String Global)) (line : Text) → list_any (is_at (λ (k : String Global). slice_cmp nat_cmp line (string_bytes k))) ks ≡ is_among line (map string_bytes ks)
line_found [] line = refl
line_found (k ∷ ks) line =
    let here : is_at (λ (x : String Global). slice_cmp nat_cmp line (string_bytes x)) k ≡ bytes_eq (string_bytes k) line =
    is_eq-slice_cmp line (string_bytes k) ∙ nat_list_eq_equiv.symm line (string_bytes k) in
    ap (λ b. b || list_any (is_at (λ (x : String Global). slice_cmp nat_cmp line (string_bytes x))) ks) here
    ∙ ap (λ b. bytes_eq (string_bytes k) line || b) (line_found ks line)

-- ---- lines of more findings

with_lines-append : (lines more others : List Text) → with_lines lines (more ++ others) ≡ with_lines (with_lines lines more) others
with_lines-append lines [] others = refl
with_lines-append lines (l ∷ ls) others = with_lines-append (with_line lines l) ls others

pub with_shown-append : (notes : Bool) (lines : List Text) (fs gs : List FileFinding) → with_shown notes lines (fs ++ gs) ≡ with_shown notes (with_shown notes lines fs) gs
with_shown-append notes lines fs gs =
    ap (λ l. with_lines lines (map known_line l)) (filter-append (λ (f : FileFinding). is_shown notes f.finding.severity) fs gs)
    ∙ ap (with_lines lines) (map-append known_line (shown notes fs) (shown notes gs))
    ∙ with_lines-append lines (map known_line (shown notes fs)) (map known_line (shown notes gs))

-- of a finding that is shown
pub one_shown : (notes : Bool) (lines : List Text) (f : FileFinding) → is_shown notes f.finding.severity ≡ true → with_shown notes lines (f ∷ []) ≡ with_line lines (known_line f)
one_shown notes lines f shows = ap (λ b. with_lines lines (map known_line (if b then f ∷ [] else []))) shows

-- With the lines of what is left, the lines are those of all.
module _ {X : Type 0} (notes : Bool) (seen : X → List FileFinding) (xs : List X) (old : List Text) where
  abbrev pub LinesSoFar : ℕ → List Text → Type 0
  LinesSoFar done lines = with_shown notes lines (flat_map seen (drop done xs)) ≡ with_shown notes old (flat_map seen xs)

  pub lines_next : (done : ℕ) (d : X) (lines more : List Text) → done < length xs → LinesSoFar done lines → more ≡ with_shown notes lines (seen (get_or xs done d)) → LinesSoFar (done + 1) more
  lines_next done d lines more within so_far added =
      rw (add-one, added) (sym (with_shown-append notes lines (seen (get_or xs done d)) (flat_map seen (drop (suc done) xs)))
      ∙ ap (λ rest. with_shown notes lines (flat_map seen rest)) (sym (drop-cons xs done d within)) ∙ so_far)

  pub lines_at_last : (done : ℕ) (lines : List Text) → length xs ≤ done → LinesSoFar done lines → lines ≡ with_shown notes old (flat_map seen xs)
  lines_at_last done lines over so_far = ap (λ rest. with_shown notes lines (flat_map seen rest)) (sym (drop_all done xs over)) ∙ so_far

-- the findings of a file, one after the other
pub each_in_file : (file : File) (fs : List Finding) → flat_map (λ (f : Finding). in_file file f ∷ []) fs ≡ findings_of file fs
each_in_file file [] = refl
each_in_file file (f ∷ fs) = ap (λ l. in_file file f ∷ l) (each_in_file file fs)

-- those of groups
pub each_in_groups : (gs : List Group) → flat_map (λ (g : Group). findings_view g.found.items) gs ≡ all_found (groups_view gs)
each_in_groups [] = refl
each_in_groups (g ∷ gs) = ap (λ l. findings_view g.found.items ++ l) (each_in_groups gs)

-- ---- what is left out

module _ (lines : List Text) where
  abbrev isnt_known : FileFinding → Bool
  isnt_known f = not (is_known lines f)

  -- of findings that are put together
  pub without_each : {X : Type 0} (seen : X → List FileFinding) (xs : List X) → flat_map (λ (x : X). without lines (seen x)) xs ≡ without lines (flat_map seen xs)
  without_each seen [] = refl
  without_each seen (x ∷ xs) =
      ap (λ l. without lines (seen x) ++ l) (without_each seen xs) ∙ sym (filter-append isnt_known (seen x) (flat_map seen xs))

  pub new_groups_each : (gs : List Group) → flat_map (λ (g : Group). new_group lines (group_view g) ∷ []) gs ≡ new_groups lines (groups_view gs)
  new_groups_each [] = refl
  new_groups_each (g ∷ gs) = ap (λ l. new_group lines (group_view g) ∷ l) (new_groups_each gs)

-- by no lines
pub without_none : (fs : List FileFinding) → without [] fs ≡ fs
without_none [] = refl
without_none (f ∷ fs) = ap (λ l. f ∷ l) (without_none fs)

pub new_by_none : (gs : List GroupFound) → new_groups [] gs ≡ gs
new_by_none [] = refl
new_by_none (g ∷ gs) =
    ap (λ l. record g { found = l } ∷ new_groups [] gs) (without_none g.found) ∙ ap (λ l. g ∷ l) (new_by_none gs)

-- ---- a report of groups is one of the same groups

pub report_from : {E : Type 0} (o : Output) (gs hs : List GroupFound) (r : Result ProjectReport E) → IfOk r (λ made. string_bytes made.text ≡ text_by o gs) →
    IfOk r (λ made. made.has_failed ≡ has_failure o gs) → gs ≡ hs → IfOk r (IsReportBy o hs)
report_from o gs hs (Ok made) text failed same = record { text = text ∙ ap (text_by o) same; failed = failed ∙ ap (has_failure o) same }
report_from o gs hs (Err e) text failed same = tt

-- as many items as there are in front
pub take_front : {X : Type 0} (new rest : List X) (n : ℕ) → length new ≡ n → take n (new ++ rest) ≡ new
take_front [] rest zero long = refl
take_front [] rest (suc n) long = absurd (omega (arith, long))
take_front (x ∷ xs) rest zero long = absurd (omega (arith, long))
take_front (x ∷ xs) rest (suc n) long = ap (λ l. x ∷ l) (take_front xs rest n (omega (arith, long)))
