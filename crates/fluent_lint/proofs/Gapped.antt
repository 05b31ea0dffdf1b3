-- The messages that a file lacks, one after the other.
use Rattle.std.proofs.Common.{◌≡◌, ◌∙◌, ℕ, ◌+◌, ◌<◌, cond, List, [], ◌∷◌, ◌++◌, Option, length, drop, get_or, map, refl, sym, ap, append_assoc, add-one, drop-cons, Bor}
use Rattle.std.proofs.lemmas.List.{get_or_default}
use Rattle.std.proofs.lemmas.List.Sums.{sum_by-cons}
use Rattle.std.specs.Prelude.{count_by, is_some, unwrap_or}
use Rattle.fluent_grammar.specs.Words.{Text}
use Rattle.fluent_resource.specs.Sources.{texts}
use Rattle.lint_findings.specs.View.{finding_view}
use Rattle.lint_findings.specs.declared.records.Finding as code
use Rattle.lint_findings.specs.Finding.{Finding}
use Rattle.fluent_lint.specs.Gaps.{has_place}
use Rattle.fluent_lint.specs.MessagePlaces.{HasPlaces}
use Rattle.fluent_lint.specs.Pairs.{first_place, gap_at, gaps_from}
use Rattle.fluent_lint.specs.declared.message_places.MessagePlaces.{MessagePlaces}

next_id : (ids : List (Bor Text)) (i : ℕ) (item : Bor Text) → i < length ids → item ≡ get_or ids i item → texts (drop i ids) ≡ item.now ∷ texts (drop (i + 1) ids)
next_id ids i item inside is = ap texts (drop-cons ids i item inside) ∙ rw (← is, add-one) refl

module _ (ps : List (Text × ℕ)) (ids : List (Bor Text)) (i : ℕ) (d : Bor Text) (inside : i < length ids) where
  abbrev item : Bor Text
  item = get_or ids i d

  pub one_gap : (at next : ℕ) (place : Option ℕ) (old new : List code.Finding) (all : List Finding) →
      place ≡ first_place item.now ps → next ≡ unwrap_or place at → map finding_view new ≡ map finding_view old ++ gap_at at item.now place →
      map finding_view old ++ gaps_from ps at (texts (drop i ids)) ≡ all →
      map finding_view new ++ gaps_from ps next (texts (drop (i + 1) ids)) ≡ all
  one_gap at next place old new all place_is next_is added before =
      let rest = texts (drop (i + 1) ids) in
      let later = gaps_from ps next rest in
      let here : gap_at at item.now place ++ later ≡ gaps_from ps at (item.now ∷ rest) =
      ap (λ n. gap_at at item.now place ++ gaps_from ps n rest) next_is
      ∙ ap (λ p. gap_at at item.now p ++ gaps_from ps (unwrap_or p at) rest) place_is in
      ap (λ l. l ++ later) added
      ∙ append_assoc (map finding_view old) (gap_at at item.now place) later
      ∙ ap (λ l. map finding_view old ++ l) (here ∙ ap (gaps_from ps at) (sym (next_id ids i item inside (get_or_default ids i d item inside))))
      ∙ before

-- so many of the ids have a place
pub placed : (places : MessagePlaces) (ps : List (Text × ℕ)) → HasPlaces places ps → (ids : List (Bor Text)) →
    count_by (has_place places) ids ≡ count_by (λ id. is_some (first_place id ps)) (texts ids)
placed places ps has [] = refl
placed places ps has (id ∷ ids) =
    sum_by-cons (λ x. cond (has_place places x) 1 0) id ids
    ∙ ap (λ o. cond (is_some o) 1 0 + count_by (has_place places) ids) (has id.now)
    ∙ ap (λ n. cond (is_some (first_place id.now ps)) 1 0 + n) (placed places ps has ids)
    ∙ sym (sum_by-cons (λ x. cond (is_some (first_place x ps)) 1 0) id.now (texts ids))
