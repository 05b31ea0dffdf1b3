-- Sources with the same messages and terms.
use Rattle.std.proofs.Common.{◌≡◌, [], ◌∷◌, ap, ◌∙◌, append-nil}
use Rattle.fluent_tidy_laws.specs.Joined.{joined, lists}
use Rattle.fluent_grammar.specs.Tiling.{list}
use Rattle.fluent_tidy_laws.specs.CutLaws.{JoinsCleanly}
use Rattle.fluent_tidy_laws.proofs.Joining.{joined_texts_keep_lists}
use Rattle.fluent_tidy_laws.proofs.TidiedSources as tidied
use Rattle.fluent_meaning.specs.Ids.{number_pair, with_ids, notices, entries_by_id, find}
use Rattle.fluent_answers.specs.Sources.{environment_of}
use Rattle.fluent_answers.specs.Answers.{answers_from}
use Rattle.fluent_answers.specs.AnswersLaws.{ListsDecide, TidiedSourcesKeepAnswers, JoinedSourcesKeepNotices}

pub lists_decide : (S F : Type 0) → ListsDecide S F
lists_decide S F sources others same plurals shown settings bytes = ap (λ entries. answers_from (record (environment_of {F = F} plurals shown settings sources) { find = find (with_ids settings.overriding (number_pair ∷ []) (entries_by_id entries)) }) bytes) same

pub tidied_sources_keep_answers : (S F : Type 0) → TidiedSourcesKeepAnswers S F
tidied_sources_keep_answers S F sources others steps = lists_decide S F sources others (tidied.tidied_sources_keep_lists sources others steps)

pub joined_sources_keep_notices : (F : Type 0) → JoinedSourcesKeepNotices F
joined_sources_keep_notices F sources none utf8 =
    let joins : JoinsCleanly sources = joined_texts_keep_lists sources none utf8 in
    let same : lists (joined sources ∷ []) ≡ lists sources = append-nil (list (joined sources)) ∙ joins.same_lists in
    ap (λ entries. notices {F = F} (number_pair ∷ []) (entries_by_id entries)) same
