-- The ids of sources that are put in one after the other.
use Rattle.std.proofs.Common.{◌≡◌, List, [], ◌∷◌, ◌++◌, refl, ap, sym, ◌∙◌, append-nil, append_assoc}
use Rattle.std.specs.Prelude.{All, None}
use Rattle.std.proofs.lemmas.List.Elements.{All-head, All-tail}
use Rattle.fluent_grammar.specs.Words.{Text}
use Rattle.fluent_grammar.specs.Tree as t
use Rattle.fluent_grammar.specs.Tiling.{list, listed, runtime_tree}
use Rattle.fluent_grammar.specs.TilingLaws.{HasNoComment}
use Rattle.fluent_grammar.proofs.TilesPlain.{runtime_has_no_comments}
use Rattle.fluent_grammar.proofs.TilesRuntime.{runtime_has_the_same_list}
use Rattle.fluent_tidy_laws.specs.Joined.{lists}
use Rattle.fluent_meaning.specs.Ids.{message, term, number_pair, with_ids, notices, entries_by_id}
use Rattle.fluent_meaning.proofs.InTurn.{with_ids-++, notices-++}
use Rattle.fluent_answers.specs.AnswersLaws.{IdsGoOn, NoticesGoOn, RuntimeHasTheSameIds}

module _ (F : Type 0) where
  -- comments apart, entries and their list have the same ids
  listed-ids : (es : List t.Entry) → All HasNoComment es → entries_by_id {F = F} es ≡ entries_by_id (listed es)
  listed-ids [] plain = refl
  listed-ids (t.message m ∷ es) plain =
      ap (λ c. (m.id, message (record m { comment = c })) ∷ entries_by_id es) (All-head HasNoComment (t.message m) es plain)
      ∙ ap (λ pairs. (m.id, message (record m { comment = None })) ∷ pairs) (listed-ids es (All-tail HasNoComment (t.message m) es plain))
  listed-ids (t.term m ∷ es) plain =
      ap (λ c. (m.id, term (record m { comment = c })) ∷ entries_by_id es) (All-head HasNoComment (t.term m) es plain)
      ∙ ap (λ pairs. (m.id, term (record m { comment = None })) ∷ pairs) (listed-ids es (All-tail HasNoComment (t.term m) es plain))
  listed-ids (t.comment c ∷ es) plain = listed-ids es (All-tail HasNoComment (t.comment c) es plain)
  listed-ids (t.group_comment c ∷ es) plain = listed-ids es (All-tail HasNoComment (t.group_comment c) es plain)
  listed-ids (t.resource_comment c ∷ es) plain = listed-ids es (All-tail HasNoComment (t.resource_comment c) es plain)
  listed-ids (t.junk s ∷ es) plain = listed-ids es (All-tail HasNoComment (t.junk s) es plain)

  pub runtime_has_the_same_ids : RuntimeHasTheSameIds F
  runtime_has_the_same_ids source = listed-ids (runtime_tree source) (runtime_has_no_comments source) ∙ ap entries_by_id (runtime_has_the_same_list source)

  pub entries_by_id-++ : (es more : List t.Entry) → entries_by_id {F = F} (es ++ more) ≡ entries_by_id es ++ entries_by_id more
  entries_by_id-++ [] more = refl
  entries_by_id-++ (t.message m ∷ es) more = ap (λ pairs. (m.id, message m) ∷ pairs) (entries_by_id-++ es more)
  entries_by_id-++ (t.term m ∷ es) more = ap (λ pairs. (m.id, term m) ∷ pairs) (entries_by_id-++ es more)
  entries_by_id-++ (t.comment c ∷ es) more = entries_by_id-++ es more
  entries_by_id-++ (t.group_comment c ∷ es) more = entries_by_id-++ es more
  entries_by_id-++ (t.resource_comment c ∷ es) more = entries_by_id-++ es more
  entries_by_id-++ (t.junk s ∷ es) more = entries_by_id-++ es more

  lists-more : (sources : List Text) (source : Text) → lists (sources ++ source ∷ []) ≡ lists sources ++ list source
  lists-more [] source = append-nil (list source)
  lists-more (s ∷ ss) source = ap (λ es. list s ++ es) (lists-more ss source) ∙ sym (append_assoc (list s) (lists ss) (list source))

  -- the messages and terms of one source more, by their ids
  more_by_id : (sources : List Text) (source : Text) → entries_by_id {F = F} (lists (sources ++ source ∷ [])) ≡ entries_by_id (lists sources) ++ entries_by_id (runtime_tree source)
  more_by_id sources source =
      ap entries_by_id (lists-more sources source)
      ∙ (entries_by_id-++ (lists sources) (list source)
      ∙ ap (λ pairs. entries_by_id (lists sources) ++ pairs) (sym (runtime_has_the_same_ids source)))

  pub ids_go_on : IdsGoOn F
  ids_go_on overriding sources source =
      ap (λ pairs. with_ids overriding (number_pair ∷ []) pairs) (more_by_id sources source)
      ∙ with_ids-++ overriding (number_pair ∷ []) (entries_by_id (lists sources)) (entries_by_id (runtime_tree source))

  pub notices_go_on : NoticesGoOn F
  notices_go_on sources source =
      ap (λ pairs. notices (number_pair ∷ []) pairs) (more_by_id sources source)
      ∙ notices-++ (number_pair ∷ []) (entries_by_id (lists sources)) (entries_by_id (runtime_tree source))
