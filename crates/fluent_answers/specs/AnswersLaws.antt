-- Laws of answers, as statements.
use Rattle.std.specs.Prelude.{◌≡◌, Bool, false, List, [], ◌∷◌, ◌++◌}
use Rattle.fluent_grammar.specs.Words.{Text}
use Rattle.fluent_grammar.specs.Tiling.{list, runtime_tree}
use Rattle.fluent_tidy_laws.specs.Joined.{joined, lists, HaveNoReturn, AreUtf8}
use Rattle.fluent_tidy_laws.specs.Tidied.{Tidied}
use Rattle.fluent_value.specs.Matching.{Plurals}
use Rattle.fluent_meaning.specs.Ids.{with_ids, notices, entries_by_id}
use Rattle.fluent_answers.specs.Sources.{Settings, ids_of, notices_of}
use Rattle.fluent_answers.specs.Answers.{answers}

-- Sources have the same answers, to all request bytes, with all settings and plural sources.
abbrev pub AnswerAlike : Type 0 → Type 0 → List Text → List Text → Type 0
AnswerAlike S F sources others =
    (plurals : Plurals) (shown : S → Text) (settings : Settings) (bytes : Text) →
    answers F plurals shown settings others bytes ≡ answers F plurals shown settings sources bytes

-- Their messages and terms, one source after the other, decide their answers.
abbrev pub ListsDecide : Type 0 → Type 0 → Type 0
ListsDecide S F = (sources others : List Text) → lists others ≡ lists sources → AnswerAlike S F sources others

-- Sources that were tidied answer as they did.
abbrev pub TidiedSourcesKeepAnswers : Type 0 → Type 0 → Type 0
TidiedSourcesKeepAnswers S F = (sources others : List Text) → Tidied sources others → AnswerAlike S F sources others

-- The joined text has the notices of the sources, if the first entry of an id counts.
abbrev pub JoinedSourcesKeepNotices : Type 0 → Type 0
JoinedSourcesKeepNotices F = (sources : List Text) → HaveNoReturn sources → AreUtf8 sources → notices_of F (joined sources ∷ []) ≡ notices_of F sources

-- ---- sources that are added one after the other

-- What is read for use at run time has the messages and terms of the source, by their ids.
abbrev pub RuntimeHasTheSameIds : Type 0 → Type 0
RuntimeHasTheSameIds F = (source : Text) → entries_by_id {F = F} (runtime_tree source) ≡ entries_by_id (list source)

-- One source more puts in what is read of it for use at run time.
abbrev pub IdsGoOn : Type 0 → Type 0
IdsGoOn F = (overriding : Bool) (sources : List Text) (source : Text) →
    ids_of {F = F} overriding (sources ++ source ∷ []) ≡ with_ids overriding (ids_of overriding sources) (entries_by_id (runtime_tree source))

-- It has its notices after those of the sources before it.
abbrev pub NoticesGoOn : Type 0 → Type 0
NoticesGoOn F = (sources : List Text) (source : Text) →
    notices_of F (sources ++ source ∷ []) ≡ notices_of F sources ++ notices (ids_of {F = F} false sources) (entries_by_id (runtime_tree source))
