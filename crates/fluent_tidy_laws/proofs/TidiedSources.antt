-- Tidied sources have the messages and terms that they had.
use Rattle.std.specs.Prelude.{◌≡◌, List, [], ◌∷◌, ◌++◌}
use Rattle.std.proofs.Common.{refl, ap, ◌∙◌, append_assoc, sym}
use Rattle.fluent_grammar.specs.Words.{Text}
use Rattle.fluent_grammar.specs.Tiling.{list}
use Rattle.fluent_tidy_laws.specs.Joined.{lists}
use Rattle.fluent_tidy_laws.proofs.Slices.{damage_is_local}
use Rattle.fluent_tidy_laws.proofs.Joining.{joined_texts_keep_lists}
use Rattle.fluent_tidy_laws.specs.Tidied.{as_they_were, cut_one, normalized_one, joined_some, step_by_step}
use Rattle.fluent_tidy_laws.specs.NormalLaws.{TidiedSourcesKeepLists}
use Rattle.fluent_tidy_laws.proofs.NormalTexts.{normal_texts_keep_the_list}

lists-append : (one other : List Text) → lists (one ++ other) ≡ lists one ++ lists other
lists-append [] other = refl
lists-append (s ∷ ss) other = ap (λ z. list s ++ z) (lists-append ss other) ∙ sym (append_assoc (list s) (lists ss) (lists other))

-- among others
among : (before one other : List Text) → lists one ≡ lists other → lists (before ++ one) ≡ lists (before ++ other)
among before one other h = lists-append before one ∙ ap (λ z. lists before ++ z) h ∙ sym (lists-append before other)

pub tidied_sources_keep_lists : TidiedSourcesKeepLists
tidied_sources_keep_lists sources others as_they_were = refl
tidied_sources_keep_lists sources others (cut_one before behind source) = among before _ _ (ap (λ z. z ++ lists behind) (damage_is_local source).same_list)
tidied_sources_keep_lists sources others (normalized_one before behind source text n) =
    among before _ _ (ap (λ z. z ++ lists behind) (normal_texts_keep_the_list source text n))
tidied_sources_keep_lists sources others (joined_some before behind neighbours r u) =
    among before _ (neighbours ++ behind) (ap (λ z. z ++ lists behind) (joined_texts_keep_lists neighbours r u).same_lists ∙ sym (lists-append neighbours behind))
tidied_sources_keep_lists sources others (step_by_step one other) = tidied_sources_keep_lists _ others other ∙ tidied_sources_keep_lists sources _ one
