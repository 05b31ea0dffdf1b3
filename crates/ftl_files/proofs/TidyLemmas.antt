-- Files that are tidied, one after the other.
use Rattle.std.proofs.Common.{◌≡◌, ◌∙◌, arith, ℕ, ◌+◌, ◌<◌, Bool, true, false, Result, Ok, Err, OnErr, rules, List, [], ◌∷◌, Bor, length, take, get_or}
use Rattle.std.proofs.lemmas.List.{take_all, take_more, map-append, take-map}
use Rattle.fluent_serve.specs.Text.{Text}
use Rattle.fluent_serve.specs.Texts.{texts}
use Rattle.ftl_files.specs.Files.{State}
use Rattle.ftl_files.specs.Tidying.{EndsSo, FileEnd, GoesThrough, GoesThroughFirst, IsLeft, Said, kept, changed, failed, refused, out_of_memory, unreadable, not_utf8, unwritable, one_more, said_after}

-- one file more is tidied
pub through_next : (check : Bool) (start here there : State) (names : List (Bor Text)) (i : ℕ) (d : Bor Text) (said after : Said) (end : FileEnd) → i < length names →
    GoesThrough check start (texts (take i names)) said here → EndsSo check (get_or names i d).now end here there →
    after ≡ said_after check said (get_or names i d).now end → GoesThrough check start (texts (take (i + 1) names)) after there
through_next check start here there names i d said after end inside before ended is =
    rw (is, take_more names i d inside, map-append (λ (n : Bor Text). n.now) (take i names) (get_or names i d ∷ []))
    (one_more (get_or names i d).now end there before ended)

-- memory ran out after the first files
module _ (check : Bool) (start here after : State) where
  pub first_through : (names : List Text) (count : ℕ) (said : Said) → GoesThrough check start (take count names) said here → after.contents ≡ here.contents →
      GoesThroughFirst check names start after
  first_through names count said through same = record { count = count; said = said; there = here; through = through; stopped = same }

  -- of these
  pub first_of : (names : List (Bor Text)) (i : ℕ) (said : Said) → GoesThrough check start (texts (take i names)) said here → after.contents ≡ here.contents →
      GoesThroughFirst check (texts names) start after
  first_of names i said through same =
      first_through (texts names) i said (rw (take-map (λ (n : Bor Text). n.now) i names) through) same

  -- after all of them
  pub all_through : (names : List Text) (said : Said) → GoesThrough check start names said here → after.contents ≡ here.contents → GoesThroughFirst check names start after
  all_through names said through same = first_through names (length names) said (rw (take_all (length names) names (omega arith)) through) same

-- a file that was read before it was tidied
pub ends_later : (check : Bool) (name : Text) (before mid after : State) → IsLeft before mid → (end : FileEnd) → EndsSo check name end mid after →
    EndsSo check name end before after
ends_later check name before mid after left kept e =
    (record { kept = e.0.kept ∙ left.kept; works = e.0.works ∙ left.works }, rw left.kept at e.1)
ends_later true name before mid after left (changed text) e =
    record { source = rw left.kept at e.source; writes = e.writes ∙ left.kept; works = e.works ∙ left.works }
ends_later false name before mid after left (changed text) e =
    record { source = rw left.kept at e.source; writes = rw left.kept at e.writes; works = e.works ∙ left.works }
ends_later check name before mid after left (failed unreadable why) e = record { kept = e.kept ∙ left.kept; fails = rw left.works at e.fails }
ends_later check name before mid after left (failed not_utf8 why) e =
    (record { kept = e.0.kept ∙ left.kept; works = e.0.works ∙ left.works }, rw left.kept at e.1)
ends_later check name before mid after left (failed unwritable why) e = record { kept = e.kept ∙ left.kept; fails = rw left.works at e.fails }
ends_later check name before mid after left (refused report) e =
    (record { kept = e.0.kept ∙ left.kept; works = e.0.works ∙ left.works }, rw left.kept at e.1)
ends_later check name before mid after left (out_of_memory report) e =
    (record { kept = e.0.kept ∙ left.kept; works = e.0.works ∙ left.works }, rw left.kept at e.1)

-- nothing but the state is known after an error
pub on_err : {T E P : Type 0} (r : Result T E) → P → OnErr r P
on_err (Ok x) p = search rules
on_err (Err e) p = p
