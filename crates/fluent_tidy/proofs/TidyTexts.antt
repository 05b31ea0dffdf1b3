-- Laws of tidy texts.
use Rattle.std.proofs.Common.{◌≡◌, ℕ, Bool, true, false, ◌||◌, ◌==◌, List, [], ◌∷◌, ◌++◌, refl, sym, ap, ◌∙◌}
use Rattle.std.specs.Prelude.{◌&&◌}
use Rattle.fluent_grammar.specs.Words.{Text, begins_crlf, begins_with, carriage_return, line_feed, skip_spaces, space}
use Rattle.fluent_grammar.specs.Tiling.{errors, tree, list, listed}
use Rattle.fluent_grammar.proofs.Blanks.{skip_spaces-other}
use Rattle.fluent_tidy_laws.specs.Joined.{lists}
use Rattle.fluent_tidy_laws.proofs.MovingWords.{skip_spaces-more}
use Rattle.fluent_answers.specs.AnswersLaws.{ListsDecide}
use Rattle.fluent_tidy.specs.Sources.{holds_return}
use Rattle.fluent_tidy.specs.TidyText.{begins_with_mark, laid_anew, line_feeds_from, plain, with_line_feeds}
use Rattle.fluent_tidy.specs.TidyLaws.{TidyTextsKeepAnswers, TidyTextsKeepEntries, TidyTextsAreFixed}

neither : (a b : Bool) → (a || b) ≡ false → (a ≡ false) × (b ≡ false)
neither true b e = absurd cc
neither false b e = (refl, e)

-- a text without a carriage return has no CR LF
no_crlf : (s : Text) → holds_return s ≡ false → begins_crlf (skip_spaces s) ≡ false
no_crlf [] h = refl
no_crlf (c ∷ cs) h = let n = neither (c == carriage_return) (holds_return cs) h in by_space c cs (c == space) refl n.0 (no_crlf cs n.1)
  where
    by_space : (c : ℕ) (cs : Text) (b : Bool) → (c == space) ≡ b → (c == carriage_return) ≡ false → begins_crlf (skip_spaces cs) ≡ false → begins_crlf (skip_spaces (c ∷ cs)) ≡ false
    by_space c cs true e n more = ap begins_crlf (skip_spaces-more c cs e) ∙ more
    by_space c cs false e n more = ap begins_crlf (skip_spaces-other c cs e) ∙ ap (λ b. b && begins_with line_feed cs) n

and-false : (b : Bool) → (b && false) ≡ false
and-false true = refl
and-false false = refl

-- it stays as it is
feeds-stay : (at : Bool) (s : Text) → holds_return s ≡ false → line_feeds_from at s ≡ s
feeds-stay at [] h = refl
feeds-stay at (c ∷ cs) h =
    let n = neither (c == carriage_return) (holds_return cs) h in
    let none : (at && (c == space && begins_crlf (skip_spaces cs))) ≡ false =
    ap (λ b. at && ((c == space) && b)) (no_crlf cs n.1) ∙ ap (λ b. at && b) (and-false (c == space)) ∙ and-false at in
    rw (n.0, none) (ap (λ z. c ∷ z) (feeds-stay (c == line_feed) cs n.1))

pub line_feeds-stay : (s : Text) → holds_return s ≡ false → with_line_feeds s ≡ s
line_feeds-stay s h = feeds-stay true s h

-- a tidy text is read as it is
pub plain-stays : (s : Text) → begins_with_mark s ≡ false → holds_return s ≡ false → plain s ≡ s
plain-stays s mark none = rw mark (line_feeds-stay s none)

pub tidy_texts_keep_entries : TidyTextsKeepEntries
tidy_texts_keep_entries source text i = record { entries = i.stays.read_back; same_list = ap listed i.stays.read_back }

pub tidy_texts_are_fixed : TidyTextsAreFixed
tidy_texts_are_fixed source text i =
    let same = plain-stays text i.stays.tidy.no_mark i.stays.tidy.no_return in
    record {
      own = record {
        no_return = ap holds_return same ∙ i.stays.tidy.no_return;
        no_junk = ap errors same ∙ i.stays.tidy.no_junk;
        is = sym i.stays.tidy.stays ∙ ap laid_anew (sym same);
        stays = record { read_back = ap tree (sym same); tidy = i.stays.tidy };
      };
      alone = λ other o. o.is ∙ sym i.is;
    }

lists-at : (before : List Text) (one other : Text) (behind : List Text) → list other ≡ list one → lists (before ++ other ∷ behind) ≡ lists (before ++ one ∷ behind)
lists-at [] one other behind h = ap (λ z. z ++ lists behind) h
lists-at (s ∷ ss) one other behind h = ap (λ z. list s ++ z) (lists-at ss one other behind h)

pub tidy_texts_keep_answers : (S F : Type 0) → ListsDecide S F → TidyTextsKeepAnswers S F
tidy_texts_keep_answers S F decide before behind source text i =
    decide (before ++ plain source ∷ behind) (before ++ text ∷ behind) (lists-at before (plain source) text behind (tidy_texts_keep_entries source text i).same_list)
