-- Streams that are read one after the other.
use Rattle.std.proofs.Common.{◌≡◌, inl, inr, [], ◌∷◌, ◌++◌, flat_map, refl, sym, ap, ◌∙◌, append-nil, append_assoc}
use Rattle.std.proofs.lemmas.Grind.{flat_map-append}
use Rattle.fluent_serve.specs.Text.{Text, line_feed}
use Rattle.fluent_serve.specs.Lines.{whole_lines, unfinished, unless_empty, lines_of, EndsWhole}
use Rattle.fluent_serve.specs.RequestLaws.{StreamsJoin}
use Rattle.fluent_serve.proofs.Lines.{whole_lines-append, unfinished-append, unfinished_first, unfinished_open}

-- nothing is left after the last line feed
nothing_left : (first : Text) → EndsWhole first → unfinished first ≡ []
unfolding unfinished
nothing_left first (inl is) = rw is refl
nothing_left first (inr (front, is)) = rw is (unfinished-append (line_feed ∷ []) front ∙ unfinished_first (unfinished front) [] (unfinished_open front))

lines_of-is : (s : Text) → lines_of s ≡ whole_lines s ++ unless_empty (unfinished s)
unfolding lines_of
lines_of-is s = refl

lines_of-++ : (first second : Text) → unfinished first ≡ [] → lines_of (first ++ second) ≡ lines_of first ++ lines_of second
lines_of-++ first second none =
    let whole : whole_lines (first ++ second) ≡ whole_lines first ++ whole_lines second = whole_lines-append second first ∙ ap (λ u. whole_lines first ++ whole_lines (u ++ second)) none in
    let left : unfinished (first ++ second) ≡ unfinished second = unfinished-append second first ∙ ap (λ u. unfinished (u ++ second)) none in
    let alone : lines_of first ≡ whole_lines first = lines_of-is first ∙ (ap (λ u. whole_lines first ++ unless_empty u) none ∙ append-nil (whole_lines first)) in
    lines_of-is (first ++ second)
    ∙ (ap (λ w. w ++ unless_empty (unfinished (first ++ second))) whole
    ∙ (ap (λ u. (whole_lines first ++ whole_lines second) ++ unless_empty u) left
    ∙ (append_assoc (whole_lines first) (whole_lines second) (unless_empty (unfinished second))
    ∙ (ap (λ l. whole_lines first ++ l) (sym (lines_of-is second))
    ∙ ap (λ l. l ++ lines_of second) (sym alone)))))

pub streams_join : StreamsJoin
streams_join answer first second whole = ap (λ lines. flat_map answer lines) (lines_of-++ first second (nothing_left first whole)) ∙ flat_map-append answer (lines_of first) (lines_of second)
