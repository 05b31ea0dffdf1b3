-- What is found of a refusal, and where.
use Rattle.std.proofs.Common.{◌≡◌, ◌∙◌, ℕ, ◌+◌, ◌<◌, Bool, true, cond, List, [], ◌∷◌, ◌++◌, length, map, take, get_or, Option, Some, None, refl, sym, ap, subst, append-nil}
use Rattle.std.specs.Prelude.{option_map}
use Rattle.std.specs.List.{filter_map, cons_option}
use Rattle.std.specs.Option.{option_or, option_to_list}
use Rattle.std.proofs.lemmas.List.{take_more, map-append}
use Rattle.std.proofs.lemmas.List.Elements.{filter_map-append, All-append, All-cons, All-nil}
use Rattle.fluent_grammar.specs.Words.{Text, begins_with, dot, skip_spaces}
use Rattle.fluent_grammar.specs.Refusal.{Refusal, Reading, got, refused}
use Rattle.fluent_grammar.specs.Tree as t
use Rattle.fluent_grammar.specs.Reading.{attribute_at, entry_at}
use Rattle.fluent_parsed.specs.declared.errors.ErrorKind.{ErrorKind}
use Rattle.fluent_parser.specs.Reads.{Refuses}
use Rattle.fluent_parser.specs.Entries.{attribute_by}
use Rattle.fluent_parser.specs.Refusals.{refusal_of, attribute_refusal, first_refusal, RefusalView, refusal_view, refusal_from, refusals_from, IsBetweenCharacters, AreBetweenCharacters, IfAnyBetweenCharacters}
use Rattle.fluent_parser.specs.declared.refusals.Refusal.{Refusal as Found}
use Rattle.fluent_parser.specs.Refused.{FindsRefusal}
use Rattle.fluent_parser.proofs.Entries.{attribute_is}

reading_got : {A : Type 0} (x : Reading A) (a : A) (rest u : Text) → x ≡ got a rest → FindsRefusal None u (refusal_of x)
reading_got (got b v) a rest u e = tt
reading_got (refused f) a rest u e = absurd cc

reading_refused : {A : Type 0} (x : Reading A) (kind : ErrorKind) (rest : Text) → Refuses kind rest x → FindsRefusal (Some kind) rest (refusal_of x)
reading_refused (got a v) kind rest h = absurd h
reading_refused (refused f) kind rest h = h

-- an attribute is read
pub attribute_got : (s : Text) (a : t.Attribute) (rest u : Text) → begins_with dot (skip_spaces s) ≡ true → attribute_by s ≡ got a rest → FindsRefusal None u (attribute_refusal s)
attribute_got s a rest u b e =
    subst (λ (p : Bool). FindsRefusal None u (cond p (refusal_of (attribute_at s)) None)) (sym b) (reading_got (attribute_at s) a rest u (attribute_is s ∙ e))

-- it isn't
pub attribute_refused : (s : Text) (kind : ErrorKind) (rest : Text) → begins_with dot (skip_spaces s) ≡ true → Refuses kind rest (attribute_by s) → FindsRefusal (Some kind) rest (attribute_refusal s)
attribute_refused s kind rest b h =
    subst (λ (p : Bool). FindsRefusal (Some kind) rest (cond p (refusal_of (attribute_at s)) None)) (sym b)
    (reading_refused (attribute_at s) kind rest (subst (Refuses kind rest) (sym (attribute_is s)) h))

none_found : (o : Option Refusal) (u : Text) → FindsRefusal None u o → o ≡ None
none_found None u h = refl
none_found (Some f) u h = absurd h

-- an entry is read, and no attribute is refused
pub entry_got : (s : Text) (e : t.Entry) (rest u v : Text) → FindsRefusal None u (attribute_refusal s) → entry_at s ≡ got e rest → FindsRefusal None v (first_refusal s)
entry_got s e rest u v h k =
    subst (λ (o : Option Refusal). FindsRefusal None v (option_or o (refusal_of (entry_at s)))) (sym (none_found (attribute_refusal s) u h)) (reading_got (entry_at s) e rest v k)

-- ---- the refusals at some offsets

-- one more offset
pub refusals_more : (source : Text) (starts : List ℕ) (i : ℕ) (old : List Found) (found : Option Found) → i < length starts
    → map (refusal_view source) old ≡ refusals_from source (take i starts) → option_map (refusal_view source) found ≡ refusal_from source (get_or starts i 0)
    → map (refusal_view source) (old ++ option_to_list found) ≡ refusals_from source (take (i + 1) starts)
refusals_more source starts i old found h before here =
    let f = refusal_from source in
    let more : refusals_from source (take (i + 1) starts) ≡ refusals_from source (take i starts) ++ filter_map f (get_or starts i 0 ∷ []) =
    ap (filter_map f) (take_more starts i 0 h) ∙ filter_map-append f (take i starts) (get_or starts i 0 ∷ []) in
    map-append (refusal_view source) old (option_to_list found)
    ∙ ap (λ (xs : List RefusalView). xs ++ map (refusal_view source) (option_to_list found)) before
    ∙ ap (λ (ys : List RefusalView). refusals_from source (take i starts) ++ ys) (listed found ∙ ap (λ (o : Option RefusalView). cons_option o []) here)
    ∙ sym more
  where
    listed : (o : Option Found) → map (refusal_view source) (option_to_list o) ≡ cons_option (option_map (refusal_view source) o) []
    listed None = refl
    listed (Some r) = refl

pub places_more : (source : Text) (old : List Found) (found : Option Found) → AreBetweenCharacters source old → IfAnyBetweenCharacters source found → AreBetweenCharacters source (old ++ option_to_list found)
places_more source old None h k = subst (AreBetweenCharacters source) (sym (append-nil old)) h
places_more source old (Some r) h k = All-append (IsBetweenCharacters source) old (r ∷ []) h (All-cons (IsBetweenCharacters source) r [] k (All-nil _))
