-- What a pattern takes is what it stands for, and its wildcards take as much as they can.
use Rattle.std.proofs.Common.{◌≡◌, ◌∙◌, ℕ, suc, ◌<◌, ◌≤◌, ◌++◌, Bool, true, false, List, [], ◌∷◌, Option, Some, None, length, take, drop, refl, ap, sym, subst, arith, inl, inr}
use Rattle.std.specs.Prelude.{◌⊎◌, ◌&&◌, ◌==◌, if◌then◌else◌, is_some, IfSome}
use Rattle.std.specs.Option.{option_map_or}
use Rattle.std.proofs.Math.Nat.{eq-or-lt_of_le}
use Rattle.std.proofs.Math.Seq.{drop-append_seam}
use Rattle.std.proofs.lemmas.Bool.{and_from, and_parts, eq-eqb, eqb-true, false≢true}
use Rattle.std.proofs.lemmas.List.{length-take-le, take-append-drop}
use Rattle.fluent_project.specs.declared.part.Part.{Part}
use Rattle.fluent_project.specs.declared.part.Part.TheVariants as part
use Rattle.fluent_project.specs.declared.part.Wildcard.{Wildcard}
use Rattle.fluent_project.specs.declared.part.Wildcard.TheVariants.{Star, Folders, Rest}
use Rattle.fluent_project.specs.Patterns.{AreLongest, IsAtMost, IsMatch, Matches, Text, ends_open, filled, may_be, suit}
use Rattle.fluent_project.specs.Taking.{after, cut, goes_on, if_going, if_here, is_none, longest, may_end, one_more_or, taken, takes}

-- ---- what a wildcard goes over

-- a wildcard goes over a text, byte by byte, and may end after it
abbrev stands : Wildcard → Bool → Text → Bool
stands wildcard ends [] = ends
stands wildcard ends (byte ∷ text) = goes_on wildcard byte && stands wildcard (may_end wildcard byte) text

star_stands : (text : Text) → stands Star true text ≡ may_be Star text
star_stands [] = refl
star_stands (byte ∷ text) = ap (λ rest. goes_on Star byte && rest) (star_stands text)

folders_stand : (ends : Bool) (text : Text) → stands Folders ends text ≡ ends_open ends text
folders_stand ends [] = refl
folders_stand ends (byte ∷ text) = folders_stand (may_end Folders byte) text

rest_stands : (text : Text) → stands Rest true text ≡ true
rest_stands [] = refl
rest_stands (byte ∷ text) = rest_stands text

stands_for : (wildcard : Wildcard) (text : Text) → stands wildcard true text ≡ may_be wildcard text
stands_for Star text = star_stands text
stands_for Folders text = folders_stand true text
stands_for Rest text = rest_stands text

-- ---- what is found is taken

record Takes (wildcard : Wildcard) (passes : Text → Bool) (ends : Bool) (path : Text) (len : ℕ) : Type 0 where
  within : len ≤ length path
  over : stands wildcard ends (take len path) ≡ true
  behind : passes (drop len path) ≡ true

here : (P : ℕ → Type 0) (is : Bool) → (is ≡ true → P 0) → IfSome (if_here is) P
here P true holds = holds refl
here P false holds = tt

going : (P : ℕ → Type 0) (on : Bool) (len : Option ℕ) → (on ≡ true → IfSome len P) → IfSome (if_going on len) P
going P true len holds = holds refl
going P false len holds = tt

one_more : (P : ℕ → Type 0) (len here : Option ℕ) → IfSome len (λ n. P (suc n)) → IfSome here P → IfSome (one_more_or len here) P
one_more P (Some len) here more holds = more
one_more P None here more holds = holds

each : (P Q : ℕ → Type 0) (len : Option ℕ) → ((n : ℕ) → P n → Q n) → IfSome len P → IfSome len Q
each P Q (Some len) step holds = step len holds
each P Q None step holds = tt

module _ (wildcard : Wildcard) (passes : Text → Bool) where
  none_taken : (ends : Bool) (path : Text) → (ends && passes path) ≡ true → Takes wildcard passes ends path 0
  none_taken ends path both =
      let parts = and_parts ends (passes path) both in
      record { within = omega arith; over = parts.0; behind = parts.1 }

  more_taken : (ends : Bool) (byte : ℕ) (path : Text) → goes_on wildcard byte ≡ true → (len : ℕ)
      → Takes wildcard passes (may_end wildcard byte) path len → Takes wildcard passes ends (byte ∷ path) (suc len)
  more_taken ends byte path on len t = record {
    within = let within : len ≤ length path = t.within in omega (arith, within);
    over = and_from (goes_on wildcard byte) _ on t.over;
    behind = t.behind;
  }

  found_taken : (ends : Bool) (path : Text) → IfSome (longest wildcard passes ends path) (Takes wildcard passes ends path)
  found_taken ends [] = here _ (ends && passes []) (none_taken ends [])
  found_taken ends (byte ∷ path) =
      one_more (Takes wildcard passes ends (byte ∷ path)) _ _
      (going _ (goes_on wildcard byte) _ (λ on.
      each _ _ (longest wildcard passes (may_end wildcard byte) path) (more_taken ends byte path on) (found_taken (may_end wildcard byte) path)))
      (here _ (ends && passes (byte ∷ path)) (none_taken ends (byte ∷ path)))

-- ---- what may be taken is found, or something longer

abbrev AtLeast : ℕ → Option ℕ → Type 0
AtLeast len None = ⊥
AtLeast len (Some found) = len ≤ found

at_least_none : (len : Option ℕ) (is : Bool) → is ≡ true → AtLeast 0 (one_more_or len (if_here is))
at_least_none (Some len) is e = omega arith
at_least_none None true e = omega arith
at_least_none None false e = absurd (false≢true e)

at_least_more : (len : ℕ) (on : Bool) (found here : Option ℕ) → on ≡ true → AtLeast len found → AtLeast (suc len) (one_more_or (if_going on found) here)
at_least_more len true (Some found) here e least = omega (arith, least)
at_least_more len true None here e least = absurd least
at_least_more len false found here e least = absurd (false≢true e)

at_least_here : (is : Bool) → is ≡ true → AtLeast 0 (if_here is)
at_least_here true e = omega arith
at_least_here false e = absurd (false≢true e)

module _ (wildcard : Wildcard) (passes : Text → Bool) where
  found_at_once : (ends : Bool) (path : Text) → ends ≡ true → passes path ≡ true → AtLeast 0 (longest wildcard passes ends path)
  found_at_once ends [] e p = at_least_here (ends && passes []) (and_from ends _ e p)
  found_at_once ends (byte ∷ path) e p = at_least_none _ (ends && passes (byte ∷ path)) (and_from ends _ e p)

  found_least : (ends : Bool) (text path : Text) → stands wildcard ends text ≡ true → passes path ≡ true
      → AtLeast (length text) (longest wildcard passes ends (text ++ path))
  found_least ends [] path e p = found_at_once ends path e p
  found_least ends (byte ∷ text) path e p =
      let parts = and_parts (goes_on wildcard byte) (stands wildcard (may_end wildcard byte) text) e in
      at_least_more (length text) (goes_on wildcard byte) _ _ parts.0 (found_least (may_end wildcard byte) text path parts.1 p)

-- ---- a path that is taken is one of the pattern

no_bytes : (path : Text) → is_none path ≡ true → [] ≡ path
no_bytes [] e = refl
no_bytes (byte ∷ path) e = absurd (false≢true e)

same_start : (first byte : ℕ) (text path : Text) → first ≡ byte → text ≡ path → (byte ∷ text) ≡ (first ∷ path)
same_start first byte text path e f = cc

-- what follows a text, put after it again
abbrev pub Follows : Text → Text → Text → Type 0
Follows text path rest = text ++ rest ≡ path

follows_so : (first byte : ℕ) (text path : Text) (rest : Option Text) → first ≡ byte → IfSome rest (Follows text path)
    → IfSome rest (Follows (byte ∷ text) (first ∷ path))
follows_so first byte text path (Some rest) e f = same_start first byte _ _ e f
follows_so first byte text path None e f = tt

follows_if : (first byte : ℕ) (text path : Text) (is : Bool) → (first == byte) ≡ is → IfSome (after text path) (Follows text path)
    → IfSome (if is then after text path else None) (Follows (byte ∷ text) (first ∷ path))
follows_if first byte text path true e f = follows_so first byte text path (after text path) (eqb-true first byte e) f
follows_if first byte text path false e f = tt

pub follows_after : (text path : Text) → IfSome (after text path) (Follows text path)
follows_after [] path = refl
follows_after (byte ∷ text) [] = tt
follows_after (byte ∷ text) (first ∷ path) = follows_if first byte text path (first == byte) refl (follows_after text path)

abbrev Sound : Text → List Part → Type 0
Sound locale parts = (path : Text) → takes locale parts path ≡ true → IsMatch locale parts path (taken locale parts path)

module _ (locale : Text) (parts : List Part) (sound : Sound locale parts) where
  sound_byte : (byte first : ℕ) (path : Text) → (first == byte && takes locale parts path) ≡ true
      → IsMatch locale (part.Byte byte ∷ parts) (first ∷ path) (taken locale (part.Byte byte ∷ parts) (first ∷ path))
  sound_byte byte first path e =
      let both = and_parts (first == byte) (takes locale parts path) e in
      let rest : IsMatch locale parts path (taken locale parts path) = sound path both.1 in
      record { suited = rest.suited; given = same_start first byte _ path (eqb-true first byte both.0) rest.given }

  sound_locale : (path : Text) (rest : Option Text) → IfSome rest (Follows locale path) → option_map_or (takes locale parts) rest false ≡ true
      → IsMatch locale (part.Locale ∷ parts) path (option_map_or (taken locale parts) rest [])
  sound_locale path None follows e = absurd (false≢true e)
  sound_locale path (Some rest) follows e =
      let left : IsMatch locale parts rest (taken locale parts rest) = sound rest e in
      record { suited = left.suited; given = ap (λ x. locale ++ x) left.given ∙ follows }

  sound_wildcard : (wildcard : Wildcard) (path : Text) (len : Option ℕ) → IfSome len (Takes wildcard (takes locale parts) true path)
      → is_some len ≡ true → IsMatch locale (part.Wildcard wildcard ∷ parts) path (cut (taken locale parts) len path)
  sound_wildcard wildcard path None t e = absurd (false≢true e)
  sound_wildcard wildcard path (Some len) t e =
      let left : IsMatch locale parts (drop len path) (taken locale parts (drop len path)) = sound (drop len path) t.behind in
      record {
        suited = and_from _ _ (sym (stands_for wildcard (take len path)) ∙ t.over) left.suited;
        given = ap (λ x. take len path ++ x) left.given ∙ take-append-drop len path;
      }

pub taken_is_match : (locale : Text) (parts : List Part) → Sound locale parts
taken_is_match locale [] path e = record { suited = refl; given = no_bytes path e }
taken_is_match locale (part.Byte byte ∷ parts) [] e = absurd (false≢true e)
taken_is_match locale (part.Byte byte ∷ parts) (first ∷ path) e = sound_byte locale parts (taken_is_match locale parts) byte first path e
taken_is_match locale (part.Locale ∷ parts) path e = sound_locale locale parts (taken_is_match locale parts) path (after locale path) (follows_after locale path) e
taken_is_match locale (part.Wildcard wildcard ∷ parts) path e =
    sound_wildcard locale parts (taken_is_match locale parts) wildcard path _ (found_taken wildcard (takes locale parts) true path) e

-- ---- a path of the pattern is taken, and no other texts are longer

after_itself : (text path : Text) → after text (text ++ path) ≡ Some path
after_itself [] path = refl
after_itself (byte ∷ text) path = ap (λ is. if is then after text (text ++ path) else None) (eq-eqb byte byte refl) ∙ after_itself text path

record IsTaken (locale : Text) (parts : List Part) (texts : List Text) (path : Text) : Type 0 where
  whole : takes locale parts path ≡ true
  most : IsAtMost texts (taken locale parts path)

abbrev Complete : Text → List Part → Type 0
Complete locale parts = (texts : List Text) → suit parts texts ≡ true → IsTaken locale parts texts (filled locale parts texts)

is_some_at_least : (n : ℕ) (len : Option ℕ) → AtLeast n len → is_some len ≡ true
is_some_at_least n (Some len) least = refl
is_some_at_least n None least = absurd least

module _ (locale : Text) (parts : List Part) (complete : Complete locale parts) where
  complete_byte : (byte : ℕ) (texts : List Text) → suit parts texts ≡ true
      → IsTaken locale (part.Byte byte ∷ parts) texts (byte ∷ filled locale parts texts)
  complete_byte byte texts e =
      let left : IsTaken locale parts texts (filled locale parts texts) = complete texts e in
      record { whole = and_from _ _ (eq-eqb byte byte refl) left.whole; most = left.most }

  complete_locale : (texts : List Text) → suit parts texts ≡ true
      → IsTaken locale (part.Locale ∷ parts) texts (locale ++ filled locale parts texts)
  complete_locale texts e =
      let left : IsTaken locale parts texts (filled locale parts texts) = complete texts e in
      record {
        whole = ap (λ rest. option_map_or (takes locale parts) rest false) (after_itself locale _) ∙ left.whole;
        most = subst (λ rest. IsAtMost texts (option_map_or (taken locale parts) rest [])) (sym (after_itself locale _)) left.most;
      }

  longest_of : (wildcard : Wildcard) (text : Text) (texts : List Text) (path : Text) (len : Option ℕ)
      → AtLeast (length text) len → IfSome len (Takes wildcard (takes locale parts) true (text ++ path))
      → IsAtMost texts (taken locale parts path) → IsAtMost (text ∷ texts) (cut (taken locale parts) len (text ++ path))
  longest_of wildcard text texts path None least t left = absurd least
  longest_of wildcard text texts path (Some len) least t left = by_order (eq-or-lt_of_le least)
    where
      len_is : length (take len (text ++ path)) ≡ len
      len_is = length-take-le len (text ++ path) t.within

      by_order : (length text ≡ len) ⊎ (length text < len) → IsAtMost (text ∷ texts) (cut (taken locale parts) (Some len) (text ++ path))
      by_order (inl same) = inr (same ∙ sym len_is, subst (λ rest. IsAtMost texts (taken locale parts rest)) (sym (ap (λ n. drop n (text ++ path)) (sym same) ∙ drop-append_seam text path)) left)
      by_order (inr less) = inl (subst (λ n. length text < n) (sym len_is) less)

  complete_wildcard : (wildcard : Wildcard) (text : Text) (texts : List Text) → (may_be wildcard text && suit parts texts) ≡ true
      → IsTaken locale (part.Wildcard wildcard ∷ parts) (text ∷ texts) (text ++ filled locale parts texts)
  complete_wildcard wildcard text texts e =
      let both = and_parts (may_be wildcard text) (suit parts texts) e in
      let left : IsTaken locale parts texts (filled locale parts texts) = complete texts both.1 in
      let least = found_least wildcard (takes locale parts) true text (filled locale parts texts) (stands_for wildcard text ∙ both.0) left.whole in
      record {
        whole = is_some_at_least (length text) _ least;
        most = longest_of wildcard text texts _ _ least (found_taken wildcard (takes locale parts) true (text ++ filled locale parts texts)) left.most;
      }

filled_is_taken : (locale : Text) (parts : List Part) → Complete locale parts
filled_is_taken locale [] [] e = record { whole = refl; most = tt }
filled_is_taken locale [] (text ∷ texts) e = absurd (false≢true e)
filled_is_taken locale (part.Byte byte ∷ parts) texts e = complete_byte locale parts (filled_is_taken locale parts) byte texts e
filled_is_taken locale (part.Locale ∷ parts) texts e = complete_locale locale parts (filled_is_taken locale parts) texts e
filled_is_taken locale (part.Wildcard wildcard ∷ parts) [] e = absurd (false≢true e)
filled_is_taken locale (part.Wildcard wildcard ∷ parts) (text ∷ texts) e = complete_wildcard locale parts (filled_is_taken locale parts) wildcard text texts e

match_is_taken : (locale : Text) (parts : List Part) (path : Text) (texts : List Text) → IsMatch locale parts path texts → IsTaken locale parts texts path
match_is_taken locale parts path texts m = subst (IsTaken locale parts texts) m.given (filled_is_taken locale parts texts m.suited)

-- ---- what the functions ensure

pub found_if_taken : (locale : Text) (parts : List Part) (path : Text) → takes locale parts path ≡ true → Matches locale parts path
found_if_taken locale parts path e = (taken locale parts path, taken_is_match locale parts path e)

pub none_unless_taken : (locale : Text) (parts : List Part) (path : Text) → takes locale parts path ≡ false → ¬ (Matches locale parts path)
none_unless_taken locale parts path e found = absurd (false≢true (sym e ∙ (match_is_taken locale parts path found.0 found.1).whole))

pub taken_are_longest : (locale : Text) (parts : List Part) (path : Text) → takes locale parts path ≡ true → AreLongest locale parts path (taken locale parts path)
taken_are_longest locale parts path e = record {
  match = taken_is_match locale parts path e;
  longest = λ others m. (match_is_taken locale parts path others m).most;
}
