-- What a scan of the bytes says of the readings of words.
use Rattle.std.proofs.Common.{◌≡◌, ◌≢◌, ℕ, zero, suc, ◌+◌, ◌-◌, ◌<◌, ◌≤◌, Bool, true, false, cond, not, ◌&&◌, ◌||◌, List, [], ◌∷◌, length, take, drop, get_or, refl, sym, ap, ◌∙◌, arith, subst}
use Rattle.std.specs.Prelude.{◌==◌, nat_lt}
use Rattle.std.specs.List.{prefix_len}
use Rattle.std.specs.Int.{from_bool}
use Rattle.std.proofs.Math.Seq.{take-length, drop-length}
use Rattle.std.proofs.lemmas.Bool.Decides.{nat_tests}
use Rattle.std.proofs.lemmas.Str.{IsUtf8-drop, IsCharBoundary-from_rest}
use Rattle.std.proofs.lemmas.List.{length-drop, drop_more, drop-drop, get_or-drop}
use Rattle.std.proofs.lemmas.List.Sums.{prefix_len-le-length, prefix_len_passes}
use Rattle.memchr.specs.Find.{Nowhere, Passes, is_byte, is_byte3}
use Rattle.fluent_grammar.specs.Words as w
use Rattle.fluent_grammar.specs.Words.{Text}
use Rattle.fluent_grammar.specs.Lines.{ends_line}
use Rattle.fluent_grammar.specs.Refusal.{Reading, got, refused, refuse, mapped, ◌>>=◌}
use Rattle.fluent_grammar.specs.Refusal as r
use Rattle.fluent_grammar.specs.Reading.{digits_at, fraction_at, number_at, front, text_run, before}
use Rattle.fluent_tokens.specs.Counted.{Cuts, is_blank_at, IsLine, line_feed_end}
use Rattle.fluent_tokens.proofs.Counted.{cut_by_ascii, cut_before_ascii, cut_none}

-- after one cut another
pub cut_more : (text : Text) (a b n : ℕ) → n ≡ a + b → Cuts text a → Cuts (drop a text) b → Cuts text n
cut_more text a b n e p q = rw e (record {
  within = omega (arith, p.within, q.within, length-drop a text);
  boundary = λ u. IsCharBoundary-from_rest text a b p.within (q.boundary (IsUtf8-drop text a u (p.boundary u)));
})

chosen_either : {A : Type 0} (p q : Bool) (x y : A) → (p || q) ≡ true → x ≡ cond p x (cond q x y)
chosen_either true q x y h = refl
chosen_either false true x y h = refl
chosen_either false false x y h = absurd cc

chosen_neither : {A : Type 0} (p q : Bool) (x y : A) → (p || q) ≡ false → cond p x (cond q x y) ≡ y
chosen_neither true q x y h = absurd cc
chosen_neither false true x y h = absurd cc
chosen_neither false false x y h = refl

-- blank
blank_one : (c : ℕ) (cs : Text) → is_blank_at (c ∷ cs) ≡ true → w.skip_blank cs ≡ w.skip_blank (c ∷ cs)
blank_one c cs h = chosen_either (c == w.space || c == w.line_feed) (c == w.carriage_return && w.begins_with w.line_feed cs) (w.skip_blank cs) (c ∷ cs) h

pub blank_step : (text : Text) (n : ℕ) → n < length text → is_blank_at (drop n text) ≡ true → w.skip_blank (drop (n + 1) text) ≡ w.skip_blank (drop n text)
blank_step text n h b = let e = drop_more text n 0 h in let g = subst (λ (s : Text). is_blank_at s ≡ true) e b in rw e (blank_one (get_or text n 0) (drop (n + 1) text) g)

pub blank_stop : (s : Text) → is_blank_at s ≡ false → w.skip_blank s ≡ s
blank_stop [] h = refl
blank_stop (c ∷ cs) h = chosen_neither (c == w.space || c == w.line_feed) (c == w.carriage_return && w.begins_with w.line_feed cs) (w.skip_blank cs) (c ∷ cs) h

three : (p q r t : Bool) (c : ℕ) → ((p || q) || (r && t)) ≡ true → (p ≡ true → c < 128) → (q ≡ true → c < 128) → (r ≡ true → c < 128) → c < 128
three true q r t c h f g k = f refl
three false true r t c h f g k = g refl
three false false true t c h f g k = k refl
three false false false t c h f g k = absurd cc

first : (c : ℕ) (cs : Text) → is_blank_at (c ∷ cs) ≡ true → c < 128
first c cs h = three (c == 32) (c == 10) (c == 13) (w.begins_with 10 cs) c h (λ e. grind (arith, nat_tests)) (λ e. grind (arith, nat_tests)) (λ e. grind (arith, nat_tests))

pub blank_ascii : (text : Text) (n : ℕ) → n < length text → is_blank_at (drop n text) ≡ true → get_or text n 0 < 128
blank_ascii text n h b = let e = drop_more text n 0 h in let g = subst (λ (s : Text). is_blank_at s ≡ true) e b in first (get_or text n 0) (drop (n + 1) text) g

-- a comment's signs, at most three
sign_prefix_ascii : (p : ℕ → Bool) → ((c : ℕ) → p c ≡ true → c < 128) → (text : Text) (n : ℕ) → n ≤ prefix_len p text → Cuts text n
sign_prefix_ascii p ascii text n h = cut_by_ascii text n (omega (arith, prefix_len-le-length p text)) (λ k. ascii _ (prefix_len_passes p text (n - 1) 0 (omega arith)))

is_sign_ascii : (c : ℕ) → (c == w.number_sign) ≡ true → c < 128
is_sign_ascii c h = grind (arith, nat_tests)

pub cut_level : (text : Text) (n : ℕ) → n ≤ prefix_len (λ c. c == w.number_sign) text → Cuts text n
cut_level = sign_prefix_ascii _ is_sign_ascii

-- blank lines
pub block_line : (text : Text) (n : ℕ) (line : Text) → n < length text → get_or text n 0 ≡ 10 → w.blank_lines (drop (n + 1) text) (drop (n + 1) text) ≡ w.blank_lines line (drop n text)
block_line text n line h b = let e = drop_more text n 0 h in rw (e, b) refl

four : {A : Type 0} (p q t : Bool) (x y z : A) → q ≡ false → ((p || q) || t) ≡ true → y ≡ cond q x (cond (p || t) y z)
four true false t x y z e h = refl
four false false true x y z e h = refl
four false false false x y z e h = absurd cc
four p true t x y z e h = absurd cc

none : {A : Type 0} (p q t : Bool) (x y z : A) → ((p || q) || t) ≡ false → cond q x (cond (p || t) y z) ≡ z
none false false false x y z h = refl
none true q t x y z h = absurd cc
none false true t x y z h = absurd cc
none false false true x y z h = absurd cc

block_blank_one : (line : Text) (c : ℕ) (cs : Text) → c ≢ 10 → is_blank_at (c ∷ cs) ≡ true → w.blank_lines line cs ≡ w.blank_lines line (c ∷ cs)
block_blank_one line c cs ne h = four (c == 32) (c == 10) (c == 13 && w.begins_with 10 cs) _ _ _ (grind (arith, nat_tests)) h

pub block_blank : (text : Text) (n : ℕ) (line : Text) → n < length text → get_or text n 0 ≢ 10 → is_blank_at (drop n text) ≡ true → w.blank_lines line (drop (n + 1) text) ≡ w.blank_lines line (drop n text)
block_blank text n line h ne b = let e = drop_more text n 0 h in let g = subst (λ (s : Text). is_blank_at s ≡ true) e b in rw e (block_blank_one line (get_or text n 0) (drop (n + 1) text) ne g)

block_stop_one : (line : Text) (c : ℕ) (cs : Text) → is_blank_at (c ∷ cs) ≡ false → w.blank_lines line (c ∷ cs) ≡ line
block_stop_one line c cs h = none (c == 32) (c == 10) (c == 13 && w.begins_with 10 cs) _ _ _ h

pub block_stop : (line s : Text) → is_blank_at s ≡ false → w.blank_lines line s ≡ line
block_stop line [] h = refl
block_stop line (c ∷ cs) h = block_stop_one line c cs h

-- numbers
signed : (b : Bool) (s : Text) → drop (from_bool b) s ≡ cond b (drop 1 s) s
signed true s = refl
signed false s = refl

number_is : (s : Text) (sign : ℕ) → sign ≡ from_bool (w.begins_with w.hyphen s) → number_at s ≡ (digits_at (drop sign s) >>= (λ d. fraction_at s d.1))
unfolding number_at
number_is s sign e = rw e (ap (λ (x : Text). digits_at x >>= (λ d. fraction_at s d.1)) (sym (signed (w.begins_with w.hyphen s) s)))

some_test : (b : Bool) (m : ℕ) → 0 < cond b m 0 → b ≡ true
some_test true m h = refl
some_test false m h = absurd (omega arith)

none_test : (b : Bool) (m : ℕ) → cond b (1 + m) 0 ≡ 0 → b ≡ false
none_test true m h = absurd (omega arith)
none_test false m h = refl

digits_some : (a : Text) (n : ℕ) → n ≡ prefix_len w.is_digit a → 0 < n → digits_at a ≡ got (take n a) (drop n a)
unfolding digits_at
digits_some [] n e h = absurd (omega arith)
digits_some (c ∷ cs) n e h = let b : w.is_digit c ≡ true = some_test (w.is_digit c) (1 + prefix_len w.is_digit cs) (rw e at h) in rw e (rw b refl)

digits_none : (a : Text) (n : ℕ) → n ≡ prefix_len w.is_digit a → n ≡ 0 → digits_at a ≡ refuse r.expected_digit a
unfolding digits_at
digits_none [] n e h = refl
digits_none (c ∷ cs) n e h = let b : w.is_digit c ≡ false = none_test (w.is_digit c) (prefix_len w.is_digit cs) (sym e ∙ h) in rw b refl

front_drop : (s : Text) (k : ℕ) → k ≤ length s → front s (drop k s) ≡ take k s
front_drop s k h = let e : length s - length (drop k s) ≡ k = omega (arith, length-drop k s) in ap (λ (n : ℕ). take n s) e

fraction_none : (s : Text) (k : ℕ) → k ≤ length s → w.begins_with w.dot (drop k s) ≡ false → fraction_at s (drop k s) ≡ got (take k s) (drop k s)
unfolding fraction_at
fraction_none s k h d = rw d (ap (λ (x : Text). got x (drop k s)) (front_drop s k h))

after_point : (s : Text) (k : ℕ) → w.begins_with w.dot (drop k s) ≡ true → fraction_at s (drop k s) ≡ (digits_at (drop (k + 1) s) >>= (λ d. got (front s d.1) d.1))
unfolding fraction_at
after_point s k d = rw d (ap (λ (x : Text). digits_at x >>= (λ d. got (front s d.1) d.1)) (drop-drop 1 k s))

pub number_none : (s : Text) (sign n : ℕ) → sign ≡ from_bool (w.begins_with w.hyphen s) → n ≡ prefix_len w.is_digit (drop sign s) → n ≡ 0 → number_at s ≡ refuse r.expected_digit (drop (sign + n) s)
number_none s sign n e d z =
    number_is s sign e ∙ ap (λ (x : Reading Text). x >>= (λ d. fraction_at s d.1)) (digits_none (drop sign s) n d z)
    ∙ ap (λ (k : ℕ). refuse r.expected_digit (drop k s)) (omega (arith, z))

number_fraction : (s : Text) (sign n : ℕ) → sign ≡ from_bool (w.begins_with w.hyphen s) → n ≡ prefix_len w.is_digit (drop sign s) → 0 < n → number_at s ≡ fraction_at s (drop (sign + n) s)
number_fraction s sign n e d z =
    number_is s sign e ∙ ap (λ (x : Reading Text). x >>= (λ d. fraction_at s d.1)) (digits_some (drop sign s) n d z)
    ∙ ap (λ (x : Text). fraction_at s x) (drop-drop n sign s)

pub number_whole : (s : Text) (sign n : ℕ) → sign ≡ from_bool (w.begins_with w.hyphen s) → n ≡ prefix_len w.is_digit (drop sign s) → 0 < n → sign + n ≤ length s
    → w.begins_with w.dot (drop (sign + n) s) ≡ false → number_at s ≡ got (take (sign + n) s) (drop (sign + n) s)
number_whole s sign n e d z h p = number_fraction s sign n e d z ∙ fraction_none s (sign + n) h p

pub number_no_fraction : (s : Text) (sign n k m : ℕ) → sign ≡ from_bool (w.begins_with w.hyphen s) → n ≡ prefix_len w.is_digit (drop sign s) → 0 < n
    → k ≡ sign + n + 1 → w.begins_with w.dot (drop (sign + n) s) ≡ true → m ≡ prefix_len w.is_digit (drop k s) → m ≡ 0 → number_at s ≡ refuse r.expected_digit (drop (k + m) s)
number_no_fraction s sign n k m e d z same p f q =
    number_fraction s sign n e d z ∙ after_point s (sign + n) p ∙ ap (λ (x : ℕ). digits_at (drop x s) >>= (λ d. got (front s d.1) d.1)) (sym same)
    ∙ ap (λ (x : Reading Text). x >>= (λ d. got (front s d.1) d.1)) (digits_none (drop k s) m f q)
    ∙ ap (λ (x : ℕ). refuse r.expected_digit (drop x s)) (omega (arith, q))

pub number_with_fraction : (s : Text) (sign n k m : ℕ) → sign ≡ from_bool (w.begins_with w.hyphen s) → n ≡ prefix_len w.is_digit (drop sign s) → 0 < n
    → k ≡ sign + n + 1 → w.begins_with w.dot (drop (sign + n) s) ≡ true → m ≡ prefix_len w.is_digit (drop k s) → 0 < m → k + m ≤ length s → number_at s ≡ got (take (k + m) s) (drop (k + m) s)
number_with_fraction s sign n k m e d z same p f q h =
    number_fraction s sign n e d z ∙ after_point s (sign + n) p ∙ ap (λ (x : ℕ). digits_at (drop x s) >>= (λ d. got (front s d.1) d.1)) (sym same)
    ∙ ap (λ (x : Reading Text). x >>= (λ d. got (front s d.1) d.1)) (digits_some (drop k s) m f q)
    ∙ ap (λ (x : Text). got (front s x) x) (drop-drop m k s)
    ∙ ap (λ (x : Text). got x (drop (k + m) s)) (front_drop s (k + m) h)

cut_one_if : (c : ℕ) (cs : Text) (b : Bool) (n : ℕ) → (b ≡ true → c < 128) → n ≡ from_bool b → Cuts (c ∷ cs) n
cut_one_if c cs true n f e = rw e (cut_by_ascii (c ∷ cs) 1 (omega arith) (λ _. f refl))
cut_one_if c cs false n f e = cut_none (c ∷ cs) n e

pub test_of : (a b : ℕ) → (a == b) ≡ true → a ≡ b
test_of a b h = grind (arith, nat_tests)

pub test_eq : (a b : ℕ) → a ≡ b → (a == b) ≡ true
test_eq a b h = grind (arith, nat_tests)

pub test_ne : (a b : ℕ) → a ≢ b → (a == b) ≡ false
test_ne a b h = grind (arith, nat_tests)

pub and_false : (p q : Bool) → q ≡ false → (p && q) ≡ false
and_false true q h = h
and_false false q h = refl

and_false_left : (p q : Bool) → p ≡ false → (p && q) ≡ false
and_false_left true q h = absurd cc
and_false_left false q h = refl

not_begun : (cs : Text) → (0 < length cs → get_or cs 0 0 ≢ 10) → w.begins_with w.line_feed cs ≡ false
not_begun [] f = refl
not_begun (c ∷ cs) f = test_ne c 10 (f (omega arith))

-- the byte that a text begins with, after this many bytes
begins_one : (s : Text) (b : ℕ) → w.begins_with b s ≡ true → (0 < length s) × (get_or s 0 0 ≡ b)
begins_one [] b h = absurd cc
begins_one (c ∷ cs) b h = (omega arith, test_of c b h)

pub begins_at : (s : Text) (k b : ℕ) → k ≤ length s → w.begins_with b (drop k s) ≡ true → (k < length s) × (get_or s k 0 ≡ b)
begins_at s k b h p =
    let o = begins_one (drop k s) b p in
    let z : k + 0 ≡ k = omega arith in
    (omega (arith, o.0, length-drop k s), rw z at (sym (get_or-drop k s 0 0) ∙ o.1))

-- before the line feed at k there is no CR LF, unless a CR stands right before it
no_crlf : (c : ℕ) (cs : Text) (k : ℕ) → get_or cs k 0 ≡ 10 → ((j : ℕ) → j < k → get_or cs j 0 ≢ 10) → (k ≡ 0 → c ≢ 13) → (c == w.carriage_return && w.begins_with w.line_feed cs) ≡ false
no_crlf c cs zero e f g = and_false_left (c == w.carriage_return) _ (test_ne c 13 (g refl))
no_crlf c cs (suc k) e f g = and_false (c == w.carriage_return) _ (not_begun cs (λ _. f 0 (omega arith)))

pub sign_cuts : (s : Text) (sign : ℕ) → sign ≡ from_bool (w.begins_with w.hyphen s) → Cuts s sign
sign_cuts [] sign e = cut_none [] sign e
sign_cuts (c ∷ cs) sign e = cut_one_if c cs (c == 45) sign (λ b. grind (arith, nat_tests)) e

pub point_cuts : (s : Text) (k : ℕ) → k ≤ length s → w.begins_with w.dot (drop k s) ≡ true → Cuts s (k + 1)
point_cuts s k h p = let b = begins_at s k w.dot h p in cut_by_ascii s (k + 1) (omega (arith, b.0)) (λ _. let e : k + 1 - 1 ≡ k = omega arith in rw (e, b.1) (omega arith))

-- lines
pub line_none : (text : Text) → ((j : ℕ) → j < length text → get_or text j 0 ≢ 10) → w.rest_of_line text ≡ (text, [])
line_none [] f = refl
line_none (c ∷ cs) f =
    let a : (c == w.line_feed) ≡ false = test_ne c 10 (f 0 (omega arith)) in
    let b : (c == w.carriage_return && w.begins_with w.line_feed cs) ≡ false = and_false (c == w.carriage_return) _ (not_begun cs (λ h. f 1 (omega arith))) in
    let e = line_none cs (λ j h. f (suc j) (omega arith)) in
    rw (a, b, e) refl

pub line_feed : (text : Text) (k : ℕ) → k < length text → get_or text k 0 ≡ 10 → ((j : ℕ) → j < k → get_or text j 0 ≢ 10) → (0 < k → get_or text (k - 1) 0 ≢ 13) → w.rest_of_line text ≡ (take k text, drop (k + 1) text)
line_feed [] k h e f g = absurd (omega arith)
line_feed (c ∷ cs) zero h e f g = let a : (c == w.line_feed) ≡ true = test_eq c 10 e in rw a refl
line_feed (c ∷ cs) (suc k) h e f g =
    let a : (c == w.line_feed) ≡ false = test_ne c 10 (f 0 (omega arith)) in
    let b : (c == w.carriage_return && w.begins_with w.line_feed cs) ≡ false = no_crlf c cs k e (λ j l. f (suc j) (omega arith)) (λ z. let i : suc k - 1 ≡ 0 = omega (arith, z) in rw i at (g (omega arith))) in
    let i = line_feed cs k (omega arith) e (λ j l. f (suc j) (omega arith)) (λ l. let m : suc k - 1 ≡ suc (k - 1) = omega arith in rw m at (g (omega arith))) in
    let n : suc k + 1 ≡ suc (k + 1) = omega arith in
    rw (a, b, i, n) refl

pub line_crlf : (text : Text) (k : ℕ) → k + 1 < length text → get_or text (k + 1) 0 ≡ 10 → get_or text k 0 ≡ 13 → ((j : ℕ) → j < k + 1 → get_or text j 0 ≢ 10) → w.rest_of_line text ≡ (take k text, drop (k + 2) text)
line_crlf [] k h e cr f = absurd (omega arith)
line_crlf (c ∷ []) k h e cr f = absurd (omega arith)
line_crlf (c ∷ d ∷ ds) zero h e cr f =
    let x : d ≡ 10 = e in
    rw (cr, x) refl
line_crlf (c ∷ d ∷ ds) (suc k) h e cr f =
    let a : (c == w.line_feed) ≡ false = test_ne c 10 (f 0 (omega arith)) in
    let b : (c == w.carriage_return && w.begins_with w.line_feed (d ∷ ds)) ≡ false = and_false (c == w.carriage_return) _ (test_ne d 10 (f 1 (omega arith))) in
    let m : suc k + 1 ≡ suc (k + 1) = omega arith in
    let i = line_crlf (d ∷ ds) k (omega arith) (rw m at e) cr (λ j l. f (suc j) (omega arith)) in
    let n : suc k + 2 ≡ suc (k + 2) = omega arith in
    rw (a, b, i, n) refl

pub less_one : (text : Text) (n : ℕ) → get_or text n 0 < 128 → get_or text (n + 1 - 1) 0 < 128
less_one text n h = let e : n + 1 - 1 ≡ n = omega arith in rw e h

-- texts
text_plain : (c : ℕ) (cs : Text) → c ≢ 123 → c ≢ 125 → c ≢ 10 → (c == w.carriage_return && w.begins_with w.line_feed cs) ≡ false → text_run (c ∷ cs) ≡ before (c ∷ []) (text_run cs)
unfolding text_run
text_plain c cs a b d e = rw (test_ne c 123 a, test_ne c 125 b, test_ne c 10 d, e) refl

-- none of the bytes that end a text
pub record Plain (text : Text) (k : ℕ) : Type 0 where
  pub brace : (j : ℕ) → j < k → get_or text j 0 ≢ 123
  pub close : (j : ℕ) → j < k → get_or text j 0 ≢ 125
  pub line : (j : ℕ) → j < k → get_or text j 0 ≢ 10

pub plain_tail : (c : ℕ) (cs : Text) (k : ℕ) → Plain (c ∷ cs) (suc k) → Plain cs k
plain_tail c cs k p = record { brace = λ j h. p.brace (suc j) (omega arith); close = λ j h. p.close (suc j) (omega arith); line = λ j h. p.line (suc j) (omega arith) }

-- a plain byte before a byte that isn't a line feed
plain_head : (c : ℕ) (cs : Text) (k : ℕ) → Plain (c ∷ cs) (suc k) → (0 < length cs → get_or cs 0 0 ≢ 10) → text_run (c ∷ cs) ≡ before (c ∷ []) (text_run cs)
plain_head c cs k p f = text_plain c cs (p.brace 0 (omega arith)) (p.close 0 (omega arith)) (p.line 0 (omega arith)) (and_false (c == w.carriage_return) _ (not_begun cs f))

pub text_none : (text : Text) → Plain text (length text) → text_run text ≡ got text []
unfolding text_run
text_none [] p = refl
text_none (c ∷ cs) p = plain_head c cs (length cs) p (λ h. p.line 1 (omega arith)) ∙ ap (before (c ∷ [])) (text_none cs (plain_tail c cs (length cs) p))

not_next : (cs : Text) (k b : ℕ) → b ≢ 10 → get_or cs k 0 ≡ b → ((j : ℕ) → j < k → get_or cs j 0 ≢ 10) → get_or cs 0 0 ≢ 10
not_next cs zero b n e f = λ x. n (sym e ∙ x)
not_next cs (suc k) b n e f = f 0 (omega arith)

pub text_brace : (text : Text) (k : ℕ) → k < length text → get_or text k 0 ≡ 123 → Plain text k → text_run text ≡ got (take k text) (drop k text)
unfolding text_run
text_brace [] k h e p = absurd (omega arith)
text_brace (c ∷ cs) zero h e p = rw (test_eq c 123 e) refl
text_brace (c ∷ cs) (suc k) h e p =
    let t = plain_tail c cs k p in
    plain_head c cs k p (λ _. not_next cs k 123 (λ x. absurd cc) e t.line) ∙ ap (before (c ∷ [])) (text_brace cs k (omega arith) e t)

pub text_close : (text : Text) (k : ℕ) → k < length text → get_or text k 0 ≡ 125 → Plain text k → text_run text ≡ refuse r.unbalanced_closing_brace (drop k text)
unfolding text_run
text_close [] k h e p = absurd (omega arith)
text_close (c ∷ cs) zero h e p = let x : c ≡ 125 = e in rw x refl
text_close (c ∷ cs) (suc k) h e p =
    let t = plain_tail c cs k p in
    plain_head c cs k p (λ _. not_next cs k 125 (λ x. absurd cc) e t.line) ∙ ap (before (c ∷ [])) (text_close cs k (omega arith) e t)

pub text_line : (text : Text) (k : ℕ) → k < length text → get_or text k 0 ≡ 10 → (0 < k → get_or text (k - 1) 0 ≢ 13) → Plain text k → text_run text ≡ got (take (k + 1) text) (drop (k + 1) text)
unfolding text_run
text_line [] k h e g p = absurd (omega arith)
text_line (c ∷ cs) zero h e g p = let x : c ≡ 10 = e in rw x refl
text_line (c ∷ cs) (suc k) h e g p =
    let t = plain_tail c cs k p in
    let b : (c == w.carriage_return && w.begins_with w.line_feed cs) ≡ false = no_crlf c cs k e t.line (λ z. let i : suc k - 1 ≡ 0 = omega (arith, z) in rw i at (g (omega arith))) in
    let i = text_line cs k (omega arith) e (λ l. let m : suc k - 1 ≡ suc (k - 1) = omega arith in rw m at (g (omega arith))) t in
    let n : suc k + 1 ≡ suc (k + 1) = omega arith in
    rw n (text_plain c cs (p.brace 0 (omega arith)) (p.close 0 (omega arith)) (p.line 0 (omega arith)) b ∙ ap (before (c ∷ [])) i)

pub text_crlf : (text : Text) (k : ℕ) → k + 1 < length text → get_or text (k + 1) 0 ≡ 10 → get_or text k 0 ≡ 13 → Plain text (k + 1) → text_run text ≡ got (take k text) (drop k text)
unfolding text_run
text_crlf [] k h e cr p = absurd (omega arith)
text_crlf (c ∷ []) k h e cr p = absurd (omega arith)
text_crlf (c ∷ d ∷ ds) zero h e cr p =
    let x : d ≡ 10 = e in
    let y : c ≡ 13 = cr in
    rw (y, x) refl
text_crlf (c ∷ d ∷ ds) (suc k) h e cr p =
    let m : suc k + 1 ≡ suc (k + 1) = omega arith in
    let q = rw m at p in
    let t = plain_tail c (d ∷ ds) (k + 1) q in
    plain_head c (d ∷ ds) (k + 1) q (λ _. t.line 0 (omega arith)) ∙ ap (before (c ∷ [])) (text_crlf (d ∷ ds) k (omega arith) (rw m at e) cr t)

-- what a search for one byte or three says
passes_not : (b : Bool) → (b ≡ true → ⊥) → b ≡ false
passes_not true f = absurd (f refl)
passes_not false f = refl

pub nowhere_ne : (b : ℕ) (text : Text) (k : ℕ) → Nowhere (Passes (is_byte b) text) 0 k → (j : ℕ) → j < k → get_or text j 0 ≢ b
nowhere_ne b text k f j h = λ e. f j (omega arith) h (test_eq _ b e)

pub nowhere_plain : (text : Text) (k : ℕ) → Nowhere (Passes (is_byte3 123 125 10) text) 0 k → Plain text k
nowhere_plain text k f = record {
  brace = λ j h e. f j (omega arith) h (grind (arith, nat_tests));
  close = λ j h e. f j (omega arith) h (grind (arith, nat_tests));
  line = λ j h e. f j (omega arith) h (grind (arith, nat_tests));
}

pub line_is : (text : Text) (k : ℕ) → k < length text → get_or text k 0 ≡ 10 → Nowhere (Passes (is_byte 10) text) 0 k → (0 < k → get_or text (k - 1) 0 ≢ 13) → IsLine text k
line_is text k h e f g =
    let d = drop_more text k 0 h in
    line_feed text k h e (nowhere_ne 10 text k f) g ∙ rw (d, e) refl

pub line_is_crlf : (text : Text) (k : ℕ) → 0 < k → k < length text → get_or text k 0 ≡ 10 → Nowhere (Passes (is_byte 10) text) 0 k → get_or text (k - 1) 0 ≡ 13 → IsLine text (k - 1)
line_is_crlf text k z h e f g =
    let p : k - 1 + 1 ≡ k = omega arith in
    let q : k - 1 + 2 ≡ k + 1 = omega arith in
    let d = drop_more text (k - 1) 0 (omega arith) in
    let d2 = drop_more text k 0 h in
    line_crlf text (k - 1) (omega arith) (rw p e) g (λ j l. nowhere_ne 10 text k f j (omega arith)) ∙ rw (d, g, p, d2, e, q) refl

pub line_is_all : (text : Text) → Nowhere (Passes (is_byte 10) text) 0 (length text) → IsLine text (length text)
line_is_all text f = line_none text (nowhere_ne 10 text (length text) f) ∙ rw (take-length text, drop-length text) refl

pub take_rest : (k : ℕ) (s : Text) → take (length s - k) (drop k s) ≡ drop k s
take_rest k s = rw (← length-drop k s) (take-length (drop k s))

pub third_byte : (b : ℕ) → is_byte3 123 125 10 b ≡ true → b ≢ 123 → b ≢ 125 → b ≡ 10
third_byte b h x y = grind (arith, nat_tests)

text_ends_by : (s : Text) (k r : ℕ) (b : Bool) → ((0 < k) → (get_or s (k - 1) 0 ≡ 13) → b ≡ true) → (b ≡ true → (0 < k) × (get_or s (k - 1) 0 ≡ 13)) → r ≡ cond b (k - 1) (k + 1)
    → k < length s → get_or s k 0 ≡ 10 → Plain s k → (text_run s ≡ got (take r s) (drop r s)) × Cuts s r
text_ends_by s k r true f g e h at p =
    let w = g refl in
    let q : k - 1 + 1 ≡ k = omega arith in
    rw e (text_crlf s (k - 1) (omega arith) (rw q at) w.1 (rw q p), cut_before_ascii s (k - 1) (omega arith) (rw w.1 (omega arith)))
text_ends_by s k r false f g e h at p =
    let q : k + 1 - 1 ≡ k = omega arith in
    rw e (text_line s k h at (λ z x. absurd cc (f z x)) p, cut_by_ascii s (k + 1) (omega arith) (λ _. rw (q, at) (omega arith)))

pub text_ends : (s : Text) (k r : ℕ) → r ≡ line_feed_end s k → k < length s → get_or s k 0 ≡ 10 → Plain s k → (text_run s ≡ got (take r s) (drop r s)) × Cuts s r
text_ends s k r e h at p = text_ends_by s k r (nat_lt 0 k && get_or s (k - 1) 0 == 13) (λ z x. grind (arith, nat_tests)) (λ b. grind (arith, nat_tests)) e h at p

last_by : (c d : ℕ) (ds : Text) → ends_line (c ∷ d ∷ ds) ≡ ends_line (d ∷ ds)
last_by c d ds = refl

pub last_byte : (s : Text) → 0 < length s → ends_line s ≡ (get_or s (length s - 1) 0 == w.line_feed)
last_byte [] h = absurd (omega arith)
last_byte (c ∷ []) h = refl
last_byte (c ∷ d ∷ ds) h =
    let e : length (c ∷ d ∷ ds) - 1 ≡ suc (length (d ∷ ds) - 1) = omega arith in
    rw e (last_byte (d ∷ ds) (omega arith))

pub some_bytes : {X : Type 0} (s : List X) → (length s == 0) ≡ false → 0 < length s
some_bytes [] h = absurd cc
some_bytes (c ∷ cs) h = omega arith

pub no_line : (s : Text) (b : Bool) → b ≡ (length s == 0) → b ≡ true → not b ≡ ends_line s
no_line [] b e h = ap not h
no_line (c ∷ cs) b e h = absurd (some_not b (length (c ∷ cs) == 0) e h (test_ne (length (c ∷ cs)) 0 (λ x. absurd (omega (arith, x)))))
  where
    some_not : (b z : Bool) → b ≡ z → b ≡ true → z ≡ false → ⊥
    some_not true z e h f = absurd cc
    some_not false z e h f = absurd cc
