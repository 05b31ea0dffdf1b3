-- Lemmas on the bytes of answers.
use Rattle.std.proofs.Common.{◌≡◌, ℕ, suc, ◌+◌, ◌<◌, ◌≤◌, List, [], ◌∷◌, ◌++◌, length, drop, get_or, Option, Some, None, IfSome, refl, sym, ap, ◌∙◌, append_assoc, append-nil, drop-cons, add-one, rules, codes, decimal, option_map}
use Rattle.std.proofs.lemmas.List.{drop_all}
use Rattle.std.specs.List.{flat_map}
use Rattle.fluent_serve.specs.Text.{Text}
use Rattle.fluent_serve.specs.Exchange.{IsFrontOf}
use Rattle.fluent_serve.specs.Frames.{ok, ended, frame_of}
use Rattle.fluent_serve.specs.AnswerView.{error_texts, and_text}

-- with the lines of the errors that are left, the lines of all errors are after the old bytes
pub record ErrorsSoFar {E : Type 0} (shown : E → Option Text) (errors : List E) (done : ℕ) (old new : Text) : Type 0 where
  pub told : (all : List Text) → error_texts shown errors ≡ Some all →
      (rest : List Text) × (error_texts shown (drop done errors) ≡ Some rest) × (new ++ flat_map ended rest ≡ old ++ flat_map ended all)

pub errors_at_first : {E : Type 0} (shown : E → Option Text) (errors : List E) (old : Text) → ErrorsSoFar shown errors 0 old old
errors_at_first shown errors old = record { told = λ all is. (all, is, refl) }

-- the texts of an error and those after it
first_text : (o : Option Text) (rest : Option (List Text)) (all : List Text) → and_text o rest ≡ Some all →
    (t : Text) × (ts : List Text) × (o ≡ Some t) × (rest ≡ Some ts) × (all ≡ t ∷ ts)
first_text None rest all is = absurd cc
first_text (Some t) None all is = absurd cc
first_text (Some t) (Some ts) all is = (t, ts, refl, refl, cc)

pub errors_next : {E : Type 0} (shown : E → Option Text) (errors : List E) (done : ℕ) (d : E) (old new newer : Text) → done < length errors →
    ErrorsSoFar shown errors done old new → IfSome (shown (get_or errors done d)) (λ text. newer ≡ new ++ ended text) → ErrorsSoFar shown errors (done + 1) old newer
errors_next shown errors done d old new newer within so_far pushed = record { told = λ all is. step all (so_far.told all is) }
  where
    step : (all : List Text) → (rest : List Text) × (error_texts shown (drop done errors) ≡ Some rest) × (new ++ flat_map ended rest ≡ old ++ flat_map ended all) →
        (rest : List Text) × (error_texts shown (drop (done + 1) errors) ≡ Some rest) × (newer ++ flat_map ended rest ≡ old ++ flat_map ended all)
    step all before =
        let texts = first_text (shown (get_or errors done d)) (error_texts shown (drop (suc done) errors)) before.0 (ap (error_texts shown) (sym (drop-cons errors done d within)) ∙ before.1) in
        let added : newer ≡ new ++ ended texts.0 = rw texts.2 at pushed in
        (texts.1, rw add-one texts.3, rw (added, append_assoc) (ap (λ ts. new ++ flat_map ended ts) (sym texts.4) ∙ before.2))

pub errors_at_last : {E : Type 0} (shown : E → Option Text) (errors : List E) (done : ℕ) (old new : Text) → length errors ≤ done →
    ErrorsSoFar shown errors done old new → IfSome (error_texts shown errors) (λ texts. new ≡ old ++ flat_map ended texts)
errors_at_last shown errors done old new over so_far = by_texts (error_texts shown errors) refl
  where
    by_texts : (o : Option (List Text)) → error_texts shown errors ≡ o → IfSome o (λ texts. new ≡ old ++ flat_map ended texts)
    by_texts None is = search rules
    by_texts (Some all) is =
        let left = so_far.told all is in
        let none : left.0 ≡ [] = (let e : Some [] ≡ Some left.0 = rw (drop_all done errors over) at left.1 in cc) in
        sym (append-nil new) ∙ (ap (λ ts. new ++ flat_map ended ts) (sym none) ∙ left.2)

pub front_trans : {a b c : Text} → IsFrontOf a b → IsFrontOf b c → IsFrontOf a c
front_trans {a} p q = record { back = p.back ++ q.back; split = q.split ∙ (ap (λ s. s ++ q.back) p.split ∙ append_assoc a p.back q.back) }

-- the pieces of an answer with a text, put after one another
abbrev head_of : ℕ → ℕ → Text
head_of text_len error_count = codes "ok " ++ (decimal text_len ++ (codes " " ++ ended (decimal error_count)))

pub head_from_pieces : (old a b c d e : Text) (len count : ℕ) → a ≡ old ++ codes "ok " → b ≡ a ++ decimal len → c ≡ b ++ codes " " → d ≡ c ++ decimal count → e ≡ d ++ (10 ∷ []) →
    e ≡ old ++ head_of len count
head_from_pieces old a b c d e len count p q r s t = rw (t, s, r, q, p) (simp append_assoc refl)

frame_from_pieces : (old text : Text) (count : ℕ) (errors : List Text) (a b c d : Text) → count ≡ length errors →
    a ≡ old ++ head_of (length text) count → b ≡ a ++ text → c ≡ b ++ (10 ∷ []) → d ≡ c ++ flat_map ended errors →
    d ≡ old ++ frame_of (ok (record { text = text; errors = errors }))
frame_from_pieces old text count errors a b c d counted p q r s = rw (s, r, q, p, counted) (simp append_assoc refl)

pub length-error_texts : {E : Type 0} (shown : E → Option Text) (errors : List E) (texts : List Text) → error_texts shown errors ≡ Some texts → length texts ≡ length errors
length-error_texts shown [] texts is = (let e : texts ≡ [] = cc in ap length e)
length-error_texts shown (x ∷ xs) texts is =
    let parts = first_text (shown x) (error_texts shown xs) texts is in
    ap length parts.4 ∙ ap suc (length-error_texts shown xs parts.1 parts.3)

-- what is written for an answer with a text, where its errors say what they are shown as
pub text_pushed : {E : Type 0} (shown : E → Option Text) (errors : List E) (old text a b c d : Text) →
    a ≡ old ++ head_of (length text) (length errors) → b ≡ a ++ text → c ≡ b ++ (10 ∷ []) →
    IfSome (error_texts shown errors) (λ texts. d ≡ c ++ flat_map ended texts) →
    IfSome (option_map (λ texts. ok (record { text = text; errors = texts })) (error_texts shown errors)) (λ answer. d ≡ old ++ frame_of answer)
text_pushed shown errors old text a b c d p q r pushed = by_texts (error_texts shown errors) refl pushed
  where
    by_texts : (o : Option (List Text)) → error_texts shown errors ≡ o → IfSome o (λ texts. d ≡ c ++ flat_map ended texts) →
        IfSome (option_map (λ texts. ok (record { text = text; errors = texts })) o) (λ answer. d ≡ old ++ frame_of answer)
    by_texts None is h = search rules
    by_texts (Some texts) is h = frame_from_pieces old text (length errors) texts a b c d (sym (length-error_texts shown errors texts is)) p q r h
