-- What a pattern gives when it is resolved, and how an answer tells it.
use Rattle.std.proofs.Common.{◌≡◌, false, ℕ, ◌+◌, ◌<◌, List, [], ◌∷◌, ◌++◌, Some, length, get_or, take, map, refl, ap, sym, ◌∙◌, append-nil, append_assoc, codes, decimal, subst}
use Rattle.std.proofs.lemmas.Grind.{flat_map-append}
use Rattle.std.proofs.lemmas.List.{length-map, take_more}
use Rattle.std.specs.List.{flat_map}
use Rattle.fluent_answers.specs.Answers.{told}
use Rattle.fluent_errors.specs.Errors.{Reported, Unresolved, unresolved}
use Rattle.fluent_errors.specs.Texts.{resolver_text}
use Rattle.fluent_errors.specs.View.{bundle_view}
use Rattle.fluent_errors.specs.declared.bundle.FluentError.{FluentError}
use Rattle.fluent_grammar.specs.Tree.{Elements}
use Rattle.fluent_grammar.specs.Words.{Text}
use Rattle.fluent_meaning.specs.Environment.{Environment}
use Rattle.fluent_meaning.specs.Steps.{Done, entering, may_open}
use Rattle.fluent_meaning.specs.Substitution.{Surroundings, pattern_written, most_placeables}
use Rattle.fluent_meaning.specs.Told.{State, Writes, after, budget_of}
use Rattle.fluent_serve.specs.Frames as frames
use Rattle.fluent_serve.specs.Frames.{ended, frame_of, ok}
use Rattle.fluent_run.specs.ReplyView.{IsDone, error_text, error_texts, reply_of, reply_view}
use Rattle.fluent_run.specs.declared.reply.Reply.{Reply}
use Rattle.fluent_serve.specs.AnswerView.{head_of}

-- errors of resolving are told by their own texts
told-texts : (es : List Unresolved) → map error_text (map unresolved es) ≡ map resolver_text es
told-texts [] = refl
told-texts (e ∷ es) = ap (λ ts. resolver_text e ∷ ts) (told-texts es)

-- nothing was told, opened or entered yet
abbrev pub unstarted : State
unstarted = record { errors = Some []; budget = budget_of false 0; placeables = 0; entered = 0 }

-- these are the text and the errors
abbrev pub IsAll : Done Text → Text → List Reported → Type 0
IsAll done s errors = (s ≡ done.value) × (errors ≡ map unresolved done.errors)

-- a text that was written after nothing, and errors that were told after none
written : (a : Done Text) (held now : Text) (s t : State) (errors : List Reported) → held ≡ [] → s ≡ unstarted →
    now ≡ held ++ a.value → t ≡ after s a → ((list : List Reported) → t.errors ≡ Some list → errors ≡ list) → IsAll a now errors
written a held now s t errors nothing start text state listed =
    (text ∙ ap (λ h. h ++ a.value) nothing, listed (map unresolved a.errors) (ap (λ x. x.errors) state ∙ ap (λ x. (after x a).errors) start))

-- the same for a pattern
pub resolved : {S F : Type 0} (env : Environment S F) (first : Surroundings S) (es : Elements) (place : Surroundings S) (held now : Text) (s t : State) (errors : List Reported) →
    place ≡ first → held ≡ [] → s ≡ unstarted → Writes held now s t (pattern_written env es place) →
    ((list : List Reported) → t.errors ≡ Some list → errors ≡ list) → IsAll (entering (pattern_written env es first (may_open most_placeables))) now errors
resolved env first es place held now s t errors at_first nothing start wrote listed =
    let a = pattern_written env es place s.budget in
    let asked-for : a ≡ pattern_written env es first (may_open most_placeables) =
    ap (λ p. pattern_written env es p s.budget) at_first
    ∙ ap (λ x. pattern_written env es first x.budget) start in
    subst (λ done. IsAll (entering done) now errors) asked-for (written a held now s t errors nothing start wrote.text wrote.state listed)

-- what was written is the reply
pub done-told : (done : Done Text) (reply : Reply) → IsDone done reply → reply_view reply ≡ told done
done-told done reply is =
    ap (λ s. reply_of s reply.errors.items) is.0
    ∙ ap (λ es. let r : frames.Reply = record { text = done.value; errors = es } in r) (ap (map error_text) is.1 ∙ told-texts done.errors)

-- pieces put after one another, and one piece more
pieces-more : (a b c d e : Text) → (a ++ (b ++ (c ++ d))) ++ e ≡ a ++ (b ++ (c ++ (d ++ e)))
pieces-more a b c d e = append_assoc a (b ++ (c ++ d)) e ∙ ap (λ x. a ++ x) (append_assoc b (c ++ d) e ∙ ap (λ x. b ++ x) (append_assoc c d e))

-- the bytes of an answer whose error lines stand after its text
pub frame-told : (s : Text) (errors : List FluentError) → head_of (length s) (length errors) ++ (ended s ++ flat_map ended (error_texts errors)) ≡ frame_of (ok (reply_of s errors))
frame-told s errors =
    let lines = ended s ++ flat_map ended (error_texts errors) in
    let same : length errors ≡ length (error_texts errors) = sym (length-map (map bundle_view errors) error_text ∙ length-map errors bundle_view) in
    ap (λ n. head_of (length s) n ++ lines) same
    ∙ pieces-more (codes "ok ") (decimal (length s)) (codes " ") (ended (decimal (length (error_texts errors)))) lines

-- one line more
pub lines-next : {X : Type 0} (line : X → Text) (xs : List X) (k : ℕ) (d x : X) → k < length xs → x ≡ get_or xs k d → flat_map line (take k xs) ++ line x ≡ flat_map line (take (k + 1) xs)
lines-next line xs k d x inside is =
    ap (λ y. flat_map line (take k xs) ++ line y) is
    ∙ sym (ap (flat_map line) (take_more xs k d inside) ∙ flat_map-append line (take k xs) (get_or xs k d ∷ []) ∙ ap (λ s. flat_map line (take k xs) ++ s) (append-nil (line (get_or xs k d))))
