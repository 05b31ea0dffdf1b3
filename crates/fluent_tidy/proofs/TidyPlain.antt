-- What is laid out anew, of a source and of the same without a mark and with LF.
use Rattle.std.proofs.Common.{◌≡◌, Bool, false, Result, Ok, Err, List, [], sym, ap, ◌∙◌, subst, string_bytes}
use Rattle.std.specs.Prelude.{◌↔◌, IfOk, IfErr, IsTrue, String}
use Rattle.std.specs.Global.{Global}
use Rattle.fluent_grammar.specs.Words.{Text}
use Rattle.fluent_grammar.specs.Tree as t
use Rattle.fluent_grammar.specs.Tiling.{errors, tree}
use Rattle.fluent_parser.specs.Starts.{starts}
use Rattle.fluent_tidy.specs.Reasons.{AreErrorsOf, IsFirstShape, IsReason, Refuses, StaysAs}
use Rattle.fluent_tidy.specs.Sources.{holds_return}
use Rattle.fluent_tidy.specs.TidyText.{HasNoTidyText, IsTidyText, StaysTidy, begins_with_mark, laid_anew, plain, with_line_feeds, without_mark}
use Rattle.fluent_tidy.specs.declared.tidy_error.TidyError.{TidyError}
use Rattle.fluent_tidy.specs.declared.tidy_error.TidyError.TheVariants.{Memory, CarriageReturn, Damaged, NotTidy}
use Rattle.fluent_tidy.proofs.TidyTexts.{line_feeds-stay}

-- without a carriage return no line end changes
pub plain-is : (source body : Text) → body ≡ without_mark source → holds_return body ≡ false → plain source ≡ body
plain-is source body e none = ap with_line_feeds (sym e) ∙ line_feeds-stay body none

pub tidied-is : (r : Result (String Global) TidyError) (source body : Text) → plain source ≡ body → holds_return body ≡ false → IfOk r (λ t. errors body ≡ []) → IfOk r (λ t. string_bytes t ≡ laid_anew body) →
    IfOk r (λ t. StaysTidy body (string_bytes t)) → IfOk r (λ t. IsTidyText source (string_bytes t))
tidied-is (Ok t) source body e none whole is stays =
    record { no_return = ap holds_return e ∙ none; no_junk = ap errors e ∙ whole; is = is ∙ ap laid_anew (sym e); stays = subst (λ z. StaysTidy z (string_bytes t)) (sym e) stays }
tidied-is (Err x) source body e none whole is stays = tt

pub none-tidy : (source body : Text) → plain source ≡ body → (StaysTidy body (laid_anew body) → ⊥) → HasNoTidyText source
none-tidy source body e h = λ text i. h (subst (λ z. StaysTidy z (laid_anew z)) e (subst (λ z. StaysTidy (plain source) z) i.is i.stays))

reason-is : (source body : Text) → plain source ≡ body → (e : TidyError) → Refuses body e → IsReason source e
reason-is source body same Memory h = tt
reason-is source body same CarriageReturn h = subst (λ z. IsTrue (holds_return z)) (sym same) h
reason-is source body same (Damaged found) h = subst (λ z. AreErrorsOf z found.items) (sym same) h
reason-is source body same (NotTidy offset) h = (none-tidy source body same h.0, subst (λ z. IsFirstShape z (starts z) offset) (sym same) h.1)

-- why a source has no tidy text, by what it is without a mark and with LF
pub reasons-are : (r : Result (String Global) TidyError) (source body : Text) → plain source ≡ body → IfErr r (Refuses body) → IfErr r (IsReason source)
reasons-are (Ok t) source body same h = tt
reasons-are (Err e) source body same h = reason-is source body same e h

-- a text has no mark, no carriage return and no junk: it stays as these entries if it has them, and is laid out as it is
pub stays-as : {E : Type 0} (r : Result Bool E) (text : Text) (entries : List t.Entry) → holds_return text ≡ false → begins_with_mark text ≡ false → errors text ≡ []
    → IfOk r (λ is. IsTrue is ↔ ((tree text ≡ entries) × (laid_anew text ≡ text))) → IfOk r (λ is. IsTrue is ↔ StaysAs entries text)
stays-as (Ok is) text entries none mark whole h = (
  λ i. ((h.0 i).0, record { no_mark = mark; no_return = none; no_junk = whole; stays = (h.0 i).1 }),
  λ s. h.1 (s.0, s.1.stays),
)
stays-as (Err e) text entries none mark whole h = tt
