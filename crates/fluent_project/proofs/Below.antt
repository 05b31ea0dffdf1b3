-- What follows a folder and its slash is a text if the path is one.
use Rattle.std.proofs.Common.{◌≡◌, ◌∙◌, ℕ, ◌+◌, ◌<◌, ◌++◌, Bool, true, false, [], ◌∷◌, Option, Some, None, Bor, option_map, length, get_or, refl, ap, sym, subst, arith, length-append}
use Rattle.std.specs.Prelude.{if◌then◌else◌, is_some, option_and_then, unwrap_or, IfSome}
use Rattle.std.specs.Prelude.{MatchResult, Result, Ok, Err}
use Rattle.std.specs.Result.{result_ok}
use Rattle.std.specs.Str.{IsUtf8}
use Rattle.std.proofs.Math.Seq.{drop-append-add, get_or-append_seam}
use Rattle.std.proofs.lemmas.Bool.{eqb-true, false≢true}
use Rattle.std.proofs.lemmas.Str.{IsCharBoundary-after_ascii, IsUtf8-drop}
use Rattle.fluent_project.specs.Patterns.{Text, is_slash}
use Rattle.fluent_project.specs.Relative.{after_slash, below}
use Rattle.fluent_project.specs.Taking.{after}
use Rattle.fluent_project.proofs.Taken.{Follows, follows_after}

utf8_after : (folder rest : Text) → IsUtf8 (folder ++ 47 ∷ rest) → IsUtf8 rest
utf8_after folder rest u =
    let bs = folder ++ 47 ∷ rest in
    let there : get_or bs (length folder) 0 ≡ 47 = get_or-append_seam folder 47 rest 0 in
    let len = length-append folder (47 ∷ rest) in
    let inside : length folder < length bs = grind (arith, length-append) in
    subst IsUtf8 (drop-append-add folder (47 ∷ rest) 1)
    (IsUtf8-drop bs (length folder + 1) u (IsCharBoundary-after_ascii bs (length folder) u inside (omega (arith, there))))

none_some : {X : Type 0} {x : X} → None ≡ Some x → ⊥
none_some h = false≢true (ap is_some h)

module _ (folder path rest : Text) (u : IsUtf8 path) where
  by_slash : (byte : ℕ) (text : Text) (b : Bool) → is_slash byte ≡ b → Follows folder path (byte ∷ text) → (if b then Some text else None) ≡ Some rest → IsUtf8 rest
  by_slash byte text true is follows h =
      let same : text ≡ rest = ap (λ o. unwrap_or o text) h in
      let whole : path ≡ folder ++ 47 ∷ rest = sym follows ∙ ap (λ x. folder ++ x ∷ text) (eqb-true byte 47 is) ∙ ap (λ x. folder ++ 47 ∷ x) same in
      utf8_after folder rest (subst IsUtf8 whole u)
  by_slash byte text false is follows h = absurd (none_some h)

  by_after : (o : Option Text) → IfSome o (Follows folder path) → option_and_then after_slash o ≡ Some rest → IsUtf8 rest
  by_after None follows h = absurd (none_some h)
  by_after (Some []) follows h = absurd (none_some h)
  by_after (Some (byte ∷ text)) follows h = by_slash byte text (is_slash byte) refl follows h

  pub rest_utf8 : below folder path ≡ Some rest → IsUtf8 rest
  rest_utf8 h = by_after (after folder path) (follows_after folder path) h

-- a text that is one is given
pub text_there : {E : Type 0} (Q : E → Type 0) (read : Result (Bor Text) E) (rest : Text) (given : Option (Bor Text)) → given ≡ result_ok read
    → MatchResult read (λ s. (s.now ≡ rest) × IsUtf8 rest) (λ e. (IsUtf8 rest → ⊥) × Q e) → IsUtf8 rest → option_map (λ (s : Bor Text). s.now) given ≡ Some rest
text_there Q (Ok s) rest given is cases u = ap (option_map (λ (s : Bor Text). s.now)) is ∙ ap (λ x. Some x) cases.0
text_there Q (Err e) rest given is cases u = absurd (cases.0 u)
