-- A pattern, token by token.
use Rattle.std.proofs.Common.{◌≡◌, ◌∙◌, ℕ, zero, suc, ◌-◌, ◌≤◌, ◌++◌, Bool, List, [], ◌∷◌, Some, Result, Ok, Err, length, take, drop, refl, ap, sym, arith, length-drop}
use Rattle.std.specs.Prelude.{IfErr}
use Rattle.std.proofs.lemmas.List.{append_assoc, take_all}
use Rattle.fluent_project.specs.declared.part.Part.{Part}
use Rattle.fluent_project.specs.declared.reading.PatternError.{PatternError}
use Rattle.fluent_project.specs.declared.reading.PatternError.TheVariants.{Memory, NoVariable}
use Rattle.fluent_project.specs.Patterns.{Text}
use Rattle.fluent_project.specs.ReadingViews.{IsRefusedAs}
use Rattle.fluent_project.specs.Written.{Token, Variable, behind, parts_after, token_at, with_token}

skipped : (variables : List Variable) (extra : ℕ) (at_start : Bool) (text : Text)
    → parts_after variables extra at_start text ≡ parts_after variables 0 at_start (drop extra text)
skipped variables zero at_start text = refl
skipped variables (suc extra) at_start [] = refl
skipped variables (suc extra) at_start (byte ∷ text) = skipped variables extra at_start text

behind_twice : (one two : List Part) (read : Result (List Part) Text) → behind (one ++ two) read ≡ behind one (behind two read)
behind_twice one two (Ok parts) = ap (λ parts. Ok parts) (append_assoc one two parts)
behind_twice one two (Err rest) = refl

-- the rest of a text after a token, as `&rest[token.extra..]` has it
abbrev left : Token → Text → Text
left token rest = take (length rest - token.extra) (drop token.extra rest)

module _ (variables : List Variable) (at_start : Bool) (byte : ℕ) (rest : Text) (token : Token) (is : token_at variables at_start byte rest ≡ Some token) (within : token.extra ≤ length rest) where
  pub after_token : parts_after variables 0 at_start (byte ∷ rest) ≡ behind token.parts (parts_after variables 0 token.at_start (left token rest))
  after_token =
      let whole : left token rest ≡ drop token.extra rest = take_all (length rest - token.extra) (drop token.extra rest) (grind (arith, length-drop)) in
      ap (λ t. with_token t rest (λ extra after. parts_after variables extra after rest)) is
      ∙ ap (behind token.parts) (skipped variables token.extra token.at_start rest ∙ ap (parts_after variables 0 token.at_start) (sym whole))

  -- what is read after a token comes after what was there
  pub read_on : (old more new : List Part) → more ≡ old ++ token.parts
      → Ok new ≡ behind more (parts_after variables 0 token.at_start (left token rest))
      → Ok new ≡ behind old (parts_after variables 0 at_start (byte ∷ rest))
  read_on old more new pushed e =
      e ∙ (ap (λ parts. behind parts (parts_after variables 0 token.at_start (left token rest))) pushed
      ∙ (behind_twice old token.parts _ ∙ ap (behind old) (sym after_token)))

  pub refused_on : (fault : Text) → parts_after variables 0 token.at_start (left token rest) ≡ Err fault
      → parts_after variables 0 at_start (byte ∷ rest) ≡ Err fault
  refused_on fault e = after_token ∙ ap (behind token.parts) e

  pub refused_as : (error : PatternError) → IsRefusedAs (parts_after variables 0 token.at_start (left token rest)) error
      → IsRefusedAs (parts_after variables 0 at_start (byte ∷ rest)) error
  refused_as Memory fault = tt
  refused_as (NoVariable fault) is' = refused_on fault.now is'

pub on_err : {T : Type 0} (P Q : PatternError → Type 0) (result : Result T PatternError) → ((error : PatternError) → P error → Q error)
    → IfErr result P → IfErr result Q
on_err P Q (Ok value) step holds = tt
on_err P Q (Err error) step holds = step error holds
