-- Where junk ends.
use Rattle.std.proofs.Common.{◌≡◌, ℕ, Bool, true, false, cond, [], ◌∷◌, refl, ap}
use Rattle.std.specs.Prelude.{◌==◌, ◌&&◌}
use Rattle.fluent_grammar.specs.Words.{Text, line_feed, begins, begins_entry}
use Rattle.fluent_grammar.specs.Tiling.{resume}

pub resume_here : (text : Text) → begins begins_entry text ≡ true → resume true text ≡ text
resume_here [] e = absurd cc
resume_here (c ∷ cs) e = ap (λ (b : Bool). cond b (c ∷ cs) (resume (c == line_feed) cs)) e

resume_by : (z b : Bool) (c : ℕ) (cs : Text) → (z && b) ≡ false → cond (z && b) (c ∷ cs) (resume (c == line_feed) cs) ≡ resume (c == line_feed) cs
resume_by z b c cs e = ap (λ (p : Bool). cond p (c ∷ cs) (resume (c == line_feed) cs)) e

-- not here
pub resume_later : (z : Bool) (text : Text) → (z && begins begins_entry text) ≡ false → resume z text ≡ resume false text
resume_later z [] e = refl
resume_later z (c ∷ cs) e = resume_by z (begins_entry c) c cs e
