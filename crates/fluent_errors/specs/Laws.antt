-- What the laws of errors say.
use Rattle.std.specs.Prelude.{◌≡◌, ◌↔◌, Bool, IsTrue}

-- two are equal exactly if what they stand for is the same
abbrev pub EqualIfSeenSame : {A B : Type 0} → (A → A → Bool) → (A → B) → Type 0
EqualIfSeenSame {A} equal seen = (a b : A) → IsTrue (equal a b) ↔ (seen a ≡ seen b)
