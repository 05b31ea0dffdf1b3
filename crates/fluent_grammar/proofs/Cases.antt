-- Cases by a test, and what a test of two tests tells.
use Rattle.std.proofs.Common.{◌≡◌, Bool, true, false, ◌&&◌, ◌||◌, refl}

pub cases : {P : Type 0} (b : Bool) → (b ≡ true → P) → (b ≡ false → P) → P
cases true p q = p refl
cases false p q = q refl

pub and-left : (a b : Bool) → (a && b) ≡ true → a ≡ true
and-left true b e = refl
and-left false b e = e

pub and-right : (a b : Bool) → (a && b) ≡ true → b ≡ true
and-right true b e = e
and-right false b e = absurd cc

pub or-left : (a b : Bool) → (a || b) ≡ false → a ≡ false
or-left true b e = e
or-left false b e = refl

pub or-right : (a b : Bool) → (a || b) ≡ false → b ≡ false
or-right true b e = absurd cc
or-right false b e = e
