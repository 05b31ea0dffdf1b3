-- What is left to do while a pattern is resolved falls from call to call: with k placeables to open and a weight x it is
-- 4 * (k * w + x), and up to 3 more to tell apart the functions that are called on the same; w is more than all patterns of the bundle
-- weigh. An expression has one placeable more than is left to open: that which it stands in.
use Rattle.std.proofs.Common.{◌≡◌, ℕ, suc, ◌+◌, ◌*◌, ◌<◌, ◌≤◌, arith}
use Rattle.std.proofs.Math.Nat.{mul-le-mul_right, suc-mul}

-- of a part, with no more to open
pub less-part : (k n w x y i j : ℕ) → k ≤ n → x < y → i ≤ 3 → 4 * (k * w + x) + i < 4 * (n * w + y) + j
less-part k n w x y i j h p q = let more : k * w ≤ n * w = mul-le-mul_right w h in omega (arith, more, p, q)

-- of the expression of a placeable that was opened
pub less-opened : (k n w x : ℕ) → suc k ≤ n → 4 * (suc k * w + x) + 2 < 4 * (n * w + x) + 3
less-opened k n w x h = let more : suc k * w ≤ n * w = mul-le-mul_right w h in omega (arith, more)

-- of a pattern of the bundle that an expression enters, whatever the expression weighs
pub less-entered : (k n b x y i j : ℕ) → k ≤ n → x ≤ b → i ≤ 3 → 4 * (k * suc b + x) + i < 4 * (suc n * suc b + y) + j
less-entered k n b x y i j h p q = one_more (k * suc b) (n * suc b) (suc n * suc b) (mul-le-mul_right (suc b) h) (suc-mul n (suc b))
  where
    one_more : (l m a : ℕ) → l ≤ m → a ≡ m + suc b → 4 * (l + x) + i < 4 * (a + y) + j
    one_more l m a f e = omega (arith, f, e, p, q)
