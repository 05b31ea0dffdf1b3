-- Where a text is cut when the white space at its end goes.
use Rattle.std.specs.Prelude.{ℕ, List, length}
use Rattle.std.specs.Str.{IsUtf8, IsTrimEnd, IsCharBoundary}
use Rattle.std.proofs.Common.{sym, subst}
use Rattle.std.proofs.lemmas.Str.{IsCharBoundary-from_take}

-- the place is at the boundary of a character
pub IsCharBoundary-trimmed : (s r : List ℕ) → IsUtf8 s → IsUtf8 r → IsTrimEnd s r → IsCharBoundary s (length r)
IsCharBoundary-trimmed s r utf8 trimmed_utf8 (n, front, _, _, long, bound) =
    subst (λ k. IsCharBoundary s k) (sym long) (IsCharBoundary-from_take s n utf8 bound (subst IsUtf8 front trimmed_utf8))
