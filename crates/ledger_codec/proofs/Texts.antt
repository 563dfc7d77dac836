-- What isn't UTF-8 fails the test of it.
use Rattle.std.proofs.Common.{◌≡◌, ℕ, List, Bool, true, false, refl}
use Rattle.std.specs.Str.{is_utf8, IsUtf8}
use Rattle.std.proofs.lemmas.Str.{IsUtf8-from_is_utf8}

decided : (b : Bool) (bytes : List ℕ) → is_utf8 bytes ≡ b → (IsUtf8 bytes → ⊥) → b ≡ false
decided true bytes e refuted = absurd (refuted (IsUtf8-from_is_utf8 bytes e))
decided false bytes e refuted = refl

pub is_no_text : (bytes : List ℕ) → (IsUtf8 bytes → ⊥) → is_utf8 bytes ≡ false
is_no_text bytes refuted = decided (is_utf8 bytes) bytes refl refuted
