-- A run of the one word `serve`, none of whose calls fails.
use Rattle.std.proofs.Common.{◌≡◌, ℕ, List, [], ◌∷◌, Option, Some, false, refl, ap, ◌∙◌, arith}
use Rattle.std.specs.Prelude.{◌⊎◌, codes}
use Rattle.ledger_codec.specs.Causes.{Rose}
use Rattle.serve_parts.specs.Forms.{asked, form_of, nothing_given}
use Rattle.ledger_serve.specs.Serving.{Completes, reads_job}

-- no count rises from 0 to 0
no_rise : Rose 0 0 → ⊥
no_rise h = omega (arith, h)

-- the word alone asks for the defaults
asks : form_of (codes "serve" ∷ []) ≡ Some (asked nothing_given)
asks = refl

pub calm_ends : (words : List (List ℕ)) (left : Option (List ℕ)) (status : ℕ) → words ≡ codes "serve" ∷ [] → Completes (form_of words) left 0 0 0 0 0 0 status → (status ≡ 0) ⊎ (status ≡ 11)
calm_ends words left status are completes = completes (asked nothing_given) (ap form_of are ∙ asks) tt no_rise no_rise no_rise

pub asks_no_job : (words : List (List ℕ)) → words ≡ codes "serve" ∷ [] → reads_job (form_of words) ≡ false
asks_no_job words are = ap (λ (w : List (List ℕ)). reads_job (form_of w)) are ∙ refl
