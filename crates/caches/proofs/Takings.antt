-- A pair's taking from far. Assumes nothing.
use Rattle.std.proofs.Common.{◌≡◌, ℕ, ◌-◌, ◌≤◌, Bool, List, Some, Option, subst, inr}
use Rattle.std.specs.List.{slice_get}
use Rattle.caches.specs.declared.keys.Key.{Key}
use Rattle.caches.specs.declared.questions.Answered.{Answered}
use Rattle.caches.specs.Entries.{Entry, entry, with_key, answers_at, Took}
use Rattle.caches.specs.Exact.{Handed, TakesEither}
use Rattle.caches.proofs.Lists.{handed}

module _ {N F : Type 0} (adds-N : Entry → N → Bool → N → Type 0) (takes-N : Key → ℕ → N → Option ℕ → N → Type 0) (takes-F : Key → ℕ → F → Option ℕ → F → Type 0) where
  pub takes_far : (key : Key) (k n c : ℕ) (far : List Entry) (s s' : N) (t t' : F) (r : Option ℕ) → n ≡ c → n ≤ k → takes-F key (k - n) t r t' → Handed adds-N (slice_get (with_key key far) (k - n)) r s s' → TakesEither adds-N takes-N takes-F key k c far s t r s' t'
  takes_far key k n c far s s' t t' r e h taken given = subst (λ m. TakesEither adds-N takes-N takes-F key k m far s t r s' t') e (inr (h, taken, given))

-- what near is offered is the entry that far gave
pub hands : {N : Type 0} (adds-N : Entry → N → Bool → N → Type 0) (key : Key) (k p : ℕ) (qs : List Answered) (far far' : List Entry) (s s' : N) (b : Bool) → qs ≡ answers_at key k far → Took key k far (Some p) far' → adds-N (entry key p qs) s b s' → Handed adds-N (slice_get (with_key key far) k) (Some p) s s'
hands adds-N key k p qs far far' s s' b told took added =
    let f = took.0 in
    (f.0, f.1, (b, subst (λ x. adds-N x s b s') (handed key k p qs far f.0 told f.1 f.2) added))
