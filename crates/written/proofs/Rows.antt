-- Several things, one after the other, by where each of them ends; and that a row ends so. Assumes nothing.
use mathlib.Core.Path.{◌≡◌, refl, sym, ◌∙◌}
use Prim.Native.Nat.{ℕ, zero, suc}
use Rattle.rules.specs.Refusals.{Res, ok, refuse, ◌>>=◌}
use Rattle.rules.specs.Written.{Read, Reader, read_row}
use Rattle.written.specs.Written.{ending_of, ends}
use Rattle.written.proofs.Walking.{then_made}

module _ (f : ℕ → Res ℕ) {n p : ℕ} where
  pub ends_none : n ≡ 0 → ok p ≡ ends f n p
  unfolding ends
  ends_none none = rw none refl

  -- one is read, or refused
  module _ {m : ℕ} (more : n ≡ suc m) where
    pub ends_next : {q : ℕ} → ok q ≡ f p → ends f m q ≡ ends f n p
    unfolding ends
    ends_next is = rw (more, ← is) refl

    pub ends_stops : {k q : ℕ} → refuse k q ≡ f p → refuse k q ≡ ends f n p
    unfolding ends
    ends_stops is = rw (more, ← is) refl

pub ends_row : {A : Type 0} (one : Reader A) (n p : ℕ) → ends (λ (q : ℕ). ending_of (one q)) n p ≡ ending_of (read_row one n p)
unfolding ends
ends_row {A = A} one zero p = refl
ends_row {A = A} one (suc n) p = go (one p) (λ q. ends_row one n q) ∙ sym (then_made (one p) (read_row one n) _)
  where
    go : (x : Res (Read A)) → ((q : ℕ) → ends (λ (r : ℕ). ending_of (one r)) n q ≡ ending_of (read_row one n q))
        → ◌>>=◌ (ending_of x) (ends (λ (q : ℕ). ending_of (one q)) n) ≡ ending_of (◌>>=◌ x (λ a. read_row one n a.at))
    go (ok a) rest = rest a.at
    go (refuse m q) rest = refl
