-- The scratch that is lent on: a front of it, as many bytes for each word of the rule. Assumes nothing.
use Prim.Native.Nat.{ℕ, ◌/◌, ◌^◌, ◌≤◌, ◌<◌}
use mathlib.Core.Path.{◌≡◌, ◌∙◌, ap}
use mathlib.Core.List.{List}
use lib.ListN.{length, take}
use lib.Seq.{length-take-le}
use Rattle.octets.specs.Words.{words}
use Rattle.octets.proofs.Words.{length_words}

-- the first `cut` bytes of the scratch l are lent, which are `up_to` by the contract
pub record Lent (up_to : ℕ) (l : List ℕ) (cut : ℕ) : Type 0 where
  pub is : cut ≡ up_to
  pub inside : cut ≤ length l
  pub fits : cut < 2 ^ 64

module _ {up_to : ℕ} {l : List ℕ} {cut : ℕ} (k : Lent up_to l cut) where
  pub lent_size : length (take cut l) ≡ cut
  lent_size = length-take-le cut l k.inside

  pub lent_words : length (words (take cut l)) ≡ up_to / 4
  lent_words = length_words (take cut l) ∙ ap (λ (n : ℕ). n / 4) (lent_size ∙ k.is)
