-- Where the words of all lines are cut into signature and rule, of words that may have more behind them. Assumes nothing.
use mathlib.Core.Path.{◌≡◌}
use mathlib.Core.List.{List}
use Prim.Native.Nat.{ℕ, ◌*◌, ◌≤◌, min}
use native.Mathlib.Omega.{arith}
use lib.ListN.{length}
use Rattle.octets.specs.Regions.{part}
use Rattle.octets.specs.Words.{words}
use Rattle.octets.proofs.Splice.{length_part}
use Rattle.octets.proofs.Words.{length_words}
use Rattle.rules.specs.Words.{max_lines, scratch_words}
use Rattle.rules.specs.Program.{signature_length}
use Rattle.lines.proofs.SignatureLengths.{length_most}
use Rattle.lower.specs.Room.{Zeros}

-- the bytes of the words, of which `count` are lowered; the signature's length, and where the words are cut; the bytes of counters, output and scratch
pub record Given : Type 0 where
  pub given : List ℕ
  pub count : ℕ
  pub signature : ℕ
  pub cut : ℕ
  pub counters : List ℕ
  pub output : List ℕ
  pub scratch : List ℕ

-- the cut lies behind the signature, or at the end if the words end before it
pub record Cut (k : Given) : Type 0 where
  pub all : k.count ≤ length (words k.given)
  pub is : k.signature ≡ signature_length (part (words k.given) 0 k.count)
  pub here : k.cut ≡ min k.signature k.count
  pub zeros : Zeros (4 * max_lines) k.counters
  pub room : length k.output ≡ 4 * scratch_words
  pub work : length k.scratch ≡ 4 * scratch_words
  -- there is a counter for each word of the signature
  pub most : k.signature ≤ max_lines
  pub inside : k.cut ≤ k.count
  pub bytes : 4 * k.count ≤ length k.given
  pub counted : 4 * k.signature ≤ length k.counters

pub cut_there : {given counters output scratch : List ℕ} {count signature cut : ℕ} → (count ≤ max_lines) × (count ≤ length (words given))
    → signature ≡ signature_length (part (words given) 0 count) → cut ≡ min signature count → Zeros (4 * max_lines) counters
    → (length output ≡ 4 * scratch_words) × (length scratch ≡ 4 * scratch_words)
    → Cut (record { given = given; count = count; signature = signature; cut = cut; counters = counters; output = output; scratch = scratch })
cut_there {given} {count = count} {signature} counts is here zeros rooms =
    let all = counts.1 in
    let size = length_part (words given) 0 count (omega arith) in
    let most : signature ≤ max_lines = omega (arith, counts.0, length_most (part (words given) 0 count) (omega (arith, counts.0))) in
    record {
      all = all;
      is = is;
      here = here;
      zeros = zeros;
      room = rooms.0;
      work = rooms.1;
      most = most;
      inside = omega arith;
      bytes = omega (arith, length_words given);
      counted = omega (arith, zeros.size);
    }
