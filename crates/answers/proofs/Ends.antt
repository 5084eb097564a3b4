-- The last test, 10, and what is written: from the words in the output to the bytes that the definition leaves. Assumes nothing.
use Prim.Native.Nat.{ℕ, ◌*◌, ◌/◌, ◌%◌, ◌≤◌, ◌<◌}
use native.Mathlib.Omega.{arith}
use mathlib.Core.Path.{◌≡◌, sym, ◌∙◌, ap}
use mathlib.Core.Bool.{Bool}
use mathlib.Core.List.{List, ◌++◌}
use lib.ListN.{length, get_or, drop}
use borrow.Author.Tests.{le-leb, lt-leb}
use Rattle.octets.specs.Words.{words, bytes_of}
use Rattle.octets.proofs.Words.{length_words, written_front_lem}
use Rattle.octets.proofs.Splice.{splice_front}
use Rattle.rules.specs.Refusals.{ok, refuse, demand, short_output}
use Rattle.rules.specs.Calls.{Result, output_fits}
use Rattle.free_vars.specs.Head.{WroteIfRoom}

-- the output had the bytes l and has the bytes m; n words were needed for the result
module _ (o : Result) (n : ℕ) (l m : List ℕ) (wrote : WroteIfRoom o.words n l m) where
  -- too short: a refusal with the words needed, and nothing is written
  pub ends_short : length (words l) < n → (output_fits (length l / 4) o ≡ refuse short_output n) × (m ≡ l)
  ends_short h =
      let e = wrote.needed in
      let k : length l / 4 < length o.words = omega (arith, length_words l) in (
        ap (λ (b : Bool). demand b short_output (length o.words) o) (lt-leb (length o.words) (length l / 4) k)
            ∙ ap (λ (x : ℕ). refuse short_output x) (sym e),
        wrote.short (omega arith),
      )

  -- all of it: the bytes of the words, and behind them what was there
  pub ends_written : n ≤ length (words l) → length l % 4 ≡ 0 → length m ≡ length l → ((i : ℕ) → get_or l i 0 < 256) → ((i : ℕ) → get_or m i 0 < 256)
      → (output_fits (length l / 4) o ≡ ok o) × (m ≡ bytes_of o.words ++ drop (4 * length o.words) l)
  ends_written h whole same low high =
      let e = wrote.needed in
      let k : length o.words ≤ length l / 4 = omega (arith, length_words l) in (
        ap (λ (b : Bool). demand b short_output (length o.words) o) (le-leb (length o.words) (length l / 4) k),
        written_front_lem l m o.words low high whole same (wrote.fits (omega arith) ∙ splice_front (words l) o.words),
      )
