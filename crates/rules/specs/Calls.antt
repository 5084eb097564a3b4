-- 01, "Turned back" and "Around it": the three calls of the key service, for all inputs, refused ones too.
--
-- Each is a function of all that is lent, as lists of bytes, scratch by its length alone, to number, place, three counts, and the bytes of output and of
-- counters after the call. The tests stand in the order in which 01 runs them.
-- Assumes nothing: these are definitions.
use Rattle.std.specs.Prelude.{ℕ, ◌*◌, ◌/◌, ◌%◌, Bool, true, ◌&&◌, List, [], ◌∷◌, ◌++◌, length, drop, leb, eqb}
use Rattle.octets.specs.Words.{words, bytes_of}
use Rattle.rules.specs.Words.{max_written, max_flat, scratch_words}
use Rattle.rules.specs.Refusals.{Res, ok, refuse, ◌>>=◌, demand, few_counters, small_scratch, bad_length, short_output, ragged}
use Rattle.rules.specs.Signature.{Sig, heads, read_signature}
use Rattle.rules.specs.Written.{Rule, read_written}
use Rattle.rules.specs.Flat.{CoreAction, encode, read_flat}
use Rattle.rules.specs.ToCoreActions.{to_core_rule}
use Rattle.rules.specs.Canonicalize.{bindings}
use Rattle.rules.specs.RemoveDupVars.{Settled, settle}
use Rattle.rules.specs.FreeVars.{get_free_vars}

-- ---- what an accepted call gives

-- words, replacements, passes, and the counters after it
pub record Result : Type 0 where
  pub words : List ℕ
  pub replacements : ℕ
  pub passes : ℕ
  pub counters : List ℕ

-- the settled body, the bindings before the head, and the head as it was
abbrev pub settled_result : Settled → List CoreAction → List ℕ → Result
settled_result b head cs =
    record {
      words = encode b.tabs (bindings b.repls ++ head);
      replacements = length b.repls;
      passes = b.passes;
      counters = cs;
    }

-- a written rule, lowered and settled: the source's `to_canonicalized_core_rule`
abbrev pub lower_rule : Sig → Rule → List ℕ → Res Result
lower_rule s r cs = do
  c ← to_core_rule s r cs
  ok (settled_result (settle s c.body) c.head c.next)

-- ---- the tests around it

-- 4
abbrev pub length_fits : ℕ → List ℕ → Res ℕ
length_fits most ws = demand (leb 1 (length ws) && leb (length ws) most) bad_length 0 (length ws)

-- 3: the scratch has n words
abbrev pub scratch_fits : ℕ → Res ℕ
scratch_fits n = demand (leb scratch_words n) small_scratch 0 n

-- 10, which is known only when the result is
abbrev pub output_fits : ℕ → Result → Res Result
output_fits room r = demand (leb (length r.words) room) short_output (length r.words) r

-- ---- on words; output and scratch by their lengths

abbrev pub lower_words : (signature rule counters : List ℕ) → (room scratch : ℕ) → Res Result
lower_words signature rule counters room scratch = do
  s ← read_signature signature
  c ← demand (leb (heads s) (length counters)) few_counters 0 counters
  n ← scratch_fits scratch
  l ← length_fits max_written rule
  r ← read_written s rule
  o ← lower_rule s r counters
  output_fits room o

-- settling has no counters
abbrev pub settle_words : (signature rule : List ℕ) → (room scratch : ℕ) → Res Result
settle_words signature rule room scratch = do
  s ← read_signature signature
  n ← scratch_fits scratch
  l ← length_fits max_flat rule
  f ← read_flat s rule
  output_fits room (settled_result (settle s f.atoms) f.actions [])

-- free variables have neither counters nor scratch, and their second and third counts are 0
abbrev pub free_vars_words : (signature rule : List ℕ) → (room : ℕ) → Res Result
free_vars_words signature rule room = do
  s ← read_signature signature
  l ← length_fits max_flat rule
  f ← read_flat s rule
  output_fits room (record { words = get_free_vars s f.actions; replacements = 0; passes = 0; counters = [] })

-- ---- on bytes

-- number 0 is acceptance, at place 0. A refusal has all counts 0
pub record Outcome : Type 0 where
  pub number : ℕ
  pub place : ℕ
  pub written : ℕ
  pub replacements : ℕ
  pub passes : ℕ
  pub output : List ℕ
  pub counters : List ℕ

-- output past the words written is as it was; on a refusal all of it is, and so are the counters
abbrev pub outcome_of : (output counters : List ℕ) → Res Result → Outcome
outcome_of output counters (ok r) =
    record {
      number = 0;
      place = 0;
      written = length r.words;
      replacements = r.replacements;
      passes = r.passes;
      output = bytes_of r.words ++ drop (4 * length r.words) output;
      counters = bytes_of r.counters;
    }
outcome_of output counters (refuse n p) =
    record { number = n; place = p; written = 0; replacements = 0; passes = 0; output = output; counters = counters }

-- 14: every slice that is lent is whole words; these are their lengths
abbrev pub whole_words : List ℕ → Bool
whole_words [] = true
whole_words (n ∷ ns) = eqb (n % 4) 0 && whole_words ns

abbrev pub slices_whole : List ℕ → Res (List ℕ)
slices_whole ns = demand (whole_words ns) ragged 0 ns

abbrev pub lower_res : (signature rule counters output : List ℕ) → (scratch : ℕ) → Res Result
lower_res signature rule counters output scratch = do
  ns ← slices_whole (length signature ∷ length rule ∷ length counters ∷ length output ∷ scratch ∷ [])
  lower_words (words signature) (words rule) (words counters) (length output / 4) (scratch / 4)

abbrev pub settle_res : (signature rule output : List ℕ) → (scratch : ℕ) → Res Result
settle_res signature rule output scratch = do
  ns ← slices_whole (length signature ∷ length rule ∷ length output ∷ scratch ∷ [])
  settle_words (words signature) (words rule) (length output / 4) (scratch / 4)

abbrev pub free_vars_res : (signature rule output : List ℕ) → Res Result
free_vars_res signature rule output = do
  ns ← slices_whole (length signature ∷ length rule ∷ length output ∷ [])
  free_vars_words (words signature) (words rule) (length output / 4)

-- ---- the calls

unfoldable pub lower : (signature rule counters output : List ℕ) → (scratch : ℕ) → Outcome
lower signature rule counters output scratch = outcome_of output counters (lower_res signature rule counters output scratch)

unfoldable pub settled : (signature rule output : List ℕ) → (scratch : ℕ) → Outcome
settled signature rule output scratch = outcome_of output [] (settle_res signature rule output scratch)

unfoldable pub free_vars : (signature rule output : List ℕ) → Outcome
free_vars signature rule output = outcome_of output [] (free_vars_res signature rule output)
