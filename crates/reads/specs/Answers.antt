-- 01, "Turned back": what becomes of a record that is read by itself. A rule's length (4) is tested before its words.
-- The readings themselves are those of `rules`.
-- Assumes nothing: these are definitions.
use Rattle.std.specs.Prelude.{ℕ, ⊤, ◌≡◌, cond, eqb, List, Result, Ok, Err}
use Rattle.rules.specs.Words.{max_written, max_flat}
use Rattle.rules.specs.Refusals.{Res, ok, refuse, ◌>>=◌}
use Rattle.rules.specs.Signature.{Sig, heads, read_signature}
use Rattle.rules.specs.Written.{Rule, read_written}
use Rattle.rules.specs.Flat.{FlatRule, read_flat}
use Rattle.rules.specs.Calls.{length_fits}
use Rattle.refusals.specs.Numbers.{said}
use Rattle.written.specs.Written.{with_heads, whole_of}
use Rattle.reads.specs.declared.Answer.{Answer}
use Rattle.reads.specs.declared.Reader.{Reader}
use Rattle.reads.specs.declared.Reader.TheVariants.{Signature, Written, Flat}

-- ---- a line's letter, by its byte

-- s names the reader of signatures, w that of written rules, f that of flat ones, and no other letter names one
abbrev pub reader_of : (letter : ℕ) → Result Reader ⊤
reader_of letter = cond (eqb letter 115) (Ok Signature) (cond (eqb letter 119) (Ok Written) (cond (eqb letter 102) (Ok Flat) (Err tt)))

-- ---- rules by themselves, under a signature of H heads

abbrev pub written_alone : ℕ → List ℕ → Res Rule
written_alone H ws = do
  n ← length_fits max_written ws
  read_written (with_heads H) ws

abbrev pub flat_alone : ℕ → List ℕ → Res FlatRule
flat_alone H ws = do
  n ← length_fits max_flat ws
  read_flat (with_heads H) ws

-- ---- the answers; H is the number of heads before the record

-- a signature that reads well sets H
abbrev pub heads_behind : ℕ → Res Sig → ℕ
heads_behind H (ok s) = heads s
heads_behind H (refuse n p) = H

-- the answer is what reading comes to, with h heads behind it
pub record Says {A : Type 0} (a : Answer) (ws : List ℕ) (reading : Res A) (h : ℕ) : Type 0 where
  pub read_is : said a.read ≡ whole_of ws reading
  pub heads_are : a.heads ≡ h

-- a rule leaves H
abbrev pub Answers : Reader → (H : ℕ) → List ℕ → Answer → Type 0
Answers Signature H ws a = Says a ws (read_signature ws) (heads_behind H (read_signature ws))
Answers Written H ws a = Says a ws (written_alone H ws) H
Answers Flat H ws a = Says a ws (flat_alone H ws) H
