-- 01, "Flattening the body" and "Lowering the head": what `to_core_rule` asks and gives. For a rule of n words the scratch has the words of the
-- flat body at 0, those of the flat head at 24 n, and the log of the counters' uses at 30 n.
-- Assumes nothing: these are definitions.
use Rattle.std.specs.Prelude.{◌≡◌, List, ℕ, ◌+◌, ◌-◌, ◌*◌, ◌≤◌, length, Result}
use Rattle.std.specs.Prelude.{Ok, Err}
use Rattle.octets.specs.Regions.{part, At}
use Rattle.rules.specs.Refusals.{Res, ok, refuse}
use Rattle.rules.specs.Signature.{Sig, heads, read_signature}
use Rattle.rules.specs.Written.{Rule, read_written}
use Rattle.rules.specs.Flat.{atom_words, action_words, words_of}
use Rattle.rules.specs.ToCoreActions.{CoreRule}
use Rattle.walks.specs.Log.{undone, total, Refuses}
use Rattle.walks.specs.declared.Stopped.{Stopped}
use Rattle.refusals.specs.Numbers.{number_of}
use Rattle.refusals.specs.declared.Refusal.{Refusal}
use Rattle.lowering.specs.declared.Lowering.{Lowering}

-- signature and rule were read, there is a counter for each head, and room
pub record Good (gs ws cs : List ℕ) (room : ℕ) : Type 0 where
  pub sig : Sig
  pub rule : Rule
  pub signed : read_signature gs ≡ ok sig
  pub written : read_written sig ws ≡ ok rule
  pub counters : heads sig ≤ length cs
  pub scratch : 31 * length ws ≤ room

-- a result: both parts stand in the scratch, the counters are those after them, and the log takes these back. It has as many uses as the counters grew by
pub record Made (c : CoreRule) (n : ℕ) (cs s' cs' : List ℕ) (r : Lowering) : Type 0 where
  pub body : r.body ≡ length (words_of atom_words c.body)
  pub body_there : At (words_of atom_words c.body) s' 0
  pub body_fits : r.body ≤ 3 * n
  pub head : r.head ≡ length (words_of action_words c.head)
  pub head_there : At (words_of action_words c.head) s' (24 * n)
  pub head_fits : r.head ≤ 4 * n
  pub actions : r.actions ≡ length c.head
  pub counters : cs' ≡ c.next
  pub log : r.log + total cs ≡ total cs'
  pub log_fits : r.log ≤ n
  pub undo : undone (part s' (30 * n) r.log) cs' ≡ cs

-- a refusal: the counters are as they were
pub record Back (number place : ℕ) (cs cs' : List ℕ) (r : Refusal) : Type 0 where
  pub number' : number_of r.reason ≡ number
  pub place' : r.place ≡ place
  pub counters : cs' ≡ cs

abbrev pub Lowers : Res CoreRule → ℕ → List ℕ → List ℕ → List ℕ → Result Lowering Refusal → Type 0
Lowers (ok c) n cs s' cs' (Ok r) = Made c n cs s' cs' r
Lowers (ok c) n cs s' cs' (Err r) = ⊥
Lowers (refuse m p) n cs s' cs' (Ok r) = ⊥
Lowers (refuse m p) n cs s' cs' (Err r) = Back m p cs cs' r

-- a walk that was stopped: it refuses the rule, and the log from 30 n on takes the counters back
pub record Halted (number place n : ℕ) (cs s' cs' : List ℕ) (e : Stopped) : Type 0 where
  pub refuses : Refuses number place e
  pub from : 30 * n ≤ e.log
  pub within : e.log ≤ length s'
  pub undo : undone (part s' (30 * n) (e.log - 30 * n)) cs' ≡ cs

-- what both walks leave, before a refusal takes anything back
abbrev pub LowersBoth : Res CoreRule → ℕ → List ℕ → List ℕ → List ℕ → Result Lowering Stopped → Type 0
LowersBoth (ok c) n cs s' cs' (Ok r) = Made c n cs s' cs' r
LowersBoth (ok c) n cs s' cs' (Err e) = ⊥
LowersBoth (refuse m p) n cs s' cs' (Ok r) = ⊥
LowersBoth (refuse m p) n cs s' cs' (Err e) = Halted m p n cs s' cs' e
