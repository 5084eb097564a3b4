-- Lowering a rule that was read, settling it and writing it: the parts keep out of each other's way in the scratch. What is known at a step of `lower_good`
-- is a record over the words before and after it: `Laid`, `Done`. Assumes nothing.
use Prim.Native.Nat.{ℕ, ◌+◌, ◌*◌, ◌^◌, ◌≤◌, ◌<◌}
use native.Mathlib.Omega.{arith}
use mathlib.Core.Path.{◌≡◌, refl, sym, ◌∙◌, ap, subst}
use mathlib.Core.List.{List}
use lib.ListN.{length, take}
use Rattle.std.specs.Prelude.{Result, Ok, Err}
use Rattle.refusals.specs.declared.Refusal.{Refusal}
use Rattle.octets.specs.Words.{words}
use Rattle.octets.specs.Regions.{part, At}
use Rattle.octets.proofs.Words.{length_words_kept}
use Rattle.octets.proofs.Places.{at_after, only_wide}
use Rattle.rules.specs.Words.{limit12}
use Rattle.rules.specs.Refusals.{Res, ok, refuse}
use Rattle.rules.specs.Signature.{Sig, read_signature}
use Rattle.rules.specs.Written.{Rule, read_written}
use Rattle.rules.specs.Flat.{Atom, atom_words, action_words, words_of}
use Rattle.rules.specs.ToQuery.{to_query, body_vars}
use Rattle.rules.specs.ToCoreActions.{CoreRule, to_core_actions, to_core_rule}
use Rattle.rules.specs.RemoveDupVars as rules
use Rattle.meaning.specs.Meaning.{All}
use Rattle.meaning.specs.ReadBack.{Encodable}
use Rattle.meaning.proofs.Encodable.{query_encodable}
use Rattle.meaning.proofs.BodySizes.{query_words}
use Rattle.meaning.proofs.ReadSizes.{rule_size_lem}
use Rattle.meaning.proofs.ResultBounds.{lowered_counts}
use Rattle.meaning.proofs.Results.{bind_ok, ok_inj}
use Rattle.meaning.proofs.SignatureLaws.{signature_sound}
use Rattle.walks.specs.Log.{undone}
use Rattle.lowering.specs.Lowered.{Good, Made, Lowers}
use Rattle.lowering.specs.declared.Lowering.{Lowering}
use Rattle.lowering.proofs.Joined.{same_read}
use Rattle.bodies.specs.Terms.{Agrees}
use Rattle.bodies.specs.declared.terms.Sign.{Sign}
use Rattle.bodies.specs.Standing.{BodyAt}
use Rattle.settling.specs.declared.Settled.{Settled}
use Rattle.settling.specs.Settle.{SettleAsks, SettledAt}
use Rattle.settling.proofs.Settling.{settle_asks}
use Rattle.signature.specs.declared.Signature.{Signature}
use Rattle.answers.specs.declared.Counts.{Counts}
use Rattle.emitting.specs.Emit.{Parts, Stand}
use Rattle.lower_call.specs.Lower.{LowerAsks, LowersTo, LowersRead}
use Rattle.emitting.proofs.Emitting.{part_at, Finishes, settled_parts}

module _ {gs ws : List ℕ} {g : Signature} {cs : List ℕ} {room : ℕ} (a : LowerAsks gs ws g cs room) where
  abbrev pub core_asks : Good gs ws cs room
  core_asks =
      record {
        sig = a.sig;
        rule = a.rule;
        signed = a.under.signed;
        written = a.under.written;
        counters = a.counters;
        scratch = omega (arith, a.under.short, a.scratch);
      }

  -- settling takes these two numbers
  pub few_globals : g.globals ≤ limit12
  few_globals = omega (arith, a.under.globals, (signature_sound gs a.sig a.under.signed).few_globals_lem)

  pub known_equals : g.equals < limit12
  known_equals =
      let z = signature_sound gs a.sig a.under.signed in
      omega (arith, a.under.equals, z.value_eq_known, z.few_heads)

-- what `to_core_rule` ensures
abbrev pub Cores : (gs ws cs m cs1 : List ℕ) → Result Lowering Refusal → Type 0
Cores gs ws cs m cs1 k =
    (sig : Sig) (rl : Rule) → read_signature gs ≡ ok sig → read_written sig ws ≡ ok rl → Lowers (to_core_rule sig rl cs) (length ws) cs m cs1 k

-- ---- lowering refuses: q

pub turned : {gs ws : List ℕ} {g : Signature} {cs m cs1 : List ℕ} {q : Refusal} → Cores gs ws cs m cs1 (Err q) → (out : List ℕ)
    → LowersRead gs ws g cs cs1 out out (Err q)
turned {ws = ws} {cs = cs} {m = m} {cs1 = cs1} {q = q} core out s r u = go (to_core_rule s r cs) (core s r u.signed u.written)
  where
    go : (x : Res CoreRule) → Lowers x (length ws) cs m cs1 (Err q) → LowersTo s x cs cs1 out out (Err q)
    go (ok c) z = absurd z
    go (refuse i p) z = record { number' = z.number'; place' = z.place'; counters = z.counters; output = refl }

-- ---- the rule is lowered: k, with m1 and cs1 left behind. Body, head and log stand there

pub record Laid {gs ws : List ℕ} {g : Signature} {cs : List ℕ} {room : ℕ} (a : LowerAsks gs ws g cs room) (m1 cs1 : List ℕ) (k : Lowering) : Type 0 where
  pub core : CoreRule
  pub is : to_core_rule a.sig a.rule cs ≡ ok core
  pub made : Made core (length ws) cs m1 cs1 k
  pub size : length m1 ≡ room
  pub body : BodyAt core.body m1 0 k.body
  -- what settling takes ends before the head
  pub small : 8 * k.body + 3 ≤ 24 * length ws

module _ {gs ws : List ℕ} {g : Signature} {cs : List ℕ} {room : ℕ} (a : LowerAsks gs ws g cs room) {m1 cs1 : List ℕ} {k : Lowering} where
  laid_core : (core : CoreRule) → to_core_rule a.sig a.rule cs ≡ ok core → Made core (length ws) cs m1 cs1 k → length m1 ≡ room → Laid a m1 cs1 k
  laid_core core is made size =
      let q = bind_ok (to_query a.rule.facts cs) _ core is in
      let d = bind_ok (to_core_actions a.sig (body_vars a.sig q.0.atoms) a.rule.actions q.0.next) _ core q.2 in
      let same : q.0.atoms ≡ core.body = ap (λ (x : CoreRule). x.body) (ok_inj _ _ d.2) in
      let words : length (words_of atom_words q.0.atoms) ≡ length (words_of atom_words core.body) =
      ap (λ (xs : List Atom). length (words_of atom_words xs)) same in
      let fits =
      subst (λ (xs : List Atom). All Encodable xs) same
      (query_encodable gs ws cs a.sig a.rule q.0 a.under.signed a.under.short a.under.written q.1) in
      record {
        core = core;
        is = is;
        made = made;
        size = size;
        body = record { fits = fits; size = made.body; at = made.body_there };
        small = omega (arith, query_words a.rule.facts cs q.0 q.1, words, made.body, rule_size_lem a.sig ws a.rule a.under.written);
      }

  pub laid : length m1 ≡ room → Cores gs ws cs m1 cs1 (Ok k) → Laid a m1 cs1 k
  laid size cores = go (to_core_rule a.sig a.rule cs) refl (cores a.sig a.rule a.under.signed a.under.written)
    where
      go : (x : Res CoreRule) → to_core_rule a.sig a.rule cs ≡ x → Lowers x (length ws) cs m1 cs1 (Ok k) → Laid a m1 cs1 k
      go (ok c) e z = laid_core c e z size
      go (refuse i p) e z = absurd z

module _ {gs ws : List ℕ} {g : Signature} {cs : List ℕ} {room : ℕ} {a : LowerAsks gs ws g cs room} {m1 cs1 : List ℕ} {k : Lowering} (c : Laid a m1 cs1 k) where
  pub asks_settle : SettleAsks m1 0 k.body
  asks_settle =
      let s = c.small in
      let h = a.under.short in
      settle_asks c.core.body m1 0 k.body c.body (omega (arith, c.size, a.scratch)) (omega arith)

-- ---- the body is settled: b, with m2 left behind. n is how many words the rule has

pub record Done {gs ws : List ℕ} {g : Signature} {cs : List ℕ} {room : ℕ} {a : LowerAsks gs ws g cs room} {m1 cs1 : List ℕ} {k : Lowering} (c : Laid a m1 cs1 k)
    (n : ℕ) (m2 : List ℕ) (b : Settled) : Type 0 where
  pub all : n ≡ length ws
  pub done : SettledAt a.sig c.core.body m1 m2 0 k.body b
  pub fits : 32 * n < 2 ^ 64
  pub log : 30 * n + k.log ≤ length m2
  -- the log is as it was
  pub logged : part m2 (30 * n) k.log ≡ part m1 (30 * length ws) k.log

module _ {gs ws : List ℕ} {g : Signature} {cs : List ℕ} {room : ℕ} {a : LowerAsks gs ws g cs room} {m1 cs1 : List ℕ} {k : Lowering} (c : Laid a m1 cs1 k) where
  pub is_done : {n : ℕ} {m2 : List ℕ} {b : Settled} {q : Sign} → n ≡ length ws → q.globals ≡ g.globals → q.equals ≡ g.equals
      → ((s : Sig) (xs : List Atom) → Agrees q s → BodyAt xs m1 0 k.body → SettledAt s xs m1 m2 0 k.body b) → Done c n m2 b
  is_done {n} {m2} all globals equals settles =
      let d = settles a.sig c.core.body (record { globals = globals ∙ a.under.globals; equals = equals ∙ a.under.equals }) c.body in
      let s = c.small in
      record {
        all = all;
        done = d;
        fits = omega (arith, a.under.short);
        log = omega (arith, c.made.log_fits, d.only.size, c.size, a.under.short, a.scratch);
        logged =
            ap (λ (i : ℕ). part m2 (30 * i) k.log) all
            ∙ ap (take k.log) (only_wide 0 (30 * length ws) d.only (omega arith) (omega arith)).after;
      }

module _ {gs ws : List ℕ} {g : Signature} {cs : List ℕ} {room : ℕ} {a : LowerAsks gs ws g cs room} {m1 cs1 : List ℕ} {k : Lowering} {c : Laid a m1 cs1 k}
    {n : ℕ} {m2 : List ℕ} {b : Settled} (d : Done c n m2 b) where
  head_at : At (words_of action_words c.core.head) m2 (24 * n)
  head_at =
      let there = at_after d.done.only c.made.head_there (omega (arith, c.small)) in
      subst (λ (i : ℕ). At (words_of action_words c.core.head) m2 (24 * i)) (sym d.all) there

  pub head_inside : 24 * n + k.head ≤ length m2
  head_inside = omega (arith, head_at.within, c.made.head)

module _ {gs ws : List ℕ} {g : Signature} {cs : List ℕ} {room : ℕ} {a : LowerAsks gs ws g cs room} {m1 cs1 : List ℕ} {k : Lowering} {c : Laid a m1 cs1 k}
    {n : ℕ} {m2 : List ℕ} {b : Settled} (d : Done c n m2 b) {xs : List ℕ} (head_is : xs ≡ part m2 (24 * n) k.head) where
  parts : Parts (rules.settle a.sig c.core.body) c.core.head m2 b k.actions xs
  parts =
      settled_parts d.done c.core.head k.actions xs
      (head_is ∙ part_at (words_of action_words c.core.head) m2 (24 * n) k.head (head_at d) c.made.head) c.made.actions
      (lowered_counts a.sig ws cs a.rule c.core a.under.written c.is a.under.short)

  pub stands : Stand m2 b k.actions xs
  stands = record { settled = rules.settle a.sig c.core.body; kept = c.core.head; parts = parts }

  -- ---- it is written if there is room: `needed` words, and the output has become out'

  module _ {needed : ℕ} {out out' : List ℕ} (finished : Finishes m2 b k.actions xs needed out out') where
    abbrev answer : Result Counts Refusal
    answer = Ok (record { words = needed; replacements = b.replacements; passes = b.passes })

    -- what holds of the signature and the rule that are known holds of all that are read
    of_read : {cs2 : List ℕ} → (needed ≤ length (words out) → cs2 ≡ c.core.next)
        → (length (words out) < needed → cs2 ≡ cs) → LowersRead gs ws g cs cs2 out out' answer
    of_read {cs2} good short s r u =
        same_read (λ x y. LowersTo x (to_core_rule x y cs) cs cs2 out out' answer) (core_asks a) s r u.signed u.written
        (subst (λ (x : Res CoreRule). LowersTo a.sig x cs cs2 out out' answer) (sym c.is)
        (record {
          wrote = finished (rules.settle a.sig c.core.body) c.core.head parts;
          replacements = d.done.replacements;
          passes = d.done.passes;
          counted = good;
          uncounted = short;
        }))

    module _ {count : ℕ} (words_are : count ≡ length (words out')) (kept : length out' ≡ length out) where
      words_kept : count ≡ length (words out)
      words_kept = words_are ∙ length_words_kept _ _ kept

      pub ends_short : count < needed → {cs2 : List ℕ} → cs2 ≡ undone (part m2 (30 * n) k.log) cs1 → LowersRead gs ws g cs cs2 out out' answer
      ends_short h e = of_read (λ z. absurd (omega (arith, words_kept))) (λ _. e ∙ ap (λ (l : List ℕ). undone l cs1) d.logged ∙ c.made.undo)

      pub ends_good : needed ≤ count → LowersRead gs ws g cs cs1 out out' answer
      ends_good h = of_read (λ _. c.made.counters) (λ z. absurd (omega (arith, words_kept)))
